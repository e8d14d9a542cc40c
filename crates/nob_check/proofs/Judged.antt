-- What is said of the pass over a journal is the verdict.
use Rattle.std.proofs.Common.{◌≡◌, ◌&&◌, ℕ, Bool, true, false, List, [], ◌∷◌, ◌++◌, refl, sym, ap, subst, true≢false, ◌∙◌}
use Rattle.std.specs.Prelude.{reverse}
use Rattle.std.proofs.lemmas.Grind.{reverse_onto}
use Rattle.std.proofs.lemmas.List.{append_assoc, append-nil}
use Rattle.nob_model_types.specs.declared.entry.Entry.{Entry}
use Rattle.nob_model_types.specs.Deeds.{deed_in}
use Rattle.nob_model_journal.specs.Tests.{keeps_fronts, withdraws_safely, excuses_losses, finds_all}
use Rattle.nob_model_journal.specs.Verdicts.{IsVerdict, most_spaces}
use Rattle.nob_model_journal.specs.declared.verdict.Verdict.{Verdict}
use Rattle.nob_model_journal.proofs.Keeping.{fronts_decides, withdraws_decides, losses_decides, found_decides}
use Rattle.nob_check.specs.Judging.{no_entry, with_next, with_all, judging_of, verdict_by, verdict_on}
use Rattle.nob_check.specs.declared.judging.Judging.{Judging}
use Rattle.nob_check.proofs.Growing.{books_kept}
use Rattle.nob_check.proofs.Checked.{unneeded_is, lossless_is, fronts_are}

-- by one entry more
next_kept : (n : ℕ) (entry : Entry) (J : List Entry) → with_next n entry (judging_of n J) ≡ judging_of n (entry ∷ J)
next_kept n entry J = λ i. record {
  books = books_kept n entry J i;
  withdraws = unneeded_is n entry.space (deed_in entry) J i && withdraws_safely n J;
  losses = lossless_is n entry.space (deed_in entry) J i && excuses_losses n J;
  found = finds_all (entry ∷ J);
}

turned_on : (entry : Entry) (L J : List Entry) → reverse L ++ entry ∷ J ≡ reverse (entry ∷ L) ++ J
turned_on entry L J = sym (append_assoc (reverse L) (entry ∷ []) J) ∙ ap (λ (xs : List Entry). xs ++ J) (sym (reverse_onto L entry []))

-- by all entries
all_kept : (n : ℕ) (L J : List Entry) → with_all n L (judging_of n J) ≡ judging_of n (reverse L ++ J)
all_kept n [] J = refl
all_kept n (entry ∷ L) J = ap (with_all n L) (next_kept n entry J) ∙ all_kept n L (entry ∷ J) ∙ ap (judging_of n) (turned_on entry L J)

-- what each test says makes the verdict
by_tests : (n : ℕ) (J : List Entry) (fronts withdraws losses found : Bool) → keeps_fronts n J ≡ fronts → withdraws_safely n J ≡ withdraws → excuses_losses n J ≡ losses → finds_all J ≡ found → IsVerdict n J (verdict_by fronts withdraws losses found)
by_tests n J false withdraws losses found f w l e = λ p. true≢false (sym ((fronts_decides n J).1 p) ∙ f)
by_tests n J true false losses found f w l e = ((fronts_decides n J).0 f, λ p. true≢false (sym ((withdraws_decides n J).1 p) ∙ w))
by_tests n J true true false found f w l e = ((fronts_decides n J).0 f, (withdraws_decides n J).0 w, λ p. true≢false (sym ((losses_decides n J).1 p) ∙ l))
by_tests n J true true true false f w l e = ((fronts_decides n J).0 f, (withdraws_decides n J).0 w, (losses_decides n J).0 l, λ p. true≢false (sym ((found_decides J).1 p) ∙ e))
by_tests n J true true true true f w l e = ((fronts_decides n J).0 f, (withdraws_decides n J).0 w, (losses_decides n J).0 l, (found_decides J).0 e)

right_on : (n : ℕ) (J : List Entry) → IsVerdict n J (verdict_on (judging_of n J))
right_on n J =
    subst (λ (fronts : Bool). IsVerdict n J (verdict_by fronts (withdraws_safely n J) (excuses_losses n J) (finds_all J))) (sym (fronts_are n J))
    (by_tests n J (keeps_fronts n J) (withdraws_safely n J) (excuses_losses n J) (finds_all J) refl refl refl refl)

-- the verdict on a journal, the first entry first
pub judged_right : (journal : List Entry) (start judging : Judging) (verdict : Verdict) → start ≡ no_entry → judging ≡ with_all most_spaces journal start → verdict ≡ verdict_on judging → IsVerdict most_spaces (reverse journal) verdict
judged_right journal start judging verdict none all is =
    let whole : judging ≡ judging_of most_spaces (reverse journal) = all ∙ ap (with_all most_spaces journal) none ∙ all_kept most_spaces journal [] ∙ ap (judging_of most_spaces) (append-nil (reverse journal)) in
    subst (IsVerdict most_spaces (reverse journal)) (sym (is ∙ ap verdict_on whole)) (right_on most_spaces (reverse journal))
