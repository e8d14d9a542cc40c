-- The pass over a journal gives its bars.
use Rattle.std.proofs.Common.{◌≡◌, ◌&&◌, ℕ, ◌+◌, ◌-◌, ◌<◌, Bool, true, false, cond, List, [], ◌∷◌, length, drop, get_or, Option, Some, None, refl, sym, ap, subst, ◌∙◌, arith}
use Rattle.std.specs.Prelude.{◌==◌}
use Rattle.std.specs.List.{list_all, cons_option}
use Rattle.std.proofs.lemmas.Bool.{and_parts, and_from, eqb-true, eq-eqb}
use Rattle.std.proofs.lemmas.List.{drop_more, length-drop}
use Rattle.std.proofs.lemmas.List.Folds.{list_all-append}
use Rattle.nob_ids.specs.declared.wire_rep.WireRep.{WireRep}
use Rattle.nob_model_types.specs.declared.entry.Entry.{Entry}
use Rattle.nob_model_types.specs.Deeds.{deed_in, deeds}
use Rattle.nob_model_types.specs.Objects.{exports}
use Rattle.nob_model_types.specs.declared.deed.Deed.{Deed}
use Rattle.nob_model_types.specs.declared.deed.Deed.TheVariants.{Export}
use Rattle.nob_model_history.specs.Histories.{history_of}
use Rattle.nob_model_journal.specs.Journals.{at, deeds_at}
use Rattle.nob_check_ledgers.specs.Ledgers.{ledger_of, ledger_after, has_loans_made}
use Rattle.nob_check_ledgers.specs.declared.ledger.Ledger.{Ledger}
use Rattle.nob_check_ledgers.proofs.Kept.{ledger_kept}
use Rattle.nob_check_ledgers.proofs.Loaning.{loans_made}
use Rattle.nob_drawing_plan.specs.declared.bar.Bar.{Bar}
use Rattle.nob_drawing_plan.specs.Marks.{marks_of, is_quiet}
use Rattle.nob_drawing_plan.specs.Bars.{row_after, bars_after, bars}
use Rattle.nob_drawing_plan.specs.Steps.{bars_by_deed}
use Rattle.nob_drawing_plan.specs.Passing.{exports_own, are_own, ledger_in, without, ledgers_after, bars_after_did, Stand}
use Rattle.nob_drawing_plan.proofs.Standing.{tell}
use Rattle.nob_drawing_plan.proofs.Quiet.{bars_kept}
use Rattle.nob_drawing_plan.proofs.Changing.{AreOwn}
use Rattle.nob_drawing_plan.proofs.Stepping.{deed_bars}

-- ---- what a space did, by one entry more

-- an entry of another space
far_deeds : (entry : Entry) (J : List Entry) (s : ℕ) → (entry.space == s) ≡ false → deeds_at s (entry ∷ J) ≡ deeds_at s J
far_deeds entry J s other = ap (λ (b : Bool). deeds (cond b (entry ∷ at s J) (at s J))) other

-- an entry that did this
own_deeds : (entry : Entry) (J : List Entry) (found : Option Deed) → deed_in entry ≡ found → deeds_at entry.space (entry ∷ J) ≡ cons_option found (deeds_at entry.space J)
own_deeds entry J found is =
    ap (λ (b : Bool). deeds (cond b (entry ∷ at entry.space J) (at entry.space J))) (eq-eqb entry.space entry.space refl)
    ∙ ap (λ (did : Option Deed). cons_option did (deeds_at entry.space J)) is

-- ---- ledgers

lent_of : (s n : ℕ) (D : List Deed) → has_loans_made (ledger_of s n D) ≡ true
lent_of s n [] = refl
lent_of s n (deed ∷ D) = ap has_loans_made (sym (ledger_kept s n deed D)) ∙ loans_made deed (ledger_of s n D)

-- a ledger of a journal has its loans made
pub lent_in : (n s : ℕ) (J : List Entry) (ledgers : List Ledger) → Stand n J ledgers → has_loans_made (ledger_in n s ledgers) ≡ true
lent_in n s J ledgers stand = ap has_loans_made (stand s) ∙ lent_of s n (deeds_at s J)

in_others : (n s t : ℕ) (ledgers : List Ledger) → (t == s) ≡ false → ledger_in n s (without t ledgers) ≡ ledger_in n s ledgers
in_others n s t [] apart = refl
in_others n s t (ledger ∷ ledgers) apart = by (in_others n s t ledgers apart) (ledger.index.here.space == t) refl
  where
    by : ledger_in n s (without t ledgers) ≡ ledger_in n s ledgers → (b : Bool) → (ledger.index.here.space == t) ≡ b → ledger_in n s (cond b ledgers (ledger ∷ without t ledgers)) ≡ ledger_in n s (ledger ∷ ledgers)
    by rest true here = sym (ap (λ (b : Bool). cond b ledger (ledger_in n s ledgers)) (ap (λ (x : ℕ). x == s) (eqb-true ledger.index.here.space t here) ∙ apart))
    by rest false other = ap (λ (found : Ledger). cond (ledger.index.here.space == s) ledger found) rest

-- by one entry more
pub stand_next : (n : ℕ) (entry : Entry) (J : List Entry) (before after : List Ledger) → Stand n J before → after ≡ ledgers_after n entry.space (deed_in entry) before → Stand n (entry ∷ J) after
stand_next n entry J before after stand is s = ap (ledger_in n s) is ∙ by (deed_in entry) refl (entry.space == s) refl
  where
    by : (found : Option Deed) → deed_in entry ≡ found → (b : Bool) → (entry.space == s) ≡ b → ledger_in n s (ledgers_after n entry.space (deed_in entry) before) ≡ ledger_of s n (deeds_at s (entry ∷ J))
    by None none false other =
        ap (λ (did : Option Deed). ledger_in n s (ledgers_after n entry.space did before)) none
        ∙ stand s
        ∙ ap (ledger_of s n) (sym (far_deeds entry J s other))
    by None none true here =
        ap (λ (did : Option Deed). ledger_in n s (ledgers_after n entry.space did before)) none
        ∙ stand s
        ∙ subst (λ (x : ℕ). ledger_of x n (deeds_at x J) ≡ ledger_of x n (deeds_at x (entry ∷ J))) (eqb-true entry.space s here) (ap (ledger_of entry.space n) (sym (own_deeds entry J None none)))
    by (Some deed) some false other =
        ap (λ (did : Option Deed). ledger_in n s (ledgers_after n entry.space did before)) some
        ∙ ap (λ (ledger : Ledger). cond (ledger.index.here.space == s) (ledger_after deed ledger) (ledger_in n s (without entry.space before))) (stand entry.space)
        ∙ ap (λ (b : Bool). cond b (ledger_after deed (ledger_of entry.space n (deeds_at entry.space J))) (ledger_in n s (without entry.space before))) other
        ∙ in_others n s entry.space before other
        ∙ stand s
        ∙ ap (ledger_of s n) (sym (far_deeds entry J s other))
    by (Some deed) some true here =
        ap (λ (did : Option Deed). ledger_in n s (ledgers_after n entry.space did before)) some
        ∙ ap (λ (ledger : Ledger). cond (ledger.index.here.space == s) (ledger_after deed ledger) (ledger_in n s (without entry.space before))) (stand entry.space)
        ∙ ap (λ (b : Bool). cond b (ledger_after deed (ledger_of entry.space n (deeds_at entry.space J))) (ledger_in n s (without entry.space before))) here
        ∙ ledger_kept entry.space n deed (deeds_at entry.space J)
        ∙ ap (ledger_of entry.space n) (sym (own_deeds entry J (Some deed) some))
        ∙ ap (λ (x : ℕ). ledger_of x n (deeds_at x (entry ∷ J))) (eqb-true entry.space s here)

-- ---- objects

own_more : (s : ℕ) (found : Option Deed) (D : List Deed) → exports_own s found ≡ true → AreOwn s (exports D) → AreOwn s (exports (cons_option found D))
own_more s None D own all = all
own_more s (Some (Export rep)) D own all =
    list_all-append (λ (r : WireRep). r.owner == s) (exports D) (rep ∷ [])
    ∙ and_from (list_all (λ (r : WireRep). r.owner == s) (exports D)) _ all (and_from (rep.owner == s) true own refl)
own_more s (Some _) D own all = all

own_at : (s : ℕ) (J : List Entry) → are_own J ≡ true → AreOwn s (exports (deeds_at s J))
own_at s [] all = refl
own_at s (entry ∷ J) all = by (own_at entry.space J parts.1) (own_at s J parts.1) (entry.space == s) refl
  where
    parts : (exports_own entry.space (deed_in entry) ≡ true) × (are_own J ≡ true)
    parts = and_parts (exports_own entry.space (deed_in entry)) (are_own J) all

    by : AreOwn entry.space (exports (deeds_at entry.space J)) → AreOwn s (exports (deeds_at s J)) → (b : Bool) → (entry.space == s) ≡ b → AreOwn s (exports (deeds_at s (entry ∷ J)))
    by mine others true here =
        subst (λ (x : ℕ). AreOwn x (exports (deeds_at x (entry ∷ J)))) (eqb-true entry.space s here)
        (subst (λ (D : List Deed). AreOwn entry.space (exports D)) (sym (own_deeds entry J (deed_in entry) refl)) (own_more entry.space (deed_in entry) (deeds_at entry.space J) parts.0 mine))
    by mine others false other = subst (λ (D : List Deed). AreOwn s (exports D)) (sym (far_deeds entry J s other)) others

-- ---- bars

did_deed : (n : ℕ) (entry : Entry) (J : List Entry) (deed : Deed) → deed_in entry ≡ Some deed → are_own (entry ∷ J) ≡ true → bars_by_deed (row_after J) deed (ledger_of entry.space n (deeds_at entry.space J)) (bars n J) ≡ bars n (entry ∷ J)
did_deed n entry J deed is own =
    deed_bars entry.space n (row_after J) deed (deeds_at entry.space J) (bars n J)
    (subst (λ (D : List Deed). AreOwn entry.space (exports D)) (own_deeds entry J (Some deed) is) (own_at entry.space (entry ∷ J) own))
    (λ m. tell n entry.space m J)
    ∙ ap (λ (D : List Deed). bars_after entry.space (row_after J) (marks_of entry.space (history_of entry.space n D)) (bars n J)) (sym (own_deeds entry J (Some deed) is))

bars_next : (n : ℕ) (entry : Entry) (J : List Entry) (ledgers : List Ledger) → Stand n J ledgers → are_own (entry ∷ J) ≡ true → bars_after_did n entry.space (row_after J) (deed_in entry) ledgers (bars n J) ≡ bars n (entry ∷ J)
bars_next n entry J ledgers stand own = by (deed_in entry) refl
  where
    by : (found : Option Deed) → deed_in entry ≡ found → bars_after_did n entry.space (row_after J) (deed_in entry) ledgers (bars n J) ≡ bars n (entry ∷ J)
    by None none =
        ap (λ (did : Option Deed). bars_after_did n entry.space (row_after J) did ledgers (bars n J)) none
        ∙ sym (bars_kept n entry J (ap is_quiet none))
    by (Some deed) some =
        ap (λ (did : Option Deed). bars_after_did n entry.space (row_after J) did ledgers (bars n J)) some
        ∙ ap (λ (ledger : Ledger). bars_by_deed (row_after J) deed ledger (bars n J)) (stand entry.space)
        ∙ did_deed n entry J deed some own

-- ---- the pass

-- what is kept is of the entries so far: so many of the last ones of a list, the newest first
pub record IsOf (n : ℕ) (J : List Entry) (ledgers : List Ledger) (bars_so_far : List Bar) (own : Bool) : Type 0 where
  pub stands : Stand n J ledgers
  pub own_is : own ≡ are_own J
  pub bars_are : are_own J ≡ true → bars_so_far ≡ bars n J

pub of_none : (n : ℕ) (J : List Entry) → J ≡ [] → (ledgers : List Ledger) (bars_so_far : List Bar) (own : Bool) → ledgers ≡ [] → bars_so_far ≡ [] → own ≡ true → IsOf n J ledgers bars_so_far own
of_none n J is ledgers B own no_ledger no_bar all_own = record {
  stands = λ s. ap (ledger_in n s) no_ledger ∙ ap (λ (L : List Entry). ledger_of s n (deeds_at s L)) (sym is);
  own_is = all_own ∙ ap are_own (sym is);
  bars_are = λ all. no_bar ∙ ap (bars n) (sym is);
}

-- with one entry more
pub of_next : (n row : ℕ) (entry : Entry) (J more : List Entry) (ledgers next : List Ledger) (B after : List Bar) (own now : Bool) → more ≡ entry ∷ J → row ≡ row_after J → IsOf n J ledgers B own → next ≡ ledgers_after n entry.space (deed_in entry) ledgers → after ≡ bars_after_did n entry.space row (deed_in entry) ledgers B → now ≡ (exports_own entry.space (deed_in entry) && own) → IsOf n more next after now
of_next n row entry J more ledgers next B after own now are place was ledgers_are bars_are own_is =
    subst (λ (L : List Entry). IsOf n L next after now) (sym are) (record {
      stands = stand_next n entry J ledgers next was.stands ledgers_are;
      own_is = own_is ∙ ap (λ (b : Bool). exports_own entry.space (deed_in entry) && b) was.own_is;
      bars_are = λ all.
          bars_are
          ∙ ap (λ (r : ℕ). bars_after_did n entry.space r (deed_in entry) ledgers B) place
          ∙ ap (bars_after_did n entry.space (row_after J) (deed_in entry) ledgers) (was.bars_are (and_parts (exports_own entry.space (deed_in entry)) (are_own J) all).1)
          ∙ bars_next n entry J ledgers was.stands all;
    })

-- the next entry from the end
pub next_of : (xs : List Entry) (i : ℕ) (x : Entry) → i < length xs → x ≡ get_or xs (length xs - 1 - i) x → drop (length xs - (i + 1)) xs ≡ x ∷ drop (length xs - i) xs
next_of xs i x less is =
    let lower : length xs - (i + 1) ≡ length xs - 1 - i = omega (arith, less) in
    let upper : length xs - 1 - i + 1 ≡ length xs - i = omega (arith, less) in
    let inside : length xs - 1 - i < length xs = omega (arith, less) in
    ap (λ (k : ℕ). drop k xs) lower
    ∙ drop_more xs (length xs - 1 - i) x inside
    ∙ ap (λ (y : Entry). y ∷ drop (length xs - 1 - i + 1) xs) (sym is)
    ∙ ap (λ (k : ℕ). x ∷ drop k xs) upper

-- its row
pub row_of : (xs : List Entry) (i : ℕ) → i < length xs → i + 1 ≡ row_after (drop (length xs - i) xs)
row_of xs i less =
    let long : length (drop (length xs - i) xs) ≡ length xs - (length xs - i) = length-drop (length xs - i) xs in
    omega (arith, less, long)
