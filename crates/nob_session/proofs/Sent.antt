-- What an end stands for once one more item is handed to it.
use Rattle.std.proofs.Common.{◌≡◌, ℕ, ◌+◌, ◌-◌, ◌≤◌, true, List, [], ◌∷◌, ◌++◌, length, Ok, arith, refl, sym, subst}
use Rattle.std.proofs.lemmas.List.{length-append, drop-append-le}
use Rattle.nob_ids.specs.declared.limits.Limits.{Limits}
use Rattle.nob_model_session.specs.declared.entry.Kind.{Kind}
use Rattle.nob_model_session.specs.declared.entry.EndEntry.{EndEntry}
use Rattle.nob_model_session.specs.declared.entry.EndEntry.TheVariants.{Send}
use Rattle.nob_model_session.specs.End.{accepted_count, handed, is_open, lowest, unacknowledged}
use Rattle.nob_model_session.specs.Right.{IsRight}
use Rattle.nob_session.specs.Calls.{next_of, with_item}
use Rattle.nob_session.specs.Stands.{End, Stands, is_open_end}
use Rattle.nob_session.proofs.Kept.{places_send}

-- what is unacknowledged is what was, and the new item behind it
unacknowledged_sent : (L : List EndEntry) (item : List ℕ) (kind : Kind) (number : ℕ) → is_open L ≡ true → lowest L - 1 ≤ length (handed L) → unacknowledged (Send item kind (Ok number) ∷ L) ≡ unacknowledged L ++ item ∷ []
unacknowledged_sent L item kind number opened low = rw opened (drop-append-le (lowest L - 1) (handed L) (item ∷ []) low)

pub sent_stands : (me peer : ℕ) (limits : Limits) (L : List EndEntry) (e : End) (item : List ℕ) (kind : Kind) (number : ℕ) → is_open_end e ≡ true → e.lowest ≤ e.handed + 1 → Ok number ≡ next_of kind e → Stands me peer limits e L → IsRight me peer limits (Send item kind (Ok number)) L × Stands me peer limits (with_item e item) (Send item kind (Ok number) ∷ L)
sent_stands me peer limits L e item kind number opened low next stands =
    subst (λ (x : End). is_open_end x ≡ true → x.lowest ≤ x.handed + 1 → Ok number ≡ next_of kind x → IsRight me peer limits (Send item kind (Ok number)) L × Stands me peer limits (with_item x item) (Send item kind (Ok number) ∷ L)) (sym stands)
    (λ still below right.
    (right, rw (unacknowledged_sent L item kind number still (omega (arith, below)), length-append (handed L) (item ∷ []), places_send (accepted_count L + 1) 64 item kind (Ok number) L) refl))
    opened low next
