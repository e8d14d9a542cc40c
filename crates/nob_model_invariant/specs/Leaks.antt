-- No object leaks: once all is quiet, each live object that no space can use can be withdrawn.
use Rattle.std.specs.Prelude.{◌≡◌, ◌≤◌, ◌⊎◌, ℕ, true, false, List, Err, Ok}
use Rattle.nob_model_types.specs.declared.answer.Answer.TheVariants as answers
use Rattle.nob_model_types.specs.declared.refusal.Refusal.TheVariants as refusals
use Rattle.nob_model_types.specs.declared.entry.Entry.{Entry}
use Rattle.nob_model_types.specs.Sessions.{is_peer}
use Rattle.nob_model_types.specs.Objects.{is_live}
use Rattle.nob_model.specs.Right.{own_ref, right_settle, right_clean, right_withdraw}
use Rattle.nob_model_journal.specs.Fronts.{with_numbers}
use Rattle.nob_model_journal.specs.Journals.{deeds_at, history_at, closed_at, are_in_one, sent_to, acted_from}
use Rattle.nob_model_journal.specs.Safety.{can_use}

-- a session is open: both ends are in it, and neither has closed it; and each has acted on all that the other sent in it
pub record IsHeardOut (n a b : ℕ) (J : List Entry) : Type 0 where
  pub in_one : are_in_one a b J ≡ true
  pub open_here : closed_at a b J ≡ false
  pub open_there : closed_at b a J ≡ false
  pub acted_there : acted_from a b J ≡ with_numbers 1 (sent_to n a b J)
  pub acted_here : acted_from b a J ≡ with_numbers 1 (sent_to n b a J)

-- a session is at rest: both ends have closed, or neither has and each has acted on all that the other sent
abbrev pub IsAtRest : (n a b : ℕ) → List Entry → Type 0
IsAtRest n a b J = ((closed_at a b J ≡ true) × (closed_at b a J ≡ true)) ⊎ IsHeardOut n a b J

-- all is quiet: every session of two spaces is at rest, and no space has anything to settle or to give up
pub record Quiet (n : ℕ) (J : List Entry) : Type 0 where
  pub at_rest : (a b : ℕ) → is_peer a n b ≡ true → is_peer b n a ≡ true → IsAtRest n a b J
  pub none_settles : (s : ℕ) → 1 ≤ s → s ≤ n → right_settle s n (history_at s n J) ≡ Err refusals.Nothing
  pub none_cleans : (s : ℕ) → 1 ≤ s → s ≤ n → right_clean s n (history_at s n J) ≡ Err refusals.Nothing

-- no object leaks: where all is quiet, each live object that no space can use can be withdrawn
abbrev pub NoLeak : ℕ → List Entry → Type 0
NoLeak n J = Quiet n J → (o x : ℕ) → is_live o x (deeds_at o J) ≡ true → ((c : ℕ) → 1 ≤ c → c ≤ n → can_use n c (own_ref o x) J ≡ false) → right_withdraw o x (history_at o n J) ≡ Ok answers.Withdrawn
