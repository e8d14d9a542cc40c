-- Gapless fronts: what each space acted on from each peer is a beginning of what that peer sent it, every item once and
-- in order, and nothing is acted on or sent after the session closed.
use Rattle.std.specs.Prelude.{◌≡◌, ⊤, ℕ, ◌+◌, false, List, [], ◌∷◌, Option, Some}
use Rattle.std.specs.List.{AllByRecursion}
use Rattle.nob_item.specs.declared.item.Item.{Item}
use Rattle.nob_model_types.specs.declared.entry.Entry.{Entry}
use Rattle.nob_model_session.specs.Pair.{IsBeginning}
use Rattle.nob_model_types.specs.Sessions.{closed}
use Rattle.nob_model_types.specs.declared.deed.Deed.{Deed}
use Rattle.nob_model_types.specs.declared.deed.Deed.TheVariants.{Act}
use Rattle.nob_model_work.specs.Work.{work}
use Rattle.nob_model_work.specs.Gifts.{gifts}
use Rattle.nob_model_journal.specs.Journals.{deeds_at, sent_in, acted_in}

-- items with their numbers, from k on
abbrev pub with_numbers : ℕ → List Item → List (ℕ × Option Item)
with_numbers k [] = []
with_numbers k (item ∷ items) = (k, Some item) ∷ with_numbers (k + 1) items

-- what b acted on from a in session k is a gapless front of what a sent to b in it
abbrev pub ActsInOrder : (n a b k : ℕ) → List Entry → Type 0
ActsInOrder n a b k J = IsBeginning (acted_in a b k J) (with_numbers 1 (sent_in n a b k J))

-- nothing is acted on after the session with its sender closed
abbrev pub ActsWhileOpen : List Deed → Type 0
ActsWhileOpen [] = ⊤
ActsWhileOpen (Act p k ∷ D) = (closed p D ≡ false) × ActsWhileOpen D
ActsWhileOpen (_ ∷ D) = ActsWhileOpen D

-- nothing is sent after the session with its receiver closed
abbrev pub SendsWhileOpen : (s n : ℕ) → List Deed → Type 0
SendsWhileOpen s n [] = ⊤
SendsWhileOpen s n (deed ∷ D) = AllByRecursion (λ gift. closed gift.to D ≡ false) (gifts s n deed D (work s n D)) × SendsWhileOpen s n D

-- the fronts of a journal of n spaces
pub record Fronts (n : ℕ) (J : List Entry) : Type 0 where
  pub order : (a b k : ℕ) → ActsInOrder n a b k J
  pub acts : (s : ℕ) → ActsWhileOpen (deeds_at s J)
  pub sends : (s : ℕ) → SendsWhileOpen s n (deeds_at s J)
