-- The journal of all spaces: what was asked of each of them and what it answered. The newest entry stands FIRST. What
-- one space did is read off its own entries alone; what is said of several spaces is said by the words of each.
use Rattle.std.specs.Prelude.{⊤, ℕ, Bool, ◌&&◌, not, ◌==◌, List, [], ◌∷◌, ◌++◌, map, filter, Option, Some, if◌then◌else◌}
use Rattle.nob_frame.specs.declared.frame.Frame.{Frame}
use Rattle.nob_item.specs.declared.item.Item.{Item}
use Rattle.nob_model_types.specs.declared.entry.Entry.{Entry}
use Rattle.nob_model_types.specs.Deeds.{deed_in, deeds}
use Rattle.nob_model_types.specs.Sessions.{closed, number, acted, item_at}
use Rattle.nob_model_types.specs.declared.deed.Deed.{Deed}
use Rattle.nob_model_types.specs.declared.deed.Deed.TheVariants.{Act, Transmit}
use Rattle.nob_model_history.specs.Histories.{history_of}
use Rattle.nob_model_history.specs.Transit.{is_sent_to, sent}
use Rattle.nob_model_history.specs.declared.history.History.{History}

-- the entries of space s
abbrev pub at : ℕ → List Entry → List Entry
at s J = filter (λ entry. entry.space == s) J

-- what space s did
abbrev pub deeds_at : ℕ → List Entry → List Deed
deeds_at s J = deeds (at s J)

-- the history of space s among n
abbrev pub history_at : (s n : ℕ) → List Entry → History
history_at s n J = history_of s n (deeds_at s J)

-- the number of the session with b in which space a is
abbrev pub number_at : (a b : ℕ) → List Entry → ℕ
number_at a b J = number b (deeds_at a J)

-- the items that space a among n sent to b in session k, the first first: their numbers are 1, 2, ..
abbrev pub sent_in : (n a b k : ℕ) → List Entry → List Item
sent_in n a b k J = map (λ sent_item. sent_item.item) (filter (is_sent_to b k) (sent (history_at a n J)))

-- those of the session in which a itself is
abbrev pub sent_now : (n a b : ℕ) → List Entry → List Item
sent_now n a b J = sent_in n a b (number_at a b J) J

-- those of the session in which b is: what b may act on
abbrev pub sent_to : (n a b : ℕ) → List Entry → List Item
sent_to n a b J = sent_in n a b (number_at b a J) J

-- the items from p that were acted on in session k, with the numbers that were answered, the first first
abbrev pub acted_during : (p k : ℕ) → List Deed → List (ℕ × Option Item)
acted_during p k [] = []
acted_during p k (Act q j ∷ D) = if q == p && number p D == k then acted_during p k D ++ (j, item_at p j D) ∷ [] else acted_during p k D
acted_during p k (_ ∷ D) = acted_during p k D

-- the items from a that b acted on in session k
abbrev pub acted_in : (a b k : ℕ) → List Entry → List (ℕ × Option Item)
acted_in a b k J = acted_during a k (deeds_at b J)

-- the items from a that b acted on in the session in which it is
abbrev pub acted_from : (a b : ℕ) → List Entry → List (ℕ × Option Item)
acted_from a b J = acted a (deeds_at b J)

-- whether the session of a and b has closed at a
abbrev pub closed_at : (a b : ℕ) → List Entry → Bool
closed_at a b J = closed b (deeds_at a J)

-- whether a and b are in sessions of one number with each other
abbrev pub are_in_one : (a b : ℕ) → List Entry → Bool
are_in_one a b J = number_at a b J == number_at b a J

-- whether the session of a and b is open: both are in it, and neither has closed it
abbrev pub both_open : (a b : ℕ) → List Entry → Bool
both_open a b J = are_in_one a b J && (not (closed_at a b J) && not (closed_at b a J))

-- the frames that a deed gave
abbrev pub frames_of : Option Deed → List Frame
frames_of (Some (Transmit p frames)) = frames
frames_of _ = []

-- all frames that the Transmits of all spaces gave, the first first
abbrev pub transmitted_frames : List Entry → List Frame
transmitted_frames [] = []
transmitted_frames (entry ∷ J) = transmitted_frames J ++ frames_of (deed_in entry)

-- something holds of each entry of a journal and the entries before it
abbrev pub Each : (Entry → List Entry → Type 0) → List Entry → Type 0
Each holds [] = ⊤
Each holds (entry ∷ J) = holds entry J × Each holds J
