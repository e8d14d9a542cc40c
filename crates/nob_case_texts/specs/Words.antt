-- The words of references, tests, frames' kinds, notes and states, and how often a word stands.
use Rattle.std.specs.Prelude.{◌≡◌, ◌≢◌, ◌<◌, ◌⊎◌, length, get_or, ℕ, Bool, true, false, Option, Some, None, List, [], ◌∷◌, ◌++◌, ◌≤◌, codes, map}
use Rattle.std.specs.Fmt.{decimal}
use Rattle.nob_ids.specs.declared.wire_rep.WireRep.{WireRep}
use Rattle.nob_frame.specs.declared.frame.FrameKind.{FrameKind}
use Rattle.nob_frame.specs.declared.frame.FrameKind.TheVariants as kinds
use Rattle.nob_item.specs.declared.item.Item.{Item}
use Rattle.nob_item.specs.declared.item.Item.TheVariants as items
use Rattle.nob_table_rows.specs.declared.standing.State.{State}
use Rattle.nob_table_rows.specs.declared.standing.State.TheVariants as states
use Rattle.nob_table_rows.specs.declared.standing.Standing.{Standing}

-- a number that says how often something stands: once at least, and a million times at most
abbrev pub IsTimes : ℕ → Type 0
IsTimes n = (1 ≤ n) × (n ≤ 1000000)

-- no star is in a word
abbrev pub HasNoStar : List ℕ → Type 0
HasNoStar word = (i : ℕ) → i < length word → get_or word i 0 ≢ 42

-- what a word says how often: a word without a star says itself once, and the first star stands before the number
abbrev pub Says : List ℕ → List ℕ → ℕ → Type 0
Says word part n = HasNoStar part × (((word ≡ part) × (n ≡ 1)) ⊎ (word ≡ part ++ 42 ∷ decimal n))

-- a reference: its owner, a point, and its index
abbrev pub reference_word : WireRep → List ℕ
reference_word rep = decimal rep.owner ++ 46 ∷ decimal rep.index

-- what a test found
abbrev pub test_word : Bool → List ℕ
test_word true = codes "yes"
test_word false = codes "no"

-- what a frame is
abbrev pub kind_word : FrameKind → List ℕ
kind_word kinds.Data = codes "data"
kind_word kinds.Ack = codes "ack"
kind_word kinds.Close = codes "close"

-- a name and, behind a space, a number
abbrev pub numbered_text : List ℕ → ℕ → List ℕ
numbered_text name number = name ++ 32 ∷ decimal number

-- the name of a note, and its number: a Call and a reply are none
abbrev pub note_parts : Item → Option (List ℕ × ℕ)
note_parts (items.Settle item) = Some (codes "settle", item)
note_parts (items.Dirty index) = Some (codes "dirty", index)
note_parts (items.DirtyOk index) = Some (codes "dirtyok", index)
note_parts (items.DirtyNo index) = Some (codes "dirtyno", index)
note_parts (items.Clean index) = Some (codes "clean", index)
note_parts item = None

-- the state in which a reference is
abbrev pub state_word : State → List ℕ
state_word states.Unknown = codes "unknown"
state_word states.Live = codes "live"
state_word states.Withdrawn = codes "withdrawn"
state_word states.Pending = codes "pending"
state_word states.Granted = codes "granted"
state_word states.Refused = codes "refused"
state_word states.Lost = codes "lost"

-- how a reference stands: its state, and how many of its holds are in the hand and lent
abbrev pub standing_text : Standing → List ℕ
standing_text standing = state_word standing.state ++ (codes " hand " ++ (decimal standing.counts.hand ++ (codes " lent " ++ decimal standing.counts.lent)))

-- words behind another one, each behind a space
abbrev pub behind_text : List (List ℕ) → List ℕ
behind_text [] = []
behind_text (word ∷ words) = 32 ∷ (word ++ behind_text words)

-- words, a space between two: `none` where there is none
abbrev pub words_text : List (List ℕ) → List ℕ
words_text [] = codes "none"
words_text (word ∷ words) = word ++ behind_text words

-- references, each as its word
abbrev pub references_text : List WireRep → List ℕ
references_text reps = words_text (map reference_word reps)

-- spaces, each as its number
abbrev pub spaces_text : List ℕ → List ℕ
spaces_text spaces = words_text (map decimal spaces)

-- the word that stands where there is nothing to be written
abbrev pub none_text : Bool → List ℕ
none_text true = codes "none"
none_text false = []
