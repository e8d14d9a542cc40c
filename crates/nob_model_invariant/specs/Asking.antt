-- What a client asks an owner for an object, and what the owner answers, read off the items between the two. The first
-- stands first.
use Rattle.std.specs.Prelude.{◌≡◌, ⊤, ◌⊎◌, ℕ, ◌+◌, Bool, true, false, not, ◌==◌, List, [], ◌∷◌, length, take, filter, filter_map, Option, Some, None, if◌then◌else◌}
use Rattle.std.specs.List.{AllByRecursion, list_any}
use Rattle.nob_item.specs.declared.item.Item.{Item}
use Rattle.nob_item.specs.declared.item.Item.TheVariants as items
use Rattle.nob_model_types.specs.declared.turns.OwnerAnswer.{OwnerAnswer}
use Rattle.nob_model_types.specs.declared.turns.OwnerAnswer.TheVariants as said
use Rattle.nob_model_types.specs.declared.turns.Turns.{Turns}
use Rattle.nob_ids.specs.declared.wire_rep.WireRep.{WireRep}
use Rattle.nob_model_types.specs.declared.entry.Entry.{Entry}
use Rattle.nob_model_journal.specs.Journals.{number_at, sent_in, sent_now, acted_from}

-- what an item asks for the object of an index: true for a Dirty, false for a Clean
abbrev pub ask_in : ℕ → Item → Option Bool
ask_in x (items.Call call target method value) = None
ask_in x (items.Reply call status value) = None
ask_in x (items.Settle item) = None
ask_in x (items.Dirty index) = if index == x then Some true else None
ask_in x (items.DirtyOk index) = None
ask_in x (items.DirtyNo index) = None
ask_in x (items.Clean index) = if index == x then Some false else None

-- what an item answers for the object of an index: true for a DirtyOk, false for a DirtyNo
abbrev pub answer_in : ℕ → Item → Option Bool
answer_in x (items.Call call target method value) = None
answer_in x (items.Reply call status value) = None
answer_in x (items.Settle item) = None
answer_in x (items.Dirty index) = None
answer_in x (items.DirtyOk index) = if index == x then Some true else None
answer_in x (items.DirtyNo index) = if index == x then Some false else None
answer_in x (items.Clean index) = None

-- the Dirties and Cleans for an index among items
abbrev pub asks_among : ℕ → List Item → List Bool
asks_among x more = filter_map (ask_in x) more

-- the answers for an index among items
abbrev pub answers_among : ℕ → List Item → List Bool
answers_among x more = filter_map (answer_in x) more

-- the items, where they could be read, among those that were acted on
abbrev pub items_among : List (ℕ × Option Item) → List Item
items_among pairs = filter_map (λ pair. pair.1) pairs

-- how many Dirties there are
abbrev pub dirties_in : List Bool → ℕ
dirties_in asks = length (filter (λ ask. ask) asks)

-- how many Cleans there are
abbrev pub cleans_in : List Bool → ℕ
cleans_in asks = length (filter not asks)

-- the last of some, or what stands before them where there are none
abbrev pub last_or : Bool → List Bool → Bool
last_or before [] = before
last_or before (ask ∷ asks) = last_or ask asks

-- an answer as the word of an owner
abbrev pub word_of : Bool → OwnerAnswer
word_of answer = if answer then said.Granted else said.Refused

-- the last answer, or what stands before them where there are none
abbrev pub last_word : OwnerAnswer → List Bool → OwnerAnswer
last_word before [] = before
last_word before (answer ∷ answers) = last_word (word_of answer) answers

-- the turns that these asks and answers are
abbrev pub turns_by : (asks answers : List Bool) → Turns
turns_by asks answers = record { dirties = dirties_in asks; answers = length answers; asks = last_or false asks; last = last_word said.Pending answers }

-- one after the other, from this one on
abbrev pub Alternate : Bool → List Bool → Type 0
Alternate next [] = ⊤
Alternate next (ask ∷ asks) = (ask ≡ next) × Alternate (not next) asks

-- whether there is a DirtyNo among answers
abbrev pub has_no : List Bool → Bool
has_no answers = list_any not answers

-- after a DirtyNo there is no DirtyOk
abbrev pub OkFirst : List Bool → Type 0
OkFirst [] = ⊤
OkFirst (true ∷ answers) = OkFirst answers
OkFirst (false ∷ answers) = AllByRecursion (λ answer. answer ≡ false) answers

-- a client and an owner took turns
pub record AskedInTurn (asks answers : List Bool) : Type 0 where
  -- a Dirty, a Clean, a Dirty and so on
  pub alternate : Alternate true asks
  -- each Dirty but the last is answered, and the last is or waits for it
  pub counts : (length answers ≡ dirties_in asks) ⊎ ((length answers + 1 ≡ dirties_in asks) × (last_or false asks ≡ true))
  -- what a Clean gave up was granted
  pub were_granted : AllByRecursion (λ answer. answer ≡ true) (take (cleans_in asks) answers)

-- an owner answered what it was asked: each Dirty once, and never a DirtyOk after a DirtyNo
pub record AnsweredInTurn (asks answers : List Bool) : Type 0 where
  pub each : length answers ≡ dirties_in asks
  pub ok_first : OkFirst answers

-- what client c sent to ask the owner of a reference in the session in which c is
abbrev pub asked : (n c : ℕ) → WireRep → List Entry → List Bool
asked n c rep J = asks_among rep.index (sent_now n c rep.owner J)

-- what client c acted on of the owner's answers
abbrev pub heard : (c : ℕ) → WireRep → List Entry → List Bool
heard c rep J = answers_among rep.index (items_among (acted_from rep.owner c J))

-- what owner o acted on of what client c asked for an index
abbrev pub was_asked : (o c x : ℕ) → List Entry → List Bool
was_asked o c x J = asks_among x (items_among (acted_from c o J))

-- what owner o sent to answer client c for an index in a session
abbrev pub gave_in : (n o c x session : ℕ) → List Entry → List Bool
gave_in n o c x session J = answers_among x (sent_in n o c session J)

-- what it did in the session in which it is
abbrev pub gave : (n o c x : ℕ) → List Entry → List Bool
gave n o c x J = gave_in n o c x (number_at o c J) J

-- and in the one in which the client is
abbrev pub gave_to : (n o c x : ℕ) → List Entry → List Bool
gave_to n o c x J = gave_in n o c x (number_at c o J) J
