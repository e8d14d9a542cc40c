-- What holds of every list of right answers, as far as the laws of one deed more need it: nob_model proves that it does.
use Rattle.std.specs.Prelude.{◌≡◌, ◌≤◌, ◌<◌, ⊤, ℕ, ◌+◌, true, List, [], ◌∷◌, length, Option, Some, Ok}
use Rattle.nob_item.specs.declared.item.Item.{Item}
use Rattle.nob_item.specs.declared.item.Item.TheVariants as items
use Rattle.nob_model_session.specs.Accepting.{AcceptsWhatCame}
use Rattle.nob_model_session.specs.declared.entry.Arrived.TheVariants as arrived
use Rattle.nob_model_session.specs.declared.entry.EndEntry.TheVariants as ends
use Rattle.nob_model_types.specs.Sessions.{number, item_at}
use Rattle.nob_model_types.specs.Objects.{exports, is_live}
use Rattle.nob_model_types.specs.Turns.{turns, is_pending, is_granted}
use Rattle.nob_model_types.specs.declared.deed.Deed.{Deed}
use Rattle.nob_model_types.specs.declared.deed.Deed.TheVariants.{Export, Withdraw, Arrive, Act, Clean, Open}
use Rattle.nob_model_history.specs.Histories.{history_of}
use Rattle.nob_model_history.specs.Ends.{calls_at}
use Rattle.nob_model_history.specs.Transit.{count_to, sent, is_settle_of}

-- a deed accepts no item, or the next ones: a payload had come for each that an arrival took, at the latest with its frame
abbrev pub AcceptsNext : (s n : ℕ) → Deed → List Deed → Type 0
AcceptsNext s n (Arrive frame count) D = AcceptsWhatCame (ends.Arrive frame (Ok (arrived.Took count))) (calls_at frame.from (history_of s n D))
AcceptsNext s n (_) D = ⊤

-- each deed accepted the next items or none
abbrev pub InTurn : (s n : ℕ) → List Deed → Type 0
InTurn s n [] = ⊤
InTurn s n (deed ∷ D) = AcceptsNext s n deed D × InTurn s n D

-- each session was opened anew under a number above the one before
abbrev pub NumbersRise : List Deed → Type 0
NumbersRise [] = ⊤
NumbersRise (Open p k ∷ D) = (number p D < k) × NumbersRise D
NumbersRise (_ ∷ D) = NumbersRise D

-- each Settle that was acted on was of an item that was sent before
abbrev pub SettlesSent : (s n : ℕ) → List Deed → Type 0
SettlesSent s n [] = ⊤
SettlesSent s n (Act p j ∷ D) = ((k : ℕ) → is_settle_of k (item_at p j D) ≡ true → k ≤ count_to p (number p D) (sent (history_of s n D))) × SettlesSent s n D
SettlesSent s n (_ ∷ D) = SettlesSent s n D

-- an item from p is an answer only to a Dirty that waits for one
abbrev pub AnswersPending : (s n p : ℕ) → Option Item → List Deed → Type 0
AnswersPending s n p (Some (items.DirtyOk index)) D = is_pending (turns s n (record { owner = p; index = index }) D) ≡ true
AnswersPending s n p (Some (items.DirtyNo index)) D = is_pending (turns s n (record { owner = p; index = index }) D) ≡ true
AnswersPending s n p _ D = ⊤

-- client and owner took turns: each answer that was acted on was to a Dirty that waited for one, and each Clean gave up what was granted
abbrev pub TookTurns : (s n : ℕ) → List Deed → Type 0
TookTurns s n [] = ⊤
TookTurns s n (Act p k ∷ D) = AnswersPending s n p (item_at p k D) D × TookTurns s n D
TookTurns s n (Clean rep ∷ D) = (is_granted (turns s n rep D) ≡ true) × TookTurns s n D
TookTurns s n (_ ∷ D) = TookTurns s n D

-- each Export answered the next index of space s, and each Withdraw took an object that was live
abbrev pub ObjectsInTurn : (s : ℕ) → List Deed → Type 0
ObjectsInTurn s [] = ⊤
ObjectsInTurn s (Export rep ∷ D) = (rep ≡ record { owner = s; index = length (exports D) + 1 }) × ObjectsInTurn s D
ObjectsInTurn s (Withdraw index ∷ D) = (is_live s index D ≡ true) × ObjectsInTurn s D
ObjectsInTurn s (_ ∷ D) = ObjectsInTurn s D
