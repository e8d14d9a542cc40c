-- What one event makes of the state of a space.
use Rattle.std.specs.Prelude.{◌≡◌, ◌⊎◌, ⊤, ℕ, ◌<◌, ◌^◌, true, List, Option, None, is_some, Result, Ok, Err, IsOk}
use Rattle.nob_pickle.specs.Limits.{Fits}
use Rattle.nob_model_session.specs.Right.{right_front}
use Rattle.nob_model_types.specs.declared.answer.Answer.{Answer}
use Rattle.nob_model_types.specs.declared.answer.Answer.TheVariants as answers
use Rattle.nob_model_types.specs.declared.event.Event.{Event}
use Rattle.nob_model_types.specs.declared.event.Event.TheVariants as events
use Rattle.nob_model_types.specs.declared.refusal.Refusal.{Refusal}
use Rattle.nob_model_types.specs.Deeds.{deed_of}
use Rattle.nob_model_work.specs.Gifts.{value_of}
use Rattle.nob_model_history.specs.declared.history.History.{History}
use Rattle.nob_model_history.specs.Ends.{calls_at}
use Rattle.nob_space_state.specs.declared.error.SpaceError.{SpaceError}
use Rattle.nob_space_state.specs.declared.error.SpaceError.TheVariants as errors
use Rattle.nob_space_items.specs.Acts.{FrontWants}

-- the item that an event acts on, if there is one: that at the front of the inbox from the peer
abbrev pub front_for : Event → History → Option (ℕ × List ℕ)
front_for (events.Act peer) h = right_front (calls_at peer h)
front_for (_) h = None

-- a result is the right one, or memory was wanted: then nothing else refuses the event, or it was wanted to read this item, whatever that is
abbrev pub AnswersRight : Option (ℕ × List ℕ) → Result Answer SpaceError → Result Answer Refusal → Type 0
AnswersRight front (Ok answer) right = right ≡ Ok answer
AnswersRight front (Err (errors.Refused refusal)) right = right ≡ Err refusal
AnswersRight front (Err errors.OutOfMemory) right = IsOk right ⊎ FrontWants front

-- an answer is one of the event's own
abbrev pub IsOwn : Event → Result Answer SpaceError → Type 0
IsOwn event (Ok answer) = is_some (deed_of event answer) ≡ true
IsOwn event (Err error) = Unit {0}

-- what an event that was answered hands on has a spelling: a Call, and the value of a reply
abbrev pub HandsOnFitting : Event → Result Answer SpaceError → Type 0
HandsOnFitting (events.Call target method value) (Ok answer) = (target.index < 2 ^ 64) × (method < 2 ^ 16) × Fits value
HandsOnFitting (events.Finish job outcome) (Ok answers.Finished) = Fits (value_of outcome)
HandsOnFitting _ _ = ⊤
