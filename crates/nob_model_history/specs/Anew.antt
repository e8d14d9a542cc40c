-- A session that was opened anew: every word that is read for its peer is a new session's.
use Rattle.std.specs.Prelude.{◌≡◌, ℕ, false, List, [], ◌∷◌, None, Ok}
use Rattle.nob_ids.specs.declared.wire_rep.WireRep.{WireRep}
use Rattle.nob_model_session.specs.declared.entry.EndEntry.{EndEntry}
use Rattle.nob_model_session.specs.End as end
use Rattle.nob_model_types.specs.declared.event.Event.TheVariants as events
use Rattle.nob_model_types.specs.declared.answer.Answer.TheVariants as answers
use Rattle.nob_model_types.specs.declared.entry.Entry.{Entry}
use Rattle.nob_model_types.specs.Sessions as sessions
use Rattle.nob_model_types.specs.Turns.{no_turns, turns}
use Rattle.nob_model_history.specs.declared.history.History.{History}
use Rattle.nob_model_history.specs.Histories.{history}
use Rattle.nob_model_history.specs.Ends.{calls_at}
use Rattle.nob_model_history.specs.Transit.{is_settled}
use Rattle.nob_model_history.specs.Listing.{is_entered, is_listed}

-- an end is in session k as at first: it is open, and nothing was handed, transmitted, acknowledged, accepted or taken in it
pub record IsNewEnd (k : ℕ) (calls : List EndEntry) : Type 0 where
  pub numbered : end.number calls ≡ k
  pub is_up : end.ending calls ≡ None
  pub none_handed : end.handed calls ≡ []
  pub first_lowest : end.lowest calls ≡ 1
  pub none_transmitted : end.transmitted calls ≡ 0
  pub none_counted : end.accepted_count calls ≡ 0
  pub no_payload : (j : ℕ) → end.payload j calls ≡ None
  pub none_accepted : end.accepted calls ≡ []
  pub none_taken : end.takes calls ≡ 0
  pub none_ticked : end.ticks calls ≡ 0
  pub none_arrived : end.data_arrived calls ≡ false
  pub owes_none : end.owes_close calls ≡ false

-- the session of space s with p begins anew under number k: it is open, and nothing was accepted, acted on, settled, entered or asked in it
pub record BeginsAnew (s n p k : ℕ) (h : History) : Type 0 where
  pub is_open : sessions.closed p h.deeds ≡ false
  pub numbered : sessions.number p h.deeds ≡ k
  pub none_accepted : sessions.accepted_from p h.deeds ≡ 0
  pub no_payload : (j : ℕ) → sessions.payload_at p j h.deeds ≡ None
  pub none_acted : sessions.acted p h.deeds ≡ []
  pub none_settled : (j : ℕ) → is_settled p j h.deeds ≡ false
  pub none_entered : (index : ℕ) → is_entered s index p h.deeds ≡ false
  pub none_listed : (index : ℕ) → is_listed s index p h.deeds ≡ false
  pub none_asked : (rep : WireRep) → rep.owner ≡ p → turns s n rep h.deeds ≡ no_turns
  pub end_is_new : IsNewEnd k (calls_at p h)

-- right after an Opened every word that is read for its peer is a new session's
abbrev pub AnewLaw : Type 0
AnewLaw = (s n p k : ℕ) (L : List Entry) → BeginsAnew s n p k (history s n (record { space = s; event = events.Open p; result = Ok (answers.Opened k) } ∷ L))
