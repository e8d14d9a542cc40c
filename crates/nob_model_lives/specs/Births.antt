-- Births: where a life of a space begins. After a list of right entries a space is born where each word of it is a new
-- space's, but for the numbers that it goes on from.
use Rattle.std.specs.Prelude.{◌≡◌, ◌≤◌, ◌<◌, ◌⊎◌, ℕ, ◌+◌, ◌-◌, ◌*◌, true, false, List, [], length, Ok}
use Rattle.nob_ids.specs.Names.{is_counted}
use Rattle.nob_ids.specs.declared.limits.Limits.{Limits}
use Rattle.nob_ids.specs.declared.wire_rep.WireRep.{WireRep}
use Rattle.nob_model_session.specs.End.{last_item, last_session, seen}
use Rattle.nob_model_types.specs.declared.event.Event.TheVariants as events
use Rattle.nob_model_types.specs.declared.answer.Answer.TheVariants as answers
use Rattle.nob_model_types.specs.declared.entry.Entry.{Entry}
use Rattle.nob_model_types.specs.Deeds.{deeds}
use Rattle.nob_model_types.specs.Sessions.{is_peer}
use Rattle.nob_model_types.specs.Objects.{exports, is_live}
use Rattle.nob_model_types.specs.Turns.{no_turns, turns, is_standing}
use Rattle.nob_model_work.specs.Work.{no_work, work}
use Rattle.nob_model_history.specs.declared.history.History.{History}
use Rattle.nob_model_history.specs.Histories.{history}
use Rattle.nob_model_history.specs.Ends.{calls_at}
use Rattle.nob_model_history.specs.Holds.{times, hand, lent_in, is_held}
use Rattle.nob_model_history.specs.Transit.{bundles, pins}
use Rattle.nob_model_history.specs.Listing.{is_listed}
use Rattle.nob_model_history.specs.Anew.{BeginsAnew}
use Rattle.nob_model.specs.Right.{last_number, own_ref, calls_made, jobs_made, right}
use Rattle.nob_model.specs.Lists.{AreRight}

-- the numbers that a life begins behind: so many indexes were given, calls made and jobs claimed before, and the number of the session with each peer
pub record Birth : Type 0 where
  pub indexes : ℕ
  pub calls : ℕ
  pub jobs : ℕ
  pub session : ℕ → ℕ

-- the birth of a new space: nothing was before, and each session has number 1
abbrev pub new_birth : Birth
new_birth = record { indexes = 0; calls = 0; jobs = 0; session = λ p. 1 }

-- after these entries space s, among n, is born: each word of it is a new space's, but for the numbers of a birth
pub record IsBorn (s n : ℕ) (limits : Limits) (birth : Birth) (L : List Entry) : Type 0 where
  -- each entry has the right result
  pub right : AreRight s n limits L
  -- so many indexes were given
  pub indexes : length (exports (deeds L)) ≡ birth.indexes
  -- so many calls were made
  pub calls : calls_made (deeds L) ≡ birth.calls
  -- so many jobs were claimed
  pub jobs : jobs_made (deeds L) ≡ birth.jobs
  -- no object is live
  pub none_live : (index : ℕ) → is_live s index (deeds L) ≡ false
  -- nothing is in the hand
  pub none_in_hand : (rep : WireRep) → is_counted rep ≡ true → hand rep (deeds L) ≡ 0
  -- no message waits, no job is ready or runs, no reply is ready and no call untaken: so nothing is lent
  pub none_outstanding : work s n (deeds L) ≡ no_work
  -- nobody is listed for an object
  pub none_listed : (index client : ℕ) → is_listed s index client (deeds L) ≡ false
  -- nothing has pins
  pub none_pinned : bundles (history s n L) ≡ []
  -- no reference was asked for: none is pending, granted or refused
  pub none_asked : (rep : WireRep) → turns s n rep (deeds L) ≡ no_turns
  -- with each peer the session is in the number of the birth, and as at first
  pub sessions : (p : ℕ) → is_peer s n p ≡ true → BeginsAnew s n p (birth.session p) (history s n L)
  -- no frame of a higher number has come from a peer
  pub none_higher : (p : ℕ) → is_peer s n p ≡ true → seen (calls_at p (history s n L)) ≤ birth.session p

-- a space that has done nothing is born as a new one
abbrev pub NewLaw : Type 0
NewLaw = (s n : ℕ) (limits : Limits) → IsBorn s n limits new_birth []

-- a reference isn't used at space s: it isn't held nor lent, has no pins, and is not pending, granted or refused
pub record IsUnused (s n : ℕ) (rep : WireRep) (h : History) : Type 0 where
  pub unheld : is_held s rep h ≡ false
  pub unlent : times rep (lent_in s h.work) ≡ 0
  pub unpinned : pins rep h ≡ 0
  pub unasked : is_standing (turns s n rep h.deeds) ≡ false

-- where a space is born no counted reference is used
abbrev pub UnusedLaw : Type 0
UnusedLaw = (s n : ℕ) (limits : Limits) (birth : Birth) (L : List Entry) → IsBorn s n limits birth L → (rep : WireRep) → is_counted rep ≡ true → IsUnused s n rep (history s n L)

-- the first object of a life has the index behind the birth's
abbrev pub FirstLaw : Type 0
FirstLaw = (s n : ℕ) (limits : Limits) (birth : Birth) (L : List Entry) → IsBorn s n limits birth L → birth.indexes < last_number → right s n limits L events.Export ≡ Ok (answers.Exported (own_ref s (birth.indexes + 1)))

-- so many calls and jobs can have been before: none, or as many as items could come and go in the earlier sessions with some one peer
abbrev pub CanHaveHad : (s n : ℕ) → Birth → Type 0
CanHaveHad s n birth = (birth.calls + birth.jobs ≡ 0) ⊎ ((p : ℕ) × (is_peer s n p ≡ true) × (birth.calls + birth.jobs ≤ last_item * (birth.session p - 1)))

-- a birth is that of a new space: no index, call or job was before, and each session has number 1
pub record IsNewBirth (s n : ℕ) (birth : Birth) : Type 0 where
  pub indexes : birth.indexes ≡ 0
  pub calls : birth.calls ≡ 0
  pub jobs : birth.jobs ≡ 0
  pub sessions : (p : ℕ) → is_peer s n p ≡ true → birth.session p ≡ 1

-- a birth is that of a later life: no number of it is above its limit, each session was opened anew, and so many calls and jobs can have been before
pub record IsLaterBirth (s n : ℕ) (birth : Birth) : Type 0 where
  pub indexes : birth.indexes ≤ last_number
  pub calls : birth.calls ≤ last_number
  pub jobs : birth.jobs ≤ last_number
  pub sessions : (p : ℕ) → is_peer s n p ≡ true → (2 ≤ birth.session p) × (birth.session p ≤ last_session)
  pub earlier : CanHaveHad s n birth

-- a birth is in range if it is a new space's or a later life's
abbrev pub IsInRange : (s n : ℕ) → Birth → Type 0
IsInRange s n birth = IsNewBirth s n birth ⊎ IsLaterBirth s n birth
