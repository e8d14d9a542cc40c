-- Alike: two lists that differ in no word from which an answer is read, but that more jobs were claimed in the second, under higher numbers.
use Rattle.std.specs.Prelude.{◌≡◌, ◌≤◌, ◌<◌, ℕ, ◌+◌, ◌++◌, true, List, length, map}
use Rattle.nob_ids.specs.Names.{is_counted}
use Rattle.nob_ids.specs.declared.limits.Limits.{Limits}
use Rattle.nob_ids.specs.declared.wire_rep.WireRep.{WireRep}
use Rattle.nob_model_session.specs.declared.entry.EndEntry.{EndEntry}
use Rattle.nob_model_session.specs.End as end
use Rattle.nob_model_types.specs.declared.event.Event.{Event}
use Rattle.nob_model_types.specs.declared.entry.Entry.{Entry}
use Rattle.nob_model_types.specs.Deeds.{deeds}
use Rattle.nob_model_types.specs.Sessions as sessions
use Rattle.nob_model_types.specs.Objects as objects
use Rattle.nob_model_types.specs.Turns as asking
use Rattle.nob_model_history.specs.declared.history.History.{History}
use Rattle.nob_model_history.specs.Histories.{history}
use Rattle.nob_model_history.specs.Ends.{calls_at}
use Rattle.nob_model_history.specs.Holds as holds
use Rattle.nob_model_history.specs.Transit as transit
use Rattle.nob_model_history.specs.Listing.{is_any_listed}
use Rattle.nob_model.specs.Opening as opening
use Rattle.nob_model.specs.Right.{last_number, calls_made, jobs_made, right}
use Rattle.nob_model.specs.Lists.{AreRight}
use Rattle.nob_model_lives.specs.Births.{Birth, IsBorn}
use Rattle.nob_model_jobs.specs.Raised.{raised_event, raised_result, raised_entry, raised_work}

-- two ends are alike: each word of them is the same, but the highest session number that arrived
pub record AreEndsAlike (a b : List EndEntry) : Type 0 where
  pub numbered : end.number a ≡ end.number b
  pub endings : end.ending a ≡ end.ending b
  pub sent : end.handed a ≡ end.handed b
  pub lows : end.lowest a ≡ end.lowest b
  pub highs : end.transmitted a ≡ end.transmitted b
  pub counts : end.accepted_count a ≡ end.accepted_count b
  pub came : (j : ℕ) → end.payload j a ≡ end.payload j b
  pub kept : end.accepted a ≡ end.accepted b
  pub taken : end.takes a ≡ end.takes b
  pub due : end.data_arrived a ≡ end.data_arrived b
  pub ticked : end.ticks a ≡ end.ticks b
  pub owing : end.owes_close a ≡ end.owes_close b

-- two histories of space s among n are alike, but for so many more jobs in the second
pub record AreAlikeButJobs (s n more : ℕ) (h k : History) : Type 0 where
  -- objects
  pub given : length (objects.exports h.deeds) ≡ length (objects.exports k.deeds)
  pub live_count : length (objects.live s h.deeds) ≡ length (objects.live s k.deeds)
  pub alive : (index : ℕ) → objects.is_live s index h.deeds ≡ objects.is_live s index k.deeds
  pub exported : (index : ℕ) → objects.is_exported s index h.deeds ≡ objects.is_exported s index k.deeds
  -- holds and pins
  pub hands : (rep : WireRep) → is_counted rep ≡ true → holds.hand rep h.deeds ≡ holds.hand rep k.deeds
  pub held : (rep : WireRep) → is_counted rep ≡ true → holds.is_held s rep h ≡ holds.is_held s rep k
  pub held_of : (p : ℕ) → opening.holds_any_of s p h ≡ opening.holds_any_of s p k
  pub bundled : transit.bundles h ≡ transit.bundles k
  pub listed : (index : ℕ) → is_any_listed s index h.deeds ≡ is_any_listed s index k.deeds
  -- sessions
  pub shut : (p : ℕ) → sessions.closed p h.deeds ≡ sessions.closed p k.deeds
  pub numbered : (p : ℕ) → sessions.number p h.deeds ≡ sessions.number p k.deeds
  pub next : (p : ℕ) → opening.next_number p h ≡ opening.next_number p k
  pub ends : (p : ℕ) → AreEndsAlike (calls_at p h) (calls_at p k)
  -- references
  pub asked : (rep : WireRep) → asking.turns s n rep h.deeds ≡ asking.turns s n rep k.deeds
  pub standing : transit.surrogates s n h ≡ transit.surrogates s n k
  pub idle : transit.first_idle s n h ≡ transit.first_idle s n k
  -- work
  pub outstanding : k.work ≡ raised_work more h.work
  pub called : calls_made h.deeds ≡ calls_made k.deeds
  pub claimed : jobs_made k.deeds ≡ jobs_made h.deeds + more

-- after two lists that are alike, but for so many more jobs, the right answers are the same with raised job numbers, where one job more may be claimed
abbrev pub RaisedLaw : Type 0
RaisedLaw = (s n : ℕ) (limits : Limits) (more : ℕ) (L M : List Entry) → AreAlikeButJobs s n more (history s n L) (history s n M) → jobs_made (history s n M).deeds < last_number → (event : Event) → right s n limits M (raised_event more event) ≡ raised_result more (right s n limits L event)

-- a birth after so many more jobs
abbrev pub with_more_jobs : ℕ → Birth → Birth
with_more_jobs more birth = record { indexes = birth.indexes; calls = birth.calls; jobs = birth.jobs + more; session = birth.session }

-- two lists after which a space is born are alike, where the births differ in so many more jobs alone
abbrev pub BornAlikeLaw : Type 0
BornAlikeLaw = (s n : ℕ) (limits : Limits) (more : ℕ) (birth : Birth) (L M : List Entry) → IsBorn s n limits birth L → IsBorn s n limits (with_more_jobs more birth) M → AreAlikeButJobs s n more (history s n L) (history s n M)

-- the right entries of a life that is born behind some jobs are right, with raised job numbers, where it is born behind so many more, and no job has a number above the last
abbrev pub LifeLaw : Type 0
LifeLaw = (s n : ℕ) (limits : Limits) (more : ℕ) (birth : Birth) (L M life : List Entry) → IsBorn s n limits birth L → IsBorn s n limits (with_more_jobs more birth) M → AreRight s n limits (life ++ L) → jobs_made (deeds (map (raised_entry more) life ++ M)) ≤ last_number → AreRight s n limits (map (raised_entry more) life ++ M)

-- and so the two lists stay alike
abbrev pub StayAlikeLaw : Type 0
StayAlikeLaw = (s n : ℕ) (limits : Limits) (more : ℕ) (birth : Birth) (L M life : List Entry) → IsBorn s n limits birth L → IsBorn s n limits (with_more_jobs more birth) M → AreRight s n limits (life ++ L) → jobs_made (deeds (map (raised_entry more) life ++ M)) ≤ last_number → AreAlikeButJobs s n more (history s n (life ++ L)) (history s n (map (raised_entry more) life ++ M))
