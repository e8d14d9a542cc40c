-- The objects that a node leaves. In lists of what came back the newest stands FIRST.
use Rattle.std.specs.Prelude.{◌≡◌, ℕ, true, List, [], ◌∷◌, ◌++◌, map, Option, Some, None, Result, Ok, Err}
use Rattle.std.specs.Global.{Vec}
use Rattle.nob_model_types.specs.declared.answer.Job.{Job}
use Rattle.nob_node_site.specs.Errand.{Errand}
use Rattle.nob_node_site.specs.Serving.{Serving}
use Rattle.nob_node_site.specs.Steps.{object_in}
use Rattle.nob_dispatch_lanes.specs.declared.ends.LaneTake.{LaneTake}
use Rattle.nob_dispatch_lanes.specs.Ends.{got_by}
use Rattle.nob_node_site.specs.Assigning.{with_return}
use Rattle.nob_node_site.specs.Place.{Place}
use Rattle.nob_node_site.specs.Place.TheVariants.{Here, Away}
use Rattle.nob_node_site.specs.Kept.{Kept}
use Rattle.nob_node_site.specs.Kept.TheVariants.{Own, Agent}
use Rattle.nob_node_site.specs.LeftObject.{LeftObject}
use Rattle.nob_node_site.specs.Return.{Return}
use Rattle.nob_node.specs.declared.error.NodeError.{NodeError}
use Rattle.nob_node.specs.declared.running.Report.{Report}
use Rattle.nob_node.specs.declared.leftovers.Rest.{Rest}
use Rattle.nob_node.specs.declared.leftovers.Searched.{Searched}

-- what an end of a lane has got, once it got these too
abbrev pub got_with : {X : Type 0} → List X → List X → List X
got_with [] before = before
got_with (newest ∷ earlier) before = got_with earlier before ++ newest ∷ []

module _ {B : Type 0} where
  -- the application's object at a place, with its index, in front of others; none where the agent is there, or nothing is
  abbrev pub left_at : ℕ → Place (Kept B) → List (LeftObject B) → List (LeftObject B)
  left_at index (Here (Own object)) behind = record { index = index; object = object } ∷ behind
  left_at index (Here (Agent agent)) behind = behind
  left_at index Away behind = behind

  -- the application's objects that are on a shelf, in the order of their indexes
  abbrev pub left_on : List (ℕ × Place (Kept B)) → List (LeftObject B)
  left_on [] = []
  left_on (entry ∷ entries) = left_at entry.0 entry.1 (left_on entries)

  -- a shelf once these came back, each to its place if that was away
  abbrev pub with_returns : List (Return (Kept B)) → List (ℕ × Place (Kept B)) → List (ℕ × Place (Kept B))
  with_returns [] shelf = shelf
  with_returns (back ∷ earlier) shelf = with_return back (with_returns earlier shelf)

  -- the object of an errand, on its way back
  abbrev pub back_of : Errand (Kept B) → Return (Kept B)
  back_of errand = record { job = errand.job.job; index = errand.job.target; object = errand.object }

  -- objects were got from their lane, and each came back
  abbrev pub AllCameBack : (before after : List (Return (Kept B))) → (old new : List (ℕ × Place (Kept B))) → Type 0
  AllCameBack before after old new = (came : List (Return (Kept B))) × (after ≡ got_with came before) × (new ≡ with_returns came old)

  -- errands were got from their lane, and the object of each came back
  abbrev pub AllUnserved : (before after : List (Errand (Kept B))) → (old new : List (ℕ × Place (Kept B))) → Type 0
  AllUnserved before after old new = (came : List (Errand (Kept B))) × (after ≡ got_with came before) × (new ≡ with_returns (map back_of came) old)

  -- the object with which a worker still ran a job came back, if it ran one
  abbrev pub KeptCameBack : (running : Option Job) → (had : Option (Kept B)) → (old new : List (ℕ × Place (Kept B))) → Type 0
  KeptCameBack None had old new = new ≡ old
  KeptCameBack (Some job) None old new = ⊥
  KeptCameBack (Some job) (Some object) old new = new ≡ with_return (record { job = job.job; index = job.target; object = object }) old

  -- all came back that a hand left: first the object that its worker still had, and then those of the errands that were left for it, until its end of their lane found none
  abbrev pub HandCameBack : Serving (Kept B) → LaneTake (Errand (Kept B)) → (old new : List (ℕ × Place (Kept B))) → Type 0
  HandCameBack hand end old new = (between : List (ℕ × Place (Kept B)))
      × KeptCameBack hand.worker.running (object_in hand.worker.course) old between × AllUnserved hand.taken (got_by end.pass) between new × (end.has_found_none ≡ true)

  -- so it is of each hand, one after the other; their ends stand, in order, behind those before
  abbrev pub HandsCameBack : List (Serving (Kept B)) → (before after : List (LaneTake (Errand (Kept B)))) → (old new : List (ℕ × Place (Kept B))) → Type 0
  HandsCameBack [] before after old new = (after ≡ before) × (new ≡ old)
  HandsCameBack (hand ∷ hands) before after old new = (end : LaneTake (Errand (Kept B))) × (between : List (ℕ × Place (Kept B)))
      × HandCameBack hand end old between × HandsCameBack hands (before ++ end ∷ []) after between new

  -- the application's objects that are on a desk's shelf once all came back: what each hand left, and then what was given back, until the desk's end of that lane found none
  abbrev pub AreLeft : Rest B → List (Serving (Kept B)) → Searched B → List (LeftObject B) → Type 0
  AreLeft rest hands searched objects = (between ended : List (ℕ × Place (Kept B)))
      × HandsCameBack hands [] searched.errands.items rest.shelf between
      × AllCameBack (got_by rest.returns.pass) (got_by searched.returns.pass) between ended
      × (searched.returns.has_found_none ≡ true) × (objects ≡ left_on ended)

  -- the same of what a desk left, if it left something
  abbrev pub AreLeftIn : Option (Rest B) → List (Serving (Kept B)) → Option (Searched B) → List (LeftObject B) → Type 0
  AreLeftIn None hands searched objects = objects ≡ []
  AreLeftIn (Some rest) hands None objects = ⊥
  AreLeftIn (Some rest) hands (Some searched) objects = AreLeft rest hands searched objects

  -- the application's objects that come with what a node leaves: with its report, or with why there is none
  abbrev pub objects_in : Result (Report B) (NodeError × Vec (LeftObject B)) → List (LeftObject B)
  objects_in (Ok report) = report.objects.items
  objects_in (Err failed) = failed.1.items
