-- What acting on an item did, by its answer.
use Rattle.std.proofs.Common.{◌≡◌, ℕ, Some, refl}
use Rattle.nob_model_types.specs.declared.event.Event.TheVariants as events
use Rattle.nob_model_types.specs.Deeds.{deed_of}
use Rattle.nob_space_items.specs.Acts.{act_answer, act_deed}
use Rattle.nob_space_items.specs.declared.acting.ActResult.{ActResult}
use Rattle.nob_space_items.specs.declared.acting.ActResult.TheVariants as results

pub acted_deed : (p : ℕ) (done : ActResult) → deed_of (events.Act p) (act_answer done) ≡ Some (act_deed p done)
acted_deed p (results.Acted item) = refl
acted_deed p (results.Closed reason) = refl
