-- Where a space is born nothing is used, and the first index is the one behind the birth's.
use Rattle.std.proofs.Common.{◌≡◌, ℕ, ◌+◌, ◌||◌, Bool, true, false, List, length, Ok, refl, ap, ◌∙◌, arith}
use Rattle.std.specs.Prelude.{nat_le}
use Rattle.std.proofs.lemmas.Bool.{or_from}
use Rattle.nob_ids.specs.declared.limits.Limits.{Limits}
use Rattle.nob_ids.specs.declared.wire_rep.WireRep.{WireRep}
use Rattle.nob_model_types.specs.declared.answer.Answer.TheVariants as answers
use Rattle.nob_model_types.specs.declared.refusal.Refusal.TheVariants as refusals
use Rattle.nob_model_types.specs.declared.entry.Entry.{Entry}
use Rattle.nob_model_types.specs.declared.turns.Turns.{Turns}
use Rattle.nob_model_types.specs.Deeds.{deeds}
use Rattle.nob_model_types.specs.Objects.{exports, live}
use Rattle.nob_model_types.specs.Turns.{is_standing}
use Rattle.nob_model_work.specs.declared.work.Outstanding.{Outstanding}
use Rattle.nob_model_history.specs.Holds.{times, lent_in}
use Rattle.nob_model_acting.specs.Sending.{refuse_if, unless}
use Rattle.nob_model.specs.Right.{most_objects, last_number, right_after, right_export, own_ref}
use Rattle.nob_model.proofs.Doing.{right_deeds}
use Rattle.nob_model_lives.specs.Births.{Birth, IsBorn, UnusedLaw, FirstLaw}
use Rattle.nob_model_lives.proofs.Still.{IsStill, still_unheld, still_unpinned, gone_live}
use Rattle.nob_model_lives.proofs.Skips.{not_above}

-- a space that is born is at rest
pub born_still : (s n : ℕ) (limits : Limits) (birth : Birth) (L : List Entry) → IsBorn s n limits birth L → IsStill s n limits (deeds L)
born_still s n limits birth L born = record { right = right_deeds s n limits L born.right; empty = born.none_in_hand; none_outstanding = born.none_outstanding; none_listed = born.none_listed; none_pinned = born.none_pinned }

-- no counted reference is held, lent, pinned or asked for
pub unused_law : UnusedLaw
unused_law s n limits birth L born rep counted = record {
  unheld = still_unheld s n limits (deeds L) (born_still s n limits birth L born) rep counted;
  unlent = ap (λ (W : Outstanding). times rep (lent_in s W)) born.none_outstanding;
  unpinned = still_unpinned s n limits (deeds L) (born_still s n limits birth L born) rep;
  unasked = ap (λ (t : Turns). is_standing t) (born.none_asked rep);
}

first_by : (s count : ℕ) (full : Bool) → full ≡ false → unless (refuse_if full refusals.Limit) (answers.Exported (own_ref s count)) ≡ Ok (answers.Exported (own_ref s count))
first_by s count true room = cc
first_by s count false room = refl

-- the first object has the index behind the birth's
pub first_law : FirstLaw
unfolding right_after right_export
first_law s n limits birth L born room =
    let all : length (exports (deeds L)) ≡ birth.indexes = born.indexes in
    first_by s (length (exports (deeds L)) + 1) (nat_le most_objects (length (live s (deeds L))) || nat_le last_number (length (exports (deeds L))))
    (or_from (nat_le most_objects (length (live s (deeds L)))) (nat_le last_number (length (exports (deeds L)))) (ap (λ (reps : List WireRep). nat_le most_objects (length reps)) (gone_live s (deeds L) born.none_live)) (not_above last_number (length (exports (deeds L))) (omega (arith, all, room))))
    ∙ ap (λ (k : ℕ). Ok (answers.Exported (own_ref s (k + 1)))) all
