-- An object that comes back to a desk.
use Rattle.std.proofs.Common.{◌≡◌, ◌≢◌, ℕ, ◌-◌, Bool, List, [], ◌∷◌, ◌++◌, Option, Some, None, refl}
use Rattle.std.specs.Prelude.{if◌then◌else◌}
use Rattle.nob_model_types.specs.declared.answer.Job.{Job}
use Rattle.nob_dispatch.specs.Dispatching.{Dispatching}
use Rattle.nob_dispatch.specs.Dispatching as dispatching
use Rattle.nob_dispatch.specs.Shelves.{place_of, with_place, is_away}
use Rattle.nob_dispatch.specs.declared.errand.Errand.{Errand}
use Rattle.nob_dispatch.specs.declared.errand.Return.{Return}
use Rattle.nob_dispatch.specs.declared.shelf.Place.{Place}
use Rattle.nob_dispatch.specs.declared.shelf.Place.TheVariants.{Here, Away}
use Rattle.nob_dispatch.specs.Stakes.{Stakes}
use Rattle.nob_dispatch.specs.Assigning.{with_back}

-- an object was put down where its place is away, or else let go
placed : {O : Type 0} (place : Option (Place O)) (old new : Dispatching O) (shelf : List (ℕ × Place O)) → (place ≡ Some Away → new ≡ dispatching.with_shelf shelf old) → (place ≢ Some Away → new ≡ old) → new ≡ dispatching.with_shelf (if is_away place then shelf else old.shelf) old
placed (Some Away) old new shelf away out = away refl
placed (Some (Here object)) old new shelf away out = out (λ same. absurd cc)
placed None old new shelf away out = out (λ same. absurd cc)

-- so it came back, and all else is as it was
pub comes_back : {O : Type 0} (back : Return O) (given : List (Errand O)) (old new : List (Return O)) (unsent : Option Job) (is_alone : Bool) (away less : ℕ) (has_stopped : Bool) (before after : Dispatching O) (stakes stakes' : Stakes O)
    → new ≡ old ++ back ∷ [] → less ≡ away - 1 → (place_of back.index before.shelf ≡ Some Away → after ≡ dispatching.with_shelf (with_place back.index (Here back.object) before.shelf) before) → (place_of back.index before.shelf ≢ Some Away → after ≡ before) → stakes' ≡ stakes
    → record { given = given; back = new; unsent = unsent; is_alone = is_alone; away = less; has_stopped = has_stopped; dispatcher = after; stakes = stakes' } ≡ with_back back (record { given = given; back = old; unsent = unsent; is_alone = is_alone; away = away; has_stopped = has_stopped; dispatcher = before; stakes = stakes })
comes_back back given old new unsent is_alone away less has_stopped before after stakes stakes' got fewer put out same =
    let down = placed (place_of back.index before.shelf) before after (with_place back.index (Here back.object) before.shelf) put out in
    rw (got, fewer, down, same) refl
