-- Who is listed for an object.
use Rattle.std.specs.Prelude.{ℕ, Bool, true, false, ◌&&◌, ◌||◌, ◌==◌, not, List, [], ◌∷◌, Option, Some, None, if◌then◌else◌}
use Rattle.std.specs.List.{list_any}
use Rattle.nob_item.specs.declared.item.Item.{Item}
use Rattle.nob_item.specs.declared.item.Item.TheVariants as items
use Rattle.nob_model_types.specs.declared.deed.Deed.{Deed}
use Rattle.nob_model_types.specs.declared.deed.Deed.TheVariants.{Act, Open}
use Rattle.nob_model_types.specs.Sessions.{closed, item_at}
use Rattle.nob_model_types.specs.Objects.{is_live}

-- whether a client's last Dirty or Clean for an index is a Dirty from an item, answered by DirtyOk since the object was live
abbrev pub is_entered_after : (s index : ℕ) → Option Item → List Deed → Bool → Bool
is_entered_after s index None D before = before
is_entered_after s index (Some (items.Call call target method value)) D before = before
is_entered_after s index (Some (items.Reply call status value)) D before = before
is_entered_after s index (Some (items.Settle item)) D before = before
is_entered_after s index (Some (items.Dirty x)) D before = if x == index then is_live s x D else before
is_entered_after s index (Some (items.DirtyOk x)) D before = before
is_entered_after s index (Some (items.DirtyNo x)) D before = before
is_entered_after s index (Some (items.Clean x)) D before = if x == index then false else before

-- whether client c's last Dirty or Clean for an index that was acted on in the session with c is a Dirty that was answered by DirtyOk
abbrev pub is_entered : (s index c : ℕ) → List Deed → Bool
is_entered s index c [] = false
is_entered s index c (Open q k ∷ D) = if q == c then false else is_entered s index c D
is_entered s index c (Act p k ∷ D) = if p == c then is_entered_after s index (item_at p k D) D (is_entered s index c D) else is_entered s index c D
is_entered s index c (_ ∷ D) = is_entered s index c D

-- whether client c is listed for an index: so asked, and its session hasn't closed here
abbrev pub is_listed : (s index c : ℕ) → List Deed → Bool
is_listed s index c D = not (closed c D) && is_entered s index c D

-- whether a deed acts on an item from a client that is listed for an index
abbrev pub is_of_listed : (s index : ℕ) → List Deed → Deed → Bool
is_of_listed s index D (Act p k) = is_listed s index p D
is_of_listed s index D (_) = false

-- whether anybody is listed for an index: nobody is whose items weren't acted on
abbrev pub is_any_listed : (s index : ℕ) → List Deed → Bool
is_any_listed s index D = list_any (is_of_listed s index D) D
