-- What the state tells of sessions and references.
use Rattle.std.specs.Prelude.{◌≡◌, ℕ, ◌-◌, Bool, true, false, ◌&&◌, ◌||◌, ◌==◌, not, List, slice_get, Option, Some, None, if◌then◌else◌}
use Rattle.nob_ids.specs.declared.wire_rep.WireRep.{WireRep}
use Rattle.std.specs.List.{list_any, Contains}
use Rattle.nob_ids.specs.Names.{is_same}
use Rattle.nob_dirty.specs.declared.sets.Listing.{Listing}
use Rattle.nob_dirty.specs.Sets.{lists, has_index}
use Rattle.nob_pins.specs.Bundles.{Pinned, count_of}
use Rattle.nob_session.specs.Stands.{Roomy, is_open_end}
use Rattle.nob_table_rows.specs.Standings.{is_live}
use Rattle.nob_table.specs.Table.{Table, standing, is_kept}
use Rattle.nob_table_rows.specs.Counts as counts

-- whether an end, where there is one, has closed
abbrev pub is_closed_end : Option Roomy → Bool
is_closed_end None = false
is_closed_end (Some end) = not (is_open_end end.end)

-- the end with space p, where there is one: spaces are counted from 1
abbrev pub end_with : List Roomy → ℕ → Option Roomy
end_with sessions p = if p == 0 then None else slice_get sessions (p - 1)

-- whether the end with space p has closed
abbrev pub has_closed : List Roomy → ℕ → Bool
has_closed sessions p = is_closed_end (end_with sessions p)

-- the number of the session that an end is in, or 0 where there is no end
abbrev pub number_of : Option Roomy → ℕ
number_of None = 0
number_of (Some end) = end.end.number

-- the number of the session that the end with space p is in
abbrev pub number_with : List Roomy → ℕ → ℕ
number_with sessions p = number_of (end_with sessions p)

-- whether session k with space p has ended: its end has closed, or is in another session
abbrev pub has_ended : List Roomy → (p k : ℕ) → Bool
has_ended sessions p k = has_closed sessions p || not (k == number_with sessions p)

-- whether the table has holds of a reference
abbrev pub has_holds : Table → WireRep → Bool
has_holds t rep = counts.is_held (standing t rep).counts

-- whether a reference names an object of the table's space, not the agent, that isn't live
abbrev pub is_gone : ℕ → Table → WireRep → Bool
is_gone s t rep = not (rep.index == 0) && (rep.owner == s && not (is_live (standing t rep).state))

-- whether a reference is another space's, and the end with that has closed
abbrev pub is_cut : ℕ → List Roomy → WireRep → Bool
is_cut s sessions rep = not (rep.owner == s) && has_closed sessions rep.owner

-- whether a client is listed at an index
abbrev pub has_clients : List Listing → ℕ → Bool
has_clients dirty index = list_any (has_index index) dirty

-- whether something outside uses a reference: it is in transit from here, or to an object of space s that a client is listed for
abbrev pub is_used : (s : ℕ) → List Pinned → List Listing → WireRep → Bool
is_used s bundles dirty rep = not (count_of bundles rep == 0) || (rep.owner == s && has_clients dirty rep.index)

-- a reference that isn't in transit from here is to an object of space s that the sets list a client for
abbrev pub IsUsed : (s : ℕ) → List Pinned → List Listing → WireRep → Type 0
IsUsed s bundles dirty rep = count_of bundles rep ≡ 0 → (rep.owner ≡ s) × (client : ℕ) × (lists dirty rep.index client ≡ true)

-- what the table keeps from outside is used there
abbrev pub HaveUsers : (s : ℕ) → Table → List Pinned → List Listing → Type 0
HaveUsers s t bundles dirty = (rep : WireRep) → is_kept t rep ≡ true → IsUsed s bundles dirty rep

-- what new keeps from outside old keeps too, and such references only where they are used outside
abbrev pub LetsGo : (s : ℕ) → (WireRep → Type 0) → (old new : Table) → List Pinned → List Listing → Type 0
LetsGo s such old new bundles dirty = (rep : WireRep) → is_kept new rep ≡ true → (is_kept old rep ≡ true) × (such rep → is_used s bundles dirty rep ≡ true)

-- a reference is to an object of space s, with one of these indexes
abbrev pub IsAmong : (s : ℕ) → List ℕ → WireRep → Type 0
IsAmong s indexes rep = (rep.owner ≡ s) × Contains indexes rep.index

-- what new keeps from outside old keeps too, or it is one of these references
abbrev pub KeepsMore : (old new : Table) → List WireRep → Type 0
KeepsMore old new reps = (rep : WireRep) → is_kept new rep ≡ true → is_kept old rep ≡ false → list_any (is_same rep) reps ≡ true
