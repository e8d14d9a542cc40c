-- What a table shows of the history of its space: the objects, the surrogates and the holds.
use Rattle.std.specs.Prelude.{◌≡◌, ℕ, ◌+◌, Bool, true, false, List, length, Option, None, option_map, if◌then◌else◌}
use Rattle.nob_ids.specs.Names.{is_counted}
use Rattle.nob_ids.specs.declared.wire_rep.WireRep.{WireRep}
use Rattle.nob_table_rows.specs.declared.standing.State.{State as TableState}
use Rattle.nob_table_rows.specs.declared.standing.State.TheVariants as states
use Rattle.nob_table_rows.specs.Counts.{is_held}
use Rattle.nob_table_rows.specs.Standings as standings
use Rattle.nob_table.specs.Table.{Table, standing, place_of, is_kept}
use Rattle.nob_model_types.specs.declared.deed.Deed.{Deed}
use Rattle.nob_model_types.specs.declared.turns.Turns.{Turns}
use Rattle.nob_model_types.specs.Sessions.{closed}
use Rattle.nob_model_types.specs.Objects as objects
use Rattle.nob_model_types.specs.Turns.{is_own, is_pending, is_granted, is_refused, turns}
use Rattle.nob_model_history.specs.declared.history.History.{History}
use Rattle.nob_model_history.specs.Holds.{times, hand, lent_in}
use Rattle.nob_model_history.specs.Listing.{is_listed}
use Rattle.nob_model_history.specs.Transit as transit
use Rattle.nob_model.specs.Right.{own_ref}

-- how another space's reference stands: while its owner's session is open here by what was asked and answered, then lost while held
abbrev pub far_state : (has_closed has_holds : Bool) → Turns → TableState
far_state true has_holds t = if has_holds then states.Lost else states.Unknown
far_state false has_holds t = if is_pending t then states.Pending else if is_granted t then states.Granted else if is_refused t then states.Refused else states.Unknown

-- a reference is to an object of space s that a client is listed for
abbrev pub IsListed : (s : ℕ) → WireRep → List Deed → Type 0
IsListed s rep D = (rep.owner ≡ s) × (client : ℕ) × (is_listed s rep.index client D ≡ true)

-- what the table keeps from outside is in transit from here, or an object that a client is listed for
abbrev pub AreUsed : (s : ℕ) → Table → History → Type 0
AreUsed s t h = (rep : WireRep) → is_kept t rep ≡ true → transit.pins rep h ≡ 0 → IsListed s rep h.deeds

-- a place, if there is one, as it is counted from the first Dirty where so many were sent before the table began
abbrev pub behind : (passed : ℕ) → Option ℕ → Option ℕ
behind passed found = option_map (λ place. passed + place) found

-- the table has the objects and the surrogates of a history, in the order of their Dirties, and these holds: so many in the hand and so many lent
pub record TableShows (s n : ℕ) (t : Table) (h : History) (hand_of on_loan : WireRep → ℕ) : Type 0 where
  pub me : t.me ≡ s
  -- as many indexes were given as Exports were answered
  pub exported : t.exported ≡ length (objects.exports h.deeds)
  pub live : (index : ℕ) → standings.is_live (standing t (own_ref s index)).state ≡ objects.is_live s index h.deeds
  pub far : (rep : WireRep) → is_counted rep ≡ true → is_own s rep ≡ false → (standing t rep).state ≡ far_state (closed rep.owner h.deeds) (is_held (standing t rep).counts) (turns s n rep h.deeds)
  pub hands : (rep : WireRep) → is_counted rep ≡ true → (standing t rep).counts.hand ≡ hand_of rep
  pub loans : (rep : WireRep) → is_counted rep ≡ true → (standing t rep).counts.lent ≡ on_loan rep
  -- so many Dirties were sent before the table began
  pub passed : ℕ
  -- all that were sent are these and the table's
  pub dirties : passed + t.dirties ≡ length (transit.dirties h)
  -- a surrogate's place is that of its last Dirty, behind those that were sent before
  pub places : (rep : WireRep) → behind passed (place_of t rep) ≡ (if standings.is_surrogate (standing t rep).state then transit.place rep h else None)
  pub kept : AreUsed s t h

-- the table stands for a history: its holds are those of the history
abbrev pub TableStands : (s n : ℕ) → Table → History → Type 0
TableStands s n t h = TableShows s n t h (λ rep. hand rep h.deeds) (λ rep. times rep (lent_in s h.work))
