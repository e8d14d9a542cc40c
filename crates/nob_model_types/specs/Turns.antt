-- What this space asked of the owner of a reference, and what the owner answered. A client asks by a Dirty, is
-- answered by a DirtyOk or a DirtyNo, and gives the reference up by a Clean: client and owner take turns.
use Rattle.std.specs.Prelude.{ℕ, ◌+◌, Bool, true, false, ◌&&◌, ◌||◌, not, ◌==◌, List, [], ◌∷◌, Option, Some, None, if◌then◌else◌}
use Rattle.std.specs.List.{list_any}
use Rattle.nob_ids.specs.Names.{is_same, is_counted}
use Rattle.nob_ids.specs.declared.wire_rep.WireRep.{WireRep}
use Rattle.nob_item.specs.Kinds.{counted_in}
use Rattle.nob_item.specs.declared.item.Item.{Item}
use Rattle.nob_item.specs.declared.item.Item.TheVariants as items
use Rattle.nob_model_types.specs.declared.deed.Deed.{Deed}
use Rattle.nob_model_types.specs.declared.deed.Deed.TheVariants.{Act, Clean, Open}
use Rattle.nob_model_types.specs.declared.turns.OwnerAnswer.{OwnerAnswer}
use Rattle.nob_model_types.specs.declared.turns.OwnerAnswer.TheVariants as said
use Rattle.nob_model_types.specs.declared.turns.Turns.{Turns}
use Rattle.nob_model_types.specs.Sessions.{is_peer, closed, item_at}

-- before anything was asked
abbrev pub no_turns : Turns
no_turns = record { dirties = 0; answers = 0; asks = false; last = said.Pending }

-- whether an owner's last answer was DirtyOk
abbrev pub is_yes : OwnerAnswer → Bool
is_yes said.Pending = false
is_yes said.Granted = true
is_yes said.Refused = false

-- whether it was DirtyNo
abbrev pub is_no : OwnerAnswer → Bool
is_no said.Pending = false
is_no said.Granted = false
is_no said.Refused = true

-- granted: the last of Dirty and Clean is a Dirty, each Dirty is answered, and the last answer is DirtyOk
abbrev pub is_granted : Turns → Bool
is_granted t = t.asks && t.answers == t.dirties && is_yes t.last

-- refused: the same with DirtyNo
abbrev pub is_refused : Turns → Bool
is_refused t = t.asks && t.answers == t.dirties && is_no t.last

-- pending: the last of Dirty and Clean is a Dirty, and one Dirty waits for its answer
abbrev pub is_pending : Turns → Bool
is_pending t = t.asks && t.answers + 1 == t.dirties

-- whether there is a surrogate: pending, granted or refused
abbrev pub is_standing : Turns → Bool
is_standing t = is_pending t || is_granted t || is_refused t

-- whether a reference gets a Dirty when space s acts on its item: it has no surrogate, and its owner is a peer on a session open here
abbrev pub wants_dirty : (s n : ℕ) → WireRep → List Deed → Turns → Bool
wants_dirty s n rep D before = is_peer s n rep.owner && not (closed rep.owner D) && not (is_standing before)

-- one Dirty more
abbrev pub with_dirty : Turns → Turns
with_dirty t = record { dirties = t.dirties + 1; answers = t.answers; asks = true; last = t.last }

-- one answer more
abbrev pub with_answer : OwnerAnswer → Turns → Turns
with_answer answer t = record { dirties = t.dirties; answers = t.answers + 1; asks = t.asks; last = answer }

-- the reference given up: the last of Dirty and Clean is no Dirty any more
abbrev pub with_clean : Turns → Turns
with_clean t = record { dirties = t.dirties; answers = t.answers; asks = false; last = t.last }

-- whether an item carries a reference
abbrev pub carries : WireRep → Item → Bool
carries rep item = list_any (is_same rep) (counted_in item)

-- whether a reference is the one to an object of p
abbrev pub names : WireRep → (p index : ℕ) → Bool
names rep p index = rep.owner == p && rep.index == index

-- the turns for a reference after an item from p was acted on
abbrev pub turns_after : (s n p : ℕ) → WireRep → Option Item → List Deed → Turns → Turns
turns_after s n p rep None D before = before
turns_after s n p rep (Some (items.Call call target method value)) D before = if carries rep (items.Call call target method value) && wants_dirty s n rep D before then with_dirty before else before
turns_after s n p rep (Some (items.Reply call status value)) D before = if carries rep (items.Reply call status value) && wants_dirty s n rep D before then with_dirty before else before
turns_after s n p rep (Some (items.Settle item)) D before = before
turns_after s n p rep (Some (items.Dirty index)) D before = before
turns_after s n p rep (Some (items.DirtyOk index)) D before = if names rep p index then with_answer said.Granted before else before
turns_after s n p rep (Some (items.DirtyNo index)) D before = if names rep p index then with_answer said.Refused before else before
turns_after s n p rep (Some (items.Clean index)) D before = before

-- the turns of space s, among n, for a reference, in the session with its owner
abbrev pub turns : (s n : ℕ) → WireRep → List Deed → Turns
turns s n rep [] = no_turns
turns s n rep (Open q k ∷ D) = if q == rep.owner then no_turns else turns s n rep D
turns s n rep (Act p k ∷ D) = turns_after s n p rep (item_at p k D) D (turns s n rep D)
turns s n rep (Clean other ∷ D) = if is_same rep other then with_clean (turns s n rep D) else turns s n rep D
turns s n rep (_ ∷ D) = turns s n rep D

-- own: the space is the owner
abbrev pub is_own : ℕ → WireRep → Bool
is_own s rep = rep.owner == s

-- usable by its surrogate: granted, on a session with the owner that is open here
abbrev pub is_usable : (s n : ℕ) → WireRep → List Deed → Bool
is_usable s n rep D = is_granted (turns s n rep D) && not (closed rep.owner D)

-- lost: not own, and its owner is no peer, or the session with the owner has closed here, or the owner refused it
abbrev pub is_lost : (s n : ℕ) → WireRep → List Deed → Bool
is_lost s n rep D = not (is_own s rep) && (not (is_peer s n rep.owner) || closed rep.owner D || is_refused (turns s n rep D))

-- resolved: own, usable or lost; else its answer is awaited
abbrev pub is_resolved : (s n : ℕ) → WireRep → List Deed → Bool
is_resolved s n rep D = is_own s rep || is_usable s n rep D || is_lost s n rep D
