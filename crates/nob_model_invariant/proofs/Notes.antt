-- Which deeds give notes only: all but Call, Finish and Settle.
use Rattle.std.proofs.Common.{◌≡◌, ℕ, Bool, true, false, cond, List, [], ◌∷◌, map, Option, Some, None, refl}
use Rattle.std.specs.List.{AllByRecursion}
use Rattle.nob_ids.specs.declared.wire_rep.WireRep.{WireRep}
use Rattle.nob_item.specs.Kinds.{is_note, counted_in}
use Rattle.nob_item.specs.declared.item.Item.{Item}
use Rattle.nob_item.specs.declared.item.Item.TheVariants as items
use Rattle.nob_model_types.specs.declared.deed.Deed.{Deed}
use Rattle.nob_model_types.specs.declared.deed.Deed.TheVariants as did
use Rattle.nob_model_types.specs.Sessions.{item_at}
use Rattle.nob_model_types.specs.Objects.{is_live, is_exported}
use Rattle.nob_model_types.specs.Turns.{turns}
use Rattle.nob_model_work.specs.declared.gifts.Gift.{Gift}
use Rattle.nob_model_work.specs.declared.work.Outstanding.{Outstanding}
use Rattle.nob_model_work.specs.Gifts.{dirty_for, dirties_for, answer_to, gifts_of_act, gifts_of}

-- gifts that are notes
abbrev pub AreNotes : List Gift → Type 0
AreNotes more = AllByRecursion (λ (gift : Gift). is_note gift.item ≡ true) more

dirty_notes : (reps : List WireRep) → AreNotes (map dirty_for reps)
unfolding dirty_for
dirty_notes [] = tt
dirty_notes (rep ∷ reps) = (refl, dirty_notes reps)

wanted_notes : (s n : ℕ) (D : List Deed) (reps : List WireRep) → AreNotes (dirties_for s n D reps)
unfolding dirties_for
wanted_notes s n D reps = dirty_notes _

answer_notes : (p index : ℕ) (alive known : Bool) → AreNotes (cond alive (record { to = p; item = items.DirtyOk index } ∷ []) (cond known (record { to = p; item = items.DirtyNo index } ∷ []) []))
answer_notes p index true known = (refl, tt)
answer_notes p index false true = (refl, tt)
answer_notes p index false false = tt

act_notes : (s n p : ℕ) (D : List Deed) (found : Option Item) → AreNotes (gifts_of_act s n p D found)
unfolding gifts_of_act answer_to
act_notes s n p D None = tt
act_notes s n p D (Some (items.Call call target method value)) = wanted_notes s n D (counted_in (items.Call call target method value))
act_notes s n p D (Some (items.Reply call status value)) = wanted_notes s n D (counted_in (items.Reply call status value))
act_notes s n p D (Some (items.Settle item)) = tt
act_notes s n p D (Some (items.Dirty index)) = answer_notes p index (is_live s index D) (is_exported s index D)
act_notes s n p D (Some (items.DirtyOk index)) = tt
act_notes s n p D (Some (items.DirtyNo index)) = tt
act_notes s n p D (Some (items.Clean index)) = tt

clean_notes : (rep : WireRep) (asks : Bool) → AreNotes (cond asks (record { to = rep.owner; item = items.Clean rep.index } ∷ []) [])
clean_notes rep true = (refl, tt)
clean_notes rep false = tt

-- whether a deed may give a Call or a Reply
abbrev pub may_speak : Deed → Bool
may_speak (did.Call target method value call) = true
may_speak (did.Finish job outcome) = true
may_speak (did.Settle p k) = true
may_speak (_) = false

-- the others give notes only
pub gives_notes : (s n : ℕ) (deed : Deed) (D : List Deed) (W : Outstanding) → may_speak deed ≡ false → AreNotes (gifts_of s n deed D W)
unfolding gifts_of
gives_notes s n (did.Call target method value call) D W none = cc
gives_notes s n (did.Finish job outcome) D W none = cc
gives_notes s n (did.Settle p k) D W none = cc
gives_notes s n (did.Act p k) D W none = act_notes s n p D (item_at p k D)
gives_notes s n (did.Clean rep) D W none = clean_notes rep (turns s n rep D).asks
gives_notes s n deed D W none = tt
