-- How a reference stood before an item was acted on, by how it stands after.
use Rattle.std.proofs.Common.{◌≡◌, ℕ, ◌&&◌, ◌||◌, Bool, true, false, cond, List, Option, Some, None, refl, subst, ◌⊎◌, inl, inr}
use Rattle.std.proofs.lemmas.Bool.{and_parts, or_left, or_right, both_ways}
use Rattle.nob_ids.specs.declared.wire_rep.WireRep.{WireRep}
use Rattle.nob_item.specs.declared.item.Item.{Item}
use Rattle.nob_item.specs.declared.item.Item.TheVariants as items
use Rattle.nob_model_types.specs.declared.deed.Deed.{Deed}
use Rattle.nob_model_types.specs.declared.turns.Turns.{Turns}
use Rattle.nob_model_types.specs.declared.turns.OwnerAnswer.TheVariants as said
use Rattle.nob_model_types.specs.Turns.{turns, turns_after, is_pending, is_granted, is_refused, is_standing, with_dirty, with_answer, wants_dirty, names, carries}
use Rattle.nob_model_history.specs.Premises.{AnswersPending}
use Rattle.nob_model_history.proofs.Turning.{HaveShape, after_dirty, after_answer, named_ref, wanted_none}
use Rattle.nob_model_journal.specs.Losses.{is_carried, is_loss}

-- what is pending, granted or refused has a surrogate
pub pending_stands : (t : Turns) → is_pending t ≡ true → is_standing t ≡ true
pending_stands t is = or_left (is_pending t || is_granted t) (is_refused t) (or_left (is_pending t) (is_granted t) is)

pub granted_stands : (t : Turns) → is_granted t ≡ true → is_standing t ≡ true
granted_stands t is = or_left (is_pending t || is_granted t) (is_refused t) (or_right (is_pending t) (is_granted t) is)

pub refused_stands : (t : Turns) → is_refused t ≡ true → is_standing t ≡ true
refused_stands t is = or_right (is_pending t || is_granted t) (is_refused t) is

-- ---- without a surrogate

-- what has no surrogate after an item had none before, and the item asked for none
abbrev pub WasIdle : (s n : ℕ) → WireRep → Option Item → List Deed → Type 0
WasIdle s n rep found D = (is_standing (turns s n rep D) ≡ false) × ((is_carried rep found && wants_dirty s n rep D (turns s n rep D)) ≡ false)

dirty_idle : (b : Bool) (t : Turns) → HaveShape t → (b ≡ true → is_standing t ≡ false) → is_standing (cond b (with_dirty t) t) ≡ false → (is_standing t ≡ false) × (b ≡ false)
dirty_idle true t shape wanted none = absurd (both_ways _ none (pending_stands (with_dirty t) (after_dirty t shape (wanted refl)).1.0))
dirty_idle false t shape wanted none = (none, refl)

yes_idle : (b : Bool) (t : Turns) → (b ≡ true → is_pending t ≡ true) → is_standing (cond b (with_answer said.Granted t) t) ≡ false → is_standing t ≡ false
yes_idle true t pending none = absurd (both_ways _ none (granted_stands (with_answer said.Granted t) (after_answer said.Granted t (pending refl)).1))
yes_idle false t pending none = none

no_idle : (b : Bool) (t : Turns) → (b ≡ true → is_pending t ≡ true) → is_standing (cond b (with_answer said.Refused t) t) ≡ false → is_standing t ≡ false
no_idle true t pending none = absurd (both_ways _ none (refused_stands (with_answer said.Refused t) (after_answer said.Refused t (pending refl)).2))
no_idle false t pending none = none

-- the answer that is acted on is to a Dirty that waits for it
pub answered_pending : (s n p index : ℕ) (rep : WireRep) (D : List Deed) → is_pending (turns s n (record { owner = p; index = index }) D) ≡ true → names rep p index ≡ true → is_pending (turns s n rep D) ≡ true
answered_pending s n p index rep D pending named = subst (λ (r : WireRep). is_pending (turns s n r D) ≡ true) (named_ref rep p index named) pending

pub was_idle : (s n p : ℕ) (rep : WireRep) (found : Option Item) (D : List Deed) → AnswersPending s n p found D → HaveShape (turns s n rep D) → is_standing (turns_after s n p rep found D (turns s n rep D)) ≡ false → WasIdle s n rep found D
was_idle s n p rep None D answers shape none = (none, refl)
was_idle s n p rep (Some (items.Call call target method value)) D answers shape none = dirty_idle (carries rep (items.Call call target method value) && wants_dirty s n rep D (turns s n rep D)) (turns s n rep D) shape (λ both. wanted_none s n rep D (turns s n rep D) (and_parts _ _ both).1) none
was_idle s n p rep (Some (items.Reply call status value)) D answers shape none = dirty_idle (carries rep (items.Reply call status value) && wants_dirty s n rep D (turns s n rep D)) (turns s n rep D) shape (λ both. wanted_none s n rep D (turns s n rep D) (and_parts _ _ both).1) none
was_idle s n p rep (Some (items.Settle item)) D answers shape none = (none, refl)
was_idle s n p rep (Some (items.Dirty index)) D answers shape none = (none, refl)
was_idle s n p rep (Some (items.DirtyOk index)) D answers shape none = (yes_idle (names rep p index) (turns s n rep D) (answered_pending s n p index rep D answers) none, refl)
was_idle s n p rep (Some (items.DirtyNo index)) D answers shape none = (no_idle (names rep p index) (turns s n rep D) (answered_pending s n p index rep D answers) none, refl)
was_idle s n p rep (Some (items.Clean index)) D answers shape none = (none, refl)

-- ---- pending

-- what is pending after an item was pending before, or the item asked for it
abbrev pub WasPending : (s n : ℕ) → WireRep → Option Item → List Deed → Type 0
WasPending s n rep found D = (is_pending (turns s n rep D) ≡ true) ⊎ ((is_carried rep found && wants_dirty s n rep D (turns s n rep D)) ≡ true)

dirty_pending : (b : Bool) (t : Turns) → is_pending (cond b (with_dirty t) t) ≡ true → (is_pending t ≡ true) ⊎ (b ≡ true)
dirty_pending true t is = inr refl
dirty_pending false t is = inl is

answer_pending : (b : Bool) (t after : Turns) → (b ≡ true → is_pending t ≡ true) → is_pending (cond b after t) ≡ true → is_pending t ≡ true
answer_pending true t after pending is = pending refl
answer_pending false t after pending is = is

pub was_pending : (s n p : ℕ) (rep : WireRep) (found : Option Item) (D : List Deed) → AnswersPending s n p found D → is_pending (turns_after s n p rep found D (turns s n rep D)) ≡ true → WasPending s n rep found D
was_pending s n p rep None D answers is = inl is
was_pending s n p rep (Some (items.Call call target method value)) D answers is = dirty_pending (carries rep (items.Call call target method value) && wants_dirty s n rep D (turns s n rep D)) (turns s n rep D) is
was_pending s n p rep (Some (items.Reply call status value)) D answers is = dirty_pending (carries rep (items.Reply call status value) && wants_dirty s n rep D (turns s n rep D)) (turns s n rep D) is
was_pending s n p rep (Some (items.Settle item)) D answers is = inl is
was_pending s n p rep (Some (items.Dirty index)) D answers is = inl is
was_pending s n p rep (Some (items.DirtyOk index)) D answers is = inl (answer_pending (names rep p index) (turns s n rep D) (with_answer said.Granted (turns s n rep D)) (answered_pending s n p index rep D answers) is)
was_pending s n p rep (Some (items.DirtyNo index)) D answers is = inl (answer_pending (names rep p index) (turns s n rep D) (with_answer said.Refused (turns s n rep D)) (answered_pending s n p index rep D answers) is)
was_pending s n p rep (Some (items.Clean index)) D answers is = inl is

-- ---- refused

-- what is refused after an item is lost by it, or was refused before and the item doesn't carry it
abbrev pub WasRefused : (s n p : ℕ) → WireRep → Option Item → List Deed → Type 0
WasRefused s n p rep found D = (is_loss s n p rep found D ≡ true) ⊎ ((is_refused (turns s n rep D) ≡ true) × (is_carried rep found ≡ false))

dirty_refused : (carried wanted : Bool) (t : Turns) → HaveShape t → ((carried && wanted) ≡ true → is_standing t ≡ false) → is_refused (cond (carried && wanted) (with_dirty t) t) ≡ true → ((carried && is_refused t) ≡ true) ⊎ ((is_refused t ≡ true) × (carried ≡ false))
dirty_refused true true t shape none is = absurd (both_ways _ (after_dirty t shape (none refl)).1.2 is)
dirty_refused true false t shape none is = inl is
dirty_refused false wanted t shape none is = inr (is, refl)

yes_refused : (b : Bool) (t : Turns) → (b ≡ true → is_pending t ≡ true) → is_refused (cond b (with_answer said.Granted t) t) ≡ true → is_refused t ≡ true
yes_refused true t pending is = absurd (both_ways _ (after_answer said.Granted t (pending refl)).2 is)
yes_refused false t pending is = is

no_refused : (b : Bool) (t : Turns) → is_refused (cond b (with_answer said.Refused t) t) ≡ true → (b ≡ true) ⊎ ((is_refused t ≡ true) × (false ≡ false))
no_refused true t is = inl refl
no_refused false t is = inr (is, refl)

pub was_refused : (s n p : ℕ) (rep : WireRep) (found : Option Item) (D : List Deed) → AnswersPending s n p found D → HaveShape (turns s n rep D) → is_refused (turns_after s n p rep found D (turns s n rep D)) ≡ true → WasRefused s n p rep found D
was_refused s n p rep None D answers shape is = inr (is, refl)
was_refused s n p rep (Some (items.Call call target method value)) D answers shape is = dirty_refused (carries rep (items.Call call target method value)) (wants_dirty s n rep D (turns s n rep D)) (turns s n rep D) shape (λ both. wanted_none s n rep D (turns s n rep D) (and_parts _ _ both).1) is
was_refused s n p rep (Some (items.Reply call status value)) D answers shape is = dirty_refused (carries rep (items.Reply call status value)) (wants_dirty s n rep D (turns s n rep D)) (turns s n rep D) shape (λ both. wanted_none s n rep D (turns s n rep D) (and_parts _ _ both).1) is
was_refused s n p rep (Some (items.Settle item)) D answers shape is = inr (is, refl)
was_refused s n p rep (Some (items.Dirty index)) D answers shape is = inr (is, refl)
was_refused s n p rep (Some (items.DirtyOk index)) D answers shape is = inr (yes_refused (names rep p index) (turns s n rep D) (answered_pending s n p index rep D answers) is, refl)
was_refused s n p rep (Some (items.DirtyNo index)) D answers shape is = no_refused (names rep p index) (turns s n rep D) is
was_refused s n p rep (Some (items.Clean index)) D answers shape is = inr (is, refl)
