-- Client and owner take turns: how a reference stands after each deed of a right list.
use Rattle.std.proofs.Common.{◌≡◌, ℕ, ◌+◌, ◌&&◌, Bool, true, false, cond, List, [], ◌∷◌, Option, Some, None, refl, sym, ap, subst, ◌∙◌, arith, ◌⊎◌, inl, inr}
use Rattle.std.specs.Prelude.{◌==◌}
use Rattle.std.proofs.lemmas.Bool.{eqb-true, eq-eqb, ne_eqb, and_parts, and_left, and_right, or_parts, both_ways, not-true}
use Rattle.nob_ids.specs.Names.{is_same}
use Rattle.nob_ids.specs.declared.wire_rep.WireRep.{WireRep}
use Rattle.nob_item.specs.declared.item.Item.{Item}
use Rattle.nob_item.specs.declared.item.Item.TheVariants as items
use Rattle.nob_model_types.specs.declared.deed.Deed.{Deed}
use Rattle.nob_model_types.specs.declared.deed.Deed.TheVariants as did
use Rattle.nob_model_types.specs.declared.turns.OwnerAnswer.{OwnerAnswer}
use Rattle.nob_model_types.specs.declared.turns.OwnerAnswer.TheVariants as said
use Rattle.nob_model_types.specs.declared.turns.Turns.{Turns}
use Rattle.nob_model_types.specs.Sessions.{item_at}
use Rattle.nob_model_types.specs.Turns.{no_turns, is_yes, is_no, is_granted, is_refused, is_pending, is_standing, wants_dirty, with_dirty, with_answer, with_clean, carries, names, turns_after, turns}
use Rattle.nob_model_history.specs.Premises.{AnswersPending, TookTurns}

-- nothing is asked: as many answers as Dirties, and the last of Dirty and Clean is no Dirty
abbrev pub IsIdle : Turns → Type 0
IsIdle t = (t.asks ≡ false) × (t.answers ≡ t.dirties)

-- one Dirty waits for its answer
abbrev pub IsWaiting : Turns → Type 0
IsWaiting t = (t.asks ≡ true) × (t.answers + 1 ≡ t.dirties)

-- the last Dirty is answered
abbrev pub IsAnswered : Turns → Type 0
IsAnswered t = (t.asks ≡ true) × (t.answers ≡ t.dirties) × ((t.last ≡ said.Granted) ⊎ (t.last ≡ said.Refused))

-- the shapes that turns have in a right list
abbrev pub HaveShape : Turns → Type 0
HaveShape t = IsIdle t ⊎ (IsWaiting t ⊎ IsAnswered t)

-- how a reference stands: pending, granted, refused
abbrev pub Stands : Turns → (pending granted refused : Bool) → Type 0
Stands t pending granted refused = (is_pending t ≡ pending) × (is_granted t ≡ granted) × (is_refused t ≡ refused)

one_less : (a b : ℕ) → a ≡ b → (a + 1 == b) ≡ false
one_less a b same = ne_eqb (a + 1) b (λ e. omega (arith, e, same))

one_more : (a b : ℕ) → a + 1 ≡ b → (a == b) ≡ false
one_more a b same = ne_eqb a b (λ e. omega (arith, e, same))

three : (a b c : Bool) → a ≡ true → b ≡ true → (a && b && c) ≡ c
three true true c e f = refl
three true false c e f = cc
three false b c e f = cc

three_first : (a b c : Bool) → a ≡ false → (a && b && c) ≡ false
three_first true b c e = cc
three_first false b c e = refl

three_second : (a b c : Bool) → b ≡ false → (a && b && c) ≡ false
three_second true true c e = cc
three_second true false c e = refl
three_second false b c e = refl

-- where nothing is asked there is no surrogate
pub idle_stands : (t : Turns) → IsIdle t → Stands t false false false
idle_stands t idle = (and_left _ _ idle.0, three_first t.asks (t.answers == t.dirties) (is_yes t.last) idle.0, three_first t.asks (t.answers == t.dirties) (is_no t.last) idle.0)

-- where one Dirty waits the reference is pending
pub waiting_stands : (t : Turns) → IsWaiting t → Stands t true false false
waiting_stands t waits = (
  ap (λ (b : Bool). b && t.answers + 1 == t.dirties) waits.0 ∙ eq-eqb _ _ waits.1,
  three_second t.asks (t.answers == t.dirties) (is_yes t.last) (one_more t.answers t.dirties waits.1),
  three_second t.asks (t.answers == t.dirties) (is_no t.last) (one_more t.answers t.dirties waits.1),
)

-- where the last Dirty is answered the last answer says how it stands
pub answered_stands : (t : Turns) → t.asks ≡ true → t.answers ≡ t.dirties → Stands t false (is_yes t.last) (is_no t.last)
answered_stands t asks same = (
  and_right _ _ (one_less t.answers t.dirties same),
  three t.asks (t.answers == t.dirties) (is_yes t.last) asks (eq-eqb _ _ same),
  three t.asks (t.answers == t.dirties) (is_no t.last) asks (eq-eqb _ _ same),
)

no_answer : (t : Turns) → t.asks ≡ true → t.answers ≡ t.dirties → (t.last ≡ said.Granted) ⊎ (t.last ≡ said.Refused) → is_standing t ≡ false → ⊥
no_answer t asks same (inl ok) none = both_ways _ (or_parts _ _ (or_parts _ _ none).0).1 ((answered_stands t asks same).1 ∙ ap is_yes ok)
no_answer t asks same (inr denied) none = both_ways _ (or_parts _ _ none).1 ((answered_stands t asks same).2 ∙ ap is_no denied)

-- a reference without a surrogate has been asked for and answered as often
pub not_standing_idle : (t : Turns) → HaveShape t → is_standing t ≡ false → IsIdle t
not_standing_idle t (inl idle) none = idle
not_standing_idle t (inr (inl waits)) none = absurd (both_ways _ (or_parts _ _ (or_parts _ _ none).0).0 (waiting_stands t waits).0)
not_standing_idle t (inr (inr answered)) none = absurd (no_answer t answered.0 answered.1 answered.2 none)

-- a pending one waits
pub pending_waits : (t : Turns) → is_pending t ≡ true → IsWaiting t
pending_waits t pending = let parts = and_parts _ _ pending in (parts.0, eqb-true _ _ parts.1)

-- a granted one is answered
pub granted_answered : (t : Turns) → is_granted t ≡ true → (t.asks ≡ true) × (t.answers ≡ t.dirties)
granted_answered t granted = let parts = and_parts _ _ (and_parts _ _ granted).0 in (parts.0, eqb-true _ _ parts.1)

-- ---- one turn more

-- a Dirty for a reference without a surrogate makes it pending
pub after_dirty : (t : Turns) → HaveShape t → is_standing t ≡ false → IsWaiting (with_dirty t) × Stands (with_dirty t) true false false
after_dirty t shape none =
    let idle = not_standing_idle t shape none in
    let waits : IsWaiting (with_dirty t) = (refl, ap (λ (m : ℕ). m + 1) idle.1) in
    (waits, waiting_stands (with_dirty t) waits)

-- an answer to a pending one makes it granted or refused
pub after_answer : (answer : OwnerAnswer) (t : Turns) → is_pending t ≡ true → Stands (with_answer answer t) false (is_yes answer) (is_no answer)
after_answer answer t pending = let waits = pending_waits t pending in answered_stands (with_answer answer t) waits.0 waits.1

-- a Clean of a granted one leaves no surrogate
pub after_clean : (t : Turns) → is_granted t ≡ true → IsIdle (with_clean t) × Stands (with_clean t) false false false
after_clean t granted =
    let idle : IsIdle (with_clean t) = (refl, (granted_answered t granted).1) in
    (idle, idle_stands (with_clean t) idle)

-- ---- a history

-- two references that are the same are one
pub same_ref : (a b : WireRep) → is_same a b ≡ true → a ≡ b
same_ref a b same =
    let parts = and_parts (a.owner == b.owner) (a.index == b.index) same in
    let make : ℕ → ℕ → WireRep = λ owner index. record { owner = owner; index = index } in
    ap (λ (owner : ℕ). make owner a.index) (eqb-true a.owner b.owner parts.0) ∙ ap (λ (index : ℕ). make b.owner index) (eqb-true a.index b.index parts.1)

-- a reference that is named by its owner and index
pub named_ref : (rep : WireRep) (p index : ℕ) → names rep p index ≡ true → record { owner = p; index = index } ≡ rep
named_ref rep p index named =
    let parts = and_parts (rep.owner == p) (rep.index == index) named in
    let make : ℕ → ℕ → WireRep = λ owner index. record { owner = owner; index = index } in
    sym (ap (λ (owner : ℕ). make owner rep.index) (eqb-true rep.owner p parts.0) ∙ ap (λ (i : ℕ). make p i) (eqb-true rep.index index parts.1))

message_shape : (b : Bool) (t : Turns) → (b ≡ true → is_standing t ≡ false) → HaveShape t → HaveShape (cond b (with_dirty t) t)
message_shape true t none shape = inr (inl (after_dirty t shape (none refl)).0)
message_shape false t none shape = shape

-- what wants a Dirty has no surrogate
pub wanted_none : (s n : ℕ) (rep : WireRep) (D : List Deed) (t : Turns) → wants_dirty s n rep D t ≡ true → is_standing t ≡ false
wanted_none s n rep D t wanted = not-true _ (and_parts _ _ wanted).1

answer_shape : (answer : OwnerAnswer) → (answer ≡ said.Granted) ⊎ (answer ≡ said.Refused) → (b : Bool) (t : Turns) → (b ≡ true → is_pending t ≡ true) → HaveShape t → HaveShape (cond b (with_answer answer t) t)
answer_shape answer which true t pending shape = let waits = pending_waits t (pending refl) in inr (inr (waits.0, waits.1, which))
answer_shape answer which false t pending shape = shape

-- after an item from a peer was acted on the turns have their shape
item_shape : (s n p : ℕ) (rep : WireRep) (item : Option Item) (D : List Deed) → AnswersPending s n p item D → HaveShape (turns s n rep D) → HaveShape (turns_after s n p rep item D (turns s n rep D))
item_shape s n p rep None D answers shape = shape
item_shape s n p rep (Some (items.Call call target method value)) D answers shape = message_shape (carries rep (items.Call call target method value) && wants_dirty s n rep D (turns s n rep D)) (turns s n rep D) (λ both. wanted_none s n rep D (turns s n rep D) (and_parts _ _ both).1) shape
item_shape s n p rep (Some (items.Reply call status value)) D answers shape = message_shape (carries rep (items.Reply call status value) && wants_dirty s n rep D (turns s n rep D)) (turns s n rep D) (λ both. wanted_none s n rep D (turns s n rep D) (and_parts _ _ both).1) shape
item_shape s n p rep (Some (items.Settle item)) D answers shape = shape
item_shape s n p rep (Some (items.Dirty index)) D answers shape = shape
item_shape s n p rep (Some (items.DirtyOk index)) D answers shape = answer_shape said.Granted (inl refl) (names rep p index) (turns s n rep D) (λ named. subst (λ (r : WireRep). is_pending (turns s n r D) ≡ true) (named_ref rep p index named) answers) shape
item_shape s n p rep (Some (items.DirtyNo index)) D answers shape = answer_shape said.Refused (inr refl) (names rep p index) (turns s n rep D) (λ named. subst (λ (r : WireRep). is_pending (turns s n r D) ≡ true) (named_ref rep p index named) answers) shape
item_shape s n p rep (Some (items.Clean index)) D answers shape = shape

clean_shape : (b : Bool) (t : Turns) → (b ≡ true → is_granted t ≡ true) → HaveShape t → HaveShape (cond b (with_clean t) t)
clean_shape true t granted shape = inl (after_clean t (granted refl)).0
clean_shape false t granted shape = shape

opened_shape : (b : Bool) (t : Turns) → HaveShape t → HaveShape (cond b no_turns t)
opened_shape true t shape = inl (refl, refl)
opened_shape false t shape = shape

-- in a list in which client and owner took turns all turns have their shape
pub shapes : (s n : ℕ) (rep : WireRep) (D : List Deed) → TookTurns s n D → HaveShape (turns s n rep D)
shapes s n rep [] took = inl (refl, refl)
shapes s n rep (did.Act p k ∷ D) took = item_shape s n p rep (item_at p k D) D took.0 (shapes s n rep D took.1)
shapes s n rep (did.Clean other ∷ D) took = clean_shape (is_same rep other) (turns s n rep D) (λ same. subst (λ (r : WireRep). is_granted (turns s n r D) ≡ true) (sym (same_ref rep other same)) took.0) (shapes s n rep D took.1)
shapes s n rep (did.Open q k ∷ D) took = opened_shape (q == rep.owner) (turns s n rep D) (shapes s n rep D took)
shapes s n rep (deed ∷ D) took = shapes s n rep D took
