-- Items that are the same to the test are the same.
use Rattle.std.proofs.Common.{◌≡◌, ◌&&◌, true, true≢false, refl, sym, ap}
use Rattle.std.specs.Prelude.{◌==◌}
use Rattle.std.proofs.lemmas.Bool.{and_parts, and_from, eqb-true, eq-eqb}
use Rattle.nob_pickle.specs.declared.value.Value.{Value}
use Rattle.nob_item.specs.declared.item.Item.{Item}
use Rattle.nob_item.specs.declared.item.Item.TheVariants as items
use Rattle.nob_model_types.specs.Same.{same_value}
use Rattle.nob_model.proofs.SameValues.{value_same}
use Rattle.nob_model_journal.specs.Tests.{same_item}

-- values that are the same to the test are the same
value_is : (v w : Value) → same_value v w ≡ true → v ≡ w
value_is v w h = (value_same v w).0 h

-- a value is the same as itself to the test
value_self : (v : Value) → same_value v v ≡ true
value_self v = (value_same v v).1 refl

-- items that are the same to the test are the same
pub item_is : (a b : Item) → same_item a b ≡ true → a ≡ b
item_is (items.Call call target method value) (items.Call call2 target2 method2 value2) h =
    let last = and_parts (call == call2 && target == target2 && method == method2) (same_value value value2) h in
    let third = and_parts (call == call2 && target == target2) (method == method2) last.0 in
    let second = and_parts (call == call2) (target == target2) third.0 in
    let calls = eqb-true call call2 second.0 in
    let targets = eqb-true target target2 second.1 in
    let methods = eqb-true method method2 third.1 in
    let values = value_is value value2 last.1 in
    cc
item_is (items.Reply call status value) (items.Reply call2 status2 value2) h =
    let last = and_parts (call == call2 && status == status2) (same_value value value2) h in
    let second = and_parts (call == call2) (status == status2) last.0 in
    let calls = eqb-true call call2 second.0 in
    let statuses = eqb-true status status2 second.1 in
    let values = value_is value value2 last.1 in
    cc
item_is (items.Settle a) (items.Settle b) h = ap items.Settle (eqb-true a b h)
item_is (items.Dirty a) (items.Dirty b) h = ap items.Dirty (eqb-true a b h)
item_is (items.DirtyOk a) (items.DirtyOk b) h = ap items.DirtyOk (eqb-true a b h)
item_is (items.DirtyNo a) (items.DirtyNo b) h = ap items.DirtyNo (eqb-true a b h)
item_is (items.Clean a) (items.Clean b) h = ap items.Clean (eqb-true a b h)
item_is _ _ h = absurd (true≢false (sym h))

pub item_self : (a : Item) → same_item a a ≡ true
item_self (items.Call call target method value) =
    and_from _ _ (and_from _ _ (and_from _ _ (eq-eqb call call refl) (eq-eqb target target refl)) (eq-eqb method method refl)) (value_self value)
item_self (items.Reply call status value) = and_from _ _ (and_from _ _ (eq-eqb call call refl) (eq-eqb status status refl)) (value_self value)
item_self (items.Settle a) = eq-eqb a a refl
item_self (items.Dirty a) = eq-eqb a a refl
item_self (items.DirtyOk a) = eq-eqb a a refl
item_self (items.DirtyNo a) = eq-eqb a a refl
item_self (items.Clean a) = eq-eqb a a refl
