-- The settlements say which items were settled.
use Rattle.std.proofs.Common.{◌≡◌, ◌&&◌, ◌||◌, ℕ, Bool, true, false, cond, List, [], ◌∷◌, Option, Some, None, refl, sym, ap, ◌∙◌}
use Rattle.std.specs.Prelude.{◌==◌}
use Rattle.std.proofs.lemmas.Bool.{eqb-true, and_parts}
use Rattle.nob_item.specs.declared.item.Item.{Item}
use Rattle.nob_item.specs.declared.item.Item.TheVariants as items
use Rattle.nob_model_types.specs.declared.deed.Deed.{Deed}
use Rattle.nob_model_types.specs.declared.deed.Deed.TheVariants.{Act, Open}
use Rattle.nob_model_history.specs.Transit.{is_settle_of, is_settled}
use Rattle.nob_check_tables.specs.Came.{item_in}
use Rattle.nob_check_tables.specs.Tables.{tables_of}
use Rattle.nob_check_tables.proofs.Looking.{any_without}
use Rattle.nob_check_tables.proofs.Sessions.{item_is}
use Rattle.nob_check_index.specs.Settlements.{is_same_settlement, is_settlement, with_item, settlements_of}
use Rattle.nob_check_index.specs.declared.settlements.Settlement.{Settlement}
use Rattle.nob_check_index.proofs.Keys.{among_put, equal_swap}

same_settlement : (a b : Settlement) → is_same_settlement a b ≡ true → a ≡ b
same_settlement a b h =
    let parts = and_parts (a.peer == b.peer) (a.number == b.number) h in
    let one : a.peer ≡ b.peer = eqb-true a.peer b.peer parts.0 in
    let two : a.number ≡ b.number = eqb-true a.number b.number parts.1 in
    λ i. record { peer = one i; number = two i }

-- an item that is no Settle
none_more : (test rest : Bool) → rest ≡ ((test && false) || rest)
none_more true rest = refl
none_more false rest = refl

-- once an item from q was acted on
settled_with : (p k q : ℕ) (item : Option Item) (settlements : List Settlement) → is_settlement p k (with_item q item settlements) ≡ ((q == p && is_settle_of k item) || is_settlement p k settlements)
settled_with p k q None settlements = none_more (q == p) (is_settlement p k settlements)
settled_with p k q (Some (items.Call call target method value)) settlements = none_more (q == p) (is_settlement p k settlements)
settled_with p k q (Some (items.Reply call status value)) settlements = none_more (q == p) (is_settlement p k settlements)
settled_with p k q (Some (items.Settle item)) settlements =
    among_put is_same_settlement same_settlement (record { peer = p; number = k }) (record { peer = q; number = item }) settlements
    ∙ (λ i. (equal_swap p q i && equal_swap k item i) || is_settlement p k settlements)
settled_with p k q (Some (items.Dirty index)) settlements = none_more (q == p) (is_settlement p k settlements)
settled_with p k q (Some (items.DirtyOk index)) settlements = none_more (q == p) (is_settlement p k settlements)
settled_with p k q (Some (items.DirtyNo index)) settlements = none_more (q == p) (is_settlement p k settlements)
settled_with p k q (Some (items.Clean index)) settlements = none_more (q == p) (is_settlement p k settlements)

-- whether item k to p was settled
pub settled_is : (s n p k : ℕ) (D : List Deed) → is_settlement p k (settlements_of s n D) ≡ is_settled p k D
settled_is s n p k [] = refl
settled_is s n p k (Act q j ∷ D) =
    settled_with p k q (item_in q j (tables_of s n D).came) (settlements_of s n D)
    ∙ (λ i. (q == p && is_settle_of k (item_is s n q j D i)) || settled_is s n p k D i)
settled_is s n p k (Open q j ∷ D) =
    any_without (is_same_settlement (record { peer = p; number = k })) (λ (one : Settlement). q == one.peer) (q == p) (λ one is. ap (λ (x : Settlement). q == x.peer) (sym (same_settlement (record { peer = p; number = k }) one is))) (settlements_of s n D)
    ∙ ap (λ (b : Bool). cond (q == p) false b) (settled_is s n p k D)
settled_is s n p k (_ ∷ D) = settled_is s n p k D
