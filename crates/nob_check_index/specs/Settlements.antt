-- Which items that a space sent were settled: their Settle came and was acted on.
use Rattle.std.specs.Prelude.{ℕ, Bool, ◌&&◌, ◌==◌, not, List, [], ◌∷◌, filter, Option, Some, None}
use Rattle.std.specs.List.{list_any}
use Rattle.indexmap.specs.IndexSet.{insert_key}
use Rattle.nob_item.specs.declared.item.Item.{Item}
use Rattle.nob_item.specs.declared.item.Item.TheVariants as items
use Rattle.nob_model_types.specs.declared.deed.Deed.{Deed}
use Rattle.nob_model_types.specs.declared.deed.Deed.TheVariants.{Act, Open}
use Rattle.nob_check_tables.specs.Came.{item_in}
use Rattle.nob_check_tables.specs.Tables.{tables_of}
use Rattle.nob_check_tables.specs.declared.came.Arrival.{Arrival}
use Rattle.nob_check_index.specs.declared.settlements.Settlement.{Settlement}

-- whether two are of one item
abbrev pub is_same_settlement : Settlement → Settlement → Bool
is_same_settlement one other = one.peer == other.peer && one.number == other.number

-- whether p settled item k
abbrev pub is_settlement : (p k : ℕ) → List Settlement → Bool
is_settlement p k settlements = list_any (is_same_settlement (record { peer = p; number = k })) settlements

-- these with one more, unless it is one of them
abbrev pub with_settlement : Settlement → List Settlement → List Settlement
with_settlement settlement settlements = insert_key is_same_settlement settlements settlement

-- these once an item from p was acted on
abbrev pub with_item : ℕ → Option Item → List Settlement → List Settlement
with_item p None settlements = settlements
with_item p (Some (items.Call call target method value)) settlements = settlements
with_item p (Some (items.Reply call status value)) settlements = settlements
with_item p (Some (items.Settle item)) settlements = with_settlement (record { peer = p; number = item }) settlements
with_item p (Some (items.Dirty index)) settlements = settlements
with_item p (Some (items.DirtyOk index)) settlements = settlements
with_item p (Some (items.DirtyNo index)) settlements = settlements
with_item p (Some (items.Clean index)) settlements = settlements

-- these without those of p
abbrev pub without_peer : ℕ → List Settlement → List Settlement
without_peer p settlements = filter (λ settlement. not (p == settlement.peer)) settlements

-- these after a deed, by what came before it
abbrev pub settlements_after : Deed → List (Arrival × Option Item) → List Settlement → List Settlement
settlements_after (Act p k) came settlements = with_item p (item_in p k came) settlements
settlements_after (Open p k) came settlements = without_peer p settlements
settlements_after (_) came settlements = settlements

-- the items that were settled at space s, among n
abbrev pub settlements_of : (s n : ℕ) → List Deed → List Settlement
settlements_of s n [] = []
settlements_of s n (deed ∷ D) = settlements_after deed (tables_of s n D).came (settlements_of s n D)
