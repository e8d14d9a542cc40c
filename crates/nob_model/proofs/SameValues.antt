-- Values that are the same to the test are the same.
use Rattle.std.proofs.Common.{◌≡◌, ◌↔◌, ◌&&◌, true, true≢false, refl, sym, ap, subst}
use Rattle.std.proofs.lemmas.Bool.{and_parts, and_from}
use Rattle.std.proofs.lemmas.Bool.Decides.{Decides-int_eq}
use Rattle.std.proofs.lemmas.Slice.Eq.{bytes_eq-Decides}
use Rattle.nob_pickle.specs.Shape.{tree}
use Rattle.nob_pickle.specs.Trees.{Tree, Trees, unit, int, bytes, list, ref, none, more}
use Rattle.nob_pickle.specs.declared.value.Value.{Value}
use Rattle.nob_pickle.proofs.Forests as forests
use Rattle.nob_ids.specs.Names.{is_same}
use Rattle.nob_ids.specs.declared.wire_rep.WireRep.{WireRep}
use Rattle.std.proofs.lemmas.Bool.{eqb-true, eq-eqb}
use Rattle.std.specs.Prelude.{◌==◌}
use Rattle.nob_model_types.specs.Same.{same_tree, same_trees, same_value}

ref_is : (a b : WireRep) → is_same a b ≡ true → a ≡ b
ref_is a b h =
    let parts = and_parts (a.owner == b.owner) (a.index == b.index) h in
    let one : a.owner ≡ b.owner = eqb-true a.owner b.owner parts.0 in
    let two : a.index ≡ b.index = eqb-true a.index b.index parts.1 in
    λ i. record { owner = one i; index = two i }

ref_self : (a : WireRep) → is_same a a ≡ true
ref_self a = and_from (a.owner == a.owner) (a.index == a.index) (eq-eqb a.owner a.owner refl) (eq-eqb a.index a.index refl)

mutual
  tree_is : (a b : Tree) → same_tree a b ≡ true → a ≡ b
  tree_is unit unit h = refl
  tree_is (int a) (int b) h = ap int ((Decides-int_eq a b).0 h)
  tree_is (bytes a) (bytes b) h = ap bytes ((bytes_eq-Decides a b).0 h)
  tree_is (list a) (list b) h = ap list (trees_are a b h)
  tree_is (ref a) (ref b) h = ap ref (ref_is a b h)
  tree_is _ _ h = absurd (true≢false (sym h))

  trees_are : (a b : Trees) → same_trees a b ≡ true → a ≡ b
  trees_are none none h = refl
  trees_are (more t ts) (more u us) h =
      let parts = and_parts (same_tree t u) (same_trees ts us) h in
      let first : t ≡ u = tree_is t u parts.0 in
      let rest : ts ≡ us = trees_are ts us parts.1 in
      cc
  trees_are _ _ h = absurd (true≢false (sym h))

mutual
  tree_self : (t : Tree) → same_tree t t ≡ true
  tree_self unit = refl
  tree_self (int a) = (Decides-int_eq a a).1 refl
  tree_self (bytes a) = (bytes_eq-Decides a a).1 refl
  tree_self (list a) = trees_self a
  tree_self (ref a) = ref_self a

  trees_self : (ts : Trees) → same_trees ts ts ≡ true
  trees_self none = refl
  trees_self (more t ts) = and_from (same_tree t t) (same_trees ts ts) (tree_self t) (trees_self ts)

-- values that are the same to the test are the same
pub value_same : (v w : Value) → (same_value v w ≡ true) ↔ (v ≡ w)
value_same v w = (λ h. forests.same_value v w (tree_is (tree v) (tree w) h), λ same. subst (λ (x : Value). same_value v x ≡ true) same (tree_self (tree v)))
