use Rattle.std.proofs.lemmas.List.{nil_from_length}
use Rattle.std.proofs.Common.{arith, ◌≡◌, ◌++◌, ◌∷◌, [], ◌≤◌, List, ℕ, sym, ap, subst, ◌∙◌, refl}
use Rattle.nob_pickle.specs.Trees.{Tree, Trees, unit, list, int, bytes, ref, more}
use Rattle.nob_pickle.specs.Shape.{tree, forest}
use Rattle.nob_pickle.specs.declared.value.Value.{Value}
use Rattle.nob_model_text.specs.Reading.{Reads}
use Rattle.nob_model_text.specs.Values.{behind_text, tree_text, inside_text, AreTyped, most_nested}
use Rattle.nob_model_text.proofs.Read.{deep_more, typed_more, found_first, found_next, found_end, only_first, only_next, only_end, unread_first, unread_next, no_end, by_error, passed, FoundSoFar, OnlySoFar, by_unit, by_int, by_bytes, by_rep, by_list, by_none, some_text, by_end, by_elements}
use Rattle.nob_model_text.proofs.value_reading.+reading.Goals as goal

pub value_by-returns-in-117-clause-only : goal.value_by-returns-in-117-clause-only
value_by-returns-in-117-clause-only t c u rest typed deep stops spelt =
    by_unit (λ (v : Tree). (unit ≡ v) × (c.args.text.now ≡ rest)) u c.args.text.now rest (ap (λ (b : ℕ). b ∷ c.args.text.now) (sym c.in-117.is) ∙ spelt) (λ e. (refl, e))

pub value_by-returns-in-105-clause-only : goal.value_by-returns-in-105-clause-only
value_by-returns-in-105-clause-only t c u rest typed deep stops spelt =
    by_int (λ (v : Tree). Reads (λ parts. (tree parts.0 ≡ v) × (parts.1.now ≡ rest)) c.int_value.result) u c.args.text.now rest typed (ap (λ (b : ℕ). b ∷ c.args.text.now) (sym c.in-105.is) ∙ spelt)
    (λ n fits is. c.int_value.ensures.only n rest fits stops is)

pub value_by-returns-in-98-clause-only : goal.value_by-returns-in-98-clause-only
value_by-returns-in-98-clause-only t c u rest typed deep stops spelt =
    by_bytes (λ (v : Tree). Reads (λ parts. (tree parts.0 ≡ v) × (parts.1.now ≡ rest)) c.bytes_value.result) u c.args.text.now rest typed (ap (λ (b : ℕ). b ∷ c.args.text.now) (sym c.in-98.is) ∙ spelt)
    (λ bs fits is. c.bytes_value.ensures.only bs rest fits stops is)

pub value_by-returns-in-114-clause-only : goal.value_by-returns-in-114-clause-only
value_by-returns-in-114-clause-only t c u rest typed deep stops spelt =
    by_rep (λ (v : Tree). Reads (λ parts. (tree parts.0 ≡ v) × (parts.1.now ≡ rest)) c.rep_value.result) u c.args.text.now rest typed (ap (λ (b : ℕ). b ∷ c.args.text.now) (sym c.in-114.is) ∙ spelt)
    (λ r owner index is. c.rep_value.ensures.only r rest owner index stops is)

pub value_by-returns-in-91-clause-only : goal.value_by-returns-in-91-clause-only
value_by-returns-in-91-clause-only t c u rest typed deep stops spelt =
    by_list (λ (v : Tree). Reads (λ parts. (tree parts.0 ≡ v) × (parts.1.now ≡ rest)) c.list_value.result) u c.args.lists c.args.text.now rest typed deep (ap (λ (b : ℕ). b ∷ c.args.text.now) (sym c.in-91.is) ∙ spelt)
    (λ ts are less is. c.list_value.ensures.only ts rest are less is)

pub value_by-returns-in_default-clause-only : goal.value_by-returns-in_default-clause-only
value_by-returns-in_default-clause-only t c u rest typed deep stops spelt =
    by_none u c.args.first c.args.text.now rest spelt (λ e. omega (arith, e)) (λ e. omega (arith, e)) (λ e. omega (arith, e)) (λ e. omega (arith, e)) (λ e. omega (arith, e))

pub value_at-returns-in_default-clause-only : goal.value_at-returns-in_default-clause-only
value_at-returns-in_default-clause-only t c u rest typed deep stops spelt = some_text u rest (sym (nil_from_length c.args.text.now c.in_default.ensures.cases) ∙ spelt)

pub elements_at-returns-in-Some-clause-only : goal.elements_at-returns-in-Some-clause-only
elements_at-returns-in-Some-clause-only t c ts rest are deep spelt =
    let e = by_end ts c.args.text.now c.in-Some.rest.now rest c.in-Some.ensures spelt in
    (c.from_vec.ensures ∙ ap forest c.new.ensures.items ∙ sym e.0, e.1)

pub elements_at-returns-clause-only : goal.elements_at-returns-clause-only
elements_at-returns-clause-only t c ts rest are deep spelt =
    by_elements (λ (us : Trees). Reads (λ parts. (parts.0 ≡ us) × (parts.1.now ≡ rest)) c.some_elements_at.result) ts c.args.text.now rest c.in_default.ensures spelt
    (λ u us is. c.some_elements_at.ensures.only u us rest (subst AreTyped is are) (subst (λ (vs : Trees). most_nested vs ≤ c.args.lists) is deep) (spelt ∙ ap (λ (vs : Trees). inside_text vs ++ rest) is))

pub some_elements_at-returns-in_err-first-clause-only : goal.some_elements_at-returns-in_err-first-clause-only
some_elements_at-returns-in_err-first-clause-only t c u ts end typed deep spelt =
    passed _ c.from_residual.result c.in_err-first.field-0.0 c.from_residual.ensures.1
    (unread_first c.args.lists c.args.text.now c.in_err-first.field-0.0 (λ v rest is low stops text. by_error _ (c.in_err-first.ensures.only v rest is low stops text)) u ts end typed deep spelt)

pub some_elements_at-loop-next-init : goal.some_elements_at-loop-next-init
some_elements_at-loop-next-init t c =
    let items : c.push.new.self.items ≡ [] ++ c.in_ok-first.first ∷ [] = c.in_ok-push.ensures.items ∙ ap (λ (vs : List Value). vs ++ c.in_ok-first.first ∷ []) c.new-values.ensures.items in
    subst (λ (vs : List Value). FoundSoFar c.args.text.now (forest vs) c.in_ok-first.after_first.now × OnlySoFar c.args.lists c.args.text.now (forest vs) c.in_ok-first.after_first.now × (most_nested (forest vs) ≤ c.args.lists) × AreTyped (forest vs)) (sym items)
    (found_first c.args.text.now c.in_ok-first.after_first.now c.in_ok-first.first c.in_ok-first.ensures.found, only_first c.args.lists c.args.text.now c.in_ok-first.after_first.now c.in_ok-first.first c.in_ok-first.ensures.only, deep_more c.args.lists [] c.in_ok-first.first (omega arith) c.in_ok-first.ensures.deep, typed_more [] c.in_ok-first.first tt c.in_ok-first.ensures.typed)

pub some_elements_at-returns-in_err-value-clause-only : goal.some_elements_at-returns-in_err-value-clause-only
some_elements_at-returns-in_err-value-clause-only t c u ts end typed deep spelt =
    passed _ c.from_residual-in_err-value.result c.in_err-value.field-0.0 c.from_residual-in_err-value.ensures.1
    (unread_next c.args.lists c.args.text.now c.loop-next.left.now c.in-Some.next.now (forest c.loop-next.values.items) c.in_err-value.field-0.0 c.in-Some.ensures (λ v rest is low stops text. by_error _ (c.in_err-value.ensures.only v rest is low stops text)) c.loop-next.invariant.1 u ts end typed deep spelt)

pub some_elements_at-loop-next-preserved : goal.some_elements_at-loop-next-preserved
some_elements_at-loop-next-preserved t c =
    let left = c.loop-next.left.now in
    let next = c.in-Some.next.now in
    let after = c.in_ok-value.after.now in
    let vs = c.loop-next.values.items in
    let v = c.in_ok-value.value in
    subst (λ (ws : List Value). FoundSoFar c.args.text.now (forest ws) after × OnlySoFar c.args.lists c.args.text.now (forest ws) after × (most_nested (forest ws) ≤ c.args.lists) × AreTyped (forest ws)) (sym c.in_ok-push-2.ensures.items)
    (found_next c.args.text.now left next after vs v c.in-Some.ensures c.in_ok-value.ensures.found c.loop-next.invariant.0, only_next c.args.lists c.args.text.now left next after vs v c.in-Some.ensures c.in_ok-value.ensures.only c.loop-next.invariant.1, deep_more c.args.lists vs v c.loop-next.invariant.2 c.in_ok-value.ensures.deep, typed_more vs v c.loop-next.invariant.3 c.in_ok-value.ensures.typed)

pub some_elements_at-returns-in_default-after_end-clause-only : goal.some_elements_at-returns-in_default-after_end-clause-only
some_elements_at-returns-in_default-after_end-clause-only t c u ts end typed deep spelt =
    no_end c.args.lists c.args.text.now c.loop-next.left.now (forest c.loop-next.values.items) c.in_default.ensures c.in_default-after_end.ensures c.loop-next.invariant.1 u ts end typed deep spelt

pub some_elements_at-returns-clause-found : goal.some_elements_at-returns-clause-found
some_elements_at-returns-clause-found t c =
    found_end c.args.text.now c.loop-next.left.now c.in-Some-after_end.rest.now (forest c.loop-next.values.items) c.in-Some-after_end.ensures c.loop-next.invariant.0
    ∙ ap (λ (vs : Trees). inside_text vs ++ c.in-Some-after_end.rest.now) (sym c.from_vec.ensures)

pub some_elements_at-returns-clause-only : goal.some_elements_at-returns-clause-only
some_elements_at-returns-clause-only t c u ts end typed deep spelt =
    let e = only_end c.args.lists c.args.text.now c.loop-next.left.now c.in-Some-after_end.rest.now (forest c.loop-next.values.items) c.in-Some-after_end.ensures c.loop-next.invariant.1 u ts end typed deep spelt in
    (c.from_vec.ensures ∙ e.0, e.1)
