use Rattle.std.proofs.Common.{ℕ, List, length, sym, subst, ◌∙◌}
use Rattle.std.proofs.lemmas.List.{nil_from_length}
use Rattle.std.proofs.lemmas.Bool.Decides.{Decides-eqb}
use Rattle.nob_model_text.proofs.Read.{not_empty}
use Rattle.nob_chain.specs.declared.chain.ChainParts.{ChainParts}
use Rattle.nob_chain.specs.Inputs.{StartFault, IsWrongInput}
use Rattle.nob_chain.proofs.ReadEntries.{map_fault}
use Rattle.nob_chain.proofs.ReadInputs.{FoundAll, OnlyAll, by_error, found_all, found_next, only_end, only_next, passed, unread_next}
use Rattle.nob_chain.proofs.inputs.decode_all.Goals as goal

pub returns-in_err-chain-clause-found : goal.returns-in_err-chain-clause-found
returns-in_err-chain-clause-found c =
    let so_far = c.loop-left.invariant.0 in
    map_fault _ (StartFault c.loop-left.left.now) (IsWrongInput c.args.input.now) c.from_residual.result c.in_err-chain.field-0.0 c.from_residual.ensures.1 c.in_err-chain.ensures.found
    (λ f wrong. (c.loop-left.all.items, so_far.0, c.loop-left.left.now, record { are = so_far.1; input_is = so_far.2; some = λ e. not_empty c.loop-left.left.now c.is_empty.result e c.is_empty.ensures c.loop-left-test.true; fault_is = wrong }))

pub returns-in_err-chain-clause-only : goal.returns-in_err-chain-clause-only
returns-in_err-chain-clause-only c all are =
    let r = c.loop-left.invariant.1 all are in
    passed _ c.from_residual.result c.in_err-chain.field-0.0 c.from_residual.ensures.1
    (unread_next c.loop-left.left.now r.0 c.in_err-chain.field-0.0 (λ e. not_empty c.loop-left.left.now c.is_empty.result e c.is_empty.ensures c.loop-left-test.true) r.2 (λ front rest chain spells text. by_error _ (c.in_err-chain.ensures.only front rest chain spells text)))

pub loop-left-preserved : goal.loop-left-preserved
loop-left-preserved c =
    let left = c.loop-left.left.now in
    let after = c.in_ok-chain.rest.now in
    let done = c.loop-left.all.items in
    let chain = c.in_ok-chain.chain in
    subst (λ (cs : List ChainParts). FoundAll c.args.input.now cs after × OnlyAll c.args.input.now cs after) (sym c.in_ok-push.ensures.items) (
      found_next c.args.input.now left after done chain c.in_ok-chain.ensures.found c.loop-left.invariant.0,
      only_next c.args.input.now left after done chain (λ e. not_empty left c.is_empty.result e c.is_empty.ensures c.loop-left-test.true) c.in_ok-chain.ensures.only c.loop-left.invariant.1,
    )

pub returns-clause-found : goal.returns-clause-found
returns-clause-found c =
    let empty = nil_from_length c.loop-left.left.now ((Decides-eqb (length c.loop-left.left.now) 0).0 (sym c.is_empty.ensures ∙ c.loop-left-test.false)) in
    found_all c.args.input.now c.loop-left.left.now c.loop-left.all.items empty c.loop-left.invariant.0

pub returns-clause-only : goal.returns-clause-only
returns-clause-only c all are =
    let empty = nil_from_length c.loop-left.left.now ((Decides-eqb (length c.loop-left.left.now) 0).0 (sym c.is_empty.ensures ∙ c.loop-left-test.false)) in
    only_end c.args.input.now c.loop-left.left.now c.loop-left.all.items empty c.loop-left.invariant.1 all are
