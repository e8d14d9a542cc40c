use Rattle.std.proofs.Common.{◌≡◌, Some, None, sym, ap, ◌∙◌}
use Rattle.std.specs.Option.{option_map}
use Rattle.nob_pickle.specs.Reading.{tree_at}
use Rattle.nob_peek.specs.Walking.{behind}
use Rattle.nob_peek.specs.declared.walking.Rest.{Rest}
use Rattle.nob_peek.proofs.Passed.{goes_on, ends, is_done}
use Rattle.nob_peek.proofs.walking.+walking.Goals as goal

pub pass_all-loop-preserved : goal.pass_all-loop-preserved
pass_all-loop-preserved t c =
    let passed : Some (c.in-Some.after.references, c.in-Some.after.bytes.now) ≡ behind (tree_at c.args.levels c.loop.rest.references c.loop.rest.bytes.now) = sym (ap (option_map (λ (x : Rest). (x.references, x.bytes.now))) c.in-Some.is) ∙ c.pass.ensures in
    goes_on (tree_at c.args.levels) c.args.count c.loop.counter _ _ _ _ _ c.loop-test.true passed c.loop.invariant

pub pass_all-returns-in_default : goal.pass_all-returns-in_default
pass_all-returns-in_default t c =
    let nothing : None ≡ behind (tree_at c.args.levels c.loop.rest.references c.loop.rest.bytes.now) = sym (ap (option_map (λ (x : Rest). (x.references, x.bytes.now))) c.in_default.is) ∙ c.pass.ensures in
    ends (tree_at c.args.levels) c.args.count c.loop.counter _ _ _ c.loop-test.true nothing c.loop.invariant

pub pass_all-returns : goal.pass_all-returns
pass_all-returns t c = is_done (tree_at c.args.levels) c.args.count c.loop.counter _ _ _ c.loop-test.false c.loop.invariant
