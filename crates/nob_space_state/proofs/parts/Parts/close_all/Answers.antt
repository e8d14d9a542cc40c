use Rattle.std.proofs.Common.{◌≡◌, ◌+◌, ◌≤◌, ℕ, rules, refl, sym, ap, subst, ◌∙◌, arith}
use Rattle.nob_model_types.specs.declared.here.Here.{Here}
use Rattle.nob_space_state.specs.Closing.{IsShutBelow}
use Rattle.nob_space_state.proofs.Unpinned.{below_first}
use Rattle.nob_space_state.proofs.parts.Parts.close_all.Goals as goal

pub loop-p-init : goal.loop-p-init
loop-p-init c = record { few = (omega arith, omega arith); same = refl; shut = below_first c.args.self.now c.requires.state }

pub loop-p-preserved : goal.loop-p-preserved
loop-p-preserved c =
    let there : c.loop-p.p ≤ c.args.self.now.here.n = search rules in
    let is : c.in-Some.peer ≡ c.loop-p.p = (c.in-Some.ensures {u = tt}).value in
    record {
      few = (omega arith, omega (arith, there));
      same = ap (λ (here : Here). here.n) c.close_if_open.ensures.here ∙ c.loop-p.invariant.same;
      shut = subst (λ (p : ℕ). IsShutBelow (p + 1) c.close_if_open.new.self) is
          (c.close_if_open.ensures.shut (subst (λ (p : ℕ). IsShutBelow p c.loop-p.self) (sym is) c.loop-p.invariant.shut));
    }

pub returns : goal.returns
returns c =
    let past : c.args.self.now.here.n + 1 ≤ c.loop-p.p = search rules in
    let low = c.loop-p.invariant.few in
    let same = c.loop-p.invariant.same in
    let is : c.loop-p.p ≡ c.loop-p.self.here.n + 1 = omega (arith, past, low, same) in
    subst (λ (p : ℕ). IsShutBelow p c.loop-p.self) is c.loop-p.invariant.shut
