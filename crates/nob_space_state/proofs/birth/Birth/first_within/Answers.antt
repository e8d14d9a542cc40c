use Rattle.std.proofs.Common.{ℕ, ◌≡◌, ◌+◌, ◌≤◌, ◌&&◌, false, rules, sym, subst, ◌∙◌, arith}
use Rattle.nob_model_session.specs.End.{last_session}
use Rattle.nob_model_types.specs.Sessions.{is_peer}
use Rattle.nob_space_state.specs.Births.{is_within, life_of}
use Rattle.nob_space_state.proofs.Birthing.{not_within, one_more}
use Rattle.nob_space_state.proofs.birth.Birth.first_within.Goals as goal

pub unreachable-requires : goal.unreachable-requires
unreachable-requires c = search rules

pub loop-p-preserved : goal.loop-p-preserved
loop-p-preserved c =
    let here = c.args.here.now in
    let life = life_of c.args.self.now in
    let is : c.in-Some.peer ≡ c.loop-p.p = (c.in-Some.ensures {u = tt}).value in
    let none : (is_peer here.space here.n c.loop-p.p && is_within life c.args.low c.args.high c.loop-p.p) ≡ false =
    subst (λ (p : ℕ). (is_peer here.space here.n p && is_within life c.args.low c.args.high p) ≡ false) is (sym c.is_within.ensures.within ∙ c.if-is_within.false) in
    let number : life.session c.loop-p.p ≤ last_session = subst (λ (p : ℕ). life.session p ≤ last_session) is c.is_within.ensures.number in
    record {
      low = omega arith;
      few = omega (arith, c.loop-p-test.true);
      numbers = one_more here.space here.n c.loop-p.p (λ q. life.session q ≤ last_session) c.loop-p.invariant.numbers (λ peer. number);
      none = one_more here.space here.n c.loop-p.p (λ q. is_within life c.args.low c.args.high q ≡ false) c.loop-p.invariant.none (not_within here.space here.n life c.args.low c.args.high c.loop-p.p none);
    }
