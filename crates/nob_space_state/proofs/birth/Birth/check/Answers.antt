use Rattle.std.proofs.Common.{◌≡◌, ◌≤◌, true, inr, rules}
use Rattle.nob_space_state.specs.Births.{life_of}
use Rattle.nob_space_state.proofs.Birthing.{is_later_birth}
use Rattle.nob_space_state.proofs.birth.Birth.check.Goals as goal

pub returns-clause-in_range : goal.returns-clause-in_range
returns-clause-in_range c =
    let can : c.can_have_had.result ≡ true = search rules in
    inr (is_later_birth c.args.here.now.space c.args.here.now.n (life_of c.args.self.now) (search rules) (search rules) (search rules) (c.in_default.ensures {u = tt}).numbers (c.in_default.ensures {u = tt}).first (c.can_have_had.ensures.0 can))
