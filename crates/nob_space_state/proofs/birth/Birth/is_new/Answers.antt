use Rattle.std.proofs.Common.{◌≡◌, refl, rules}
use Rattle.nob_space_state.specs.Births.{life_of}
use Rattle.nob_space_state.proofs.Birthing.{is_new_birth}
use Rattle.nob_space_state.proofs.birth.Birth.is_new.Goals as goal

pub returns : goal.returns
returns c = (λ _. is_new_birth c.args.here.now.space c.args.here.now.n (life_of c.args.self.now) (search rules) (search rules) (search rules) (c.in-None.ensures {u = tt}).numbers (c.in-None.ensures {u = tt}).first (c.in-None-first_within.ensures {u = tt}).first, λ _. refl)
