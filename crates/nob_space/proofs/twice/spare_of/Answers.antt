use Rattle.std.proofs.Common.{sym, ◌∙◌}
use Rattle.nob_space_state.proofs.Passing.{after_error}
use Rattle.nob_space.specs.declared.twice.Spare.TheVariants as spares
use Rattle.nob_space.proofs.Coming.{takes_wanting, takes_fit, copied_same, none_copied}
use Rattle.nob_space.proofs.twice.spare_of.Goals as goal

pub returns-in-Some-clause-fits : goal.returns-in-Some-clause-fits
returns-in-Some-clause-fits c answer coming =
    takes_fit c.in-TakeReply.call c.args.event.now c.in-TakeReply.is (spares.Value c.in-Some.value) answer coming
    (λ status value brings. copied_same c.in-Some.value value (sym c.in-Some.is ∙ c.in_ok-value-in-TakeReply.ensures.value status value brings))

pub returns-in-None-clause-fits : goal.returns-in-None-clause-fits
returns-in-None-clause-fits c answer coming =
    takes_fit c.in-TakeReply.call c.args.event.now c.in-TakeReply.is spares.Nothing answer coming
    (λ status value brings. absurd (none_copied value (sym c.in-None.is ∙ c.in_ok-value-in-TakeReply.ensures.value status value brings)))

pub returns-in_err-value-in-TakeReply-clause-memory : goal.returns-in_err-value-in-TakeReply-clause-memory
returns-in_err-value-in-TakeReply-clause-memory c = after_error _ c.from_residual.result (λ limits D stands.
    takes_wanting c.in-TakeReply.call c.args.event.now c.in-TakeReply.is stands c.in_err-value-in-TakeReply.ensures.memory)
