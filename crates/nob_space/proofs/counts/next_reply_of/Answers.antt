use Rattle.std.proofs.Common.{◌≡◌, ap, ◌∙◌}
use Rattle.nob_model_work.specs.declared.work.Outstanding.{Outstanding}
use Rattle.nob_space_calls.specs.Calls.{first_call}
use Rattle.nob_space.proofs.counts.next_reply_of.Goals as goal

pub returns : goal.returns
returns c limits D stands = c.first_call.ensures ∙ ap (λ (work : Outstanding). first_call work.replies) stands.work
