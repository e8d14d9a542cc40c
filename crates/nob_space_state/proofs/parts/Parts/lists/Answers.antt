use Rattle.std.proofs.Common.{◌∙◌}
use Rattle.nob_space_state.proofs.parts.Parts.lists.Goals as goal

pub returns : goal.returns
returns c limits D stands = c.lists.ensures ∙ stands.listed c.args.index c.args.client
