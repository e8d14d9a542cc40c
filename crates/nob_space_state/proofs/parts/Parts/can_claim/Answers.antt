use Rattle.std.proofs.Common.{is_some, ap, ◌∙◌}
use Rattle.nob_space_state.proofs.Nexts.{claim_there, mapped_some}
use Rattle.nob_space_state.proofs.parts.Parts.can_claim.Goals as goal

pub returns : goal.returns
returns c limits D stands = c.is_some.ensures ∙ mapped_some _ _ ∙ ap is_some c.first_free.ensures ∙ claim_there stands
