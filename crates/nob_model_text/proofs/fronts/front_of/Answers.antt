use Rattle.std.proofs.Common.{◌∙◌}
use Rattle.nob_model_text.proofs.Parting.{parted}
use Rattle.nob_model_text.proofs.fronts.front_of.Goals as goal

pub returns-clause-only : goal.returns-clause-only
returns-clause-only c front rest none stops spelt =
    let parts = parted c.args.text.now front rest _ c.front_len.ensures.value none stops spelt in
    (c.split_at.ensures.front ∙ parts.0, c.split_at.ensures.back ∙ parts.1)
