use Rattle.nob_model_traces.proofs.One.{one_merged}
use Rattle.nob_model_traces.proofs.laws.one_merged.Goals as goal

pub returns : goal.returns
returns c = one_merged
