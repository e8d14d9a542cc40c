use Rattle.std.proofs.Common.{◌∙◌}
use Rattle.clap.specs.Words.{found_of}
use Rattle.nob_demo_spaces.proofs.Readings.{flag_read}
use Rattle.nob_demo_spaces.proofs.options.is_set.Goals as goal

pub returns : goal.returns
returns c = c.unwrap_or.ensures ∙ flag_read (found_of c.args.options.now) c.args.name.now c.get_one.result c.get_one.ensures.none c.get_one.ensures.value
