use Rattle.std.proofs.Common.{Some, None}
use Rattle.std.proofs.lemmas.Bool.Decides.{Decides-eqb}
use Rattle.std.proofs.lemmas.Slice.Eq.{strip_prefix_is}
use Rattle.nob_model_reading.proofs.parts.after.Goals as goal

pub returns-in-Some-clause-found : goal.returns-in-Some-clause-found
returns-in-Some-clause-found c = strip_prefix_is Decides-eqb c.args.text.now c.args.word.now (Some c.in-Some.rest) c.in-Some.ensures.cases

pub returns-in-None-clause-only : goal.returns-in-None-clause-only
returns-in-None-clause-only c rest spelt = strip_prefix_is Decides-eqb c.args.text.now c.args.word.now None c.in-None.ensures.cases rest spelt
