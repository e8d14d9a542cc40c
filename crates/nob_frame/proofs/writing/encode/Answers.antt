use Rattle.std.proofs.Common.{Result, List, ℕ, subst}
use Rattle.std.specs.Global.{Vec}
use Rattle.nob_frame.specs.declared.fault.FrameFault.{FrameFault}
use Rattle.nob_frame.specs.declared.version.Version.TheVariants.{Two}
use Rattle.nob_frame.specs.Reading.{Gives}
use Rattle.nob_frame.proofs.Codec.{bytes_found, bytes_again}
use Rattle.nob_frame.proofs.writing.encode.Goals as goal

pub returns-clause-found : goal.returns-clause-found
returns-clause-found c = bytes_found Two c.args.frame.now c.spelling_of.result c.spelling_of.ensures

pub returns-clause-only : goal.returns-clause-only
returns-clause-only c = λ fits. subst (λ (r : Result (List ℕ) FrameFault). Gives (λ (bytes : Vec ℕ). bytes.items) c.spelling_of.result r) (bytes_again Two c.args.frame.now fits) c.spelling_of.ensures
