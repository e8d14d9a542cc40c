-- What was answered, as another statement of it.
use Rattle.std.proofs.Common.{◌≡◌, true≢false, sym, subst, ◌∙◌, Result, Ok, Err}
use Rattle.nob_trace.specs.declared.trace.Trace.{Trace}
use Rattle.nob_trace.specs.declared.fault.TraceFault.{TraceFault}
use Rattle.nob_trace.specs.declared.fault.TraceFault.TheVariants as faults
use Rattle.nob_trace.specs.declared.fault.TraceError.{TraceError}
use Rattle.nob_trace.specs.declared.fault.TraceError.TheVariants.{Fault, OutOfMemory}
use Rattle.nob_trace.specs.Traces.{IsTrace}
use Rattle.nob_trace.specs.Reading.{Answers, Explains}
use Rattle.nob_trace.specs.Writing.{WritingFault}
use Rattle.nob_trace.proofs.Writable.{entries}
use Rattle.nob_trace.proofs.Speaking.{are_known}
use Rattle.nob_chain.specs.declared.chain.ChainParts.{ChainParts}
use Rattle.nob_chain.specs.declared.fault.ChainFault.{ChainFault}
use Rattle.nob_chain.specs.declared.fault.ChainError.{ChainError}
use Rattle.nob_chain.specs.declared.fault.ChainError.TheVariants as chains
use Rattle.nob_chain.specs.Chains.{IsChain}
use Rattle.nob_chain.specs.Writing.{IsWritable, Refuses}
use Rattle.nob_chain.proofs.OneChain.{are_writable}

pub answers_so : {X : Type 0} (P Q : X → Type 0) (F G : TraceFault → Type 0) (r : Result X TraceError) → ((x : X) → P x → Q x) → ((fault : TraceFault) → F fault → G fault) → Answers P F r → Answers Q G r
answers_so P Q F G (Ok x) right wrong answers = right x answers
answers_so P Q F G (Err (Fault fault)) right wrong answers = wrong fault answers
answers_so P Q F G (Err OutOfMemory) right wrong answers = tt

-- a trace that a text can spell is written
no_fault : (trace : Trace) (fault : TraceFault) → IsTrace trace → WritingFault trace fault → ⊥
no_fault trace faults.Short is wrong = wrong
no_fault trace faults.Entry is wrong = wrong.1 (entries trace.version trace.entries is.entries)
no_fault trace faults.Stamp is wrong = wrong
no_fault trace faults.Trailing is wrong = wrong
no_fault trace faults.Version is wrong = absurd (true≢false (sym (are_known trace (entries trace.version trace.entries is.entries)) ∙ wrong))

-- so no error but want of memory is met
pub no_error : (trace : Trace) (fault : TraceFault) (error : TraceError) → IsTrace trace → error ≡ Fault fault → Explains (WritingFault trace) error → ⊥
no_error trace fault error is error_is wrong = no_fault trace fault is (subst (Explains (WritingFault trace)) error_is wrong)

-- a chain that a text can spell is written: no error but want of memory is met
pub no_refusal : (chain : ChainParts) (fault : ChainFault) (error : ChainError) → IsChain chain → error ≡ chains.Fault fault → Refuses (IsWritable chain) error → ⊥
no_refusal chain fault error is error_is refused = (subst (Refuses (IsWritable chain)) error_is refused).1 (are_writable chain is)
