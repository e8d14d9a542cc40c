use Rattle.nob_model_text.proofs.Parting.{not_none}
use Rattle.nob_chain.proofs.ReadSegments.{inside_error, is_kept, no_head}
use Rattle.nob_chain.proofs.Memory.{chain_memory}
use Rattle.nob_chain.proofs.reading.front_chain.Goals as goal

pub returns-in_default-head_of-clause-found : goal.returns-in_default-head_of-clause-found
returns-in_default-head_of-clause-found c = no_head c.args.text.now c.in-Some.line.now c.in-Some.lines.now c.in-Some.ensures (λ head is spelt. not_none _ _ c.in_default-head_of.is (c.head_of.ensures.only head is spelt))

pub returns-in_err-segments-clause-found : goal.returns-in_err-segments-clause-found
returns-in_err-segments-clause-found c =
    inside_error _ c.in-Some-head_of.head c.args.text.now c.in-Some.line.now c.in-Some.lines.now c.from_residual.result c.in_err-segments.field-0.0 c.in-Some.ensures c.in-Some-head_of.ensures.found c.from_residual.ensures.1 c.in_err-segments.ensures.found

pub returns-in_err-segments-clause-memory : goal.returns-in_err-segments-clause-memory
returns-in_err-segments-clause-memory c =
    chain_memory c.in-Some-head_of.head c.args.text.now c.in-Some.line.now c.in-Some.lines.now c.from_residual.result c.in_err-segments.field-0.0 c.in-Some.ensures c.in-Some-head_of.ensures.found c.from_residual.ensures.1 c.in_err-segments.ensures.memory

pub from_parts-requires : goal.from_parts-requires
from_parts-requires c = record { kept = is_kept c.in-Some-head_of.head c.in-Some.lines.now c.in_ok-segments.rest.now c.in_ok-segments.segments c.in_ok-segments.ensures.found }
