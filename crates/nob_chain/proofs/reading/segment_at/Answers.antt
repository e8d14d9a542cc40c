use Rattle.std.proofs.Common.{arith}
use Rattle.nob_chain.proofs.ReadSegments.{first_error, middle_error, last_error, is_segment, segment_text}
use Rattle.nob_chain.proofs.Memory.{fault_alone, last_memory, middle_memory}
use Rattle.nob_chain.proofs.reading.segment_at.Goals as goal

pub opening_at-requires : goal.opening_at-requires
opening_at-requires c = let less = c.requires.less in let few = c.requires.few in omega (arith, less, few)

pub returns-in_err-count-clause-found : goal.returns-in_err-count-clause-found
returns-in_err-count-clause-found c = first_error _ c.args.head.now c.args.behind c.args.last c.args.text.now c.from_residual.result c.in_err-count.field-0.0 c.requires.less c.from_residual.ensures.1 c.in_err-count.ensures.fault

pub returns-in_err-entries-clause-found : goal.returns-in_err-entries-clause-found
returns-in_err-entries-clause-found c =
    middle_error _ c.args.head.now c.args.behind c.args.last c.in_ok-count.count c.args.text.now c.in_ok-count.lines.now c.from_residual-in_err-entries.result c.in_err-entries.field-0.0 c.requires.less c.requires.few c.in_ok-count.ensures.found
    c.from_residual-in_err-entries.ensures.1 c.in_err-entries.ensures.found

pub returns-in_err-seal-clause-found : goal.returns-in_err-seal-clause-found
returns-in_err-seal-clause-found c =
    last_error _ c.args.head.now c.args.behind c.args.last c.in_ok-count.count c.args.text.now c.in_ok-count.lines.now c.in_ok-entries.left.now c.in_ok-entries.entries c.from_residual-in_err-seal.result c.in_err-seal.field-0.0 c.requires.less c.requires.few c.in_ok-count.ensures.found c.in_ok-entries.ensures.found
    c.from_residual-in_err-seal.ensures.1 c.in_err-seal.ensures.found

pub returns-clause-found : goal.returns-clause-found
returns-clause-found c = (
  is_segment c.args.head.now c.in_ok-count.count c.args.last c.in_ok-count.lines.now c.in_ok-entries.left.now c.in_ok-entries.entries c.in_ok-seal.seal c.in_ok-count.ensures.found.0 c.in_ok-count.ensures.found.1 c.in_ok-entries.ensures.found c.in_ok-seal.ensures.found.0,
  c.in_ok-entries.ensures.found.1,
  segment_text c.args.behind c.in_ok-count.count c.args.last c.args.text.now c.in_ok-count.lines.now c.in_ok-entries.left.now c.in_ok-seal.rest.now c.in_ok-entries.entries c.in_ok-seal.seal c.in_ok-count.ensures.found.2 c.in_ok-entries.ensures.found c.in_ok-seal.ensures.found.1,
)

pub returns-in_err-count-clause-memory : goal.returns-in_err-count-clause-memory
returns-in_err-count-clause-memory c = fault_alone _ c.from_residual.result c.in_err-count.field-0.0 c.from_residual.ensures.1

pub returns-in_err-entries-clause-memory : goal.returns-in_err-entries-clause-memory
returns-in_err-entries-clause-memory c =
    middle_memory c.args.head.now c.args.behind c.args.last c.in_ok-count.count c.args.text.now c.in_ok-count.lines.now c.from_residual-in_err-entries.result c.in_err-entries.field-0.0 c.requires.less c.requires.few c.in_ok-count.ensures.found c.from_residual-in_err-entries.ensures.1
    c.in_err-entries.ensures.memory

pub returns-in_err-seal-clause-memory : goal.returns-in_err-seal-clause-memory
returns-in_err-seal-clause-memory c =
    last_memory c.args.head.now c.args.behind c.args.last c.in_ok-count.count c.args.text.now c.in_ok-count.lines.now c.in_ok-entries.left.now c.in_ok-entries.entries c.from_residual-in_err-seal.result c.in_err-seal.field-0.0 c.requires.less c.requires.few c.in_ok-count.ensures.found c.in_ok-entries.ensures.found
    c.from_residual-in_err-seal.ensures.1 c.in_err-seal.ensures.memory
