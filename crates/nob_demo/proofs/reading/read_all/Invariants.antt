use Rattle.std.proofs.Common.{◌≡◌, ◌≤◌, false, length}
use Rattle.std.specs.Io.KnownBytes.{Consumes}
use Rattle.nob_demo.specs.Program.{most_bytes}
use Rattle.nob_demo.proofs.reading.read_all.Given as goal

-- the input so far is what the reads gave
abbrev pub invariant-loop : goal.invariant-loop
invariant-loop g l = record {
  reads : l.source.reads ≡ l.counter;
  read : Consumes (g.R.Read.remaining l.fn.source.reader) (g.R.Read.remaining l.source.reader) l.input.items;
  count : length l.input.items ≡ l.source.bytes;
  going : (l.source.failed ≡ false) × (l.source.ended ≡ false);
  few : l.source.bytes ≤ most_bytes;
}
