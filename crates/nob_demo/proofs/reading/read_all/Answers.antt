use Rattle.std.proofs.Common.{◌≡◌, ℕ, List, length, arith, sym, subst}
use Rattle.std.specs.Io.KnownBytes.{Consumes}
use Rattle.nob_demo.proofs.Known.{consumes_none}
use Rattle.nob_demo.proofs.reading.read_all.Goals as goal

pub loop-init : goal.loop-init
loop-init g c = record {
  reads = c.requires.0;
  going = (c.requires.2, c.requires.3);
  count = subst (λ (xs : List ℕ). length xs ≡ c.args.source.now.bytes) (sym c.new-input.ensures.items) (sym c.requires.1);
  read = subst (λ (xs : List ℕ). Consumes (g.R.Read.remaining c.args.source.now.reader) (g.R.Read.remaining c.args.source.now.reader) xs) (sym c.new-input.ensures.items) (consumes_none (g.R.Read.remaining c.args.source.now.reader));
  few = omega (arith, c.requires.1);
}
