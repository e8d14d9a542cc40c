use Rattle.std.proofs.Common.{◌≡◌}
use Rattle.nob_fault.specs.Words.{start_of, draw, words_of}
use Rattle.nob_fault.proofs.generator.words_between.Given as goal

abbrev pub invariant-loop : goal.invariant-loop
invariant-loop l =
    let start = start_of l.fn.seed l.fn.from l.fn.to in (l.drawn ≡ draw start l.counter) × (l.words.items ≡ words_of l.fn.loss start l.counter)
