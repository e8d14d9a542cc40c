use Rattle.std.proofs.Common.{◌≡◌, vec_len}
use Rattle.nob_keeper.proofs.keeper.reply_places.Given as goal

abbrev pub invariant-loop : goal.invariant-loop
invariant-loop l = vec_len l.places ≡ l.counter
