use Rattle.nob_table.specs.Table.{Marked}
use Rattle.nob_space_state.specs.Looks.{IsAmong, LetsGo}
use Rattle.nob_space_state.proofs.listings.let_all_go.Given as goal

abbrev pub invariant-loop-index : goal.invariant-loop-index
invariant-loop-index l = record {
  table : Marked l.initial.table l.table;
  kept : LetsGo l.me (λ rep. IsAmong l.me l.yielded rep) l.initial.table l.table l.pins.bundles l.dirty;
}
