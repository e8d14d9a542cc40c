use Rattle.std.proofs.Common.{◌≡◌, ◌++◌, List, reverse}
use Rattle.nob_link.specs.declared.parcel.Parcel.{Parcel}
use Rattle.bench_parts.specs.Counting.{AreInOrder}
use Rattle.bench_parts.proofs.links.carriages.take_all.Given as goal

abbrev pub invariant-loop : goal.invariant-loop
invariant-loop g l = (taken : List Parcel) × (l.take.taken ≡ l.fn.take.taken ++ taken) × AreInOrder l.came (reverse taken)
