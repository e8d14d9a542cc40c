use Rattle.std.proofs.Common.{◌≡◌, ◌++◌}
use Rattle.test_links.proofs.carrying.put_each.Given as goal

abbrev pub invariant-loop-parcel : goal.invariant-loop-parcel
invariant-loop-parcel g l =
    (l.put.link ≡ l.fn.put.link) × (l.put.put ≡ l.yielded) × (l.fn.parcels.items ≡ l.yielded ++ l.parcel-iterator.rest.items)
