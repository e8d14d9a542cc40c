use Rattle.nob_dispatch_objects.proofs.Bytes.{lookup_by_bytes}
use Rattle.nob_dispatch_objects.proofs.names.NameTable.get.Goals as goal

pub returns : goal.returns
returns c = rw c.copied.ensures (rw c.get.ensures.value (rw (← c.self.view_is) (lookup_by_bytes c.args.name.now c.self.inside.references.entries)))
