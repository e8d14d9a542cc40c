use Rattle.nob_dispatch_objects.proofs.Bytes.{lookup_by_bytes, remove_by_bytes}
use Rattle.nob_dispatch_objects.proofs.names.NameTable.remove.Goals as goal

pub returns-clause-before : goal.returns-clause-before
returns-clause-before c = rw c.remove.ensures.value (rw (← c.self.view_is) (lookup_by_bytes c.args.name.now c.self.inside.references.entries))

pub returns-clause-removed : goal.returns-clause-removed
returns-clause-removed c = rw c.remove.ensures.entries (rw (← c.self.view_is) (remove_by_bytes c.args.name.now c.self.inside.references.entries))
