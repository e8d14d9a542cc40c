use Rattle.std.proofs.Common.{sym}
use Rattle.nob_dispatch_objects.proofs.Bytes.{length_by_bytes}
use Rattle.nob_dispatch_objects.proofs.names.NameTable.len.Goals as goal

pub returns-clause-len : goal.returns-clause-len
returns-clause-len c = rw c.len.ensures.len (rw (← c.self.view_is) (sym (length_by_bytes c.self.inside.references.entries)))
