use Rattle.std.proofs.Common.{◌≡◌, length, ℕ, ◌+◌, subst, sym, ap, ◌∙◌}
use Rattle.std.specs.Prelude.{nat_le, ◌&&◌, not, is_some, Option, if◌then◌else◌}
use Rattle.nob_ids.specs.declared.wire_rep.WireRep.{WireRep}
use Rattle.nob_dispatch_objects.specs.Names.{reference_of, most_names}
use Rattle.nob_dispatch_objects.specs.Entries.{by_bytes}
use Rattle.std.proofs.lemmas.Result.{err_from_is_err_and}
use Rattle.nob_dispatch_objects.proofs.Bytes.{length_by_bytes, lookup_by_bytes, insert_by_bytes, few_left}
use Rattle.nob_dispatch_objects.proofs.names.NameTable.put.Goals as goal

pub returns-in_err-before-clause-memory : goal.returns-in_err-before-clause-memory
returns-in_err-before-clause-memory c = let p = err_from_is_err_and c.from_residual.result c.from_residual.ensures.1 in rw p.1 (rw (← c.name.view_is, ← c.self.view_is) (sym (lookup_by_bytes c.name.inside.bytes.items c.self.inside.references.entries) ∙ c.in_err-before.ensures.absent))

pub returns-clause-before : goal.returns-clause-before
returns-clause-before c = rw c.in_ok-before.ensures.old (rw (← c.name.view_is, ← c.self.view_is) (lookup_by_bytes c.name.inside.bytes.items c.self.inside.references.entries))

pub returns-clause-put : goal.returns-clause-put
returns-clause-put c = rw c.in_ok-before.ensures.entries (rw (← c.name.view_is, ← c.self.view_is) (insert_by_bytes c.name.inside.bytes c.args.rep c.self.inside.references.entries))

pub invariant_of-self-2 : goal.invariant_of-self-2
invariant_of-self-2 c =
    few_left (reference_of c.name.inside.bytes.items (by_bytes c.self.inside.references.entries)) (length c.self.inside.references.entries) (length c.insert.new.self.entries) most_names c.is_full_for-is_full.result c.self.invariant (rw (c.is_full_for-is_full.ensures, c.as_bytes.ensures.bytes, ← c.name.view_is, ← c.self.view_is) (ap (λ (n : ℕ). nat_le most_names n && not (is_some (reference_of c.name.inside.bytes.items (by_bytes c.self.inside.references.entries)))) (length_by_bytes c.self.inside.references.entries))) c.if-is_full.false (subst (λ (b : Option WireRep). length c.insert.new.self.entries ≡ length c.self.inside.references.entries + (if is_some b then 0 else 1)) (c.in_ok-before.ensures.old ∙ lookup_by_bytes c.name.inside.bytes.items c.self.inside.references.entries) c.in_ok-before.ensures.len)
