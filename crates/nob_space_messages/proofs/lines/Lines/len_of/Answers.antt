use Rattle.std.proofs.Common.{◌≡◌, nat_lt, false, length, None, ap, sym, subst, arith}
use Rattle.std.proofs.lemmas.Bool.Decides.{nat_tests}
use Rattle.std.proofs.lemmas.Option.{slice_get_past}
use Rattle.nob_rows.specs.Rows.{IsOnce}
use Rattle.nob_space_messages.specs.Lines.{LineMap, lists_of, lines_or_none}
use Rattle.nob_space_messages.proofs.Kept.{lines_at, none_once, none_here, reps_own}
use Rattle.nob_space_messages.proofs.lines.Lines.len_of.Goals as goal

pub returns-in-Some-clause-reps : goal.returns-in-Some-clause-reps
returns-in-Some-clause-reps c rep = rw (← c.self.view_is) (reps_own (lists_of c.self.inside.owners.items c.self.inside.room) c.self.invariant.own c.args.owner rep)

pub returns-in-None-clause-reps : goal.returns-in-None-clause-reps
returns-in-None-clause-reps c rep = rw (← c.self.view_is) (reps_own (lists_of c.self.inside.owners.items c.self.inside.room) c.self.invariant.own c.args.owner rep)

-- the owner has no lines
none : (c : goal.In-None) → lines_at c.self.inside.owners.items c.args.owner ≡ lines_or_none None
none c =
    let off : nat_lt c.get.result (length c.deref.result.now) ≡ false = sym ((c.in-None.ensures {u = tt}).lookup.0) in
    let all = ap length c.deref.ensures.value in
    let place = c.get.ensures.value in
    none_here c.self.inside.owners.items c.args.owner (slice_get_past c.self.inside.owners.items c.args.owner (grind (arith, nat_tests, off, all, place)))

pub returns-in-None-clause-count : goal.returns-in-None-clause-count
returns-in-None-clause-count c = rw (← c.self.view_is) (ap (λ (l : LineMap). length l.rows) (sym (none c)))

pub returns-in-None-clause-once : goal.returns-in-None-clause-once
returns-in-None-clause-once c = rw (← c.self.view_is) (subst (λ (l : LineMap). IsOnce l.rows) (sym (none c)) none_once)
