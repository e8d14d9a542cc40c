use Rattle.std.proofs.Common.{ap, sym, subst, ◌∙◌, arith}
use Rattle.nob_space_messages.specs.Lines.{AreOf, LineList, lines_of, reps_in}
use Rattle.nob_space_messages.proofs.Kept.{owners_kept}
use Rattle.nob_space_messages.proofs.lines.Lines.reserve.Goals as goal

pub returns-in_err-make_owners-clause-lines : goal.returns-in_err-make_owners-clause-lines
returns-in_err-make_owners-clause-lines c owner = rw (← c.self.view_is) (c.make_owners.ensures.lines c.self.inside.room owner)

pub invariant_of-self : goal.invariant_of-self
invariant_of-self c = owners_kept c.self.inside.owners.items c.make_owners.new.owners.items c.self.inside.room c.self.invariant c.make_owners.ensures.same (c.make_owners.ensures.lines c.self.inside.room)

pub invariant_of-self-in_err-widen : goal.invariant_of-self-in_err-widen
invariant_of-self-in_err-widen c =
    let room = c.self.inside.room in
    let made = owners_kept c.self.inside.owners.items c.make_owners.new.owners.items room c.self.invariant c.make_owners.ensures.same (c.make_owners.ensures.lines room) in
    record {
      all = λ more. omega (arith, c.widen.ensures.count, made.all more);
      rooms = c.widen.ensures.kept room made.rooms;
      own = λ owner. subst (AreOf owner) (sym (ap (λ (l : LineList). lines_of l owner) (c.widen.ensures.lines room))) (made.own owner);
    }

pub invariant_of-self-2 : goal.invariant_of-self-2
invariant_of-self-2 c =
    let room = c.self.inside.room in
    let made = owners_kept c.self.inside.owners.items c.make_owners.new.owners.items room c.self.invariant c.make_owners.ensures.same (c.make_owners.ensures.lines room) in
    record {
      all = λ more. omega (arith, c.widen.ensures.count, c.in_ok-make_owners.ensures.all);
      rooms = c.in_ok-widen.ensures.ok;
      own = λ owner. subst (AreOf owner) (sym (ap (λ (l : LineList). lines_of l owner) (c.widen.ensures.lines room))) (made.own owner);
    }

pub returns-in_err-widen-clause-lines : goal.returns-in_err-widen-clause-lines
returns-in_err-widen-clause-lines c owner = rw (← c.self.view_is) (ap (λ (l : LineList). lines_of l owner) (c.widen.ensures.lines c.self.inside.room) ∙ c.make_owners.ensures.lines c.self.inside.room owner)

pub returns-in_err-widen-clause-reps : goal.returns-in_err-widen-clause-reps
returns-in_err-widen-clause-reps c = rw (← c.self.view_is) (ap (λ (l : LineList). reps_in l.owners) (c.widen.ensures.lines c.self.inside.room) ∙ c.make_owners.ensures.reps)

pub returns-clause-lines : goal.returns-clause-lines
returns-clause-lines c owner = rw (← c.self.view_is) (ap (λ (l : LineList). lines_of l owner) (c.widen.ensures.lines c.self.inside.room) ∙ c.make_owners.ensures.lines c.self.inside.room owner)

pub returns-clause-reps : goal.returns-clause-reps
returns-clause-reps c = rw (← c.self.view_is) (ap (λ (l : LineList). reps_in l.owners) (c.widen.ensures.lines c.self.inside.room) ∙ c.make_owners.ensures.reps)
