use Rattle.std.proofs.Common.{◌≡◌, ◌==◌, ◌&&◌, Bool, not, true, false, Option, None, is_some, if◌then◌else◌, refl, ap, ◌∙◌, arith}
use Rattle.nob_ids.specs.declared.wire_rep.WireRep.{WireRep}
use Rattle.nob_table_rows.specs.declared.standing.Surrogate.{Surrogate}
use Rattle.nob_table.proofs.Lost.{closed_all, marks_left}
use Rattle.nob_table_rows.proofs.Same.{left_length}
use Rattle.nob_table.proofs.far.Far.close.Goals as goal

pub invariant_of-self : goal.invariant_of-self
invariant_of-self c = record {
  far =
      let far = c.self.invariant.far in
      let after = c.lose_all.ensures in
      record {
        ordered = c.tidy.ensures.ordered;
        once = after.once;
        sent = c.tidy.ensures.sent c.self.inside.dirties (rw after.slots far.sent);
        counted_room = omega (arith, after.counted_room, far.counted_room);
        surrogates_room = omega (arith, after.surrogates_room, far.surrogates_room);
        slots_room = let fewer = rw after.slots at c.tidy.ensures.len in let kept = rw after.slots at c.tidy.ensures.slots_kept in omega (arith, fewer, kept, far.slots_room);
        before_room =
            let fewer = rw after.slots at c.tidy.ensures.len in
            let kept = rw after.before at c.tidy.ensures.before_kept in
            omega (arith, fewer, kept, far.before_room, far.ordered.same, c.tidy.ensures.ordered.same);
        idle_room = let fewer = rw after.slots at c.tidy.ensures.len in omega (arith, fewer, c.tidy.ensures.idle_kept, after.idle_bound, far.idle_room);
        spare_room = let fewer = rw after.slots at c.tidy.ensures.len in omega (arith, fewer, c.tidy.ensures.spare_kept, after.spare_bound, far.spare_room);
      };
  few = c.tidy.ensures.few;
}

some_left : (b : Bool) (o : Option Surrogate) → is_some (if b then None else o) ≡ (not b && is_some o)
some_left true o = refl
some_left false o = refl

pub returns-clause-len : goal.returns-clause-len
returns-clause-len c =
    rw (← c.self.view_is) (left_length (λ (rep : WireRep). not (rep.owner == c.args.owner)) c.self.inside.surrogates.rows c.lose_all.new.surrogates.rows c.self.invariant.far.once c.lose_all.ensures.once
    (λ q. ap is_some (c.lose_all.ensures.surrogates q) ∙ some_left (q.owner == c.args.owner) _))

pub returns-clause-counted : goal.returns-clause-counted
returns-clause-counted c =
    rw (← c.self.view_is) (closed_all c.self.inside.counted.rows c.lose_all.new.counted.rows c.self.inside.surrogates.rows c.args.owner (rw (← c.self.view_is) at c.requires.held) c.lose_all.ensures.counted)

pub returns-clause-kept : goal.returns-clause-kept
returns-clause-kept c =
    rw (← c.self.view_is) (marks_left c.args.owner c.self.inside.surrogates.rows c.lose_all.new.surrogates.rows c.self.inside.surrogates.kept c.lose_all.new.surrogates.kept c.lose_all.ensures.surrogates c.tidy.ensures.marks c.lose_all.ensures.kept)
