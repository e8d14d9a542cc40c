use Rattle.std.proofs.Common.{◌≡◌, ◌==◌, ◌+◌, ◌-◌, ◌<◌, ℕ, Some, length, refl, ap, sym, subst, ◌∙◌, arith, if◌then◌else◌}
use Rattle.std.proofs.Math.ListN.{length-set}
use lib.ListN.{set}
use Rattle.std.proofs.lemmas.Option.{slice_get_read}
use Rattle.nob_ids.specs.Names.{is_same}
use Rattle.nob_space_messages.specs.Lines.{AreOf, LineList, LineMap, count_of, is_link, lists_of, stamp_at}
use Rattle.nob_space_messages.proofs.Kept.{all_awaited, here, lines_at, other_rep, own_set, room_set, set_holds}
use Rattle.nob_space_messages.proofs.lines.Lines.push.Goals as goal

-- the lines of each owner are its own
own : (c : goal.After-self-2-1) → (o : ℕ) → AreOf o (lines_at (set c.self.inside.owners.items c.get-place.result c.push.new.self) o)
own c =
    let owners = c.self.inside.owners.items in let place = c.get-place.result in let old = c.index_mut.result.now in let new = c.push.new.self in
    let some = subst (λ (l : LineList). 0 < l.room) (sym c.self.view_is) c.requires.room in
    let got = slice_get_read owners (length owners) place old refl (omega (arith, c.self.invariant.all some, c.get-place.ensures.in_range.1)) c.index_mut.ensures.value in
    own_set owners place old new got c.self.invariant.own c.push.ensures.places
    (λ r off zero.
    let same = c.push.ensures.counts r ∙ ap (λ b. (if b then 1 else 0) + count_of old.lines.rows r) (other_rep c.args.rep.now r (ap (λ k. r.owner == k) (sym c.get-place.ensures.value) ∙ off)) in
    omega (arith, same, zero))

pub invariant_of-self : goal.invariant_of-self
invariant_of-self c =
    let owners = c.self.inside.owners.items in let place = c.get-place.result in let old = c.index_mut.result.now in let new = c.push.new.self in
    let some = subst (λ (l : LineList). 0 < l.room) (sym c.self.view_is) c.requires.room in
    let got = slice_get_read owners (length owners) place old refl (omega (arith, c.self.invariant.all some, c.get-place.ensures.in_range.1)) c.index_mut.ensures.value in
    record {
      all = λ more. omega (arith, length-set owners place new, c.self.invariant.all some);
      rooms = room_set owners place (c.self.inside.room - 1) old new got (λ at owner there. omega (arith, c.self.invariant.rooms at owner there))
          (omega (arith, c.push.ensures.room, c.self.invariant.rooms place old got));
      own = own c;
    }

pub returns-clause-counts : goal.returns-clause-counts
returns-clause-counts c other =
    let owners = c.self.inside.owners.items in let place = c.get-place.result in let old = c.index_mut.result.now in let new = c.push.new.self in
    let some = subst (λ (l : LineList). 0 < l.room) (sym c.self.view_is) c.requires.room in
    let got = slice_get_read owners (length owners) place old refl (omega (arith, c.self.invariant.all some, c.get-place.ensures.in_range.1)) c.index_mut.ensures.value in
    rw (← c.self.view_is) (
    set_holds owners place old new got (λ a b. count_of a.rows other ≡ (if is_same c.args.rep.now other then 1 else 0) + count_of b.rows other) other.owner
    (λ same. c.push.ensures.counts other)
    (λ off lines.
    let same = ap (λ b. (if b then 1 else 0) + count_of lines.rows other) (other_rep c.args.rep.now other (ap (λ k. other.owner == k) (sym c.get-place.ensures.value) ∙ off)) in
    omega (arith, same)))

pub returns-clause-links : goal.returns-clause-links
returns-clause-links c other at =
    let owners = c.self.inside.owners.items in let place = c.get-place.result in let old = c.index_mut.result.now in let new = c.push.new.self in
    let some = subst (λ (l : LineList). 0 < l.room) (sym c.self.view_is) c.requires.room in
    let got = slice_get_read owners (length owners) place old refl (omega (arith, c.self.invariant.all some, c.get-place.ensures.in_range.1)) c.index_mut.ensures.value in
    let rep = c.args.rep.now in
    let stamped : ℕ → LineMap → LineMap → Type 0 = λ n a b. stamp_at a other at ≡ (if is_link rep n other at then Some c.args.stamp else stamp_at b other at) in
    let places : count_of old.lines.rows rep ≡ count_of (lines_at owners rep.owner).rows rep = ap (λ (l : LineMap). count_of l.rows rep) (sym (here owners place old got) ∙ ap (lines_at owners) c.get-place.ensures.value) in
    rw (← c.self.view_is) (
    subst (λ n. stamped n (lines_at (set owners place new) other.owner) (lines_at owners other.owner)) places (
    set_holds owners place old new got (stamped (count_of old.lines.rows rep)) other.owner
    (λ same. c.push.ensures.links other at)
    (λ off lines.
    let apart = other_rep rep other (ap (λ k. other.owner == k) (sym c.get-place.ensures.value) ∙ off) in
    sym (rw apart refl))))

pub returns-clause-awaited : goal.returns-clause-awaited
returns-clause-awaited c = all_awaited (lists_of (set c.self.inside.owners.items c.get-place.result c.push.new.self) (c.self.inside.room - 1)) (own c)
