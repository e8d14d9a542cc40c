use Rattle.std.proofs.Common.{◌≡◌, ◌==◌, ℕ, length, refl, ap, sym, subst, ◌∙◌, arith, true≢false, if◌then◌else◌}
use Rattle.std.proofs.Math.ListN.{length-set}
use lib.ListN.{set}
use Rattle.std.proofs.lemmas.Cmp.{nat_eq_equiv}
use Rattle.std.proofs.lemmas.Option.{slice_get_read}
use Rattle.nob_space_messages.specs.Lines.{AreOf, HavePlaces, count_of, lists_of, stamp_at}
use Rattle.nob_space_messages.proofs.Kept.{all_awaited, lines_at, own_set, room_set, set_holds}
use Rattle.nob_space_messages.proofs.lines.Lines.clear_of.Goals as goal

pub returns-then-place-len-clause-awaited : goal.returns-then-place-len-clause-awaited
returns-then-place-len-clause-awaited c rep = rw (← c.self.view_is) (all_awaited (lists_of c.self.inside.owners.items c.self.inside.room) c.self.invariant.own rep)

-- the lines of each owner are its own
own : (c : goal.After-self-1) → (o : ℕ) → AreOf o (lines_at (set c.self.inside.owners.items c.get-place.result c.clear_all.new.self) o)
own c =
    let owners = c.self.inside.owners.items in let place = c.get-place.result in let old = c.index_mut.result.now in let new = c.clear_all.new.self in
    let got = slice_get_read owners (length owners) place old refl (omega (arith, c.if-place-len.false, c.len.ensures)) c.index_mut.ensures.value in
    own_set owners place old new got c.self.invariant.own (subst HavePlaces (sym c.clear_all.ensures.rows) (λ r. refl)) (λ r off zero. ap (λ cs. count_of cs r) c.clear_all.ensures.rows)

pub invariant_of-self : goal.invariant_of-self
invariant_of-self c =
    let owners = c.self.inside.owners.items in let place = c.get-place.result in let old = c.index_mut.result.now in let new = c.clear_all.new.self in
    let got = slice_get_read owners (length owners) place old refl (omega (arith, c.if-place-len.false, c.len.ensures)) c.index_mut.ensures.value in
    record {
      all = λ some. omega (arith, length-set owners place new, c.self.invariant.all some);
      rooms = room_set owners place c.self.inside.room old new got c.self.invariant.rooms (omega (arith, c.clear_all.ensures.room, c.self.invariant.rooms place old got));
      own = own c;
    }

pub returns-clause-counts : goal.returns-clause-counts
returns-clause-counts c other =
    let owners = c.self.inside.owners.items in let place = c.get-place.result in let old = c.index_mut.result.now in let new = c.clear_all.new.self in
    let got = slice_get_read owners (length owners) place old refl (omega (arith, c.if-place-len.false, c.len.ensures)) c.index_mut.ensures.value in
    rw (← c.self.view_is, ← c.get-place.ensures.value) (
    set_holds owners place old new got (λ a b. count_of a.rows other ≡ (if other.owner == place then 0 else count_of b.rows other)) other.owner
    (λ same. ap (λ cs. count_of cs other) c.clear_all.ensures.rows ∙ sym (ap (λ b. if b then 0 else count_of old.lines.rows other) (ap (λ k. k == place) same ∙ nat_eq_equiv.refl place)))
    (λ off lines. sym (ap (λ b. if b then 0 else count_of lines.rows other) off)))

pub returns-clause-links : goal.returns-clause-links
returns-clause-links c other at differs =
    let owners = c.self.inside.owners.items in let place = c.get-place.result in let old = c.index_mut.result.now in let new = c.clear_all.new.self in
    let got = slice_get_read owners (length owners) place old refl (omega (arith, c.if-place-len.false, c.len.ensures)) c.index_mut.ensures.value in
    rw (← c.self.view_is) (
    set_holds owners place old new got (λ a b. stamp_at a other at ≡ stamp_at b other at) other.owner
    (λ same. absurd (true≢false (sym (ap (λ k. k == c.args.owner) (same ∙ c.get-place.ensures.value) ∙ nat_eq_equiv.refl c.args.owner) ∙ differs)))
    (λ off lines. refl))

pub returns-clause-awaited : goal.returns-clause-awaited
returns-clause-awaited c = all_awaited (lists_of (set c.self.inside.owners.items c.get-place.result c.clear_all.new.self) c.self.inside.room) (own c)
