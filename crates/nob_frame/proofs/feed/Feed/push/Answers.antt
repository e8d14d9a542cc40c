use Rattle.std.proofs.Common.{ap, sym, subst, refl, ◌∙◌, List, ℕ, ◌<◌, drop, length, Ok, arith}
use Rattle.std.proofs.lemmas.List.{take_at}
use Rattle.nob_frame.specs.Streams.{Splits, IsCut, Pushes, kept_of, wanted_by}
use Rattle.nob_frame.proofs.Pushing.{stays, still_waits, waits_on, waits_again, gives, only_those, little_kept, few_kept}
use Rattle.nob_frame.proofs.feed.Feed.push.Goals as goal

-- nothing came
stayed : (c : goal.After-new) → Pushes c.args.self.now c.args.piece.now (Ok c.new.result.items) c.args.self.now
stayed c =
    stays c.args.self.now c.self.inside.fault c.self.inside.kept.items c.args.piece.now c.self.inside.wanted c.new.result.items c.self.view_is c.in_default.is c.self.invariant
    c.if-is_empty.ensures c.new.ensures.items

-- the bytes kept before with the piece wait for more
waited : (c : goal.After-new-then-len-self) → Pushes c.args.self.now c.args.piece.now (Ok c.new-then-len-self.result.items) (kept_of c.self.inside.fault c.extend_from_slice.new.self.items)
waited c =
    let less : length c.extend_from_slice.new.self.items < c.self.inside.wanted = omega arith in
    waits_on c.args.self.now c.self.inside.fault c.self.inside.kept.items c.args.piece.now c.extend_from_slice.new.self.items c.self.inside.wanted c.new-then-len-self.result.items c.self.view_is c.in_default.is
    c.self.invariant c.in_ok-extend_from_slice.ensures.ok less c.new-then-len-self.ensures.items

-- they have given frames
gave : (c : goal.After-self-1) → Pushes c.args.self.now c.args.piece.now (Ok c.in-Ok.frames.items) (kept_of c.self.inside.fault c.advance.new.self.items)
gave c =
    let rest_is = sym (c.advance.ensures.items ∙ ap (drop c.in-Ok.used) (sym c.as_slice.ensures)) in
    gives c.args.self.now c.self.inside.fault c.self.inside.kept.items c.args.piece.now c.as_slice.result.now c.advance.new.self.items c.in-Ok.frames.items c.self.view_is c.in_default.is
    (c.as_slice.ensures ∙ c.in_ok-extend_from_slice.ensures.ok)
    (subst (λ (r : List ℕ). Splits c.as_slice.result.now c.in-Ok.frames.items r) rest_is c.in-Ok.ensures.found.0) (subst IsCut rest_is c.in-Ok.ensures.found.1)

pub invariant_of-self-then-len-self : goal.invariant_of-self-then-len-self
invariant_of-self-then-len-self c =
    let less : length c.extend_from_slice.new.self.items < c.self.inside.wanted = omega arith in
    still_waits c.self.inside.fault c.self.inside.kept.items c.args.piece.now c.extend_from_slice.new.self.items c.self.inside.wanted c.in_default.is c.self.invariant
    c.in_ok-extend_from_slice.ensures.ok less

pub invariant_of-self-in-Ok : goal.invariant_of-self-in-Ok
invariant_of-self-in-Ok c =
    let same = sym (c.advance.ensures.items ∙ ap (drop c.in-Ok.used) (sym c.as_slice.ensures)) in
    waits_again c.self.inside.fault c.advance.new.self.items c.wanted_from-self-inside.result c.in_default.is (subst IsCut same c.in-Ok.ensures.found.1)
    (c.wanted_from-self-inside.ensures ∙ ap wanted_by c.as_slice-in-Ok.ensures)

pub returns-then-len-self-clause-answer : goal.returns-then-len-self-clause-answer
returns-then-len-self-clause-answer c = waited c

pub returns-then-len-self-clause-only : goal.returns-then-len-self-clause-only
returns-then-len-self-clause-only c = only_those _ _ _ _ (waited c)

pub returns-then-len-self-clause-few : goal.returns-then-len-self-clause-few
returns-then-len-self-clause-few c = little_kept _ _ _ _ (waited c)

pub returns-in-Ok-clause-only : goal.returns-in-Ok-clause-only
returns-in-Ok-clause-only c = only_those _ _ _ _ (gave c)

pub returns-in-Ok-clause-few : goal.returns-in-Ok-clause-few
returns-in-Ok-clause-few c = little_kept _ _ _ _ (gave c)

pub returns-then-is_empty-clause-answer : goal.returns-then-is_empty-clause-answer
returns-then-is_empty-clause-answer c = stayed c

pub returns-then-is_empty-clause-only : goal.returns-then-is_empty-clause-only
returns-then-is_empty-clause-only c = only_those _ _ _ _ (stayed c)

pub returns-then-is_empty-clause-few : goal.returns-then-is_empty-clause-few
returns-then-is_empty-clause-few c = little_kept _ _ _ _ (stayed c)

-- memory ran out, and what was kept still is
pub returns-in_err-extend_from_slice-clause-few : goal.returns-in_err-extend_from_slice-clause-few
returns-in_err-extend_from_slice-clause-few c = few_kept _ c.self.inside.fault c.extend_from_slice.new.self.items c.self.inside.wanted refl (rw c.in_err-extend_from_slice.ensures.err c.self.invariant)

pub returns-in-Err-OutOfMemory-clause-few : goal.returns-in-Err-OutOfMemory-clause-few
returns-in-Err-OutOfMemory-clause-few c = few_kept _ c.self.inside.fault c.truncate.new.self.items c.self.inside.wanted refl (rw (c.truncate.ensures.items, c.in_ok-extend_from_slice.ensures.ok, take_at c.self.inside.kept.items c.args.piece.now c.len-before.result (sym c.len-before.ensures.value)) c.self.invariant)
