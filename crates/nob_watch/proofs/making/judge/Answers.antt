use Rattle.std.proofs.Common.{◌≡◌, ◌≤◌, ◌∷◌, ℕ, List, length, get_or, sym, subst, arith}
use Rattle.nob_space.specs.Spaces.{Owner}
use Rattle.nob_watch.specs.Members.{AreMembers, IsAnswered}
use Rattle.nob_watch.specs.Reruns.{IsOriginFault}
use Rattle.nob_recall.specs.Next.{place_of}
use Rattle.nob_watch.proofs.Reruns.{place_is, judged_wrong, judged_stray, judged_seal}
use Rattle.nob_watch.proofs.making.judge.Goals as goal

pub returns-in-Err-clause-judged : goal.returns-in-Err-clause-judged
returns-in-Err-clause-judged c n list J live = c.in-Err.ensures.asked n list J live.members

pub returns-then-not-same-clause-judged : goal.returns-then-not-same-clause-judged
returns-then-not-same-clause-judged c n list J live =
    let dated = c.args.dated.now in
    let next = c.place.ensures.next in
    let places = c.args.places.now in
    let here : get_or places c.place.result 0 ≡ place_of dated.entry J = place_is n J places dated.entry c.place.result live.next c.place.ensures.value (omega (arith, next)) c.requires.places in
    judged_wrong n list c.args.recall.now.span dated J c.is_answered.new.spaces.items (get_or places c.place.result 0) c.in-Ok.same here c.if-not-same.true (c.in-Ok.ensures.asked n list J live.members)

pub returns-in-Some-clause-judged : goal.returns-in-Some-clause-judged
returns-in-Some-clause-judged c n list J live =
    let dated = c.args.dated.now in
    let next = c.place.ensures.next in
    let places = c.args.places.now in
    let place = get_or places c.place.result 0 in
    let span = c.args.recall.now.span in
    let here : get_or places c.place.result 0 ≡ place_of dated.entry J = place_is n J places dated.entry c.place.result live.next c.place.ensures.value (omega (arith, next)) c.requires.places in
    let origin = subst (IsOriginFault span dated.entry J place) c.in-Some.is (c.origin_fault.ensures J live.recalls) in
    judged_stray n list span dated J c.is_answered.new.spaces.items place c.in-Some.fault c.in-Ok.same here c.if-not-same.false (c.in-Ok.ensures.asked n list J live.members) origin

pub seal_fault-requires : goal.seal_fault-requires
seal_fault-requires c = record {
  here = subst (λ (all : List Owner). c.args.dated.now.entry.space ≤ length all) (sym c.as_slice.ensures.value)
      (subst (λ (count : ℕ). c.args.dated.now.entry.space ≤ count) (sym c.is_answered.ensures.each) c.requires.here);
}

pub returns-clause-judged : goal.returns-clause-judged
returns-clause-judged c n list J live =
    let dated = c.args.dated.now in
    let place = get_or c.args.places.now c.place.result 0 in
    let spaces = c.is_answered.new.spaces.items in
    let answered = c.in-Ok.ensures.asked n list J live.members in
    let so = subst (IsAnswered n list J spaces dated.entry) c.if-not-same.false answered in
    let origin = subst (IsOriginFault c.args.recall.now.span dated.entry J place) c.in_default.is (c.origin_fault.ensures J live.recalls) in
    let sealed = c.seal_fault.ensures n list (dated.entry ∷ J) (subst (AreMembers n list (dated.entry ∷ J)) (sym c.as_slice.ensures.value) so.0) in
    judged_seal n list c.args.recall.now dated J spaces place c.seal_fault.result c.in-Ok.same c.if-not-same.false answered origin sealed
