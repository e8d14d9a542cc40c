use Rattle.std.proofs.Common.{◌≡◌, ◌+◌, ◌∷◌, ◌++◌, ℕ, [], List, length, length-append, Some, slice_get, sym, subst, ap, ◌∙◌, arith}
use Rattle.nob_space.specs.Spaces.{Owner}
use Rattle.nob_watch.specs.Members.{IsMember}
use Rattle.nob_watch.proofs.Spaces.{member_new, members_push}
use Rattle.nob_watch.proofs.members.open_all.Goals as goal

pub loop-p-preserved : goal.loop-p-preserved
loop-p-preserved c =
    let n = c.args.n in
    let list = c.args.limits.now in
    let before = c.loop-p.spaces.items in
    let space = c.in-Ok.space in
    let p = c.loop-p.p in
    let id = c.in-Some.id in
    let count = c.loop-p.invariant.count in
    let low = c.loop-p.invariant.few in
    let test = c.loop-p-test.true in
    let next = c.place.ensures.next in
    let long = c.requires.each in
    let id_is : id ≡ p = c.in-Some.ensures.value in
    let its : IsMember n list [] id space = member_new n list id c.place.result c.index-limits-place.result space c.place.ensures.value (omega (arith, next)) (omega (arith, long, test, id_is)) c.index-limits-place.is c.in-Ok.ensures.id c.in-Ok.ensures.n c.in-Ok.ensures.limits c.in-Ok.ensures.stands in
    let last : IsMember n list [] (length before + 1) space = subst (λ (q : ℕ). IsMember n list [] q space) (id_is ∙ sym count) its in
    let items : c.push.new.self.items ≡ before ++ space ∷ [] = c.in-Ok-push.ensures.items in
    let more : length c.push.new.self.items ≡ length before + 1 = ap length items ∙ length-append before (space ∷ []) in
    record {
      count = omega (arith, more, count);
      few = omega (arith, test);
      stand = subst (λ (all : List Owner). (place : ℕ) (own : Owner) → slice_get all place ≡ Some own → IsMember n list [] (place + 1) own) (sym items) (members_push n list before space c.loop-p.invariant.stand last);
    }
