-- All ends of a lane, taken apart into the first and the others.
use Rattle.std.proofs.Common.{◌≡◌, ◌≤◌, List, [], ◌∷◌, length, get_or, remove, sym, ap, ◌∙◌, subst, arith}
use Rattle.std.specs.List.{AllByRecursion}
use Rattle.crossbeam_channel.specs.Claims.{IsSeatAt}
use Rattle.crossbeam_channel.specs.Ends.{sends_on, receives_on}
use Rattle.nob_dispatch_lanes.specs.declared.ends.LanePut.{LanePut}
use Rattle.nob_dispatch_lanes.specs.declared.ends.LaneTake.{LaneTake}
use Rattle.nob_dispatch_lanes.specs.Ends.{lane_of}
use Rattle.nob_dispatch_lanes.specs.Lanes.{AreAllEnds, IsOneLane}

pub parted : {X : Type 0} (xs rest : List X) (x : X) → 1 ≤ length xs → x ≡ get_or xs 0 x → rest ≡ remove xs 0 → xs ≡ x ∷ rest
parted [] rest x some first others = absurd (omega arith)
parted (y ∷ ys) rest x some first others = λ i. sym first i ∷ sym others i

-- the others give to the lane of the first
on_one_lane : {X : Type 0} (p : LanePut X) (ps : List (LanePut X)) (takes : List (LaneTake X)) → 1 ≤ length takes → AllByRecursion (λ give. AllByRecursion (λ get. IsOneLane give get) takes) (p ∷ ps) → AllByRecursion (λ end. lane_of end.pass ≡ lane_of p.pass) ps
on_one_lane p [] takes some one = tt
on_one_lane p (q ∷ qs) [] some one = absurd (omega arith)
on_one_lane p (q ∷ qs) (t ∷ ts) some one = (one.1.0.0 ∙ sym one.0.0, on_one_lane p qs (t ∷ ts) some (one.0, one.1.1))

module _ {X : Type 0} where
  -- a getting end's pass may stand at the channel of a giving end of its lane
  pub takes_at : (p : LanePut X) (t : LaneTake X) → IsOneLane p t → IsSeatAt (sends_on p.sender) t.pass
  takes_at p t one = (ap (λ (lane : _ × _). lane.0) (sym one) ∙ p.seated.0, ap (λ (lane : _ × _). lane.1) (sym one) ∙ p.seated.1, t.seated.2, p.seated.3)

  -- so may a giving end's
  puts_at : (p q : LanePut X) → lane_of q.pass ≡ lane_of p.pass → IsSeatAt (sends_on p.sender) q.pass
  puts_at p q one = (ap (λ (lane : _ × _). lane.0) one ∙ p.seated.0, ap (λ (lane : _ × _). lane.1) one ∙ p.seated.1, q.seated.2, p.seated.3)

  all_puts_at : (p : LanePut X) (ps : List (LanePut X)) → AllByRecursion (λ end. lane_of end.pass ≡ lane_of p.pass) ps → AllByRecursion (λ end. IsSeatAt (sends_on p.sender) end.pass) ps
  all_puts_at p [] one = tt
  all_puts_at p (q ∷ qs) one = (puts_at p q one.0, all_puts_at p qs one.1)

  pub givers_at : (p : LanePut X) (ps : List (LanePut X)) (takes : List (LaneTake X)) → 1 ≤ length takes → AreAllEnds (p ∷ ps) takes → AllByRecursion (λ end. IsSeatAt (sends_on p.sender) end.pass) ps
  givers_at p ps takes some ends = all_puts_at p ps (on_one_lane p ps takes some ends.one)

  pub getters_at : (p : LanePut X) (takes : List (LaneTake X)) → AllByRecursion (λ get. IsOneLane p get) takes → AllByRecursion (λ end. IsSeatAt (sends_on p.sender) end.pass) takes
  getters_at p [] one = tt
  getters_at p (t ∷ ts) one = (takes_at p t one.0, getters_at p ts one.1)

  -- ends of one channel are of one lane
  one_lane : (p : LanePut X) (t : LaneTake X) → sends_on p.sender ≡ receives_on t.receiver → IsOneLane p t
  one_lane p t same = λ i. (
    (p.seated.0 ∙ ap (λ (c : _). c.stamps.shared.table_id) same ∙ sym t.seated.0) i,
    (p.seated.1 ∙ ap (λ (c : _). c.stamps.shared.key) same ∙ sym t.seated.1) i,
  )

  pub all_one_lane : (first : LanePut X) (ps : List (LanePut X)) (ts : List (LaneTake X)) → AllByRecursion (λ end. sends_on end.sender ≡ sends_on first.sender) ps → AllByRecursion (λ end. sends_on first.sender ≡ receives_on end.receiver) ts → AllByRecursion (λ give. AllByRecursion (λ get. IsOneLane give get) ts) ps
  all_one_lane first [] ts gives gets = tt
  all_one_lane first (p ∷ ps) ts gives gets = (of_one p ts gives.0 gets, all_one_lane first ps ts gives.1 gets)
    where
      of_one : (p : LanePut X) (ts : List (LaneTake X)) → sends_on p.sender ≡ sends_on first.sender → AllByRecursion (λ end. sends_on first.sender ≡ receives_on end.receiver) ts → AllByRecursion (λ get. IsOneLane p get) ts
      of_one p [] same gets = tt
      of_one p (t ∷ ts) same gets = (one_lane p t (same ∙ gets.0), of_one p ts same gets.1)

pub of_parted : {X : Type 0} (puts puts' : List (LanePut X)) (takes takes' : List (LaneTake X)) → puts ≡ puts' → takes ≡ takes' → AreAllEnds puts takes → AreAllEnds puts' takes'
of_parted puts puts' takes takes' e f ends = subst (λ (x : List (LanePut _) × List (LaneTake _)). AreAllEnds x.0 x.1) (λ i. (e i, f i)) ends
