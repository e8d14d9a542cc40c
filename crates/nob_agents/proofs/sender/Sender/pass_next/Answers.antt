use Rattle.std.proofs.Common.{arith, ◌≡◌, ◌+◌, ◌<◌, ◌≤◌, ◌∷◌, ℕ, List, length, Option, Some, sym, subst}
use Rattle.std.specs.Prelude.{◌^◌, slice_get, IfSome, MatchOption}
use Rattle.nob_keeper.specs.Receipt.{Receipt}
use Rattle.nob_link.specs.declared.parcel.Parcel.{Parcel}
use Rattle.nob_agents.specs.Ways.{Way}
use Rattle.nob_agents.specs.Sending.{AreTied, AreAbout, AllFed, fed, with_fed, parcels_to}
use Rattle.nob_agents.proofs.Fed.{tied_after_passing, newest_is, all_about_alike}
use Rattle.nob_agents.proofs.sender.Sender.pass_next.Goals as goal

pub overflow_add-self : goal.overflow_add-self
overflow_add-self g c = let few : c.self.inside.handled < 2 ^ 63 = subst (λ (next : Option (ℕ × Parcel)). IfSome next (λ _. c.self.inside.handled < 2 ^ 63)) c.in-Some-next.is c.in_ok-next.ensures.few in omega (arith, few)

pub invariant_of-self-2 : goal.invariant_of-self-2
invariant_of-self-2 g c =
    let receipt : Receipt = c.in-Some.receipt.now in let handled = c.self.inside.handled in let due : ℕ × Parcel = c.in-Some-next.due in
    let is = newest_is c.self.inside.seat receipt c.in-Some.ensures in
    let tied = c.in_ok-pass_on.ensures.fed (λ p. fed p handled c.self.inside.seat) c.self.invariant.apart c.self.invariant.tied c.if-not-branch.false in
    let here : AllFed (with_fed (λ p. fed p handled (receipt ∷ is.0)) due.0 due.1) c.pass_on.new.ways.items = subst (λ (receipts : List Receipt). AllFed (with_fed (λ p. fed p handled receipts) due.0 due.1) c.pass_on.new.ways.items) is.1 tied.0 in
    let there : slice_get (parcels_to due.0 receipt) handled ≡ Some due.1 = subst (λ (next : Option (ℕ × Parcel)). MatchOption next ((peer : ℕ) → length (parcels_to peer receipt) ≤ handled) (λ due. slice_get (parcels_to due.0 receipt) handled ≡ Some due.1)) c.in-Some-next.is c.in_ok-next.ensures.next in
    let new : List Way = c.pass_on.new.ways.items in
    let about : AreAbout new c.self.inside.seat = all_about_alike c.self.inside.ways.items new (c.in_ok-pass_on.ensures.leads c.if-not-branch.false) c.self.inside.seat c.self.invariant.asked in
    let asked : AreAbout new (receipt ∷ is.0) = subst (λ (receipts : List Receipt). AreAbout new receipts) is.1 about in
    subst (λ (receipts : List Receipt). AreTied (record { ways = new; receipts = receipts; handled = handled + 1 })) (sym is.1) (tied_after_passing handled due.0 due.1 receipt is.0 new there here tied.1 asked)
