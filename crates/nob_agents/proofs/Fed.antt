-- What ways were fed, after a change of one of them.
use Rattle.std.proofs.Common.{◌≡◌, ◌≢◌, ℕ, ◌+◌, ◌≤◌, zero, suc, Bool, true, false, true≢false, List, [], ◌∷◌, ◌++◌, length, map, take, reverse, Option, Some, None, get_or, refl, sym, ap, ◌∙◌, subst, arith}
use Rattle.std.specs.Prelude.{◌==◌, ◌||◌, if◌then◌else◌, slice_get, slice_set}
use Rattle.std.specs.List.{AllByRecursion}
use Rattle.std.proofs.lemmas.Bool.Decides.{nat_tests}
use Rattle.std.proofs.lemmas.Option.{none-some, slice_get-get_or}
use Rattle.std.proofs.lemmas.List.Quantifiers.{position-Some}
use Rattle.std.proofs.lemmas.List.{take_all, reverse-append}
use Rattle.nob_model_types.specs.declared.event.Event.{Event}
use Rattle.nob_model_types.specs.declared.event.Event.TheVariants as events
use Rattle.std.specs.Prelude.{position, MatchOption}
use Rattle.nob_keeper.specs.Seats.{newest}
use Rattle.nob_frame.specs.declared.frame.Frame.{Frame}
use Rattle.nob_link.specs.declared.parcel.Parcel.{Parcel}
use Rattle.nob_link.specs.declared.parcel.Parcel.TheVariants as parcels
use Rattle.nob_keeper.specs.Receipt.{Receipt}
use Rattle.nob_agents.specs.Ways.{Way, IsTied}
use Rattle.nob_agents.specs.Sending.{AllFed, AreApart, with_fed, fed, transmitted, parcels_to, parcels_with, frames_in, given_to, AllGoneOn, AreTied, leads_to, is_about, AreAbout, LeadAlike}

none_some : {X : Type 0} (x : X) → None ≡ Some x → ⊥
none_some x e = none-some x e

abbrev content : {X : Type 0} → X → Option X → X
content d None = d
content d (Some x) = x

some_is : {X : Type 0} (y x : X) → Some y ≡ Some x → y ≡ x
some_is y x e = ap (content y) e

-- the test of two numbers that differ
apart_is : (q p : ℕ) → q ≢ p → (q == p) ≡ false
apart_is q p apart = grind (arith, nat_tests)

same_is : (q p : ℕ) → q ≡ p → (q == p) ≡ true
same_is q p same = grind (arith, nat_tests)

-- ways to other peers keep what they were fed
pub others_keep : (f : ℕ → List Parcel) (peer : ℕ) (parcel : Parcel) (ways : List Way) → AllByRecursion (λ other. other.peer ≢ peer) ways → AllFed f ways → AllFed (with_fed f peer parcel) ways
others_keep f peer parcel [] apart all = tt
others_keep f peer parcel (w ∷ ws) apart all = (subst (λ (b : Bool). IsTied (if b then parcel ∷ f w.peer else f w.peer) w) (sym (apart_is w.peer peer apart.0)) all.0, others_keep f peer parcel ws apart.1 all.1)

-- what holds of each holds of one
pub one_of : {X : Type 0} (P : X → Type 0) (xs : List X) (at : ℕ) (x : X) → slice_get xs at ≡ Some x → AllByRecursion P xs → P x
one_of P [] at x there all = absurd (none_some x there)
one_of P (y ∷ ys) zero x there all = subst P (some_is y x there) all.0
one_of P (y ∷ ys) (suc at) x there all = one_of P ys at x there all.1

-- one way is fed a parcel more
pub fed_one : (f : ℕ → List Parcel) (peer : ℕ) (parcel : Parcel) (ways : List Way) (at : ℕ) (old new : Way) → slice_get ways at ≡ Some old → old.peer ≡ peer → new.peer ≡ old.peer → AreApart ways → AllFed f ways → IsTied (parcel ∷ f new.peer) new → AllFed (with_fed f peer parcel) (slice_set ways at new)
fed_one f peer parcel [] at old new there to same apart all tied = absurd (none_some old there)
fed_one f peer parcel (w ∷ ws) zero old new there to same apart all tied =
    let is : w ≡ old = some_is w old there in
    let mine : new.peer ≡ peer = same ∙ to in
    let here : w.peer ≡ peer = ap (λ (x : Way). x.peer) is ∙ to in (
      subst (λ (b : Bool). IsTied (if b then parcel ∷ f new.peer else f new.peer) new) (sym (same_is new.peer peer mine)) tied,
      others_keep f peer parcel ws (subst (λ (p : ℕ). AllByRecursion (λ other. other.peer ≢ p) ws) here apart.0) all.1,
    )
fed_one f peer parcel (w ∷ ws) (suc at) old new there to same apart all tied =
    let other : old.peer ≢ w.peer = one_of (λ (x : Way). x.peer ≢ w.peer) ws at old there apart.0 in
    let far : w.peer ≢ peer = λ is. other (to ∙ sym is) in (
      subst (λ (b : Bool). IsTied (if b then parcel ∷ f w.peer else f w.peer) w) (sym (apart_is w.peer peer far)) all.0,
      fed_one f peer parcel ws at old new there to same apart.1 all.1 tied,
    )

-- one way changes, and was fed the same
pub same_one : (f : ℕ → List Parcel) (ways : List Way) (at : ℕ) (new : Way) → AllFed f ways → IsTied (f new.peer) new → AllFed f (slice_set ways at new)
same_one f [] at new all tied = tt
same_one f (w ∷ ws) zero new all tied = (tied, all.1)
same_one f (w ∷ ws) (suc at) new all tied = (all.0, same_one f ws at new all.1 tied)

-- ways stay apart where one is replaced by one to the same peer
apart_from : (p : ℕ) (ways : List Way) (at : ℕ) (old new : Way) → slice_get ways at ≡ Some old → new.peer ≡ old.peer → AllByRecursion (λ other. other.peer ≢ p) ways → AllByRecursion (λ other. other.peer ≢ p) (slice_set ways at new)
apart_from p [] at old new there same all = tt
apart_from p (w ∷ ws) zero old new there same all = ((λ is. all.0 (ap (λ (x : Way). x.peer) (some_is w old there) ∙ sym same ∙ is)), all.1)
apart_from p (w ∷ ws) (suc at) old new there same all = (all.0, apart_from p ws at old new there same all.1)

other_peers : (p q : ℕ) (ways : List Way) → p ≡ q → AllByRecursion (λ other. other.peer ≢ p) ways → AllByRecursion (λ other. other.peer ≢ q) ways
other_peers p q ways is all = subst (λ (r : ℕ). AllByRecursion (λ other. other.peer ≢ r) ways) is all

pub apart_one : (ways : List Way) (at : ℕ) (old new : Way) → slice_get ways at ≡ Some old → new.peer ≡ old.peer → AreApart ways → AreApart (slice_set ways at new)
apart_one [] at old new there same apart = tt
apart_one (w ∷ ws) zero old new there same apart = (other_peers w.peer new.peer ws (ap (λ (x : Way). x.peer) (some_is w old there) ∙ sym same) apart.0, apart.1)
apart_one (w ∷ ws) (suc at) old new there same apart = (apart_from w.peer ws at old new there same apart.0, apart_one ws at old new there same apart.1)

-- ways lead where they led where one is replaced by one to the same peer
pub leads_alike : (ways : List Way) (at : ℕ) (old new : Way) → slice_get ways at ≡ Some old → new.peer ≡ old.peer → LeadAlike ways (slice_set ways at new)
leads_alike [] at old new there same peer = refl
leads_alike (w ∷ ws) zero old new there same peer =
    let is : new.peer ≡ w.peer = same ∙ ap (λ (x : Way). x.peer) (sym (some_is w old there)) in
    ap (λ (p : ℕ). (p == peer) || leads_to peer ws) is
leads_alike (w ∷ ws) (suc at) old new there same peer = ap (λ (b : Bool). (w.peer == peer) || b) (leads_alike ws at old new there same peer)

-- what is about the peers of ways is about those of ways that lead alike
about_alike : (old new : List Way) → LeadAlike old new → (event : Event) → is_about old event ≡ true → is_about new event ≡ true
about_alike old new alike (events.Transmit peer) is = alike peer ∙ is
about_alike old new alike (events.Tick peer) is = alike peer ∙ is
about_alike old new alike (events.Close peer) is = alike peer ∙ is
about_alike old new alike _ is = absurd (true≢false (sym is))

-- so is all that was asked
pub all_about_alike : (old new : List Way) → LeadAlike old new → (receipts : List Receipt) → AreAbout old receipts → AreAbout new receipts
all_about_alike old new alike [] all = tt
all_about_alike old new alike (r ∷ rs) all = (about_alike old new alike r.event all.0, all_about_alike old new alike rs all.1)

-- ways were fed alike by two functions that agree
pub fed_alike : (f g : ℕ → List Parcel) (ways : List Way) → ((p : ℕ) → f p ≡ g p) → AllFed f ways → AllFed g ways
fed_alike f g [] same all = tt
fed_alike f g (w ∷ ws) same all = (subst (λ (l : List Parcel). IsTied l w) (same w.peer) all.0, fed_alike f g ws same all.1)

-- a list is taken further by one
taken_more : {X : Type 0} (xs : List X) (k : ℕ) (x : X) → slice_get xs k ≡ Some x → take (k + 1) xs ≡ take k xs ++ x ∷ []
taken_more [] k x there = absurd (none_some x there)
taken_more (y ∷ ys) zero x there = ap (λ (z : _). z ∷ []) (some_is y x there)
taken_more (y ∷ ys) (suc k) x there = let e : suc k + 1 ≡ suc (k + 1) = omega arith in rw e (ap (λ (l : List _). y ∷ l) (taken_more ys k x there))

-- what was given to one peer was given to no other
given_once : (peer q : ℕ) (event : Event) (given : List Parcel) (k : ℕ) (x : Parcel) → slice_get (given_to peer event given) k ≡ Some x → (q == peer) ≡ false → given_to q event given ≡ []
given_once peer q (events.Transmit to) given k x there apart =
    elim (to == peer) as (λ b. (to == peer) ≡ b → slice_get (if b then given else []) k ≡ Some x → (if to == q then given else []) ≡ []) [
      | true ↦ λ is _. let far : (to == q) ≡ false = grind (arith, nat_tests) in ap (λ (b : Bool). if b then given else []) far
      | false ↦ λ is none. absurd (none_some x none)
    ] refl there
given_once peer q _ given k x there apart = absurd (none_some x there)

-- what one parcel more makes of a list that is turned round
turned_more : {X : Type 0} (xs : List X) (k : ℕ) (x : X) → slice_get xs k ≡ Some x → x ∷ reverse (take k xs) ≡ reverse (take (k + 1) xs)
turned_more xs k x there = sym (ap reverse (taken_more xs k x there) ∙ reverse-append (take k xs) (x ∷ []))

abbrev the_none : (X : Type 0) → List X
the_none X = []

-- one parcel more of the newest receipt has gone on
pub handled_more : (peer handled : ℕ) (parcel : Parcel) (receipt : Receipt) (earlier : List Receipt) → slice_get (parcels_to peer receipt) handled ≡ Some parcel → (q : ℕ) → with_fed (λ p. fed p handled (receipt ∷ earlier)) peer parcel q ≡ fed q (handled + 1) (receipt ∷ earlier)
handled_more peer handled parcel receipt earlier there q =
    elim (q == peer) as (λ b. (q == peer) ≡ b → (if b then parcel ∷ fed q handled (receipt ∷ earlier) else fed q handled (receipt ∷ earlier)) ≡ fed q (handled + 1) (receipt ∷ earlier)) [
      | true ↦ λ is.
          let same : peer ≡ q = grind (arith, nat_tests) in
          let here : slice_get (parcels_to q receipt) handled ≡ Some parcel = subst (λ (p : ℕ). slice_get (parcels_to p receipt) handled ≡ Some parcel) same there in
          ap (λ (l : List Parcel). l ++ transmitted q earlier) (turned_more (parcels_to q receipt) handled parcel here)
      | false ↦ λ is.
          let none = given_once peer q receipt.event (parcels_with receipt.stamp (frames_in receipt.result)) handled parcel there is in
          let no : take handled (the_none Parcel) ≡ take (handled + 1) (the_none Parcel) = take_all handled [] (omega arith) ∙ sym (take_all (handled + 1) [] (omega arith)) in
          ap (λ (l : List Parcel). reverse (take handled l) ++ transmitted q earlier) none ∙ ap (λ (l : List Parcel). reverse l ++ transmitted q earlier) no ∙ sym (ap (λ (l : List Parcel). reverse (take (handled + 1) l) ++ transmitted q earlier) none)
    ] refl

-- what stands in a list stands, changed, in the changed list
get_map : {X Y : Type 0} (g : X → Y) (xs : List X) (k : ℕ) (x : X) → slice_get xs k ≡ Some x → slice_get (map g xs) k ≡ Some (g x)
get_map g [] k x there = absurd (none_some x there)
get_map g (y ∷ ys) zero x there = ap (λ (z : _). Some (g z)) (some_is y x there)
get_map g (y ∷ ys) (suc k) x there = get_map g ys k x there

length_map : {X Y : Type 0} (g : X → Y) (xs : List X) → length (map g xs) ≡ length xs
length_map g [] = refl
length_map g (x ∷ xs) = ap suc (length_map g xs)

-- the frame of a Transmit at this place, as a parcel
pub next_is : (receipt : Receipt) (peer k : ℕ) (frame : Frame) → receipt.event ≡ events.Transmit peer → slice_get (frames_in receipt.result) k ≡ Some frame → slice_get (parcels_to peer receipt) k ≡ Some (parcels.Frame receipt.stamp frame)
next_is receipt peer k frame event_is there = rw (event_is, same_is peer peer refl) (get_map (λ f. parcels.Frame receipt.stamp f) (frames_in receipt.result) k frame there)

-- what is given to one is all or nothing
given_few : (peer : ℕ) (event : Event) (given : List Parcel) → length (given_to peer event given) ≤ length given
given_few peer (events.Transmit to) given =
    elim (to == peer) as (λ b. length (if b then given else []) ≤ length given) [
      | true ↦ omega arith
      | false ↦ omega arith
    ]
given_few peer _ given = omega arith

-- where all frames of a receipt have gone on, all parcels have, whomever they go to
pub none_left : (receipt : Receipt) (k : ℕ) → length (frames_in receipt.result) ≤ k → (peer : ℕ) → length (parcels_to peer receipt) ≤ k
none_left receipt k few peer = omega (arith, given_few peer receipt.event (parcels_with receipt.stamp (frames_in receipt.result)), length_map (λ f. parcels.Frame receipt.stamp f) (frames_in receipt.result), few)

-- the way at the first place that leads to a peer
pub one_leads : (peer : ℕ) (ways : List Way) (at : ℕ) (d : Way) → position (λ way. way.peer == peer) ways ≡ Some at → (slice_get ways at ≡ Some (get_or ways at d)) × ((get_or ways at d).peer ≡ peer)
one_leads peer ways at d one =
    let found = position-Some (λ (way : Way). way.peer == peer) ways at d one in
    let is : ((get_or ways at d).peer == peer) ≡ true = found.1 in
    (slice_get-get_or ways at d found.0, grind (arith, nat_tests))

-- where all of the newest receipt has gone on, one more receipt changes nothing
pub all_gone_on : (handled : ℕ) (new : Receipt) (receipts : List Receipt) → AllGoneOn handled receipts → (q : ℕ) → fed q handled receipts ≡ fed q 0 (new ∷ receipts)
all_gone_on handled new [] all q = refl
all_gone_on handled new (receipt ∷ earlier) all q = ap (λ (l : List Parcel). reverse l ++ transmitted q earlier) (take_all handled (parcels_to q receipt) (none_left receipt handled all q))

-- an agent asked its space for something, once all had gone on
pub tied_after_asking : (handled : ℕ) (new : Receipt) (receipts : List Receipt) (ways : List Way) → AllGoneOn handled receipts → is_about ways new.event ≡ true → AreTied (record { ways = ways; receipts = receipts; handled = handled }) → AreTied (record { ways = ways; receipts = new ∷ receipts; handled = 0 })
tied_after_asking handled new receipts ways all about tied = record {
  tied = fed_alike (λ p. fed p handled receipts) (λ p. fed p 0 (new ∷ receipts)) ways (all_gone_on handled new receipts all) tied.tied;
  apart = tied.apart;
  asked = (about, tied.asked);
}

-- a frame of the newest receipt went on to its way
pub tied_after_passing : (handled peer : ℕ) (parcel : Parcel) (receipt : Receipt) (earlier : List Receipt) (new : List Way) → slice_get (parcels_to peer receipt) handled ≡ Some parcel → AllFed (with_fed (λ p. fed p handled (receipt ∷ earlier)) peer parcel) new → AreApart new → AreAbout new (receipt ∷ earlier) → AreTied (record { ways = new; receipts = receipt ∷ earlier; handled = handled + 1 })
tied_after_passing handled peer parcel receipt earlier new there tied apart asked = record {
  tied = fed_alike (with_fed (λ p. fed p handled (receipt ∷ earlier)) peer parcel) (λ p. fed p (handled + 1) (receipt ∷ earlier)) new (handled_more peer handled parcel receipt earlier there) tied;
  apart = apart;
  asked = asked;
}

-- a way put what was kept behind its shim
pub tied_after_putting : (handled : ℕ) (receipts : List Receipt) (ways : List Way) (at : ℕ) (old new : Way) → slice_get ways at ≡ Some old → new.peer ≡ old.peer → ((l : List Parcel) → IsTied l old → IsTied l new) → AreTied (record { ways = ways; receipts = receipts; handled = handled }) → AreTied (record { ways = slice_set ways at new; receipts = receipts; handled = handled })
tied_after_putting handled receipts ways at old new there same keeps tied =
    let f : ℕ → List Parcel = λ p. fed p handled receipts in
    let mine : IsTied (f old.peer) old = one_of (λ w. IsTied (f w.peer) w) ways at old there tied.tied in
    record {
      tied = same_one f ways at new tied.tied (subst (λ (p : ℕ). IsTied (f p) new) (sym same) (keeps (f old.peer) mine));
      apart = apart_one ways at old new there same tied.apart;
      asked = all_about_alike ways (slice_set ways at new) (leads_alike ways at old new there same) receipts tied.asked;
    }

-- a seat with a newest receipt has this and those before
pub newest_is : (receipts : List Receipt) (receipt : Receipt) → newest receipts ≡ Some receipt → (earlier : List Receipt) × (receipts ≡ receipt ∷ earlier)
newest_is [] receipt is = absurd (none_some receipt is)
newest_is (r ∷ rs) receipt is = (rs, ap (λ (x : Receipt). x ∷ rs) (some_is r receipt is))

-- what is found at a place, if it was found
pub found_at : {X : Type 0} (P : X → Type 0) (Q : Type 0) (found : Option X) (x : X) → found ≡ Some x → MatchOption found Q P → P x
found_at P Q None x is holds = absurd (none_some x is)
found_at P Q (Some y) x is holds = subst P (some_is y x is) holds
