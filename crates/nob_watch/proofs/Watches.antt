-- What is kept of a checker that follows.
use Rattle.std.proofs.Common.{◌≡◌, ℕ, ◌+◌, ◌-◌, ◌≤◌, Bool, true, false, ◌&&◌, ◌||◌, nat_lt, List, [], ◌∷◌, ◌++◌, length, replicate, slice_get, Option, Some, None, refl, sym, ap, subst, ◌∙◌, arith}
use Rattle.std.specs.Prelude.{Result, Ok, Err, IfOk, OnOk, OnErr}
use Rattle.std.specs.List.{list_any}
use Rattle.std.proofs.lemmas.Bool.{and_parts}
use Rattle.std.proofs.lemmas.Bool.Decides.{nat_tests}
use Rattle.nob_model_traces.specs.declared.moment.Moment.{Moment}
use Rattle.nob_model_traces.specs.Merged.{is_earlier}
use Rattle.nob_recall.specs.declared.fault.WatchError.{WatchError}
use Rattle.nob_recall.specs.declared.fault.WatchError.TheVariants.{Fault, OutOfMemory}
use Rattle.nob_recall.specs.declared.fault.WatchFault.{WatchFault}
use Rattle.nob_recall.specs.declared.dated.Dated.{Dated}
use Rattle.nob_recall.specs.declared.head.Upcoming.{Upcoming}
use Rattle.nob_recall.specs.Dues.{AreOfSpaces, IsDue, IsTold as IsToldTo, with_passed, with_end, no_head, earliest, is_wanted, may_come}
use Rattle.nob_recall.specs.Orders.{InOrder, AreAhead}
use Rattle.nob_recall.proofs.Dues.{IsNoEarlier, least, found_at, due_at, all_none, due_within, all_told, all_ended, all_passed, order_passed, passed_length, ended_length}
use Rattle.std.proofs.lemmas.List.{length-set, length-replicate}
use Rattle.nob_watch.specs.Reruns.{Following, Passes, PassesAfter}
use Rattle.nob_watch.specs.Watches.{Watching, IsWatching, AreUpToLowest, GoesOnBy}

-- what was passed, and how many spaces there are, where an entry wasn't passed
same_passed : (old new : Following) (dated : Dated) (error : WatchError) → Passes old new dated (Err error) → (new.passed ≡ old.passed) × (new.n ≡ old.n)
same_passed old new dated error is = by old.fault error is
  where
    by : (found : Option WatchFault) (error : WatchError) → PassesAfter found old new dated (Err error) → (new.passed ≡ old.passed) × (new.n ≡ old.n)
    by (Some fault) error is = (ap (λ (f : Following). f.passed) is.1, ap (λ (f : Following). f.n) is.1)
    by None (Fault fault) is = (ap (λ (f : Following). f.passed) is.1, ap (λ (f : Following). f.n) is.1)
    by None OutOfMemory is = (ap (λ (f : Following). f.passed) is, ap (λ (f : Following). f.n) is)

more_passed : (old new : Following) (dated : Dated) → Passes old new dated (Ok tt) → (new.passed ≡ old.passed ++ dated ∷ []) × (new.n ≡ old.n)
more_passed old new dated is = by old.fault is
  where
    by : (found : Option WatchFault) → PassesAfter found old new dated (Ok tt) → (new.passed ≡ old.passed ++ dated ∷ []) × (new.n ≡ old.n)
    by (Some fault) is = absurd (let clash = is.0 in cc)
    by None is = (ap (λ (f : Following). f.passed) is.1, ap (λ (f : Following). f.n) is.1)

-- where the same was passed, of as many spaces
pub watching_same : (old new : Watching) → IsWatching old → new.following.passed ≡ old.following.passed → new.following.n ≡ old.following.n → new.heads ≡ old.heads → IsWatching new
watching_same old new is passed n heads = record {
  some = subst (λ (m : ℕ). 1 ≤ m) (sym n) is.some;
  each = ap length heads ∙ is.each ∙ sym n;
  ahead = subst (λ (hs : List Upcoming). AreAhead new.following.passed hs) (sym heads) (subst (λ (ds : List Dated). AreAhead ds old.heads) (sym passed) is.ahead);
  in_order = subst InOrder (sym passed) is.in_order;
}

pub watching_told : (old new : Watching) (dated : Dated) → IsWatching old → new.following ≡ old.following → IsToldTo old.heads new.heads dated → IsWatching new
watching_told old new dated is same told = record {
  some = subst (λ (f : Following). 1 ≤ f.n) (sym same) is.some;
  each = ap length told.new_is ∙ length-set old.heads _ _ ∙ is.each ∙ ap (λ (f : Following). f.n) (sym same);
  ahead = subst (λ (f : Following). AreAhead f.passed new.heads) (sym same) (subst (λ (hs : List Upcoming). AreAhead old.following.passed hs) (sym told.new_is) (all_told old.following.passed old.heads dated told.head is.ahead told.there told.can.0 told.can.1));
  in_order = subst (λ (f : Following). InOrder f.passed) (sym same) is.in_order;
}

-- what was told, or handed back
pub watching_tell : (old new : Watching) (dated : Dated) (result : Result Unit Dated) → IsWatching old → new.following ≡ old.following → OnOk result (IsToldTo old.heads new.heads dated) → OnErr result (new.heads ≡ old.heads) → IsWatching new
watching_tell old new dated (Ok done) is same told err = watching_told old new dated is same told
watching_tell old new dated (Err back) is same told err = watching_same old new is (ap (λ (f : Following). f.passed) same) (ap (λ (f : Following). f.n) same) err

pub watching_ended : (old new : Watching) (p : ℕ) → IsWatching old → new.following ≡ old.following → new.heads ≡ with_end p old.heads → IsWatching new
watching_ended old new p is same heads = record {
  some = subst (λ (f : Following). 1 ≤ f.n) (sym same) is.some;
  each = ap length heads ∙ ended_length p old.heads ∙ is.each ∙ ap (λ (f : Following). f.n) (sym same);
  ahead = subst (λ (hs : List Upcoming). AreAhead new.following.passed hs) (sym heads) (subst (λ (f : Following). AreAhead f.passed (with_end p old.heads)) (sym same) (all_ended old.following.passed p old.heads is.ahead));
  in_order = subst (λ (f : Following). InOrder f.passed) (sym same) is.in_order;
}

pub watching_on : (old new : Watching) (result : Result Bool WatchError) → IsWatching old → AreOfSpaces old.heads → GoesOnBy old.following new.following old.heads new.heads result → IsWatching new
watching_on old new (Ok true) is spaces (dated, due, passes, heads) =
    let more = more_passed old.following new.following dated passes in
    record {
      some = subst (λ (m : ℕ). 1 ≤ m) (sym more.1) is.some;
      each = ap length heads ∙ passed_length dated.entry.space old.heads ∙ is.each ∙ sym more.1;
      ahead = subst (λ (hs : List Upcoming). AreAhead new.following.passed hs) (sym heads) (subst (λ (ds : List Dated). AreAhead ds (with_passed dated.entry.space old.heads)) (sym more.0) (all_passed old.following.passed old.heads dated spaces is.ahead due));
      in_order = subst InOrder (sym more.0) (order_passed old.following.passed old.heads dated is.ahead is.in_order due);
    }
watching_on old new (Ok false) is spaces (none, same, heads) = watching_same old new is (ap (λ (f : Following). f.passed) same) (ap (λ (f : Following). f.n) same) heads
watching_on old new (Err error) is spaces (dated, due, passes, heads) =
    let same = same_passed old.following new.following dated error passes in
    watching_same old new is same.0 same.1 heads

-- nothing was told yet
pub watching_none : (following : Following) (count : ℕ) (heads : List Upcoming) → following.passed ≡ [] → following.n ≡ count → 1 ≤ count → heads ≡ replicate count no_head → IsWatching (record { following = following; heads = heads })
watching_none following count heads none n some is = record {
  some = subst (λ (m : ℕ). 1 ≤ m) (sym n) some;
  each = ap length is ∙ length-replicate count no_head ∙ sym n;
  ahead = subst (λ (hs : List Upcoming). AreAhead following.passed hs) (sym is) (subst (λ (ds : List Dated). AreAhead ds (replicate count no_head)) (sym none) (all_none count));
  in_order = subst InOrder (sym none) tt;
}

-- ---- up to the lowest last stamp

any_later : (low high : ℕ) (heads : List Upcoming) → low ≤ high → list_any (may_come low) heads ≡ true → list_any (may_come high) heads ≡ true
any_later low high [] most is = absurd cc
any_later low high (head ∷ heads) most is = by (may_come low head) refl is (any_later low high heads most)
  where
    later : (b : Bool) → list_any (may_come high) heads ≡ true → (b || list_any (may_come high) heads) ≡ true
    later true rest = refl
    later false rest = rest

    by : (b : Bool) → may_come low head ≡ b → (b || list_any (may_come low) heads) ≡ true → (list_any (may_come low) heads ≡ true → list_any (may_come high) heads ≡ true) → (may_come high head || list_any (may_come high) heads) ≡ true
    by true its any rest =
        let parts = and_parts (is_wanted head) (nat_lt head.last low) its in
        let before = parts.1 in
        let less : nat_lt head.last high ≡ true = grind (arith, nat_tests, before, most) in
        λ i. (parts.0 i && less i) || list_any (may_come high) heads
    by false its any rest = later (may_come high head) (rest any)

-- where none is due
pub up_to_lowest : (heads : List Upcoming) → AreOfSpaces heads → ((dated : Dated) → IsDue heads dated → ⊥) → AreUpToLowest heads
up_to_lowest heads are none place head dated there next = by (earliest 1 heads) refl
  where
    first : IsNoEarlier (earliest 1 heads) (record { stamp = dated.stamp; space = 1 + place })
    first = least 1 heads place head dated there next

    of : (moment : Moment) → earliest 1 heads ≡ Some moment → moment.stamp ≤ dated.stamp → (t : Bool) → list_any (may_come moment.stamp) heads ≡ t → list_any (may_come dated.stamp) heads ≡ true
    of moment is low true some = any_later moment.stamp dated.stamp heads low some
    of moment is low false nothing =
        let at = found_at 1 heads moment is in
        let here : moment.space ≡ 1 + at.place = ap (λ (m : Moment). m.space) at.moment_is in
        let place_is : at.place ≡ moment.space - 1 = omega (arith, here) in
        absurd (none at.dated (due_at heads moment at.head at.dated are is nothing (sym (ap (slice_get heads) place_is) ∙ at.there) at.next))

    by : (found : Option Moment) → earliest 1 heads ≡ found → list_any (may_come dated.stamp) heads ≡ true
    by None is = absurd (subst (λ (o : Option Moment). IsNoEarlier o (record { stamp = dated.stamp; space = 1 + place })) is first)
    by (Some moment) is =
        let no : is_earlier (record { stamp = dated.stamp; space = 1 + place }) moment ≡ false = subst (λ (o : Option Moment). IsNoEarlier o (record { stamp = dated.stamp; space = 1 + place })) is first in
        let low : moment.stamp ≤ dated.stamp = grind (arith, nat_tests, no) in
        of moment is low (list_any (may_come moment.stamp) heads) refl

-- whatever came of going on
pub cut_at : (old new : Watching) (result : Result Bool WatchError) → AreOfSpaces old.heads → GoesOnBy old.following new.following old.heads new.heads result → IfOk result (λ went. went ≡ false → AreUpToLowest new.heads)
cut_at old new (Ok true) are goes = λ went. absurd cc
cut_at old new (Ok false) are (none, same, heads) = λ went. subst AreUpToLowest (sym heads) (up_to_lowest old.heads are none)
cut_at old new (Err error) are goes = tt

-- the entry that is due is of one of the spaces
pub due_here : (heads : List Upcoming) (dated : Dated) (n : ℕ) → AreOfSpaces heads → IsDue heads dated → length heads ≤ n → dated.entry.space ≤ n
due_here heads dated n are due few = let within = due_within heads dated are due in let most = within.1 in omega (arith, most, few)
