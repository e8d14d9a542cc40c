-- Which entry is the earliest, and what is left once it was passed.
use Rattle.std.proofs.Common.{◌≡◌, ◌≢◌, ℕ, ◌+◌, ◌-◌, ◌≤◌, ◌<◌, Bool, true, false, cond, ◌&&◌, ◌||◌, not, ◌==◌, nat_lt, List, [], ◌∷◌, ◌++◌, length, replicate, slice_get, Option, Some, None, refl, sym, ap, subst, ◌∙◌, arith}
use Prim.Native.Nat.{zero, suc}
use Rattle.std.specs.Prelude.{Result, Ok, Err, is_none, if◌then◌else◌}
use Rattle.std.specs.List.{AllByRecursion, list_any}
use lib.ListN.{set}
use Rattle.std.proofs.lemmas.List.{length-set}
use Rattle.std.proofs.lemmas.Bool.Decides.{nat_tests, Decides-eqb}
use Rattle.nob_model_traces.specs.declared.moment.Moment.{Moment}
use Rattle.nob_model_traces.specs.Merged.{is_earlier}
use Rattle.nob_recall.specs.declared.dated.Dated.{Dated}
use Rattle.nob_recall.specs.declared.head.Upcoming.{Upcoming}
use Rattle.nob_recall.specs.Dues.{moment_in, moment_of, earlier_of, earliest, is_wanted, may_come, dated_moment, IsOfSpace, AreOfSpaces, no_head, told, with_ended, without_next, changed_at, with_end, with_passed, IsDue}
use Rattle.nob_recall.specs.Orders.{InOrder, IsAheadBy, IsAhead, AreAhead}

-- ---- moments

-- a moment isn't earlier than the one that was found
abbrev pub IsNoEarlier : Option Moment → Moment → Type 0
IsNoEarlier None own = ⊥
IsNoEarlier (Some m) own = is_earlier own m ≡ false

no_earlier : (a b c : Moment) → is_earlier b a ≡ false → is_earlier c b ≡ false → is_earlier c a ≡ false
no_earlier a b c one two = grind (arith, nat_tests, one, two)

not_itself : (a : Moment) → is_earlier a a ≡ false
not_itself a = grind (arith, nat_tests)

not_both : (a b : Moment) → is_earlier a b ≡ true → is_earlier b a ≡ false
not_both a b one = grind (arith, nat_tests, one)

earlier_else : (a b : Moment) → is_earlier b a ≡ false → a.space ≢ b.space → is_earlier a b ≡ true
earlier_else a b one apart = grind (arith, nat_tests, one, apart)

after_all : (a b c : Moment) → is_earlier a b ≡ true → is_earlier b c ≡ true → is_earlier a c ≡ true
after_all a b c one two = grind (arith, nat_tests, one, two)

by_stamp : (a b : Moment) → a.stamp < b.stamp → is_earlier a b ≡ true
by_stamp a b less = grind (arith, nat_tests, less)

stamp_of : (a b : Moment) → is_earlier a b ≡ true → a.stamp ≤ b.stamp
stamp_of a b one = grind (arith, nat_tests, one)

-- ---- the earliest

first_kept : (own : Moment) (other : Option Moment) → IsNoEarlier (earlier_of (Some own) other) own
first_kept own None = not_itself own
first_kept own (Some other) = by (is_earlier other own) refl
  where
    by : (b : Bool) → is_earlier other own ≡ b → IsNoEarlier (cond b (Some other) (Some own)) own
    by true is = not_both other own is
    by false is = not_itself own

rest_kept : (one other : Option Moment) (own : Moment) → IsNoEarlier other own → IsNoEarlier (earlier_of one other) own
rest_kept None other own is = is
rest_kept (Some one) None own is = absurd is
rest_kept (Some one) (Some other) own is = by (is_earlier other one) refl
  where
    by : (b : Bool) → is_earlier other one ≡ b → IsNoEarlier (cond b (Some other) (Some one)) own
    by true its = is
    by false its = no_earlier one other own its is

pub least : (s : ℕ) (heads : List Upcoming) (k : ℕ) (head : Upcoming) (dated : Dated) → slice_get heads k ≡ Some head → head.next ≡ Some dated → IsNoEarlier (earliest s heads) (record { stamp = dated.stamp; space = s + k })
least s [] k head dated there next = absurd cc
least s (first ∷ heads) zero head dated there next =
    let same : first ≡ head = cc in
    let nought : s ≡ s + 0 = omega arith in
    let is : moment_of s first ≡ Some (record { stamp = dated.stamp; space = s + 0 }) = ap (moment_in s) (ap (λ (h : Upcoming). h.next) same ∙ next) ∙ ap (λ (p : ℕ). Some (record { stamp = dated.stamp; space = p })) nought in
    subst (λ (o : Option Moment). IsNoEarlier (earlier_of o (earliest (s + 1) heads)) (record { stamp = dated.stamp; space = s + 0 })) (sym is) (first_kept (record { stamp = dated.stamp; space = s + 0 }) (earliest (s + 1) heads))
least s (first ∷ heads) (suc k) head dated there next =
    let further : s + 1 + k ≡ s + suc k = omega arith in
    rest_kept (moment_of s first) (earliest (s + 1) heads) (record { stamp = dated.stamp; space = s + suc k })
    (subst (λ (p : ℕ). IsNoEarlier (earliest (s + 1) heads) (record { stamp = dated.stamp; space = p })) further (least (s + 1) heads k head dated there next))

-- where it was found
pub record FoundAt (s : ℕ) (heads : List Upcoming) (moment : Moment) : Type 0 where
  pub place : ℕ
  pub head : Upcoming
  pub dated : Dated
  pub there : slice_get heads place ≡ Some head
  pub next : head.next ≡ Some dated
  pub moment_is : moment ≡ record { stamp = dated.stamp; space = s + place }

abbrev pub IsFoundIn : ℕ → List Upcoming → Option Moment → Type 0
IsFoundIn s heads None = Unit {0}
IsFoundIn s heads (Some moment) = FoundAt s heads moment

found_first : (s : ℕ) (head : Upcoming) (heads : List Upcoming) (next : Option Dated) → head.next ≡ next → IsFoundIn s (head ∷ heads) (moment_in s next)
found_first s head heads None is = tt
found_first s head heads (Some dated) is = record { place = 0; head = head; dated = dated; there = refl; next = is; moment_is = ap (λ (p : ℕ). record { stamp = dated.stamp; space = p }) (let nought : s ≡ s + 0 = omega arith in nought) }

found_rest : (s : ℕ) (head : Upcoming) (heads : List Upcoming) (found : Option Moment) → IsFoundIn (s + 1) heads found → IsFoundIn s (head ∷ heads) found
found_rest s head heads None is = tt
found_rest s head heads (Some moment) is = record {
  place = suc is.place;
  head = is.head;
  dated = is.dated;
  there = is.there;
  next = is.next;
  moment_is = is.moment_is ∙ ap (λ (p : ℕ). record { stamp = is.dated.stamp; space = p }) further;
}
  where
    further : s + 1 + is.place ≡ s + suc is.place
    further = omega arith

found_either : (s : ℕ) (heads : List Upcoming) (one other : Option Moment) → IsFoundIn s heads one → IsFoundIn s heads other → IsFoundIn s heads (earlier_of one other)
found_either s heads None other a b = b
found_either s heads (Some one) None a b = a
found_either s heads (Some one) (Some other) a b = by (is_earlier other one)
  where
    by : (t : Bool) → IsFoundIn s heads (cond t (Some other) (Some one))
    by true = b
    by false = a

found : (s : ℕ) (heads : List Upcoming) → IsFoundIn s heads (earliest s heads)
found s [] = tt
found s (head ∷ heads) = found_either s (head ∷ heads) (moment_of s head) (earliest (s + 1) heads) (found_first s head heads head.next refl) (found_rest s head heads (earliest (s + 1) heads) (found (s + 1) heads))

pub found_at : (s : ℕ) (heads : List Upcoming) (moment : Moment) → earliest s heads ≡ Some moment → FoundAt s heads moment
found_at s heads moment is = subst (IsFoundIn s heads) is (found s heads)

-- ---- lists

all_through : {X : Type 0} (P Q : X → Type 0) (xs : List X) → ((x : X) → P x → Q x) → AllByRecursion P xs → AllByRecursion Q xs
all_through P Q [] through all = tt
all_through P Q (x ∷ xs) through all = (through x all.0, all_through P Q xs through all.1)

all_more : {X : Type 0} (P : X → Type 0) (xs : List X) (x : X) → AllByRecursion P xs → P x → AllByRecursion P (xs ++ x ∷ [])
all_more P [] x all is = (is, tt)
all_more P (y ∷ ys) x all is = (all.0, all_more P ys x all.1 is)

in_order_more : (passed : List Dated) (dated : Dated) → InOrder passed → AllByRecursion (λ (one : Dated). is_earlier (dated_moment one) (dated_moment dated) ≡ true) passed → InOrder (passed ++ dated ∷ [])
in_order_more [] dated order all = (tt, tt)
in_order_more (one ∷ others) dated order all = (all_more (λ (other : Dated). is_earlier (dated_moment one) (dated_moment other) ≡ true) others dated order.0 all.0, in_order_more others dated order.1 all.1)

none_of : (test : Upcoming → Bool) (heads : List Upcoming) (k : ℕ) (head : Upcoming) → list_any test heads ≡ false → slice_get heads k ≡ Some head → test head ≡ false
none_of test [] k head none there = absurd cc
none_of test (first ∷ heads) zero head none there =
    let same : first ≡ head = cc in
    subst (λ (h : Upcoming). test h ≡ false) same (by (test first) none)
  where
    by : (b : Bool) → (b || list_any test heads) ≡ false → b ≡ false
    by true is = absurd cc
    by false is = refl
none_of test (first ∷ heads) (suc k) head none there = none_of test heads k head (by (test first) none) there
  where
    by : (b : Bool) → (b || list_any test heads) ≡ false → list_any test heads ≡ false
    by true is = absurd cc
    by false is = is

-- ---- what is known of a space

-- the next entry of a space is passed: it was earlier than what is known of each other space
ahead_still : (passed : List Dated) (dated : Dated) (p : ℕ) (next : Option Dated) (last : ℕ) (ended : Bool)
    → IsOfSpace p next → IsAheadBy passed next last ended
    → ((other : Dated) → next ≡ Some other → is_earlier (dated_moment dated) (dated_moment other) ≡ true)
    → ((is_none next && not ended) && nat_lt last dated.stamp) ≡ false
    → IsAheadBy (passed ++ dated ∷ []) next last ended
ahead_still passed dated p (Some next) last ended own ahead earlier none = (ahead.0, all_more (λ (one : Dated). is_earlier (dated_moment one) (dated_moment next) ≡ true) passed dated ahead.1 (earlier next refl))
ahead_still passed dated p None last true own ahead earlier none = tt
ahead_still passed dated p None last false own ahead earlier none = all_more (λ (one : Dated). one.stamp ≤ last) passed dated ahead (grind (arith, nat_tests, none))

-- and so is what was last told of its own
ahead_own : (passed : List Dated) (dated : Dated) (last : ℕ) (ended : Bool) → IsAheadBy passed (Some dated) last ended → IsAheadBy (passed ++ dated ∷ []) None last ended
ahead_own passed dated last true ahead = tt
ahead_own passed dated last false ahead =
    let last_is = ahead.0 in
    all_more (λ (one : Dated). one.stamp ≤ last) passed dated
    (all_through (λ (one : Dated). is_earlier (dated_moment one) (dated_moment dated) ≡ true) (λ (one : Dated). one.stamp ≤ last) passed (λ one is. (let low = stamp_of (dated_moment one) (dated_moment dated) is in omega (arith, low, last_is))) ahead.1)
    (omega (arith, last_is))

-- what was told is behind all that was passed
ahead_told : (passed : List Dated) (dated : Dated) (next : Option Dated) (last : ℕ) (ended : Bool) → (is_none next && not ended) ≡ true → last < dated.stamp → IsAheadBy passed next last ended → IsAheadBy passed (Some dated) dated.stamp false
ahead_told passed dated (Some next) last ended wanted less ahead = absurd cc
ahead_told passed dated None last true wanted less ahead = absurd cc
ahead_told passed dated None last false wanted less ahead =
    (refl, all_through (λ (one : Dated). one.stamp ≤ last) (λ (one : Dated). is_earlier (dated_moment one) (dated_moment dated) ≡ true) passed (λ one low. by_stamp (dated_moment one) (dated_moment dated) (omega (arith, low, less))) ahead)

ahead_ended : (passed : List Dated) (next : Option Dated) (last : ℕ) (ended : Bool) → IsAheadBy passed next last ended → IsAheadBy passed next last true
ahead_ended passed (Some next) last ended ahead = ahead
ahead_ended passed None last ended ahead = tt

-- ---- lists of what is known

pub placed : {X : Type 0} (xs : List X) (k : ℕ) (x y : X) → slice_get xs k ≡ Some y → slice_get (set xs k x) k ≡ Some x
placed [] k x y is = absurd cc
placed (z ∷ zs) zero x y is = refl
placed (z ∷ zs) (suc k) x y is = placed zs k x y is

pub set_other : {X : Type 0} (xs : List X) (k j : ℕ) (x : X) → (j ≡ k → ⊥) → slice_get (set xs k x) j ≡ slice_get xs j
set_other [] k j x apart = refl
set_other (y ∷ ys) zero zero x apart = absurd (apart refl)
set_other (y ∷ ys) zero (suc j) x apart = refl
set_other (y ∷ ys) (suc k) zero x apart = refl
set_other (y ∷ ys) (suc k) (suc j) x apart = set_other ys k j x (λ e. apart (ap suc e))

-- one is known otherwise: what holds of it, and of each other one, holds of each
each_set : (P : ℕ → Upcoming → Type 0) (heads : List Upcoming) (k : ℕ) (old new : Upcoming) → ((place : ℕ) (head : Upcoming) → (place ≡ k → ⊥) → slice_get heads place ≡ Some head → P place head) → slice_get heads k ≡ Some old → P k new → (place : ℕ) (head : Upcoming) → slice_get (set heads k new) place ≡ Some head → P place head
each_set P heads k old new each there is = λ place head got. by place head got (place == k) refl
  where
    by : (place : ℕ) (head : Upcoming) → slice_get (set heads k new) place ≡ Some head → (b : Bool) → (place == k) ≡ b → P place head
    by place head got true here =
        let at : place ≡ k = (Decides-eqb place k).0 here in
        let same : new ≡ head = (let both : Some new ≡ Some head = sym (placed heads k new old there) ∙ ap (slice_get (set heads k new)) (sym at) ∙ got in cc) in
        subst (λ (j : ℕ). P j head) (sym at) (subst (P k) same is)
    by place head got false elsewhere =
        let apart : place ≡ k → ⊥ = λ e. let holds : true ≡ false = sym ((Decides-eqb place k).1 e) ∙ elsewhere in absurd cc in
        each place head apart (sym (set_other heads k place new apart) ∙ got)

-- each is of its space

spaces_set : (heads : List Upcoming) (k : ℕ) (old new : Upcoming) → AreOfSpaces heads → slice_get heads k ≡ Some old → IsOfSpace (k + 1) new.next → AreOfSpaces (set heads k new)
spaces_set heads k old new are there is = record {
  few = subst (λ (l : ℕ). l ≤ 32) (sym (length-set heads k new)) are.few;
  own = each_set (λ (place : ℕ) (head : Upcoming). IsOfSpace (place + 1) head.next) heads k old new (λ place head apart got. are.own place head got) there is;
}

pub spaces_told : (heads : List Upcoming) (dated : Dated) (head : Upcoming) → AreOfSpaces heads → 1 ≤ dated.entry.space → slice_get heads (dated.entry.space - 1) ≡ Some head → AreOfSpaces (set heads (dated.entry.space - 1) (told dated))
spaces_told heads dated head are low there = spaces_set heads (dated.entry.space - 1) head (told dated) are there (let number : dated.entry.space ≡ dated.entry.space - 1 + 1 = omega (arith, low) in number)

spaces_changed : (change : Upcoming → Upcoming) (heads : List Upcoming) (place : ℕ) (found : Option Upcoming) → slice_get heads place ≡ found → ((s : ℕ) (head : Upcoming) → IsOfSpace s head.next → IsOfSpace s (change head).next) → AreOfSpaces heads → AreOfSpaces (changed_at change place heads found)
spaces_changed change heads place None there keeps are = are
spaces_changed change heads place (Some head) there keeps are = spaces_set heads place head (change head) are there (keeps (place + 1) head (are.own place head there))

pub spaces_ended : (p : ℕ) (heads : List Upcoming) → AreOfSpaces heads → AreOfSpaces (with_end p heads)
spaces_ended p heads are = spaces_changed with_ended heads (p - 1) (slice_get heads (p - 1)) refl (λ s head own. own) are

pub spaces_passed : (p : ℕ) (heads : List Upcoming) → AreOfSpaces heads → AreOfSpaces (with_passed p heads)
spaces_passed p heads are = spaces_changed without_next heads (p - 1) (slice_get heads (p - 1)) refl (λ s head own. tt) are

-- nothing is known where nothing was told
none_known : (count place : ℕ) (head : Upcoming) → slice_get (replicate count no_head) place ≡ Some head → no_head ≡ head
none_known zero place head got = absurd cc
none_known (suc count) zero head got = cc
none_known (suc count) (suc place) head got = none_known count place head got

pub spaces_none : (count : ℕ) → count ≤ 32 → AreOfSpaces (replicate count no_head)
spaces_none count few = record {
  few = subst (λ (l : ℕ). l ≤ 32) (sym (long count)) few;
  own = λ place head got. subst (λ (h : Upcoming). IsOfSpace (place + 1) h.next) (none_known count place head got) tt;
}
  where
    long : (count : ℕ) → length (replicate count no_head) ≡ count
    long zero = refl
    long (suc count) = ap suc (long count)

-- ---- which is due

-- the one at whose space the earliest moment is
pub due_at : (heads : List Upcoming) (moment : Moment) (head : Upcoming) (dated : Dated) → AreOfSpaces heads → earliest 1 heads ≡ Some moment → list_any (may_come moment.stamp) heads ≡ false → slice_get heads (moment.space - 1) ≡ Some head → head.next ≡ Some dated → IsDue heads dated
due_at heads moment head dated are first none there next = record {
  none_may_come = subst (λ (s : ℕ). list_any (may_come s) heads ≡ false) stamp_is none;
  earliest_is = first ∙ ap Some moment_is;
  head = head;
  there = subst (λ (s : ℕ). slice_get heads (s - 1) ≡ Some head) space_is there;
  next = next;
}
  where
    at : FoundAt 1 heads moment
    at = found_at 1 heads moment first

    place_is : moment.space - 1 ≡ at.place
    place_is = let is : moment.space ≡ 1 + at.place = ap (λ (m : Moment). m.space) at.moment_is in omega (arith, is)

    same : head ≡ at.head
    same = let both : Some head ≡ Some at.head = sym there ∙ ap (slice_get heads) place_is ∙ at.there in cc

    same_dated : at.dated ≡ dated
    same_dated = let both : Some at.dated ≡ Some dated = sym at.next ∙ ap (λ (h : Upcoming). h.next) (sym same) ∙ next in cc

    stamp_is : moment.stamp ≡ dated.stamp
    stamp_is = ap (λ (m : Moment). m.stamp) at.moment_is ∙ ap (λ (d : Dated). d.stamp) same_dated

    own : dated.entry.space ≡ moment.space - 1 + 1
    own = subst (IsOfSpace (moment.space - 1 + 1)) next (are.own (moment.space - 1) head there)

    space_is : moment.space ≡ dated.entry.space
    space_is = let is : moment.space ≡ 1 + at.place = ap (λ (m : Moment). m.space) at.moment_is in let its = own in omega (arith, is, its)

    moment_is : moment ≡ dated_moment dated
    moment_is = λ i. record { stamp = stamp_is i; space = space_is i }

-- there is one
pub one_is_there : (heads : List Upcoming) (moment : Moment) (head : Upcoming) → earliest 1 heads ≡ Some moment → slice_get heads (moment.space - 1) ≡ Some head → head.next ≡ None → ⊥
one_is_there heads moment head first there none =
    let at = found_at 1 heads moment first in
    let is : moment.space ≡ 1 + at.place = ap (λ (m : Moment). m.space) at.moment_is in
    let place_is : moment.space - 1 ≡ at.place = omega (arith, is) in
    let same : head ≡ at.head = (let both : Some head ≡ Some at.head = sym there ∙ ap (slice_get heads) place_is ∙ at.there in cc) in
    let clash : None ≡ Some at.dated = sym none ∙ ap (λ (h : Upcoming). h.next) same ∙ at.next in absurd cc

-- a place where something stands is below the length
within : (xs : List Upcoming) (k : ℕ) (x : Upcoming) → slice_get xs k ≡ Some x → k < length xs
within [] k x is = absurd cc
within (y ∷ ys) zero x is = omega arith
within (y ∷ ys) (suc k) x is = let low = within ys k x is in omega (arith, low)

-- its place is one of the list
pub there_low : (heads : List Upcoming) (moment : Moment) → earliest 1 heads ≡ Some moment → moment.space - 1 < length heads
there_low heads moment first =
    let at = found_at 1 heads moment first in
    let is : moment.space ≡ 1 + at.place = ap (λ (m : Moment). m.space) at.moment_is in
    let low : at.place < length heads = within heads at.place at.head at.there in
    omega (arith, is, low)

-- and so is that of the one that is due
pub due_within : (heads : List Upcoming) (dated : Dated) → AreOfSpaces heads → IsDue heads dated → (1 ≤ dated.entry.space) × (dated.entry.space ≤ length heads)
due_within heads dated are due =
    let own : dated.entry.space ≡ dated.entry.space - 1 + 1 = subst (IsOfSpace (dated.entry.space - 1 + 1)) due.next (are.own (dated.entry.space - 1) due.head due.there) in
    let low : dated.entry.space - 1 < length heads = within heads (dated.entry.space - 1) due.head due.there in
    (omega (arith, own), omega (arith, own, low))

pub none_due : (heads : List Upcoming) (dated : Dated) → earliest 1 heads ≡ None → IsDue heads dated → ⊥
none_due heads dated none due = let clash : None ≡ Some (dated_moment dated) = sym none ∙ due.earliest_is in absurd cc

pub may_come_first : (heads : List Upcoming) (moment : Moment) (dated : Dated) → earliest 1 heads ≡ Some moment → list_any (may_come moment.stamp) heads ≡ true → IsDue heads dated → ⊥
may_come_first heads moment dated first some due =
    let same : moment ≡ dated_moment dated = (let both : Some moment ≡ Some (dated_moment dated) = sym first ∙ due.earliest_is in cc) in
    let clash : true ≡ false = sym some ∙ ap (λ (m : Moment). list_any (may_come m.stamp) heads) same ∙ due.none_may_come in absurd cc

-- ---- what was passed stays before what is known

ahead_set : (passed : List Dated) (heads : List Upcoming) (k : ℕ) (old new : Upcoming) → AreAhead passed heads → slice_get heads k ≡ Some old → IsAhead passed new → AreAhead passed (set heads k new)
ahead_set passed heads k old new are there is = each_set (λ (place : ℕ) (head : Upcoming). IsAhead passed head) heads k old new (λ place head apart got. are place head got) there is

pub all_told : (passed : List Dated) (heads : List Upcoming) (dated : Dated) (head : Upcoming) → AreAhead passed heads → slice_get heads (dated.entry.space - 1) ≡ Some head → is_wanted head ≡ true → head.last < dated.stamp → AreAhead passed (set heads (dated.entry.space - 1) (told dated))
all_told passed heads dated head are there wanted less = ahead_set passed heads (dated.entry.space - 1) head (told dated) are there (ahead_told passed dated head.next head.last head.ended wanted less (are (dated.entry.space - 1) head there))

pub all_ended : (passed : List Dated) (p : ℕ) (heads : List Upcoming) → AreAhead passed heads → AreAhead passed (with_end p heads)
all_ended passed p heads are = by (slice_get heads (p - 1)) refl
  where
    by : (found : Option Upcoming) → slice_get heads (p - 1) ≡ found → AreAhead passed (changed_at with_ended (p - 1) heads found)
    by None there = are
    by (Some head) there = ahead_set passed heads (p - 1) head (with_ended head) are there (ahead_ended passed head.next head.last head.ended (are (p - 1) head there))

-- the one that is due is passed
pub all_passed : (passed : List Dated) (heads : List Upcoming) (dated : Dated) → AreOfSpaces heads → AreAhead passed heads → IsDue heads dated → AreAhead (passed ++ dated ∷ []) (with_passed dated.entry.space heads)
all_passed passed heads dated spaces are due = subst (λ (o : Option Upcoming). AreAhead (passed ++ dated ∷ []) (changed_at without_next (dated.entry.space - 1) heads o)) (sym due.there) (each_set (λ (place : ℕ) (head : Upcoming). IsAhead (passed ++ dated ∷ []) head) heads (dated.entry.space - 1) due.head (without_next due.head) others due.there own)
  where
    low : 1 ≤ dated.entry.space
    low = (due_within heads dated spaces due).0

    own : IsAhead (passed ++ dated ∷ []) (without_next due.head)
    own = ahead_own passed dated due.head.last due.head.ended (subst (λ (o : Option Dated). IsAheadBy passed o due.head.last due.head.ended) due.next (are (dated.entry.space - 1) due.head due.there))

    earlier : (place : ℕ) (it : Upcoming) → (place ≡ dated.entry.space - 1 → ⊥) → slice_get heads place ≡ Some it → (other : Dated) → it.next ≡ Some other → is_earlier (dated_moment dated) (dated_moment other) ≡ true
    earlier place it apart is other its_next =
        let of_space : other.entry.space ≡ place + 1 = subst (IsOfSpace (place + 1)) its_next (spaces.own place it is) in
        let behind : is_earlier (record { stamp = other.stamp; space = 1 + place }) (dated_moment dated) ≡ false = subst (λ (o : Option Moment). IsNoEarlier o (record { stamp = other.stamp; space = 1 + place })) due.earliest_is (least 1 heads place it other is its_next) in
        let number : 1 + place ≡ other.entry.space = omega (arith, of_space) in
        let behind_it : is_earlier (dated_moment other) (dated_moment dated) ≡ false = subst (λ (s : ℕ). is_earlier (record { stamp = other.stamp; space = s }) (dated_moment dated) ≡ false) number behind in
        earlier_else (dated_moment dated) (dated_moment other) behind_it (λ same. apart (omega (arith, same, of_space, low)))

    others : (place : ℕ) (it : Upcoming) → (place ≡ dated.entry.space - 1 → ⊥) → slice_get heads place ≡ Some it → IsAhead (passed ++ dated ∷ []) it
    others place it apart is = ahead_still passed dated (place + 1) it.next it.last it.ended (spaces.own place it is) (are place it is) (earlier place it apart is) (none_of (may_come dated.stamp) heads place it due.none_may_come is)

-- what was passed is still in order
pub order_passed : (passed : List Dated) (heads : List Upcoming) (dated : Dated) → AreAhead passed heads → InOrder passed → IsDue heads dated → InOrder (passed ++ dated ∷ [])
order_passed passed heads dated are order due =
    let ahead = subst (λ (o : Option Dated). IsAheadBy passed o due.head.last due.head.ended) due.next (are (dated.entry.space - 1) due.head due.there) in
    in_order_more passed dated order ahead.1

-- nothing was told of any space yet
pub all_none : (count : ℕ) → AreAhead [] (replicate count no_head)
all_none count place head got = subst (IsAhead []) (none_known count place head got) tt

pub passed_length : (p : ℕ) (heads : List Upcoming) → length (with_passed p heads) ≡ length heads
passed_length p heads = by (slice_get heads (p - 1))
  where
    by : (found : Option Upcoming) → length (changed_at without_next (p - 1) heads found) ≡ length heads
    by None = refl
    by (Some head) = length-set heads (p - 1) (without_next head)

pub ended_length : (p : ℕ) (heads : List Upcoming) → length (with_end p heads) ≡ length heads
ended_length p heads = by (slice_get heads (p - 1))
  where
    by : (found : Option Upcoming) → length (changed_at with_ended (p - 1) heads found) ≡ length heads
    by None = refl
    by (Some head) = length-set heads (p - 1) (with_ended head)
