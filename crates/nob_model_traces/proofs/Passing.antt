-- What was merged so far, and what one entry more leaves of it.
use Rattle.std.proofs.Common.{◌≡◌, ℕ, ◌+◌, ◌<◌, Bool, true, false, cond, ◌||◌, ◌==◌, List, [], ◌∷◌, ◌++◌, length, drop, take, map, filter, slice_get, Some, None, refl, sym, ap, subst, ◌∙◌, arith}
use Rattle.std.specs.Prelude.{replicate}
use Prim.Native.Nat.{zero, suc}
use lib.ListN.{set}
use Rattle.std.specs.List.{AllByRecursion, list_any}
use Rattle.std.proofs.lemmas.List.{map-append}
use Rattle.std.proofs.lemmas.Cmp.{nat_eq_equiv}
use Rattle.std.proofs.lemmas.Bool.Decides.{nat_tests}
use Rattle.nob_model_types.specs.declared.entry.Entry.{Entry}
use Rattle.nob_trace.specs.declared.stamped.Stamped.{Stamped}
use Rattle.nob_trace.specs.declared.trace.Trace.{Trace}
use Rattle.nob_model_traces.specs.declared.moment.Moment.{Moment}
use Rattle.nob_model_traces.specs.declared.merging.Head.{Head}
use Rattle.nob_trace.specs.Stamps.{Rise}
use Rattle.nob_model_traces.specs.Apart.{are_apart, entry_at}
use Rattle.nob_model_traces.specs.Merged.{Dated, is_earlier, moment_of, dated_at, dated_of, InOrder, is_traced, IsMerged}
use Rattle.nob_model_traces.specs.Heads.{moment_at, next_of}
use Rattle.nob_model_traces.proofs.Places.{EachWith, each_at, each_both, each_set, left_some, take_some, all_left, rise_after}
use Rattle.nob_model_traces.proofs.Heading.{NoneLeft, NoneBefore, none_left, next_is, by_stamp, one_first}

-- an entry is later than all of these
abbrev pub IsLater : List Dated → ℕ → Stamped → Type 0
IsLater M s e = AllByRecursion (λ d. is_earlier (moment_of d) (moment_at s e) ≡ true) M

-- what was passed of a trace is merged, and what is left is later than all that is
abbrev pub IsPassed : List Dated → Trace → ℕ → Type 0
IsPassed M trace place = (dated_of trace.space M ≡ map (dated_at trace.space) (take place trace.entries)) × AllByRecursion (IsLater M trace.space) (drop place trace.entries)

-- what was merged so far
pub record ArePassed (traces : List Trace) (places : List ℕ) (M : List Dated) : Type 0 where
  pub in_order : InOrder M
  pub each : EachWith (IsPassed M) traces places
  pub traced : AllByRecursion (λ d. is_traced traces d ≡ true) M

-- the entries that were merged so far
abbrev pub AreMerged : List Trace → List ℕ → List Entry → Type 0
AreMerged traces places merged = (M : List Dated) × ArePassed traces places M × (merged ≡ map (λ d. d.entry) M)

-- ---- lists

all_append : {X : Type 0} (P : X → Type 0) (xs ys : List X) → AllByRecursion P xs → AllByRecursion P ys → AllByRecursion P (xs ++ ys)
all_append P [] ys all more = more
all_append P (x ∷ xs) ys all more = (all.0, all_append P xs ys all.1 more)

filter_yes : {X : Type 0} (test : X → Bool) (xs : List X) (x : X) → test x ≡ true → filter test (xs ++ x ∷ []) ≡ filter test xs ++ x ∷ []
filter_yes {X} test [] x h = ap (λ (b : Bool). cond b (x ∷ []) []) h
filter_yes {X} test (y ∷ ys) x h = by (filter_yes test ys x h) (test y)
  where
    by : filter test (ys ++ x ∷ []) ≡ filter test ys ++ x ∷ [] → (b : Bool) → cond b (y ∷ filter test (ys ++ x ∷ [])) (filter test (ys ++ x ∷ [])) ≡ cond b (y ∷ filter test ys) (filter test ys) ++ x ∷ []
    by rest true = ap (λ (zs : List X). y ∷ zs) rest
    by rest false = rest

filter_no : {X : Type 0} (test : X → Bool) (xs : List X) (x : X) → test x ≡ false → filter test (xs ++ x ∷ []) ≡ filter test xs
filter_no {X} test [] x h = ap (λ (b : Bool). cond b (x ∷ []) []) h
filter_no {X} test (y ∷ ys) x h = ap (λ (zs : List X). cond (test y) (y ∷ zs) zs) (filter_no test ys x h)

-- ---- the start

all_later : (s : ℕ) (es : List Stamped) → AllByRecursion (IsLater [] s) es
all_later s [] = tt
all_later s (e ∷ es) = (tt, all_later s es)

none_passed : (traces : List Trace) → EachWith (IsPassed []) traces (replicate (length traces) 0)
none_passed [] = tt
none_passed (t ∷ ts) = ((refl, all_later t.space t.entries), none_passed ts)

pub begun : (traces : List Trace) (places : List ℕ) → places ≡ replicate (length traces) 0 → AreMerged traces places []
begun traces places are = ([], record { in_order = tt; each = subst (EachWith (IsPassed []) traces) (sym are) (none_passed traces); traced = tt }, refl)

-- ---- one entry more

ordered : (M : List Dated) (x : Dated) → InOrder M → AllByRecursion (λ d. is_earlier (moment_of d) (moment_of x) ≡ true) M → InOrder (M ++ x ∷ [])
ordered [] x in_order earlier = (tt, tt)
ordered (d ∷ M) x in_order earlier = (all_append (λ other. is_earlier (moment_of d) (moment_of other) ≡ true) M (x ∷ []) in_order.0 (earlier.0, tt), ordered M x in_order.1 earlier.1)

later_too : (M : List Dated) (x : Dated) (s : ℕ) (es : List Stamped) → AllByRecursion (IsLater M s) es → AllByRecursion (λ e. is_earlier (moment_of x) (moment_at s e) ≡ true) es → AllByRecursion (IsLater (M ++ x ∷ []) s) es
later_too M x s [] later more = tt
later_too M x s (e ∷ es) later more = (all_append (λ d. is_earlier (moment_of d) (moment_at s e) ≡ true) M (x ∷ []) later.0 (more.0, tt), later_too M x s es later.1 more.1)

own_later : (s : ℕ) (e : Stamped) (es : List Stamped) → AllByRecursion (λ (d : Stamped). e.stamp < d.stamp) es → AllByRecursion (λ d. is_earlier (moment_of (dated_at s e)) (moment_at s d) ≡ true) es
own_later s e [] above = tt
own_later s e (d ∷ es) above = (by_stamp (moment_at s e) (moment_at s d) above.0, own_later s e es above.1)

other_later : (s : ℕ) (m : Moment) (es : List Stamped) → (s == m.space) ≡ false → AllByRecursion (λ e. is_earlier (moment_at s e) m ≡ false) es → AllByRecursion (λ e. is_earlier m (moment_at s e) ≡ true) es
other_later s m [] differs none = tt
other_later s m (e ∷ es) differs none = (one_first (moment_at s e) m none.0 differs, other_later s m es differs none.1)

traced_at : (traces : List Trace) (k : ℕ) (t : Trace) → slice_get traces k ≡ Some t → list_any (λ trace. trace.space == t.space) traces ≡ true
traced_at [] k t is = absurd cc
traced_at (u ∷ ts) zero t is = let same : u ≡ t = cc in ap (λ (b : Bool). b || list_any (λ (trace : Trace). trace.space == t.space) ts) (subst (λ (x : Trace). (x.space == t.space) ≡ true) (sym same) (nat_eq_equiv.refl t.space))
traced_at (u ∷ ts) (suc k) t is = or_right (u.space == t.space) (traced_at ts k t is)
  where
    or_right : (a : Bool) {b : Bool} → b ≡ true → (a || b) ≡ true
    or_right true h = refl
    or_right false h = h

swapped : (a b : ℕ) → (a == b) ≡ false → (b == a) ≡ false
swapped a b h = grind (arith, nat_tests, h)

one_more : (traces : List Trace) (places : List ℕ) (M : List Dated) (k p : ℕ) (t : Trace) (e : Stamped) → AllByRecursion (λ trace. Rise 0 trace.entries) traces → are_apart traces ≡ true
    → slice_get traces k ≡ Some t → slice_get places k ≡ Some p → slice_get t.entries p ≡ Some e → EachWith (NoneBefore (moment_at t.space e)) traces places
    → Rise 0 t.entries → ArePassed traces places M → ArePassed traces (set places k (suc p)) (M ++ dated_at t.space e ∷ [])
one_more traces places M k p t e rises apart there placed is none rise passed =
    let x = dated_at t.space e in
    let own = each_at (IsPassed M) traces places k t p passed.each there placed in
    let left = left_some t.entries p e is in
    let later = subst (AllByRecursion (IsLater M t.space)) left own.1 in
    record {
      in_order = ordered M x passed.in_order later.0;
      each = each_set (λ u q. IsPassed M u q × NoneBefore (moment_at t.space e) u q) (IsPassed (M ++ x ∷ [])) traces places k t p (suc p) apart
          (each_both (IsPassed M) (NoneBefore (moment_at t.space e)) traces places passed.each none) there placed (
            filter_yes (λ (d : Dated). d.entry.space == t.space) M x (nat_eq_equiv.refl t.space)
                ∙ ap (λ (ds : List Dated). ds ++ x ∷ []) own.0
                ∙ sym (map-append (dated_at t.space) (take p t.entries) (e ∷ []))
                ∙ ap (map (dated_at t.space)) (sym (take_some t.entries p e is)),
            later_too M x t.space (drop (suc p) t.entries) later.1 (own_later t.space e (drop (suc p) t.entries) (rise_after 0 t.entries p e rise is)),
          )
          (λ u q differs both. (
            filter_no (λ (d : Dated). d.entry.space == u.space) M x (swapped u.space t.space differs) ∙ both.0.0,
            later_too M x u.space (drop q u.entries) both.0.1 (other_later u.space (moment_at t.space e) (drop q u.entries) differs both.1),
          ));
      traced = all_append (λ d. is_traced traces d ≡ true) M (x ∷ []) passed.traced (traced_at traces k t there, tt);
    }

rise_at : (traces : List Trace) (k : ℕ) (t : Trace) → AllByRecursion (λ trace. Rise 0 trace.entries) traces → slice_get traces k ≡ Some t → Rise 0 t.entries
rise_at [] k t rises is = absurd cc
rise_at (u ∷ ts) zero t rises is = subst (λ (x : Trace). Rise 0 x.entries) (let same : u ≡ t = cc in same) rises.0
rise_at (u ∷ ts) (suc k) t rises is = rise_at ts k t rises.1 is

-- ---- the end

all_passed : (traces : List Trace) (places : List ℕ) (M : List Dated) → EachWith (IsPassed M) traces places → EachWith NoneLeft traces places → AllByRecursion (λ trace. dated_of trace.space M ≡ map (dated_at trace.space) trace.entries) traces
all_passed [] [] M each none = tt
all_passed (t ∷ ts) (p ∷ ps) M each none = (each.0.0 ∙ ap (map (dated_at t.space)) (all_left t.entries p none.0), all_passed ts ps M each.1 none.1)
all_passed [] (p ∷ ps) M each none = absurd each
all_passed (t ∷ ts) [] M each none = absurd each

pub ended : (traces : List Trace) (places : List ℕ) (merged : List Entry) → AreMerged traces places merged → next_of 0 traces places ≡ None → IsMerged traces merged
ended traces places merged (M, passed, are) none = (
  M,
  record {
    in_order = passed.in_order;
    each = all_passed traces places M passed.each (none_left (IsPassed M) 0 traces places passed.each none);
    no_others = passed.traced;
  },
  are,
)

-- ---- a step

-- the entry that comes next is put behind the merged ones
pub stepped : (traces : List Trace) (places : List ℕ) (merged : List Entry) (head : Head) → AllByRecursion (λ trace. Rise 0 trace.entries) traces → are_apart traces ≡ true → AreMerged traces places merged → next_of 0 traces places ≡ Some head
    → (t : Trace) (p : ℕ) (e : Stamped) → slice_get traces head.index ≡ Some t → slice_get places head.index ≡ Some p → slice_get t.entries p ≡ Some e → AreMerged traces (set places head.index (suc p)) (merged ++ entry_at head.moment.space e ∷ [])
stepped traces places merged head rises apart (M, passed, are) is t p e there placed got =
    let found = next_is (IsPassed M) 0 traces places head rises passed.each is in
    let next = found.0 in
    let k_is : head.index ≡ next.k = next.index_is ∙ omega arith in
    let same_trace : t ≡ next.trace = (let two : Some t ≡ Some next.trace = sym there ∙ ap (slice_get traces) k_is ∙ next.is_trace in cc) in
    let same_place : p ≡ next.place = (let two : Some p ≡ Some next.place = sym placed ∙ ap (slice_get places) k_is ∙ next.is_place in cc) in
    let same_entry : e ≡ next.entry = (let two : Some e ≡ Some next.entry = sym got ∙ ap (λ (q : ℕ). slice_get t.entries q) same_place ∙ ap (λ (u : Trace). slice_get u.entries next.place) same_trace ∙ next.is_entry in cc) in
    let moment_is : head.moment ≡ moment_at t.space e = next.moment_is ∙ ap (λ (u : Trace). moment_at u.space next.entry) (sym same_trace) ∙ ap (moment_at t.space) (sym same_entry) in (
      M ++ dated_at t.space e ∷ [],
      one_more traces places M head.index p t e rises apart there placed got (subst (λ (m : Moment). EachWith (NoneBefore m) traces places) moment_is found.1) (rise_at traces head.index t rises there) passed,
      ap (λ (es : List Entry). es ++ entry_at head.moment.space e ∷ []) are ∙ ap (λ (s : ℕ). map (λ (d : Dated). d.entry) M ++ entry_at s e ∷ []) (ap (λ (m : Moment). m.space) moment_is) ∙ sym (map-append (λ (d : Dated). d.entry) M (dated_at t.space e ∷ [])),
    )

-- ---- the measure

-- how many entries are left
abbrev pub count_left : List Trace → List ℕ → ℕ
count_left (t ∷ ts) (p ∷ ps) = length (drop p t.entries) + count_left ts ps
count_left _ _ = 0

pub fewer_left : (traces : List Trace) (places : List ℕ) (k p : ℕ) (t : Trace) (e : Stamped) → slice_get traces k ≡ Some t → slice_get places k ≡ Some p → slice_get t.entries p ≡ Some e → count_left traces (set places k (suc p)) < count_left traces places
fewer_left [] ps k p t e there placed got = absurd cc
fewer_left (u ∷ ts) [] k p t e there placed got = absurd cc
fewer_left (u ∷ ts) (q ∷ ps) zero p t e there placed got =
    let same : u ≡ t = cc in
    let at : q ≡ p = cc in
    let left : drop q u.entries ≡ e ∷ drop (suc p) u.entries = left_some u.entries q e (ap (slice_get u.entries) at ∙ ap (λ (v : Trace). slice_get v.entries p) same ∙ got) ∙ ap (λ (r : ℕ). e ∷ drop (suc r) u.entries) at in
    let count : length (drop q u.entries) ≡ suc (length (drop (suc p) u.entries)) = ap length left in
    omega (arith, count)
fewer_left (u ∷ ts) (q ∷ ps) (suc k) p t e there placed got = let rest = fewer_left ts ps k p t e there placed got in omega (arith, rest)

-- the entry that comes next stands at its place
pub record ComesAt (traces : List Trace) (places : List ℕ) (head : Head) : Type 0 where
  pub trace : Trace
  pub place : ℕ
  pub entry : Stamped
  pub there : slice_get traces head.index ≡ Some trace
  pub placed : slice_get places head.index ≡ Some place
  pub got : slice_get trace.entries place ≡ Some entry

pub comes : (traces : List Trace) (places : List ℕ) (merged : List Entry) (head : Head) → AllByRecursion (λ trace. Rise 0 trace.entries) traces → AreMerged traces places merged → next_of 0 traces places ≡ Some head → ComesAt traces places head
comes traces places merged head rises (M, passed, are) is =
    let next = (next_is (IsPassed M) 0 traces places head rises passed.each is).0 in
    let k_is : next.k ≡ head.index = sym (next.index_is ∙ omega arith) in
    record {
      trace = next.trace;
      place = next.place;
      entry = next.entry;
      there = subst (λ (k : ℕ). slice_get traces k ≡ Some next.trace) k_is next.is_trace;
      placed = subst (λ (k : ℕ). slice_get places k ≡ Some next.place) k_is next.is_place;
      got = next.is_entry;
    }

-- so an entry stands there
pub stands_there : (traces : List Trace) (places : List ℕ) (head : Head) (t : Trace) (p : ℕ) → ComesAt traces places head → slice_get traces head.index ≡ Some t → slice_get places head.index ≡ Some p → slice_get t.entries p ≡ None → ⊥
stands_there traces places head t p at there placed none =
    let same : at.trace ≡ t = (let two : Some at.trace ≡ Some t = sym at.there ∙ there in cc) in
    let place : at.place ≡ p = (let two : Some at.place ≡ Some p = sym at.placed ∙ placed in cc) in
    let both : None ≡ Some at.entry = sym none ∙ ap (slice_get t.entries) (sym place) ∙ ap (λ (u : Trace). slice_get u.entries at.place) (sym same) ∙ at.got in
    absurd cc

-- the next place is one further
pub further : (p : ℕ) → suc p ≡ p + 1
further p = omega arith
