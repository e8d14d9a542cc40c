-- The entry that comes next is the earliest of all that are left.
use Rattle.std.proofs.Common.{◌≡◌, ℕ, ◌+◌, ◌<◌, Bool, true, false, not, ◌==◌, List, [], ◌∷◌, drop, slice_get, Option, Some, None, if◌then◌else◌, refl, sym, subst, ◌∙◌, arith}
use Prim.Native.Nat.{zero, suc}
use Rattle.std.specs.List.{AllByRecursion}
use Rattle.std.proofs.lemmas.Bool.Decides.{nat_tests}
use Rattle.nob_trace.specs.declared.stamped.Stamped.{Stamped}
use Rattle.nob_trace.specs.declared.trace.Trace.{Trace}
use Rattle.nob_model_traces.specs.declared.moment.Moment.{Moment}
use Rattle.nob_model_traces.specs.declared.merging.Head.{Head}
use Rattle.nob_trace.specs.Stamps.{Rise}
use Rattle.nob_model_traces.specs.Merged.{is_earlier}
use Rattle.nob_model_traces.specs.Heads.{moment_at, head_at, earlier_of, next_of}
use Rattle.nob_model_traces.proofs.Places.{EachWith, each_map, left_some, left_none, rise_after}

-- ---- moments

not_self : (m : Moment) → is_earlier m m ≡ false
not_self m = grind (arith, nat_tests)

pub not_back : (a b : Moment) → is_earlier a b ≡ true → is_earlier b a ≡ false
not_back a b h = grind (arith, nat_tests, h)

-- what isn't earlier than one that isn't earlier than another isn't earlier than that
not_over : (a b c : Moment) → is_earlier a b ≡ false → is_earlier b c ≡ false → is_earlier a c ≡ false
not_over a b c h k = grind (arith, nat_tests, h, k)

pub by_stamp : (a b : Moment) → a.stamp < b.stamp → is_earlier a b ≡ true
by_stamp a b h = grind (arith, nat_tests, h)

pub one_first : (a b : Moment) → is_earlier a b ≡ false → (a.space == b.space) ≡ false → is_earlier b a ≡ true
one_first a b h differs = grind (arith, nat_tests, h, differs)

-- ---- what comes next

-- no entry of a trace is left
abbrev pub NoneLeft : Trace → ℕ → Type 0
NoneLeft trace place = drop place trace.entries ≡ []

-- no entry that is left of a trace is earlier than this moment
abbrev pub NoneBefore : Moment → Trace → ℕ → Type 0
NoneBefore moment trace place = AllByRecursion (λ e. is_earlier (moment_at trace.space e) moment ≡ false) (drop place trace.entries)

-- an entry comes next: it is the first that is left of the trace at this place
pub record ComesNext (i : ℕ) (traces : List Trace) (places : List ℕ) (head : Head) : Type 0 where
  pub k : ℕ
  pub index_is : head.index ≡ i + k
  pub trace : Trace
  pub is_trace : slice_get traces k ≡ Some trace
  pub place : ℕ
  pub is_place : slice_get places k ≡ Some place
  pub entry : Stamped
  pub is_entry : slice_get trace.entries place ≡ Some entry
  pub moment_is : head.moment ≡ moment_at trace.space entry

pub none_left : (P : Trace → ℕ → Type 0) (i : ℕ) (traces : List Trace) (places : List ℕ) → EachWith P traces places → next_of i traces places ≡ None → EachWith NoneLeft traces places
none_left P i [] [] each is = tt
none_left P i [] (p ∷ ps) each is = absurd each
none_left P i (t ∷ ts) [] each is = absurd each
none_left P i (t ∷ ts) (p ∷ ps) each is = by (λ rest. none_left P (i + 1) ts ps each.1 rest) (slice_get t.entries p) refl (next_of (i + 1) ts ps) refl is
  where
    by : (next_of (i + 1) ts ps ≡ None → EachWith NoneLeft ts ps) → (h : Option Stamped) → slice_get t.entries p ≡ h → (r : Option Head) → next_of (i + 1) ts ps ≡ r → earlier_of (head_at i t.space h) r ≡ None → EachWith NoneLeft (t ∷ ts) (p ∷ ps)
    by rest None here None there is = (left_none t.entries p here, rest there)
    by rest None here (Some h) there is = absurd cc
    by rest (Some e) here None there is = absurd cc
    by rest (Some e) here (Some h) there is = two (is_earlier h.moment (moment_at t.space e)) is
      where
        two : (b : Bool) → (if b then Some h else Some (record { index = i; moment = moment_at t.space e })) ≡ None → EachWith NoneLeft (t ∷ ts) (p ∷ ps)
        two true is = absurd cc
        two false is = absurd cc

-- nothing that is left comes before, where nothing is
nothing_before : (m : Moment) (t : Trace) (p : ℕ) → NoneLeft t p → NoneBefore m t p
nothing_before m t p none = subst (AllByRecursion (λ (e : Stamped). is_earlier (moment_at t.space e) m ≡ false)) (sym none) tt

-- behind an entry that isn't before a moment none is
rest_before : (s : ℕ) (e : Stamped) (m : Moment) (es : List Stamped) → is_earlier (moment_at s e) m ≡ false → AllByRecursion (λ (later : Stamped). e.stamp < later.stamp) es → AllByRecursion (λ (later : Stamped). is_earlier (moment_at s later) m ≡ false) es
rest_before s e m [] not all = tt
rest_before s e m (d ∷ es) not all = (not_over (moment_at s d) (moment_at s e) m (not_back (moment_at s e) (moment_at s d) (by_stamp (moment_at s e) (moment_at s d) all.0)) not, rest_before s e m es not all.1)

own_before : (last : ℕ) (t : Trace) (p : ℕ) (e : Stamped) (m : Moment) → Rise last t.entries → slice_get t.entries p ≡ Some e → is_earlier (moment_at t.space e) m ≡ false → NoneBefore m t p
own_before last t p e m rise is not =
    subst (AllByRecursion (λ (d : Stamped). is_earlier (moment_at t.space d) m ≡ false)) (sym (left_some t.entries p e is))
    (not, rest_before t.space e m (drop (suc p) t.entries) not (rise_after last t.entries p e rise is))

all_before : (m n : Moment) (s : ℕ) (es : List Stamped) → is_earlier m n ≡ false → AllByRecursion (λ (e : Stamped). is_earlier (moment_at s e) m ≡ false) es → AllByRecursion (λ (e : Stamped). is_earlier (moment_at s e) n ≡ false) es
all_before m n s [] not all = tt
all_before m n s (e ∷ es) not all = (not_over (moment_at s e) m n all.0 not, all_before m n s es not all.1)

-- what comes next of all is the first that is left of one trace, and none that is left is earlier
pub next_is : (P : Trace → ℕ → Type 0) (i : ℕ) (traces : List Trace) (places : List ℕ) (head : Head) → AllByRecursion (λ trace. Rise 0 trace.entries) traces → EachWith P traces places → next_of i traces places ≡ Some head → ComesNext i traces places head × EachWith (NoneBefore head.moment) traces places
next_is P i [] [] head rise each is = absurd cc
next_is P i [] (p ∷ ps) head rise each is = absurd each
next_is P i (t ∷ ts) [] head rise each is = absurd each
next_is P i (t ∷ ts) (p ∷ ps) head rise each is = by (λ h there. next_is P (i + 1) ts ps h rise.1 each.1 there) (slice_get t.entries p) refl (next_of (i + 1) ts ps) refl is
  where
    Whole : Head → Type 0
    Whole h = ComesNext i (t ∷ ts) (p ∷ ps) h × EachWith (NoneBefore h.moment) (t ∷ ts) (p ∷ ps)

    behind : (h : Head) → ComesNext (i + 1) ts ps h → ComesNext i (t ∷ ts) (p ∷ ps) h
    behind h next = record {
      k = suc next.k;
      index_is = next.index_is ∙ omega arith;
      trace = next.trace;
      is_trace = next.is_trace;
      place = next.place;
      is_place = next.is_place;
      entry = next.entry;
      is_entry = next.is_entry;
      moment_is = next.moment_is;
    }

    first : (e : Stamped) → slice_get t.entries p ≡ Some e → ComesNext i (t ∷ ts) (p ∷ ps) (record { index = i; moment = moment_at t.space e })
    first e here = record {
      k = zero;
      index_is = omega arith;
      trace = t;
      is_trace = refl;
      place = p;
      is_place = refl;
      entry = e;
      is_entry = here;
      moment_is = refl;
    }

    by : ((h : Head) → next_of (i + 1) ts ps ≡ Some h → ComesNext (i + 1) ts ps h × EachWith (NoneBefore h.moment) ts ps) → (h : Option Stamped) → slice_get t.entries p ≡ h → (r : Option Head) → next_of (i + 1) ts ps ≡ r → earlier_of (head_at i t.space h) r ≡ Some head → Whole head
    by rest None here None there is = absurd cc
    by rest None here (Some h) there is =
        let same : h ≡ head = cc in
        let found = rest h there in
        subst Whole same (behind h found.0, (nothing_before h.moment t p (left_none t.entries p here), found.1))
    by rest (Some e) here None there is =
        let one : Head = record { index = i; moment = moment_at t.space e } in
        let same : one ≡ head = cc in
        let m = moment_at t.space e in
        subst Whole same (first e here, (own_before 0 t p e m rise.0 here (not_self m), each_map NoneLeft (NoneBefore m) ts ps (nothing_before m) (none_left P (i + 1) ts ps each.1 there)))
    by rest (Some e) here (Some h) there is = two (is_earlier h.moment (moment_at t.space e)) refl is
      where
        two : (b : Bool) → is_earlier h.moment (moment_at t.space e) ≡ b → (if b then Some h else Some (record { index = i; moment = moment_at t.space e })) ≡ Some head → Whole head
        two true earlier is =
            let same : h ≡ head = cc in
            let found = rest h there in
            subst Whole same (behind h found.0, (own_before 0 t p e h.moment rise.0 here (not_back h.moment (moment_at t.space e) earlier), found.1))
        two false later is =
            let one : Head = record { index = i; moment = moment_at t.space e } in
            let same : one ≡ head = cc in
            let m = moment_at t.space e in
            let found = rest h there in
            subst Whole same (first e here, (own_before 0 t p e m rise.0 here (not_self m), each_map (NoneBefore h.moment) (NoneBefore m) ts ps (λ u q all. all_before h.moment m u.space (drop q u.entries) later all) found.1))
