-- The merged entries of right traces whose arrivals have origins are a run of a world.
use Rattle.std.proofs.Common.{◌≡◌, ℕ, ◌≤◌, Bool, true, false, cond, ◌&&◌, ◌||◌, ◌==◌, nat_le, List, [], ◌∷◌, ◌++◌, length, map, filter, reverse, refl, sym, ap, subst, true≢false, ◌∙◌, arith}
use Rattle.std.specs.List.{AllByRecursion, list_any, list_all}
use Rattle.std.proofs.lemmas.Bool.{and_parts, eqb-true}
use Rattle.std.proofs.lemmas.Bool.Decides.{nat_tests}
use Rattle.std.proofs.lemmas.Cmp.{nat_eq_equiv}
use Rattle.std.proofs.lemmas.List.{reverse-append}
use Rattle.nob_ids.specs.declared.limits.Limits.{Limits}
use Rattle.nob_model_types.specs.declared.entry.Entry.{Entry}
use Rattle.nob_model.specs.Right.{IsRight}
use Rattle.nob_model_journal.specs.Journals.{at, Each}
use Rattle.nob_model_journal.specs.Runs.{ArrivesGiven, WorldRun}
use Rattle.nob_model_invariant.specs.Typed.{IsOfTypes, AreOfTypes}
use Rattle.nob_trace.specs.declared.stamped.Stamped.{Stamped}
use Rattle.nob_trace.specs.declared.trace.Trace.{Trace}
use Rattle.nob_model_traces.specs.Apart.{entry_at, are_apart}
use Rattle.nob_model_traces.specs.Merged.{Dated, dated_at, dated_of, is_traced, IsMerged}
use Rattle.nob_model_traces.specs.Traces.{journal_at, is_one_of, are_one_each}
use Rattle.nob_model_traces.specs.Origins.{HaveOrigins}
use Rattle.nob_check.specs.Running.{IsRightAndTyped, HaveLimits}

-- ---- lists

filter_append : {X : Type 0} (test : X → Bool) (xs ys : List X) → filter test (xs ++ ys) ≡ filter test xs ++ filter test ys
filter_append test [] ys = refl
filter_append {X} test (x ∷ xs) ys = by (filter_append test xs ys) (test x)
  where
    by : filter test (xs ++ ys) ≡ filter test xs ++ filter test ys → (b : Bool) → cond b (x ∷ filter test (xs ++ ys)) (filter test (xs ++ ys)) ≡ cond b (x ∷ filter test xs) (filter test xs) ++ filter test ys
    by rest true = ap (λ (zs : List X). x ∷ zs) rest
    by rest false = rest

filter_one : {X : Type 0} (test : X → Bool) (x : X) → reverse (filter test (x ∷ [])) ≡ filter test (x ∷ [])
filter_one {X} test x = by (test x)
  where
    by : (b : Bool) → reverse {A = X} (cond b (x ∷ []) []) ≡ cond b (x ∷ []) []
    by true = refl
    by false = refl

filter_reverse : {X : Type 0} (test : X → Bool) (xs : List X) → filter test (reverse xs) ≡ reverse (filter test xs)
filter_reverse test [] = refl
filter_reverse {X} test (x ∷ xs) =
    ap (filter test) (reverse-append (x ∷ []) xs)
    ∙ filter_append test (reverse xs) (x ∷ [])
    ∙ ap (λ (zs : List X). zs ++ filter test (x ∷ [])) (filter_reverse test xs)
    ∙ ap (λ (zs : List X). reverse (filter test xs) ++ zs) (sym (filter_one test x))
    ∙ sym (reverse-append (filter test (x ∷ [])) (filter test xs))
    ∙ ap reverse (sym (filter_append test (x ∷ []) xs))

all_reverse : {X : Type 0} (P : X → Type 0) (xs : List X) → AllByRecursion P xs → AllByRecursion P (reverse xs)
all_reverse P [] all = tt
all_reverse P (x ∷ xs) all = subst (AllByRecursion P) (sym (reverse-append (x ∷ []) xs)) (append (reverse xs) (all_reverse P xs all.1))
  where
    append : (ys : List _) → AllByRecursion P ys → AllByRecursion P (ys ++ x ∷ [])
    append [] every = (all.0, tt)
    append (y ∷ ys) every = (every.0, append ys every.1)

-- ---- the part of each space

part_of : (s : ℕ) (M : List Dated) → filter (λ (entry : Entry). entry.space == s) (map (λ (d : Dated). d.entry) M) ≡ map (λ (d : Dated). d.entry) (dated_of s M)
part_of s [] = refl
part_of s (d ∷ M) = by (part_of s M) (d.entry.space == s)
  where
    by : filter (λ (entry : Entry). entry.space == s) (map (λ (e : Dated). e.entry) M) ≡ map (λ (e : Dated). e.entry) (dated_of s M) → (b : Bool) → cond b (d.entry ∷ filter (λ (entry : Entry). entry.space == s) (map (λ (e : Dated). e.entry) M)) (filter (λ (entry : Entry). entry.space == s) (map (λ (e : Dated). e.entry) M)) ≡ map (λ (e : Dated). e.entry) (cond b (d ∷ dated_of s M) (dated_of s M))
    by rest true = ap (λ (es : List Entry). d.entry ∷ es) rest
    by rest false = rest

undated : (s : ℕ) (es : List Stamped) → map (λ (d : Dated). d.entry) (map (dated_at s) es) ≡ map (entry_at s) es
undated s [] = refl
undated s (e ∷ es) = ap (λ (xs : List Entry). entry_at s e ∷ xs) (undated s es)

-- the entries of a space in the journal of all are those of its trace
part_is : (s : ℕ) (M : List Dated) (es : List Stamped) → dated_of s M ≡ map (dated_at s) es → at s (reverse (map (λ (d : Dated). d.entry) M)) ≡ journal_at s es
part_is s M es is = filter_reverse (λ (entry : Entry). entry.space == s) (map (λ (d : Dated). d.entry) M) ∙ ap reverse (part_of s M ∙ ap (map (λ (d : Dated). d.entry)) is ∙ undated s es)

-- ---- the run

-- an entry of space s is right after those before it, and of its types
abbrev pub IsGood : (s n : ℕ) → Limits → Entry → List Entry → Type 0
IsGood s n limits entry L = IsRight s n limits entry L × IsOfTypes entry

-- the part of a trace's space in a journal is good, and the space is one of n
pub record IsPart (n : ℕ) (limits : ℕ → Limits) (J : List Entry) (trace : Trace) : Type 0 where
  pub low : 1 ≤ trace.space
  pub high : trace.space ≤ n
  pub good : Each (IsGood trace.space n (limits trace.space)) (at trace.space J)

both : (s n : ℕ) (limits : Limits) (L : List Entry) → Each (IsRight s n limits) L → AreOfTypes L → Each (IsGood s n limits) L
both s n limits [] right typed = tt
both s n limits (entry ∷ L) right typed = ((right.0, typed.0), both s n limits L right.1 typed.1)

-- what is so of the trace of a space
pick : (P : Trace → Type 0) (s : ℕ) (traces : List Trace) → AllByRecursion P traces → list_any (λ trace. trace.space == s) traces ≡ true → (trace : Trace) × (trace.space ≡ s) × P trace
pick P s [] all there = absurd (true≢false (sym there))
pick P s (t ∷ ts) all there = by (t.space == s) refl (λ later. pick P s ts all.1 later) there
  where
    by : (b : Bool) → (t.space == s) ≡ b → (list_any (λ (trace : Trace). trace.space == s) ts ≡ true → (trace : Trace) × (trace.space ≡ s) × P trace) → (b || list_any (λ (trace : Trace). trace.space == s) ts) ≡ true → (trace : Trace) × (trace.space ≡ s) × P trace
    by true here later there = (t, eqb-true t.space s here, all.0)
    by false apart later there = later there

own_part : (entry : Entry) (J : List Entry) → at entry.space (entry ∷ J) ≡ entry ∷ at entry.space J
own_part entry J = ap (λ (b : Bool). cond b (entry ∷ at entry.space J) (at entry.space J)) (nat_eq_equiv.refl entry.space)

-- one entry less leaves the parts good
less : (n : ℕ) (limits : ℕ → Limits) (entry : Entry) (J : List Entry) (t : Trace) → IsPart n limits (entry ∷ J) t → IsPart n limits J t
less n limits entry J t part = record { low = part.low; high = part.high; good = by (entry.space == t.space) part.good }
  where
    by : (b : Bool) → Each (IsGood t.space n (limits t.space)) (cond b (entry ∷ at t.space J) (at t.space J)) → Each (IsGood t.space n (limits t.space)) (at t.space J)
    by true good = good.1
    by false good = good

all_less : (n : ℕ) (limits : ℕ → Limits) (entry : Entry) (J : List Entry) (ts : List Trace) → AllByRecursion (IsPart n limits (entry ∷ J)) ts → AllByRecursion (IsPart n limits J) ts
all_less n limits entry J [] all = tt
all_less n limits entry J (t ∷ ts) all = (less n limits entry J t all.0, all_less n limits entry J ts all.1)

-- a journal of good parts in which each arrival has an origin is a run of a world
run_of : (n : ℕ) (limits : ℕ → Limits) (traces : List Trace) (J : List Entry) → AllByRecursion (IsPart n limits J) traces → AllByRecursion (λ entry. list_any (λ trace. trace.space == entry.space) traces ≡ true) J → Each (λ entry L. ArrivesGiven entry.event L) J
    → WorldRun n limits J × AreOfTypes J
run_of n limits traces [] parts traced given = (tt, tt)
run_of n limits traces (entry ∷ J) parts traced given =
    let found = pick (IsPart n limits (entry ∷ J)) entry.space traces parts traced.0 in
    let rest = run_of n limits traces J (all_less n limits entry J traces parts) traced.1 given.1 in
    let good = subst (λ (L : List Entry). Each (IsGood entry.space n (limits entry.space)) L) (own_part entry J) (subst (λ (s : ℕ). Each (IsGood s n (limits s)) (at s (entry ∷ J))) found.1 found.2.good) in (
      (
        record {
          first = subst (λ (s : ℕ). 1 ≤ s) found.1 found.2.low;
          last = subst (λ (s : ℕ). s ≤ n) found.1 found.2.high;
          is_right = good.0.0;
          arrives = given.0;
        },
        rest.0,
      ),
      (good.0.1, rest.1),
    )

-- ---- accepted traces

-- the parts of the traces in the journal of their merged entries
parts_of : (n : ℕ) (limits : ℕ → Limits) (M : List Dated) (ts : List Trace) → list_all (is_one_of n) ts ≡ true → AllByRecursion IsRightAndTyped ts → AllByRecursion (λ trace. limits trace.space ≡ trace.limits) ts
    → AllByRecursion (λ trace. dated_of trace.space M ≡ map (dated_at trace.space) trace.entries) ts → AllByRecursion (IsPart n limits (reverse (map (λ (d : Dated). d.entry) M))) ts
parts_of n limits M [] ones right its each = tt
parts_of n limits M (t ∷ ts) ones right its each =
    let parts = and_parts (is_one_of n t) (list_all (is_one_of n) ts) ones in
    let one = and_parts (t.n == n && nat_le 1 t.space) (nat_le t.space n) parts.0 in
    let two = and_parts (t.n == n) (nat_le 1 t.space) one.0 in
    let count : t.n ≡ n = eqb-true t.n n two.0 in
    let good = both t.space t.n t.limits (journal_at t.space t.entries) right.0.right right.0.typed in (
      record {
        low = (let low = two.1 in grind (arith, nat_tests, low));
        high = (let high = one.1 in grind (arith, nat_tests, high));
        good = subst (λ (L : List Entry). Each (IsGood t.space n (limits t.space)) L) (sym (part_is t.space M t.entries each.0))
            (subst (λ (its : Limits). Each (IsGood t.space n its) (journal_at t.space t.entries)) (sym its.0) (subst (λ (m : ℕ). Each (IsGood t.space m t.limits) (journal_at t.space t.entries)) count good));
      },
      parts_of n limits M ts parts.1 right.1 its.1 each.1,
    )

traced_of : (traces : List Trace) (M : List Dated) → AllByRecursion (λ d. is_traced traces d ≡ true) M → AllByRecursion (λ (entry : Entry). list_any (λ trace. trace.space == entry.space) traces ≡ true) (map (λ (d : Dated). d.entry) M)
traced_of traces [] all = tt
traced_of traces (d ∷ M) all = (all.0, traced_of traces M all.1)

pub world_run : (traces : List Trace) (merged : List Entry) (limits : ℕ → Limits) → are_one_each traces ≡ true → AllByRecursion IsRightAndTyped traces → IsMerged traces merged → HaveOrigins merged → HaveLimits limits traces
    → WorldRun (length traces) limits (reverse merged) × AreOfTypes (reverse merged)
world_run traces merged limits ones right (M, of, are) origins its =
    let outer = and_parts (nat_le 1 (length traces) && list_all (is_one_of (length traces)) traces) (are_apart traces) ones in
    let inner = and_parts (nat_le 1 (length traces)) (list_all (is_one_of (length traces)) traces) outer.0 in
    subst (λ (es : List Entry). WorldRun (length traces) limits (reverse es) × AreOfTypes (reverse es)) (sym are)
    (run_of (length traces) limits traces (reverse (map (λ (d : Dated). d.entry) M)) (parts_of (length traces) limits M traces inner.1 right its of.each)
    (all_reverse (λ (entry : Entry). list_any (λ (trace : Trace). trace.space == entry.space) traces ≡ true) (map (λ (d : Dated). d.entry) M) (traced_of traces M of.no_others))
    (subst (λ (es : List Entry). HaveOrigins es) are origins))
