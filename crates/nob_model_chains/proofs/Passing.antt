-- The segments of a chain, of which some were passed.
use Rattle.std.proofs.Common.{◌≡◌, ℕ, ◌+◌, ◌<◌, Bool, true, false, List, [], ◌∷◌, ◌++◌, length, map, reverse, Option, Some, None, if◌then◌else◌, refl, sym, ap, subst, ◌∙◌, append_assoc, arith}
use Prim.Native.Nat.{zero, suc}
use Rattle.std.specs.Prelude.{drop, take, slice_get}
use Rattle.std.specs.List.{AllByRecursion}
use Rattle.std.specs.Option.{option_or}
use Rattle.std.proofs.lemmas.List.{reverse-append, map-append, append-nil}
use Rattle.nob_model_types.specs.declared.entry.Entry.{Entry}
use Rattle.nob_trace.specs.declared.stamped.Stamped.{Stamped}
use Rattle.nob_trace.specs.Stamps.{Rise, last_stamp}
use Rattle.nob_model_traces.specs.Apart.{entry_at}
use Rattle.nob_model_traces.specs.Traces.{journal_at}
use Rattle.nob_model_traces.proofs.Places.{left_some}
use Rattle.nob_model_traces.proofs.Entering.{take_one}
use Rattle.nob_chain.specs.declared.seal.Seal.{Seal}
use Rattle.nob_chain.specs.declared.segment.Segment.{Segment}
use Rattle.nob_chain.specs.declared.chain.ChainParts.{ChainParts}
use Rattle.nob_chain.specs.Chains.{entries_of, IsPart}
use Rattle.nob_chain.proofs.Leads.{last_both, last_some}
use Rattle.nob_model_chains.specs.Sealing.{is_right_or_none, wrong_behind, wrong_among, first_wrong_seal}

-- ---- entries one part after the other

-- a journal with one entry more, or with several
pub journal_next : (s : ℕ) (before : List Stamped) (e : Stamped) → journal_at s (before ++ e ∷ []) ≡ entry_at s e ∷ journal_at s before
journal_next s before e = ap reverse (map-append (entry_at s) before (e ∷ [])) ∙ reverse-append (map (entry_at s) before) (entry_at s e ∷ [])

pub entries_both : (xs ys : List Segment) → entries_of (xs ++ ys) ≡ entries_of xs ++ entries_of ys
entries_both [] ys = refl
entries_both (x ∷ xs) ys = ap (λ (es : List Stamped). x.entries ++ es) (entries_both xs ys) ∙ sym (append_assoc x.entries (entries_of xs) (entries_of ys))

pub entries_one : (xs : List Segment) (x : Segment) → entries_of (xs ++ x ∷ []) ≡ entries_of xs ++ x.entries
entries_one xs x = entries_both xs (x ∷ []) ∙ ap (λ (es : List Stamped). entries_of xs ++ es) (append-nil x.entries)

-- the entries of one segment more
pub entries_more : (segments : List Segment) (i : ℕ) (x : Segment) → slice_get segments i ≡ Some x → entries_of (take (i + 1) segments) ≡ entries_of (take i segments) ++ x.entries
entries_more segments i x is = ap entries_of (take_one segments i x is) ∙ entries_one (take i segments) x

-- ---- the last stamp

-- each segment has entries
pub part_at : (own n : ℕ) (segments : List Segment) (i : ℕ) (x : Segment) → AllByRecursion (IsPart own n) segments → slice_get segments i ≡ Some x → IsPart own n x
part_at own n [] i x all is = absurd cc
part_at own n (y ∷ ys) zero x all is = subst (IsPart own n) (let same : y ≡ x = cc in same) all.0
part_at own n (y ∷ ys) (suc i) x all is = part_at own n ys i x all.1 is

pub last_here : (before es : List Stamped) → 0 < length es → last_stamp 0 (before ++ es) ≡ last_stamp 0 es
last_here before es some = last_both 0 before es ∙ sym (last_some (last_stamp 0 before) es some)

-- ---- seals

-- which seal is wrong among those behind the first segments, of all segments
abbrev pub wrong_left : (s n : ℕ) → List Segment → ℕ → Option ℕ
wrong_left s n segments i = wrong_among s n (entries_of (take i segments)) (i + 1) (drop i segments)

-- of one segment less
pub wrong_next : (s n : ℕ) (segments : List Segment) (i : ℕ) (x : Segment) → slice_get segments i ≡ Some x → wrong_left s n segments i ≡ option_or (wrong_behind s n (entries_of (take (i + 1) segments)) (i + 1) x.seal) (wrong_left s n segments (i + 1))
wrong_next s n segments i x is =
    let further : suc i ≡ i + 1 = omega arith in
    ap (λ (xs : List Segment). wrong_among s n (entries_of (take i segments)) (i + 1) xs) (left_some segments i x is)
    ∙ ap (λ (es : List Stamped). option_or (wrong_behind s n es (i + 1) x.seal) (wrong_among s n es (i + 1 + 1) (drop (suc i) segments))) (sym (entries_more segments i x is))
    ∙ ap (λ (k : ℕ). option_or (wrong_behind s n (entries_of (take (i + 1) segments)) (i + 1) x.seal) (wrong_among s n (entries_of (take (i + 1) segments)) (i + 1 + 1) (drop k segments))) further

-- whether the seal of a segment is wrong, by its own last stamp
pub wrong_is : (s n : ℕ) (before : List Stamped) (x : Segment) (number stamp : ℕ) (L : List Entry) (b : Bool) → 0 < length x.entries → stamp ≡ last_stamp 0 x.entries → L ≡ journal_at s (before ++ x.entries) → b ≡ is_right_or_none s n stamp L x.seal
    → wrong_behind s n (before ++ x.entries) number x.seal ≡ (if b then None else Some number)
wrong_is s n before x number stamp L b some is told right =
    let stamps : stamp ≡ last_stamp 0 (before ++ x.entries) = is ∙ sym (last_here before x.entries some) in
    let same : b ≡ is_right_or_none s n (last_stamp 0 (before ++ x.entries)) (journal_at s (before ++ x.entries)) x.seal = right ∙ ap (λ (k : ℕ). is_right_or_none s n k L x.seal) stamps ∙ ap (λ (es : List Entry). is_right_or_none s n (last_stamp 0 (before ++ x.entries)) es x.seal) told in
    ap (λ (r : Bool). if r then None else Some number) (sym same)

-- which seal is wrong among those that are left, where it is known whether the next one is right
pub seal_next : (s n : ℕ) (segments : List Segment) (i : ℕ) (x : Segment) (stamp : ℕ) (L : List Entry) (b : Bool) → slice_get segments i ≡ Some x → 0 < length x.entries → stamp ≡ last_stamp 0 x.entries → L ≡ journal_at s (entries_of (take i segments) ++ x.entries) → b ≡ is_right_or_none s n stamp L x.seal
    → wrong_left s n segments i ≡ option_or (if b then None else Some (i + 1)) (wrong_left s n segments (i + 1))
seal_next s n segments i x stamp L b is some stamp_is told right =
    let left : Option ℕ = wrong_left s n segments (i + 1) in
    wrong_next s n segments i x is
    ∙ ap (λ (o : Option ℕ). option_or o left) (ap (λ (es : List Stamped). wrong_behind s n es (i + 1) x.seal) (entries_more segments i x is) ∙ wrong_is s n (entries_of (take i segments)) x (i + 1) stamp L b some stamp_is told right)
