-- Where the lines of segments lead.
use Rattle.std.proofs.Common.{◌≡◌, ℕ, suc, ◌+◌, ◌<◌, ◌≤◌, ◌^◌, List, [], ◌∷◌, ◌++◌, length, refl, sym, ap, subst, ◌∙◌, append_assoc, arith}
use Prim.Native.Nat.{zero}
use Rattle.std.specs.Prelude.{Option, Some, None}
use Rattle.std.specs.List.{AllByRecursion}
use Rattle.nob_frame.specs.declared.version.Version.TheVariants.{Two}
use Rattle.nob_trace.specs.declared.stamped.Stamped.{Stamped}
use Rattle.nob_trace.specs.Stamps.{Rise, last_stamp}
use Rattle.nob_trace.specs.Entries.{IsTraced}
use Rattle.nob_chain.specs.declared.seal.Seal.{Seal}
use Rattle.nob_chain.specs.declared.segment.Segment.{Segment}
use Rattle.nob_chain.specs.declared.head.ChainHead.{ChainHead}
use Rattle.nob_chain.specs.Chains.{ChainLine, entries_of, line_text, lines_text, entry_lines, seal_lines, segment_lines, segments_lines, IsSealed, IsSegment}
use Rattle.nob_chain.specs.Reading.{Stage, between, within, next, after, Go}

-- ---- stamps of entries one part after the other

pub rise_front : (last : ℕ) (xs ys : List Stamped) → Rise last (xs ++ ys) → Rise last xs
rise_front last [] ys rise = tt
rise_front last (x ∷ xs) ys rise = (rise.0, rise_front x.stamp xs ys rise.1)

pub rise_back : (last : ℕ) (xs ys : List Stamped) → Rise last (xs ++ ys) → Rise (last_stamp last xs) ys
rise_back last [] ys rise = rise
rise_back last (x ∷ xs) ys rise = rise_back x.stamp xs ys rise.1

pub rise_both : (last : ℕ) (xs ys : List Stamped) → Rise last xs → Rise (last_stamp last xs) ys → Rise last (xs ++ ys)
rise_both last [] ys one two = two
rise_both last (x ∷ xs) ys one two = (one.0, rise_both x.stamp xs ys one.1 two)

pub last_both : (last : ℕ) (xs ys : List Stamped) → last_stamp last (xs ++ ys) ≡ last_stamp (last_stamp last xs) ys
last_both last [] ys = refl
last_both last (x ∷ xs) ys = last_both x.stamp xs ys

-- the last stamp doesn't depend on what stands before entries of which there are some, and is above it
pub last_low : (last : ℕ) (es : List Stamped) → last_stamp 0 es ≤ last_stamp last es
last_low last [] = omega arith
last_low last (e ∷ es) = omega arith

pub last_some : (last : ℕ) (es : List Stamped) → 0 < length es → last_stamp 0 es ≡ last_stamp last es
last_some last [] some = absurd (omega (arith, some))
last_some last (e ∷ es) some = refl

pub rise_low : (last : ℕ) (es : List Stamped) → Rise last es → Rise 0 es
rise_low last [] rise = tt
rise_low last (e ∷ es) rise = (let above = rise.0 in omega (arith, above), rise.1)

-- ---- lines one part after the other

pub lines_both : (ls ms : List ChainLine) → lines_text (ls ++ ms) ≡ lines_text ls ++ lines_text ms
lines_both [] ms = refl
lines_both (l ∷ ls) ms = ap (λ (bs : List ℕ). line_text l ++ 10 ∷ bs) (lines_both ls ms) ∙ sym (append_assoc (line_text l) (10 ∷ lines_text ls) (lines_text ms))

pub go_both : (h : ChainHead) (stage : Stage) (ls ms : List ChainLine) → Go h stage ls → Go h (after stage ls) ms → Go h stage (ls ++ ms)
go_both h stage [] ms one two = two
go_both h stage (l ∷ ls) ms one two = (one.0, one.1, one.2, go_both h (next stage l) ls ms one.3 two)

pub after_both : (stage : Stage) (ls ms : List ChainLine) → after stage (ls ++ ms) ≡ after (after stage ls) ms
after_both stage [] ms = refl
after_both stage (l ∷ ls) ms = after_both (next stage l) ls ms

-- ---- entries

pub go_entries : (h : ChainHead) (number last : ℕ) (es : List Stamped) (missing left : ℕ) → missing ≡ length es + left → Rise last es → AllByRecursion (IsTraced Two) es → Go h (within number last missing) (entry_lines es)
go_entries h number last [] missing left long rise are = tt
go_entries h number last (e ∷ es) zero left long rise are = absurd (omega (arith, long))
go_entries h number last (e ∷ es) (suc missing) left long rise are = (tt, are.0, rise.0, go_entries h number e.stamp es missing left (omega (arith, long)) rise.1 are.1)

pub after_entries : (number last : ℕ) (es : List Stamped) (missing left : ℕ) → missing ≡ length es + left → after (within number last missing) (entry_lines es) ≡ within number (last_stamp last es) left
after_entries number last [] missing left long = ap (λ (m : ℕ). within number last m) (omega (arith, long))
after_entries number last (e ∷ es) zero left long = absurd (omega (arith, long))
after_entries number last (e ∷ es) (suc missing) left long = after_entries number e.stamp es missing left (omega (arith, long))

pub whole_entries : (h : ChainHead) (number last count : ℕ) (es : List Stamped) → length es ≡ count → Rise last es → AllByRecursion (IsTraced Two) es
    → Go h (within number last count) (entry_lines es) × (after (within number last count) (entry_lines es) ≡ within number (last_stamp last es) 0)
whole_entries h number last count es long rise are = (go_entries h number last es count 0 (omega (arith, long)) rise are, after_entries number last es count 0 (omega (arith, long)))

-- ---- segments

go_seal : (h : ChainHead) (number last : ℕ) (s : Option Seal) → IsSealed h.space h.n s → Go h (within number last 0) (seal_lines s) × (after (within number last 0) (seal_lines s) ≡ between number last)
go_seal h number last None is = absurd is
go_seal h number last (Some s) is = ((tt, is, tt, tt), refl)

pub go_segment : (h : ChainHead) (behind last : ℕ) (s : Segment) → behind < h.count → h.count < 2 ^ 64 → IsSegment h.space h.n s → Rise last s.entries
    → Go h (between behind last) (segment_lines (suc behind) s) × (after (between behind last) (segment_lines (suc behind) s) ≡ between (suc behind) (last_stamp last s.entries))
go_segment h behind last s less few is rise =
    let low = last_stamp last s.entries in
    let entries = whole_entries h (suc behind) last (length s.entries) s.entries refl rise is.entries in
    let seal = go_seal h (suc behind) low s.seal is.seal in
    let there = sym entries.1 in (
      (less, (omega (arith, less, few), is.few), (refl, is.filled), go_both h (within (suc behind) last (length s.entries)) (entry_lines s.entries) (seal_lines s.seal) entries.0 (subst (λ (x : Stage). Go h x (seal_lines s.seal)) there seal.0)),
      after_both (within (suc behind) last (length s.entries)) (entry_lines s.entries) (seal_lines s.seal) ∙ ap (λ (x : Stage). after x (seal_lines s.seal)) entries.1 ∙ seal.1,
    )

pub go_segments : (h : ChainHead) (behind last total : ℕ) (ss : List Segment) → total ≡ behind + length ss → total ≤ h.count → h.count < 2 ^ 64 → AllByRecursion (IsSegment h.space h.n) ss → Rise last (entries_of ss)
    → Go h (between behind last) (segments_lines (suc behind) ss) × (after (between behind last) (segments_lines (suc behind) ss) ≡ between total (last_stamp last (entries_of ss)))
go_segments h behind last total [] long most few are rise = (tt, ap (λ (n : ℕ). between n last) (omega (arith, long)))
go_segments h behind last total (s ∷ ss) long most few are rise =
    let first = go_segment h behind last s (omega (arith, long, most)) few are.0 (rise_front last s.entries (entries_of ss) rise) in
    let low = last_stamp last s.entries in
    let others = go_segments h (suc behind) low total ss (omega (arith, long)) most few are.1 (rise_back last s.entries (entries_of ss) rise) in
    let there = sym first.1 in
    let ls = segment_lines (suc behind) s in
    let ms = segments_lines (suc (suc behind)) ss in (
      go_both h (between behind last) ls ms first.0 (subst (λ (x : Stage). Go h x ms) there others.0),
      after_both (between behind last) ls ms ∙ ap (λ (x : Stage). after x ms) first.1 ∙ others.1 ∙ ap (λ (n : ℕ). between total n) (sym (last_both last s.entries (entries_of ss))),
    )
