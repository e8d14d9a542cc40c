-- Segments that were read so far, and the lines that are left.
use Rattle.std.proofs.Common.{◌≡◌, ◌≢◌, ℕ, suc, ◌+◌, ◌<◌, ◌≤◌, ◌^◌, List, [], ◌∷◌, ◌++◌, length, refl, sym, ap, subst, arith, ◌∙◌, append_assoc, length-append, Result, Ok, Err}
use Prim.Native.Nat.{zero}
use Rattle.std.specs.Prelude.{IsErrAnd, Option, Some, None}
use Rattle.std.specs.List.{AllByRecursion}
use Rattle.std.proofs.lemmas.List.{append-nil}
use Rattle.nob_frame.specs.declared.version.Version.TheVariants.{Two}
use Rattle.nob_trace.specs.declared.stamped.Stamped.{Stamped}
use Rattle.nob_trace.specs.Stamps.{Rise, last_stamp}
use Rattle.nob_trace.specs.Entries.{IsTraced}
use Rattle.nob_trace.specs.Reading.{BeginsWithLine, Lacks}
use Rattle.nob_chain.specs.declared.seal.Seal.{Seal}
use Rattle.nob_chain.specs.declared.segment.Segment.{Segment}
use Rattle.nob_chain.specs.declared.head.ChainHead.{ChainHead}
use Rattle.nob_chain.specs.declared.chain.ChainParts.{ChainParts}
use Rattle.nob_chain.specs.declared.fault.ChainFault.{ChainFault}
use Rattle.nob_chain.specs.declared.fault.ChainFault.TheVariants as faults
use Rattle.nob_chain.specs.declared.fault.ChainError.{ChainError}
use Rattle.nob_chain.specs.declared.fault.ChainError.TheVariants.{Fault, OutOfMemory}
use Rattle.nob_chain.specs.Seals.{IsSeal, seal_text}
use Rattle.nob_chain.specs.Chains.{ChainLine, begins, has, ends, entries_of, opening_text, line_text, lines_text, entry_lines, segment_lines, segments_lines, head_text, head_of, chain_text, HasDue, IsPart, IsKept, IsHead, IsSealed, IsSegment, IsChain}
use Rattle.nob_chain.specs.Openings.{OpeningFault}
use Rattle.nob_chain.specs.Reading.{between, within, start, CanStand, Go, IsNoHead, LineFault, GoesWrong, FrontFault, Answers, Explains, Finds}
use Rattle.nob_chain.proofs.Leads.{lines_both, go_segments, last_both, last_some, rise_both, whole_entries}
use Rattle.nob_chain.proofs.ReadEntries.{EntriesFault, map_fault, wrong_behind, wrong_here}

-- ---- a segment's first line

-- where the first line of a segment is due
abbrev pub OpeningWrong : ℕ → List ℕ → ChainFault → Type 0
OpeningWrong behind text fault = (h : ChainHead) (last : ℕ) → LineFault h (between behind last) text fault

pub cut_opening : (behind : ℕ) (text : List ℕ) → Lacks 10 text → OpeningWrong behind text faults.Short
cut_opening behind text lacks h last = lacks

no_opening : (h : ChainHead) (behind last : ℕ) (line : List ℕ) → ((number count : ℕ) → number < 2 ^ 64 → count < 2 ^ 64 → line ≡ opening_text number count → ⊥) → (l : ChainLine) → CanStand h (between behind last) l → line ≢ line_text l
no_opening h behind last line none (begins n c) can = none n c can.0 can.1
no_opening h behind last line none (has e) can = absurd can
no_opening h behind last line none (ends s) can = absurd can

pub wrong_opening : (behind : ℕ) (text line rest : List ℕ) (f : ChainFault) → BeginsWithLine text line rest → OpeningFault behind line f → OpeningWrong behind text f
wrong_opening behind text line rest faults.Entry starts wrong h last = (line, rest, starts, no_opening h behind last line wrong)
wrong_opening behind text line rest faults.Segment starts wrong h last = (begins wrong.0 wrong.1, rest, (wrong.2, wrong.3), starts.1 ∙ ap (λ (bs : List ℕ). bs ++ 10 ∷ rest) wrong.4, wrong.5)
wrong_opening behind text line rest faults.Short starts wrong h last = absurd wrong
wrong_opening behind text line rest faults.Stamp starts wrong h last = absurd wrong
wrong_opening behind text line rest faults.Trailing starts wrong h last = absurd wrong

-- the line and what stands behind it
pub with_line : (text line rest spelt : List ℕ) → BeginsWithLine text line rest → line ≡ spelt → text ≡ spelt ++ 10 ∷ rest
with_line text line rest spelt starts is = starts.1 ∙ ap (λ (bs : List ℕ). bs ++ 10 ∷ rest) is

-- ---- a seal

-- where the seal is due
abbrev pub SealWrong : ChainHead → List ℕ → ChainFault → Type 0
SealWrong h text fault = (number last : ℕ) → LineFault h (within number last 0) text fault

pub cut_seal : (h : ChainHead) (text : List ℕ) → Lacks 10 text → SealWrong h text faults.Short
cut_seal h text lacks number last = lacks

no_seal : (h : ChainHead) (number last : ℕ) (line : List ℕ) → ((s : Seal) → IsSeal h.space h.n s → line ≡ seal_text s → ⊥) → (l : ChainLine) → CanStand h (within number last zero) l → line ≢ line_text l
no_seal h number last line none (ends s) can = none s can
no_seal h number last line none (begins n c) can = absurd can
no_seal h number last line none (has e) can = absurd can

-- what a line is refused for that spells no seal
abbrev pub NoSeal : ChainHead → List ℕ → ChainFault → Type 0
NoSeal h line fault = (fault ≡ faults.Entry) × ((s : Seal) → IsSeal h.space h.n s → line ≡ seal_text s → ⊥)

wrong_seal : (h : ChainHead) (text line rest : List ℕ) (f : ChainFault) → BeginsWithLine text line rest → NoSeal h line f → SealWrong h text f
wrong_seal h text line rest f starts wrong number last = subst (λ (x : ChainFault). LineFault h (within number last 0) text x) (sym wrong.0) (line, rest, starts, no_seal h number last line wrong.1)

pub seal_error : {X : Type 0} (P : X → Type 0) (h : ChainHead) (text line rest : List ℕ) (r : Result X ChainError) (e : ChainError) → BeginsWithLine text line rest → IsErrAnd r (λ f. f ≡ e) → Explains (NoSeal h line) e → Answers P (SealWrong h text) r
seal_error P h text line rest r e starts is wrong = map_fault P (NoSeal h line) (SealWrong h text) r e is wrong (λ f w. wrong_seal h text line rest f starts w)

-- ---- a segment

abbrev pub SegmentWrong : ChainHead → ℕ → ℕ → List ℕ → ChainFault → Type 0
SegmentWrong h behind last text fault = GoesWrong h (between behind last) text fault

pub first_error : {X : Type 0} (P : X → Type 0) (h : ChainHead) (behind last : ℕ) (text : List ℕ) (r : Result X ChainError) (f : ChainFault) → behind < h.count → IsErrAnd r (λ e. e ≡ Fault f) → OpeningWrong behind text f → Answers P (SegmentWrong h behind last text) r
first_error P h behind last text (Ok x) f less is wrong = absurd is
first_error P h behind last text (Err e) f less is wrong = subst (λ (g : ChainError). Answers P (SegmentWrong h behind last text) (Err g)) (sym is) (wrong_here h (between behind last) text f less (wrong h last))

-- the first line of a segment goes on
pub go_opening : (h : ChainHead) (behind last count : ℕ) → behind < h.count → h.count < 2 ^ 64 → 0 < count → count < 2 ^ 64 → Go h (between behind last) (begins (behind + 1) count ∷ [])
go_opening h behind last count less few some small = (less, (omega (arith, less, few), small), (omega arith, some), tt)

-- the first line of a text and what stands behind it
pub one_line : (text line rest : List ℕ) → text ≡ line ++ 10 ∷ rest → text ≡ (line ++ 10 ∷ []) ++ rest
one_line text line rest is = is ∙ sym (append_assoc line (10 ∷ []) rest)

pub middle_error : {X : Type 0} (P : X → Type 0) (h : ChainHead) (behind last count : ℕ) (text lines : List ℕ) (r : Result X ChainError) (e : ChainError) → behind < h.count → h.count < 2 ^ 64 → (0 < count) × (count < 2 ^ 64) × (text ≡ opening_text (behind + 1) count ++ 10 ∷ lines)
    → IsErrAnd r (λ f. f ≡ e) → Explains (EntriesFault last lines count) e → Answers P (SegmentWrong h behind last text) r
middle_error P h behind last count text lines r e less few first is wrong =
    map_fault P (EntriesFault last lines count) (SegmentWrong h behind last text) r e is wrong
    (λ f w. wrong_behind h (between behind last) (within (behind + 1) last count) (begins (behind + 1) count ∷ []) text lines f (go_opening h behind last count less few first.0 first.1) refl (one_line text (opening_text (behind + 1) count) lines first.2) (w h (behind + 1)))

-- entries that were read
abbrev pub AreRead : ℕ → ℕ → List ℕ → List Stamped → List ℕ → Type 0
AreRead last count lines es left = (length es ≡ count) × Rise last es × AllByRecursion (IsTraced Two) es × (lines ≡ lines_text (entry_lines es) ++ left)

wrong_end : (h : ChainHead) (behind last count : ℕ) (text lines left : List ℕ) (es : List Stamped) (f : ChainFault) → behind < h.count → h.count < 2 ^ 64 → (0 < count) × (count < 2 ^ 64) × (text ≡ opening_text (behind + 1) count ++ 10 ∷ lines) → AreRead last count lines es left → SealWrong h left f → SegmentWrong h behind last text f
wrong_end h behind last count text lines left es f less few first are wrong =
    let entries = whole_entries h (behind + 1) last count es are.0 are.1 are.2 in
    let inner = wrong_behind h (within (behind + 1) last count) (within (behind + 1) (last_stamp last es) 0) (entry_lines es) lines left f entries.0 entries.1 are.3 (wrong_here h (within (behind + 1) (last_stamp last es) 0) left f tt (wrong (behind + 1) (last_stamp last es))) in
    wrong_behind h (between behind last) (within (behind + 1) last count) (begins (behind + 1) count ∷ []) text lines f (go_opening h behind last count less few first.0 first.1) refl (one_line text (opening_text (behind + 1) count) lines first.2) inner

pub last_error : {X : Type 0} (P : X → Type 0) (h : ChainHead) (behind last count : ℕ) (text lines left : List ℕ) (es : List Stamped) (r : Result X ChainError) (e : ChainError) → behind < h.count → h.count < 2 ^ 64 → (0 < count) × (count < 2 ^ 64) × (text ≡ opening_text (behind + 1) count ++ 10 ∷ lines) → AreRead last count lines es left
    → IsErrAnd r (λ f. f ≡ e) → Explains (SealWrong h left) e → Answers P (SegmentWrong h behind last text) r
last_error P h behind last count text lines left es r e less few first are is wrong = map_fault P (SealWrong h left) (SegmentWrong h behind last text) r e is wrong (λ f w. wrong_end h behind last count text lines left es f less few first are w)

pub is_segment : (h : ChainHead) (count last : ℕ) (lines left : List ℕ) (es : List Stamped) (s : Seal) → 0 < count → count < 2 ^ 64 → AreRead last count lines es left → IsSeal h.space h.n s → IsSegment h.space h.n (record { entries = es; seal = Some s })
is_segment h count last lines left es s some small are is =
    let long = are.0 in
    record { filled = omega (arith, some, long); few = omega (arith, small, long); entries = are.2; seal = is }

pub segment_text : (behind count last : ℕ) (text lines left rest : List ℕ) (es : List Stamped) (s : Seal) → text ≡ opening_text (behind + 1) count ++ 10 ∷ lines → AreRead last count lines es left → left ≡ seal_text s ++ 10 ∷ rest
    → text ≡ lines_text (segment_lines (behind + 1) (record { entries = es; seal = Some s })) ++ rest
segment_text behind count last text lines left rest es s first are seal =
    let ls = entry_lines es in
    let opened = opening_text (behind + 1) (length es) in
    first ∙ ap (λ (n : ℕ). opening_text (behind + 1) n ++ 10 ∷ lines) (sym are.0)
    ∙ ap (λ (bs : List ℕ). opened ++ 10 ∷ bs) (are.3 ∙ ap (λ (bs : List ℕ). lines_text ls ++ bs) (one_line left (seal_text s) rest seal) ∙ sym (append_assoc (lines_text ls) (seal_text s ++ 10 ∷ []) rest) ∙ ap (λ (bs : List ℕ). bs ++ rest) (sym (lines_both ls (ends s ∷ []))))
    ∙ sym (append_assoc opened (10 ∷ lines_text (ls ++ ends s ∷ [])) rest)

-- ---- segments one after the other

pub record FoundSegments (h : ChainHead) (text : List ℕ) (done : List Segment) (left : List ℕ) (last : ℕ) : Type 0 where
  pub few : length done ≤ h.count
  pub rise : Rise 0 (entries_of done)
  pub are : AllByRecursion (IsSegment h.space h.n) done
  pub text_is : text ≡ lines_text (segments_lines 1 done) ++ left
  pub last_is : last ≡ last_stamp 0 (entries_of done)

all_push : (P : Segment → Type 0) (done : List Segment) (s : Segment) → AllByRecursion P done → P s → AllByRecursion P (done ++ s ∷ [])
all_push P [] s all one = (one, tt)
all_push P (x ∷ done) s all one = (all.0, all_push P done s all.1 one)

entries_push : (done : List Segment) (s : Segment) → entries_of (done ++ s ∷ []) ≡ entries_of done ++ s.entries
entries_push [] s = append-nil s.entries
entries_push (x ∷ done) s = ap (λ (es : List Stamped). x.entries ++ es) (entries_push done s) ∙ sym (append_assoc x.entries (entries_of done) s.entries)

segments_push : (k n : ℕ) (done : List Segment) (s : Segment) → n ≡ k + length done → segments_lines k (done ++ s ∷ []) ≡ segments_lines k done ++ segment_lines n s
segments_push k n [] s is = append-nil (segment_lines k s) ∙ ap (λ (m : ℕ). segment_lines m s) (omega (arith, is))
segments_push k n (x ∷ done) s is = ap (λ (ls : List ChainLine). segment_lines k x ++ ls) (segments_push (suc k) n done s (omega (arith, is))) ∙ sym (append_assoc (segment_lines k x) (segments_lines (suc k) done) (segment_lines n s))

pub next_segment : (h : ChainHead) (text : List ℕ) (done : List Segment) (left rest : List ℕ) (last behind : ℕ) (s : Segment) → behind ≡ length done → length done < h.count → IsSegment h.space h.n s × Rise last s.entries × (left ≡ lines_text (segment_lines (behind + 1) s) ++ rest)
    → FoundSegments h text done left last → FoundSegments h text (done ++ s ∷ []) rest (last_stamp 0 s.entries)
next_segment h text done left rest last behind s long less one so_far =
    let joined = sym (entries_push done s) in
    let low = last_stamp 0 (entries_of done) in
    let rise = subst (λ (n : ℕ). Rise n s.entries) so_far.last_is one.1 in
    let ls = segments_lines 1 done in
    let ms = segment_lines (behind + 1) s in record {
      few = omega (arith, less, length-append done (s ∷ []));
      rise = subst (Rise 0) joined (rise_both 0 (entries_of done) s.entries so_far.rise rise);
      are = all_push (IsSegment h.space h.n) done s so_far.are one.0;
      text_is = so_far.text_is ∙ ap (λ (bs : List ℕ). lines_text ls ++ bs) one.2 ∙ sym (append_assoc (lines_text ls) (lines_text ms) rest) ∙ ap (λ (bs : List ℕ). bs ++ rest) (sym (lines_both ls ms) ∙ ap (λ (xs : List ChainLine). lines_text xs) (sym (segments_push 1 (behind + 1) done s (omega (arith, long)))));
      last_is = last_some low s.entries one.0.filled ∙ sym (last_both 0 (entries_of done) s.entries) ∙ ap (λ (es : List Stamped). last_stamp 0 es) joined;
    }

wrong_segment : (h : ChainHead) (text : List ℕ) (done : List Segment) (left : List ℕ) (last behind : ℕ) (f : ChainFault) → behind ≡ length done → h.count < 2 ^ 64 → FoundSegments h text done left last → SegmentWrong h behind last left f → GoesWrong h start text f
wrong_segment h text done left last behind f long few so_far wrong =
    let most = so_far.few in
    let led = go_segments h 0 0 (length done) done (omega arith) most few so_far.are so_far.rise in
    let placed = subst (λ (n : ℕ). GoesWrong h (between n (last_stamp 0 (entries_of done))) left f) long (subst (λ (n : ℕ). GoesWrong h (between behind n) left f) so_far.last_is wrong) in
    wrong_behind h start (between (length done) (last_stamp 0 (entries_of done))) (segments_lines 1 done) text left f led.0 led.1 so_far.text_is placed

pub segments_error : {X : Type 0} (P : X → Type 0) (h : ChainHead) (text : List ℕ) (done : List Segment) (left : List ℕ) (last behind : ℕ) (r : Result X ChainError) (e : ChainError) → behind ≡ length done → h.count < 2 ^ 64 → FoundSegments h text done left last
    → IsErrAnd r (λ f. f ≡ e) → Explains (SegmentWrong h behind last left) e → Answers P (GoesWrong h start text) r
segments_error P h text done left last behind r e long few so_far is wrong = map_fault P (SegmentWrong h behind last left) (GoesWrong h start text) r e is wrong (λ f w. wrong_segment h text done left last behind f long few so_far w)

-- ---- chains

pub no_head : (text line rest : List ℕ) → BeginsWithLine text line rest → IsNoHead line → FrontFault text faults.Entry
no_head text line rest starts none = FrontFault.bad line rest starts none refl

pub inside_error : {X : Type 0} (P : X → Type 0) (h : ChainHead) (text line rest : List ℕ) (r : Result X ChainError) (e : ChainError) → BeginsWithLine text line rest → IsHead h × (line ≡ head_text h) → IsErrAnd r (λ f. f ≡ e) → Explains (GoesWrong h start rest) e → Answers P (FrontFault text) r
inside_error P h text line rest r e starts head is wrong = map_fault P (GoesWrong h start rest) (FrontFault text) r e is wrong (λ f w. FrontFault.inside h rest head.0 (with_line text line rest (head_text h) starts head.1) w)

has_due : (own n : ℕ) (s : Option Seal) → IsSealed own n s → HasDue own n s
has_due own n None is = tt
has_due own n (Some s) is = is.due

are_parts : (own n : ℕ) (ss : List Segment) → AllByRecursion (IsSegment own n) ss → AllByRecursion (IsPart own n) ss
are_parts own n [] are = tt
are_parts own n (s ∷ ss) are = (record { filled = are.0.filled; due = has_due own n s.seal are.0.seal }, are_parts own n ss are.1)

-- segments that were read
abbrev pub SegmentsRead : ChainHead → List ℕ → List Segment → List ℕ → Type 0
SegmentsRead h lines ss rest = (length ss ≡ h.count) × Rise 0 (entries_of ss) × AllByRecursion (IsSegment h.space h.n) ss × (lines ≡ lines_text (segments_lines 1 ss) ++ rest)

-- the chain of these
abbrev pub made : ChainHead → List Segment → ChainParts
made h ss = record { space = h.space; n = h.n; limits = h.limits; segments = ss }

pub is_kept : (h : ChainHead) (lines rest : List ℕ) (ss : List Segment) → SegmentsRead h lines ss rest → IsKept (made h ss)
is_kept h lines rest ss read = record { rise = read.1; parts = are_parts h.space h.n ss read.2 }

pub is_chain : (h : ChainHead) (lines rest : List ℕ) (ss : List Segment) → IsHead h → SegmentsRead h lines ss rest → IsChain (made h ss)
is_chain h lines rest ss head read =
    let long = read.0 in
    let few = head.count in
    record { head = record { space = head.space; n = head.n; limits = head.limits; count = omega (arith, long, few) }; rise = read.1; segments = read.2 }

pub chain_is : (h : ChainHead) (text line lines rest : List ℕ) (ss : List Segment) → BeginsWithLine text line lines → line ≡ head_text h → SegmentsRead h lines ss rest → text ≡ chain_text (made h ss) ++ rest
chain_is h text line lines rest ss starts head read =
    let counted : ℕ → ChainHead = λ n. record { space = h.space; n = h.n; limits = h.limits; count = n } in
    starts.1 ∙ ap (λ (bs : List ℕ). bs ++ 10 ∷ lines) (head ∙ ap (λ (n : ℕ). head_text (counted n)) (sym read.0)) ∙ ap (λ (bs : List ℕ). head_text (head_of (made h ss)) ++ 10 ∷ bs) read.3
    ∙ sym (append_assoc (head_text (head_of (made h ss))) (10 ∷ lines_text (segments_lines 1 ss)) rest)

-- ---- what the text spells is what was read

pub by_error : (F : ChainFault → Type 0) (e : ChainError) → Explains F e → ((f : ChainFault) → F f → ⊥) → Explains (λ (f : ChainFault). ⊥) e
by_error F OutOfMemory is none = tt
by_error F (Fault f) is none = none f is

pub exact : {X : Type 0} (P Q : X → Type 0) (F : ChainFault → Type 0) (r : Result X ChainError) → Answers P F r → ((x : X) → P x → Q x) → ((f : ChainFault) → F f → ⊥) → Finds Q r
exact P Q F (Ok x) is same none = same x is
exact P Q F (Err e) is same none = by_error F e is none
