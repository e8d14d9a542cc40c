-- Where memory runs out.
use Rattle.std.proofs.Common.{◌≡◌, ℕ, ◌+◌, ◌-◌, ◌<◌, ◌^◌, List, [], ◌∷◌, ◌++◌, length, refl, sym, ap, subst, arith, ◌∙◌, append_assoc, Result, Ok, Err}
use Rattle.std.specs.Prelude.{IsErrAnd, Option, Some, None}
use Rattle.std.specs.List.{AllByRecursion}
use Rattle.nob_frame.specs.declared.version.Version.TheVariants.{Two}
use Rattle.nob_trace.specs.declared.stamped.Stamped.{Stamped}
use Rattle.nob_trace.specs.Stamps.{Rise, last_stamp}
use Rattle.nob_trace.specs.Entries.{entry_text, IsTraced}
use Rattle.nob_trace.specs.Reading.{BeginsWithLine}
use Rattle.nob_trace.proofs.Signs as signs
use Rattle.nob_chain.specs.declared.seal.Seal.{Seal}
use Rattle.nob_chain.specs.declared.segment.Segment.{Segment}
use Rattle.nob_chain.specs.declared.head.ChainHead.{ChainHead}
use Rattle.nob_chain.specs.declared.fault.ChainError.{ChainError}
use Rattle.nob_chain.specs.declared.fault.ChainError.TheVariants.{Fault, OutOfMemory}
use Rattle.nob_chain.specs.declared.fault.ChainFault.{ChainFault}
use Rattle.nob_chain.specs.Seals.{IsSeal, seal_text}
use Rattle.nob_chain.specs.Chains.{ChainLine, begins, ends, entries_of, opening_text, lines_text, entry_lines, seal_lines, segment_lines, segments_lines, head_text, IsHead, IsSealed, IsSegment}
use Rattle.nob_chain.specs.Reading.{Stage, between, within, start, after, Go, HasLine, InSegment, AtLine, AtSegment, IsThere, RunsOut}
use Rattle.nob_chain.proofs.Signs as own
use Rattle.nob_chain.proofs.Leads.{lines_both, go_both, after_both, go_entries, after_entries, go_segments, whole_entries}
use Rattle.nob_chain.proofs.ReadEntries.{FoundSoFar}
use Rattle.nob_chain.proofs.ReadSegments.{AreRead, FoundSegments, go_opening, one_line}

-- where memory runs out, as another statement of it
pub map_there : {X : Type 0} (P Q : Type 0) (r : Result X ChainError) (e : ChainError) → IsErrAnd r (λ f. f ≡ e) → IsThere P e → (P → Q) → RunsOut Q r
map_there P Q (Ok x) e is there map = absurd is
map_there P Q (Err f) (Fault fault) is there map = subst (IsThere Q) (sym is) tt
map_there P Q (Err f) OutOfMemory is there map = subst (IsThere Q) (sym is) (map there)

pub always_there : {X : Type 0} (Q : Type 0) (r : Result X ChainError) → Q → RunsOut Q r
always_there Q (Ok x) there = tt
always_there Q (Err (Fault fault)) there = tt
always_there Q (Err OutOfMemory) there = there

pub fault_alone : {X : Type 0} (Q : Type 0) (r : Result X ChainError) (f : ChainFault) → IsErrAnd r (λ e. e ≡ Fault f) → RunsOut Q r
fault_alone Q (Ok x) f is = absurd is
fault_alone Q (Err e) f is = subst (IsThere Q) (sym is) tt

-- ---- lines

pub reach_behind : (h : ChainHead) (stage there : Stage) (ls : List ChainLine) (text left : List ℕ) → Go h stage ls → after stage ls ≡ there → text ≡ lines_text ls ++ left → AtLine h there left → AtLine h stage text
reach_behind h stage there ls text left go to is at =
    let ms = at.0 in
    let back = sym to in
    let led : after stage (ls ++ ms) ≡ after there ms = after_both stage ls ms ∙ ap (λ (x : Stage). after x ms) to in (
      ls ++ ms,
      at.1,
      record {
        go = go_both h stage ls ms go (subst (λ (x : Stage). Go h x ms) back at.2.go);
        text_is = is ∙ ap (λ (bs : List ℕ). lines_text ls ++ bs) at.2.text_is ∙ sym (append_assoc (lines_text ls) (lines_text ms) at.1) ∙ ap (λ (bs : List ℕ). bs ++ at.1) (sym (lines_both ls ms));
        inside = subst (λ (x : Stage). InSegment x) (sym led) at.2.inside;
        whole = at.2.whole;
      },
    )

pub reach_here : (h : ChainHead) (stage : Stage) (text : List ℕ) → InSegment stage → HasLine text → AtLine h stage text
reach_here h stage text inside whole = ([], text, record { go = tt; text_is = refl; inside = inside; whole = whole })

pub entry_whole : (e : Stamped) (text rest : List ℕ) → IsTraced Two e → text ≡ entry_text Two e ++ 10 ∷ rest → HasLine text
entry_whole e text rest is spelt = (entry_text Two e, rest, (signs.entry Two e is, spelt))

seal_whole : (n k : ℕ) (s : Seal) (rest : List ℕ) → IsSeal n k s → HasLine (seal_text s ++ 10 ∷ rest)
seal_whole n k s rest is = (seal_text s, rest, (own.seal n k s is, refl))

-- ---- entries

pub entry_there : (last : ℕ) (text : List ℕ) (count : ℕ) (done : List Stamped) (left : List ℕ) (low : ℕ) → length done < count → FoundSoFar last text count done left low → HasLine left → (h : ChainHead) (number : ℕ) → AtLine h (within number last count) text
entry_there last text count done left low less so_far whole h number =
    let missing = count - length done in
    let long : count ≡ length done + missing = omega (arith, less) in
    reach_behind h (within number last count) (within number (last_stamp last done) missing) (entry_lines done) text left (go_entries h number last done count missing long so_far.rise so_far.traced) (after_entries number last done count missing long) so_far.text_is
    (reach_here h (within number (last_stamp last done) missing) left tt whole)

-- ---- a segment

pub entries_there : (h : ChainHead) (behind last count : ℕ) (text lines : List ℕ) → behind < h.count → h.count < 2 ^ 64 → (0 < count) × (count < 2 ^ 64) × (text ≡ opening_text (behind + 1) count ++ 10 ∷ lines)
    → ((k : ChainHead) (number : ℕ) → AtLine k (within number last count) lines) → AtLine h (between behind last) text
entries_there h behind last count text lines less few first at =
    reach_behind h (between behind last) (within (behind + 1) last count) (begins (behind + 1) count ∷ []) text lines (go_opening h behind last count less few first.0 first.1) refl (one_line text (opening_text (behind + 1) count) lines first.2) (at h (behind + 1))

pub seal_there : (h : ChainHead) (behind last count : ℕ) (text lines left : List ℕ) (es : List Stamped) → behind < h.count → h.count < 2 ^ 64 → (0 < count) × (count < 2 ^ 64) × (text ≡ opening_text (behind + 1) count ++ 10 ∷ lines) → AreRead last count lines es left → HasLine left → AtLine h (between behind last) text
seal_there h behind last count text lines left es less few first are whole =
    let at : (k : ChainHead) (number : ℕ) → AtLine k (within number last count) lines = λ k number.
    let entries = whole_entries k number last count es are.0 are.1 are.2 in
    reach_behind k (within number last count) (within number (last_stamp last es) 0) (entry_lines es) lines left entries.0 entries.1 are.3 (reach_here k (within number (last_stamp last es) 0) left tt whole) in
    entries_there h behind last count text lines less few first at

-- the seal of a whole segment is such a line
sealed_lines : (h : ChainHead) (behind last count : ℕ) (text rest : List ℕ) (es : List Stamped) (s : Option Seal) → behind < h.count → h.count < 2 ^ 64 → 0 < count → count < 2 ^ 64 → length es ≡ count → Rise last es → AllByRecursion (IsTraced Two) es → IsSealed h.space h.n s
    → text ≡ opening_text (behind + 1) count ++ 10 ∷ (lines_text (entry_lines es ++ seal_lines s) ++ rest) → AtLine h (between behind last) text
sealed_lines h behind last count text rest es None less few some small long rise traced is spelt = absurd is
sealed_lines h behind last count text rest es (Some s) less few some small long rise traced is spelt =
    let left = seal_text s ++ 10 ∷ rest in
    let lines = lines_text (entry_lines es ++ ends s ∷ []) ++ rest in
    let parted : lines ≡ lines_text (entry_lines es) ++ left =
    ap (λ (bs : List ℕ). bs ++ rest) (lines_both (entry_lines es) (ends s ∷ [])) ∙ append_assoc (lines_text (entry_lines es)) (seal_text s ++ 10 ∷ []) rest ∙ ap (λ (bs : List ℕ). lines_text (entry_lines es) ++ bs) (append_assoc (seal_text s) (10 ∷ []) rest) in
    seal_there h behind last count text lines left es less few (some, small, spelt) (long, rise, traced, parted) (seal_whole h.space h.n s rest is)

pub sealed_there : (h : ChainHead) (behind last : ℕ) (text rest : List ℕ) (s : Segment) → behind < h.count → h.count < 2 ^ 64 → IsSegment h.space h.n s × Rise last s.entries × (text ≡ lines_text (segment_lines (behind + 1) s) ++ rest) → AtLine h (between behind last) text
sealed_there h behind last text rest s less few one =
    sealed_lines h behind last (length s.entries) text rest s.entries s.seal less few one.0.filled one.0.few refl one.1 one.0.entries one.0.seal
    (one.2 ∙ append_assoc (opening_text (behind + 1) (length s.entries)) (10 ∷ lines_text (entry_lines s.entries ++ seal_lines s.seal)) rest)

-- ---- segments

pub segment_there : (h : ChainHead) (text : List ℕ) (done : List Segment) (left : List ℕ) (last behind : ℕ) → behind ≡ length done → h.count < 2 ^ 64 → FoundSegments h text done left last → AtLine h (between behind last) left → AtLine h start text
segment_there h text done left last behind long few so_far at =
    let most = so_far.few in
    let led = go_segments h 0 0 (length done) done (omega arith) most few so_far.are so_far.rise in
    let placed = subst (λ (n : ℕ). AtLine h (between n (last_stamp 0 (entries_of done))) left) long (subst (λ (n : ℕ). AtLine h (between behind n) left) so_far.last_is at) in
    reach_behind h start (between (length done) (last_stamp 0 (entries_of done))) (segments_lines 1 done) text left led.0 led.1 so_far.text_is placed

-- ---- chains

pub chain_there : (h : ChainHead) (text line rest : List ℕ) → BeginsWithLine text line rest → IsHead h × (line ≡ head_text h) → AtLine h start rest → AtSegment text
chain_there h text line rest starts head at = (h, rest, head.0, starts.1 ∙ ap (λ (bs : List ℕ). bs ++ 10 ∷ rest) head.1, at)

-- ---- errors

pub entry_memory : {X : Type 0} (last : ℕ) (text : List ℕ) (count : ℕ) (done : List Stamped) (left : List ℕ) (low : ℕ) (r : Result X ChainError) (e : ChainError) → length done < count → FoundSoFar last text count done left low → IsErrAnd r (λ f. f ≡ e) → IsThere (HasLine left) e
    → RunsOut ((h : ChainHead) (number : ℕ) → AtLine h (within number last count) text) r
entry_memory last text count done left low r e less so_far is there = map_there (HasLine left) ((h : ChainHead) (number : ℕ) → AtLine h (within number last count) text) r e is there (λ whole. entry_there last text count done left low less so_far whole)

pub push_memory : {X : Type 0} (last : ℕ) (text : List ℕ) (count : ℕ) (done : List Stamped) (left rest : List ℕ) (low : ℕ) (e : Stamped) (r : Result X ChainError) → length done < count → FoundSoFar last text count done left low → IsTraced Two e × (low < e.stamp) × (left ≡ entry_text Two e ++ 10 ∷ rest)
    → RunsOut ((h : ChainHead) (number : ℕ) → AtLine h (within number last count) text) r
push_memory last text count done left rest low e r less so_far one = always_there ((h : ChainHead) (number : ℕ) → AtLine h (within number last count) text) r (entry_there last text count done left low less so_far (entry_whole e left rest one.0 one.2))

pub middle_memory : {X : Type 0} (h : ChainHead) (behind last count : ℕ) (text lines : List ℕ) (r : Result X ChainError) (e : ChainError) → behind < h.count → h.count < 2 ^ 64 → (0 < count) × (count < 2 ^ 64) × (text ≡ opening_text (behind + 1) count ++ 10 ∷ lines)
    → IsErrAnd r (λ f. f ≡ e) → IsThere ((k : ChainHead) (number : ℕ) → AtLine k (within number last count) lines) e → RunsOut (AtLine h (between behind last) text) r
middle_memory h behind last count text lines r e less few first is there =
    map_there ((k : ChainHead) (number : ℕ) → AtLine k (within number last count) lines) (AtLine h (between behind last) text) r e is there (λ at. entries_there h behind last count text lines less few first at)

pub last_memory : {X : Type 0} (h : ChainHead) (behind last count : ℕ) (text lines left : List ℕ) (es : List Stamped) (r : Result X ChainError) (e : ChainError) → behind < h.count → h.count < 2 ^ 64 → (0 < count) × (count < 2 ^ 64) × (text ≡ opening_text (behind + 1) count ++ 10 ∷ lines) → AreRead last count lines es left
    → IsErrAnd r (λ f. f ≡ e) → IsThere (HasLine left) e → RunsOut (AtLine h (between behind last) text) r
last_memory h behind last count text lines left es r e less few first are is there =
    map_there (HasLine left) (AtLine h (between behind last) text) r e is there (λ whole. seal_there h behind last count text lines left es less few first are whole)

pub segments_memory : {X : Type 0} (h : ChainHead) (text : List ℕ) (done : List Segment) (left : List ℕ) (last behind : ℕ) (r : Result X ChainError) (e : ChainError) → behind ≡ length done → h.count < 2 ^ 64 → FoundSegments h text done left last
    → IsErrAnd r (λ f. f ≡ e) → IsThere (AtLine h (between behind last) left) e → RunsOut (AtLine h start text) r
segments_memory h text done left last behind r e long few so_far is there = map_there (AtLine h (between behind last) left) (AtLine h start text) r e is there (λ at. segment_there h text done left last behind long few so_far at)

pub segment_push_memory : {X : Type 0} (h : ChainHead) (text : List ℕ) (done : List Segment) (left rest : List ℕ) (last behind : ℕ) (s : Segment) (r : Result X ChainError) → behind ≡ length done → length done < h.count → h.count < 2 ^ 64 → FoundSegments h text done left last
    → IsSegment h.space h.n s × Rise last s.entries × (left ≡ lines_text (segment_lines (behind + 1) s) ++ rest) → RunsOut (AtLine h start text) r
segment_push_memory h text done left rest last behind s r long less few so_far one =
    always_there (AtLine h start text) r (segment_there h text done left last behind long few so_far (sealed_there h behind last left rest s (omega (arith, long, less)) few one))

pub chain_memory : {X : Type 0} (h : ChainHead) (text line rest : List ℕ) (r : Result X ChainError) (e : ChainError) → BeginsWithLine text line rest → IsHead h × (line ≡ head_text h) → IsErrAnd r (λ f. f ≡ e) → IsThere (AtLine h start rest) e → RunsOut (AtSegment text) r
chain_memory h text line rest r e starts head is there = map_there (AtLine h start rest) (AtSegment text) r e is there (λ at. chain_there h text line rest starts head at)
