-- A trace at the front of a text, and traces one after the other.
use Rattle.std.proofs.Common.{◌≡◌, ℕ, ◌<◌, List, [], ◌∷◌, ◌++◌, length, codes, refl, sym, ap, subst, arith, rules, ◌∙◌, append_assoc, length-append, Result, Ok, Err}
use Rattle.std.specs.Prelude.{IsErrAnd}
use Rattle.std.specs.List.{AllByRecursion, flat_map}
use Rattle.std.specs.Fmt.{decimal}
use Rattle.std.proofs.lemmas.List.{append-nil}
use Rattle.nob_frame.specs.declared.version.Version.{Version}
use Rattle.nob_frame.specs.declared.version.Version.TheVariants.{One, Two}
use Rattle.nob_trace.specs.declared.head.Head.{Head}
use Rattle.nob_trace.specs.declared.trace.Trace.{Trace}
use Rattle.nob_trace.specs.declared.fault.TraceFault.{TraceFault}
use Rattle.nob_trace.specs.declared.fault.TraceError.{TraceError}
use Rattle.nob_trace.specs.declared.fault.TraceError.TheVariants.{Fault, OutOfMemory}
use Rattle.nob_trace.specs.Traces.{head_of, head_word, head_text, entries_text, trace_text, IsHead, IsTrace}
use Rattle.nob_trace.specs.Reading.{Answers, AtEntry, AtLine, AtTrace, BeginsWithLine, EntriesFault, Explains, IsThere, Lacks, RunsOut, TextFault}
use Rattle.nob_trace.proofs.Parting.{has_one, one_parting}
use Rattle.nob_trace.proofs.Signs as signs

word_lacks : (version : Version) → signs.HasNone (head_word version)
word_lacks One = search rules
word_lacks Two = search rules

-- no newline stands in a first line
pub head_lacks : (head : Head) → IsHead head → Lacks 10 (head_text head)
head_lacks head is =
    signs.lacks_newline (head_text head)
    (signs.word (head_word head.version) _ (word_lacks head.version) (signs.both (decimal head.space) _ (signs.space head.space is.space)
    (signs.word (codes " of ") _ (search rules) (signs.both (decimal head.n) _ (signs.space head.n is.n)
    (signs.word (codes " window ") _ (search rules) (signs.both (decimal head.limits.window) _ (signs.number head.limits.window (let low = is.limits.1 in omega (arith, low)))
    (signs.word (codes " retry ") _ (search rules) (signs.both (decimal head.limits.retry) _ (signs.number head.limits.retry (let low = is.limits.3 in omega (arith, low)))
    (signs.word (codes " entries ") (decimal head.count) (search rules) (signs.number head.count is.count))))))))))

-- the first line of a trace's text and the lines behind it
pub lines_of : (text line lines : List ℕ) (trace : Trace) (rest : List ℕ) → BeginsWithLine text line lines → IsTrace trace → text ≡ trace_text trace ++ rest → (line ≡ head_text (head_of trace)) × (lines ≡ entries_text trace.version trace.entries ++ rest)
lines_of text line lines trace rest begins is spelt =
    one_parting 10 line (head_text (head_of trace)) lines (entries_text trace.version trace.entries ++ rest) begins.0 (head_lacks (head_of trace) is.head)
    (sym begins.1 ∙ spelt ∙ append_assoc (head_text (head_of trace)) (10 ∷ entries_text trace.version trace.entries) rest)

pub no_line : (text : List ℕ) (trace : Trace) (rest : List ℕ) → Lacks 10 text → text ≡ trace_text trace ++ rest → ⊥
no_line text trace rest lacks spelt = has_one 10 text (head_text (head_of trace)) (entries_text trace.version trace.entries ++ rest) lacks (spelt ∙ append_assoc (head_text (head_of trace)) (10 ∷ entries_text trace.version trace.entries) rest)

-- the text of a trace whose parts were read
pub whole : (text line lines rest : List ℕ) (trace : Trace) → BeginsWithLine text line lines → line ≡ head_text (head_of trace) → lines ≡ entries_text trace.version trace.entries ++ rest → text ≡ trace_text trace ++ rest
whole text line lines rest trace begins head entries =
    begins.1 ∙ ap (λ (bs : List ℕ). bs ++ 10 ∷ lines) head ∙ ap (λ (bs : List ℕ). head_text (head_of trace) ++ 10 ∷ bs) entries
    ∙ sym (append_assoc (head_text (head_of trace)) (10 ∷ entries_text trace.version trace.entries) rest)

-- ---- faults

pub lines_fault : {X : Type 0} (P : X → Type 0) (text line lines : List ℕ) (head : Head) (r : Result X TraceError) (e : TraceError) → BeginsWithLine text line lines → IsHead head × (line ≡ head_text head) → IsErrAnd r (λ f. f ≡ e)
    → Explains (EntriesFault head.version lines head.count) e → Answers P (TextFault text) r
lines_fault P text line lines head (Ok x) e begins spelt is wrong = absurd is
lines_fault P text line lines head (Err f) (Fault fault) begins spelt is wrong =
    subst (λ (g : TraceError). Answers P (TextFault text) (Err g)) (sym is) (TextFault.lines head lines spelt.0 (begins.1 ∙ ap (λ (bs : List ℕ). bs ++ 10 ∷ lines) spelt.1) wrong)
lines_fault P text line lines head (Err f) OutOfMemory begins spelt is wrong = subst (λ (g : TraceError). Answers P (TextFault text) (Err g)) (sym is) tt

-- a fault of what a text begins with, as another statement of it
pub map_fault : {X : Type 0} (P : X → Type 0) (F G : TraceFault → Type 0) (r : Result X TraceError) (e : TraceError) → IsErrAnd r (λ f. f ≡ e) → Explains F e → ((fault : TraceFault) → F fault → G fault) → Answers P G r
map_fault P F G (Ok x) e is wrong map = absurd is
map_fault P F G (Err f) (Fault fault) is wrong map = subst (λ (g : TraceError). Answers P G (Err g)) (sym is) (map fault wrong)
map_fault P F G (Err f) OutOfMemory is wrong map = subst (λ (g : TraceError). Answers P G (Err g)) (sym is) tt

-- where memory runs out, as another statement of it
pub map_there : {X : Type 0} (P Q : Type 0) (r : Result X TraceError) (e : TraceError) → IsErrAnd r (λ f. f ≡ e) → IsThere P e → (P → Q) → RunsOut Q r
map_there P Q (Ok x) e is there map = absurd is
map_there P Q (Err f) (Fault fault) is there map = subst (IsThere Q) (sym is) tt
map_there P Q (Err f) OutOfMemory is there map = subst (IsThere Q) (sym is) (map there)

pub always_there : {X : Type 0} (Q : Type 0) (r : Result X TraceError) → Q → RunsOut Q r
always_there Q (Ok x) there = tt
always_there Q (Err (Fault fault)) there = tt
always_there Q (Err OutOfMemory) there = there

pub at_entry : (text line lines : List ℕ) (head : Head) → BeginsWithLine text line lines → IsHead head × (line ≡ head_text head) → AtLine head.version lines head.count → AtEntry text
at_entry text line lines head begins spelt at = (head, lines, spelt.0, begins.1 ∙ ap (λ (bs : List ℕ). bs ++ 10 ∷ lines) spelt.1, at)

-- ---- traces one after the other

pub record FoundAll (text : List ℕ) (done : List Trace) (left : List ℕ) : Type 0 where
  pub are : AllByRecursion IsTrace done
  pub text_is : text ≡ flat_map trace_text done ++ left

abbrev pub OnlyAll : List ℕ → List Trace → List ℕ → Type 0
OnlyAll text done left = (all : List Trace) → AllByRecursion IsTrace all → text ≡ flat_map trace_text all → (others : List Trace) × (all ≡ done ++ others) × AllByRecursion IsTrace others × (left ≡ flat_map trace_text others)

all_push : (P : Trace → Type 0) (done : List Trace) (t : Trace) → AllByRecursion P done → P t → AllByRecursion P (done ++ t ∷ [])
all_push P [] t all one = (one, tt)
all_push P (x ∷ done) t all one = (all.0, all_push P done t all.1 one)

texts_push : (done : List Trace) (t : Trace) (after : List ℕ) → flat_map trace_text done ++ (trace_text t ++ after) ≡ flat_map trace_text (done ++ t ∷ []) ++ after
texts_push [] t after = ap (λ (bs : List ℕ). bs ++ after) (sym (append-nil (trace_text t)))
texts_push (x ∷ done) t after =
    append_assoc (trace_text x) (flat_map trace_text done) (trace_text t ++ after) ∙ ap (λ (bs : List ℕ). trace_text x ++ bs) (texts_push done t after) ∙ sym (append_assoc (trace_text x) (flat_map trace_text (done ++ t ∷ [])) after)

pub found_next : (text left after : List ℕ) (done : List Trace) (t : Trace) → IsTrace t × (left ≡ trace_text t ++ after) → FoundAll text done left → FoundAll text (done ++ t ∷ []) after
found_next text left after done t one so_far = record {
  are = all_push IsTrace done t so_far.are one.0;
  text_is = so_far.text_is ∙ ap (λ (bs : List ℕ). flat_map trace_text done ++ bs) one.1 ∙ texts_push done t after;
}

-- how a trace is read
abbrev pub IsRead : List ℕ → Trace → List ℕ → Type 0
IsRead text t left = (trace : Trace) (rest : List ℕ) → IsTrace trace → text ≡ trace_text trace ++ rest → (t ≡ trace) × (left ≡ rest)

others_next : (all done others : List Trace) (left after : List ℕ) (t : Trace) → (left ≡ [] → ⊥) → IsRead left t after → all ≡ done ++ others → AllByRecursion IsTrace others → left ≡ flat_map trace_text others
    → (more : List Trace) × (all ≡ (done ++ t ∷ []) ++ more) × AllByRecursion IsTrace more × (after ≡ flat_map trace_text more)
others_next all done [] left after t some read same are is = absurd (some is)
others_next all done (u ∷ more) left after t some read same are is =
    let r = read u (flat_map trace_text more) are.0 is in
    (more, same ∙ ap (λ (x : Trace). done ++ x ∷ more) (sym r.0) ∙ sym (append_assoc done (t ∷ []) more), are.1, r.1)

pub only_next : (text left after : List ℕ) (done : List Trace) (t : Trace) → (left ≡ [] → ⊥) → IsRead left t after → OnlyAll text done left → OnlyAll text (done ++ t ∷ []) after
only_next text left after done t some read so_far all are spelt =
    let r = so_far all are spelt in
    others_next all done r.0 left after t some read r.1 r.2 r.3

-- a trace's text is some
some_text : (t : Trace) (rest : List ℕ) → [] ≡ trace_text t ++ rest → ⊥
some_text t rest is =
    let l : 0 ≡ length (trace_text t ++ rest) = ap length is in
    omega (arith, l, length-append (trace_text t) rest, length-append (head_text (head_of t)) (10 ∷ entries_text t.version t.entries))

no_more : (others : List Trace) → [] ≡ flat_map trace_text others → others ≡ []
no_more [] is = refl
no_more (u ∷ others) is = absurd (some_text u _ is)

pub only_end : (text left : List ℕ) (done : List Trace) → left ≡ [] → OnlyAll text done left → (all : List Trace) → AllByRecursion IsTrace all → text ≡ flat_map trace_text all → done ≡ all
only_end text left done empty so_far all are spelt =
    let r = so_far all are spelt in
    sym (r.1 ∙ ap (λ (us : List Trace). done ++ us) (no_more r.0 (sym empty ∙ r.3)) ∙ append-nil done)

pub unread_next : (others : List Trace) (left : List ℕ) (e : TraceError) → (left ≡ [] → ⊥) → AllByRecursion IsTrace others → left ≡ flat_map trace_text others
    → ((trace : Trace) (rest : List ℕ) → IsTrace trace → left ≡ trace_text trace ++ rest → e ≡ OutOfMemory) → e ≡ OutOfMemory
unread_next [] left e some are is unread = absurd (some is)
unread_next (u ∷ others) left e some are is unread = unread u (flat_map trace_text others) are.0 is

pub shorter : (text rest : List ℕ) (t : Trace) → text ≡ trace_text t ++ rest → length rest < length text
shorter text rest t is =
    let l : length text ≡ length (trace_text t ++ rest) = ap length is in
    omega (arith, l, length-append (trace_text t) rest, length-append (head_text (head_of t)) (10 ∷ entries_text t.version t.entries))

-- ---- where memory runs out

pub behind_whole : (text left after : List ℕ) (done : List Trace) (t : Trace) → IsTrace t × (left ≡ trace_text t ++ after) → FoundAll text done left → AtTrace text
behind_whole text left after done t one so_far =
    let next = found_next text left after done t one so_far in
    AtTrace.whole (done ++ t ∷ []) after next.are next.text_is (omega (arith, length-append done (t ∷ [])))
