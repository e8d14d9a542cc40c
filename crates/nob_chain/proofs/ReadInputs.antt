-- Chains and traces that were read so far, and the input that is left.
use Rattle.std.proofs.Common.{◌≡◌, ℕ, ◌<◌, List, [], ◌∷◌, ◌++◌, length, codes, refl, sym, ap, subst, ◌∙◌, append_assoc, length-append, arith, Result, Ok, Err}
use Rattle.std.specs.Prelude.{IsErrAnd}
use Rattle.std.proofs.lemmas.List.{append-nil}
use Rattle.nob_ids.specs.declared.limits.Limits.{Limits}
use Rattle.nob_frame.specs.declared.version.Version.{Version}
use Rattle.nob_frame.specs.declared.version.Version.TheVariants.{One, Two}
use Rattle.nob_trace.specs.declared.trace.Trace.{Trace}
use Rattle.nob_trace.specs.declared.fault.TraceFault.{TraceFault}
use Rattle.nob_trace.specs.declared.fault.TraceError.{TraceError}
use Rattle.nob_trace.specs.declared.fault.TraceError.TheVariants as trace_errors
use Rattle.nob_trace.specs.Reading as traces
use Rattle.nob_trace.specs.Reading.{TextFault}
use Rattle.nob_trace.specs.Traces.{head_word, trace_text, IsTrace}
use Rattle.nob_trace.proofs.OneEvent.{key}
use Rattle.nob_trace.proofs.ReadTraces.{shorter}
use Rattle.nob_chain.specs.declared.segment.Segment.{Segment}
use Rattle.nob_chain.specs.declared.chain.ChainParts.{ChainParts}
use Rattle.nob_chain.specs.declared.fault.ChainFault.{ChainFault}
use Rattle.nob_chain.specs.declared.fault.ChainError.{ChainError}
use Rattle.nob_chain.specs.declared.fault.ChainError.TheVariants.{Fault, OutOfMemory}
use Rattle.nob_chain.specs.Chains as chains
use Rattle.nob_chain.specs.Chains.{whole, chain_text, IsChain}
use Rattle.nob_chain.specs.Reading.{Answers, Explains, Finds}
use Rattle.nob_chain.specs.Inputs.{Spells, AreSpelt, BeginsAsChain, of_trace, fault_as, error_as}

-- what is answered, as another statement of it
pub map_answers : {X : Type 0} (P Q : X → Type 0) (F G : ChainFault → Type 0) (r : Result X ChainError) → Answers P F r → ((x : X) → P x → Q x) → ((fault : ChainFault) → F fault → G fault) → Answers Q G r
map_answers P Q F G (Ok x) is map mapped = map x is
map_answers P Q F G (Err (Fault fault)) is map mapped = mapped fault is
map_answers P Q F G (Err OutOfMemory) is map mapped = tt

-- a chain with the parts of a trace
pub chain_is : (chain : ChainParts) (trace : Trace) → chain.space ≡ trace.space → chain.n ≡ trace.n → chain.limits ≡ trace.limits → chain.segments ≡ whole trace.entries → chain ≡ of_trace trace
chain_is chain trace space n limits segments =
    let made : ℕ → ℕ → Limits → List Segment → ChainParts = λ s m l xs. record { space = s; n = m; limits = l; segments = xs } in
    ap (λ (x : ℕ). made x chain.n chain.limits chain.segments) space
    ∙ ap (λ (x : ℕ). made trace.space x chain.limits chain.segments) n
    ∙ ap (λ (x : Limits). made trace.space trace.n x chain.segments) limits
    ∙ ap (λ (x : List Segment). made trace.space trace.n trace.limits x) segments

-- ---- the error of a trace

-- what a fault of a trace says of a chain's
abbrev pub IsOwn : List ℕ → ChainFault → Type 0
IsOwn text fault = (own : TraceFault) × TextFault text own × (fault ≡ fault_as own)

pub error_found : (text : List ℕ) (e : TraceError) (r : ChainError) → r ≡ error_as e → traces.Explains (TextFault text) e → Explains (IsOwn text) r
error_found text (trace_errors.Fault fault) r is wrong = subst (Explains (IsOwn text)) (sym is) (fault, wrong, refl)
error_found text trace_errors.OutOfMemory r is wrong = subst (Explains (IsOwn text)) (sym is) tt

pub error_only : {X Y : Type 0} (P : X → Type 0) (Q : Y → Type 0) (e : TraceError) (r : ChainError) → r ≡ error_as e → traces.Finds P (Err e) → Finds Q (Err r)
error_only P Q (trace_errors.Fault fault) r is finds = absurd finds
error_only P Q trace_errors.OutOfMemory r is finds = subst (λ (f : ChainError). Finds Q (Err f)) (sym is) tt

-- ---- chains and traces begin otherwise

-- a chain begins as chains do
pub chain_begins : (chain : ChainParts) (text rest : List ℕ) → text ≡ chain_text chain ++ rest → BeginsAsChain text
chain_begins chain text rest is = (_, is)

not_so : (version : Version) (front lines left rest : List ℕ) → ((head_word version ++ front) ++ lines) ++ left ≡ codes "chain " ++ rest → ⊥
not_so One front lines left rest is = absurd (let k = ap key is in omega (arith, k))
not_so Two front lines left rest is = absurd (let k = ap key is in omega (arith, k))

-- a trace doesn't
pub trace_begins : (trace : Trace) (text rest : List ℕ) → text ≡ trace_text trace ++ rest → BeginsAsChain text → ⊥
trace_begins trace text rest is begins = not_so trace.version _ _ rest begins.0 (sym is ∙ begins.1)

-- ---- one after the other

spelt_push : (front : List ℕ) (done : List ChainParts) (text : List ℕ) (chain : ChainParts) → AreSpelt front done → Spells text chain → AreSpelt (front ++ text) (done ++ chain ∷ [])
spelt_push front [] text chain none one = (text, [], one, ap (λ (bs : List ℕ). bs ++ text) none ∙ sym (append-nil text), refl)
spelt_push front (d ∷ done) text chain are one =
    let rest = are.1 in
    (are.0, rest ++ text, are.2, ap (λ (bs : List ℕ). bs ++ text) are.3 ∙ append_assoc are.0 rest text, spelt_push rest done text chain are.4 one)

abbrev pub FoundAll : List ℕ → List ChainParts → List ℕ → Type 0
FoundAll input done left = (front : List ℕ) × AreSpelt front done × (input ≡ front ++ left)

-- how a chain or a trace is found, and how it is read
abbrev pub IsFound : List ℕ → ChainParts → List ℕ → Type 0
IsFound text chain left = (front : List ℕ) × Spells front chain × (text ≡ front ++ left)

abbrev pub IsRead : List ℕ → ChainParts → List ℕ → Type 0
IsRead text chain left = (front rest : List ℕ) (other : ChainParts) → Spells front other → text ≡ front ++ rest → (chain ≡ other) × (left ≡ rest)

pub found_none : (input : List ℕ) → FoundAll input [] input
found_none input = ([], refl, refl)

pub found_next : (input left after : List ℕ) (done : List ChainParts) (chain : ChainParts) → IsFound left chain after → FoundAll input done left → FoundAll input (done ++ chain ∷ []) after
found_next input left after done chain one so_far = (
  so_far.0 ++ one.0,
  spelt_push so_far.0 done one.0 chain so_far.1 one.1,
  so_far.2 ∙ ap (λ (bs : List ℕ). so_far.0 ++ bs) one.2 ∙ sym (append_assoc so_far.0 one.0 after),
)

pub found_all : (input left : List ℕ) (done : List ChainParts) → left ≡ [] → FoundAll input done left → AreSpelt input done
found_all input left done empty so_far = subst (λ (bs : List ℕ). AreSpelt bs done) (sym (so_far.2 ∙ ap (λ (bs : List ℕ). so_far.0 ++ bs) empty ∙ append-nil so_far.0)) so_far.1

abbrev pub OnlyAll : List ℕ → List ChainParts → List ℕ → Type 0
OnlyAll input done left = (all : List ChainParts) → AreSpelt input all → (others : List ChainParts) × (all ≡ done ++ others) × AreSpelt left others

pub only_none : (input : List ℕ) → OnlyAll input [] input
only_none input all are = (all, refl, are)

others_next : (all done others : List ChainParts) (left after : List ℕ) (chain : ChainParts) → (left ≡ [] → ⊥) → IsRead left chain after → all ≡ done ++ others → AreSpelt left others
    → (more : List ChainParts) × (all ≡ (done ++ chain ∷ []) ++ more) × AreSpelt after more
others_next all done [] left after chain some read same are = absurd (some are)
others_next all done (u ∷ more) left after chain some read same are =
    let r = read are.0 are.1 u are.2 are.3 in
    (more, same ∙ ap (λ (x : ChainParts). done ++ x ∷ more) (sym r.0) ∙ sym (append_assoc done (chain ∷ []) more), subst (λ (bs : List ℕ). AreSpelt bs more) (sym r.1) are.4)

pub only_next : (input left after : List ℕ) (done : List ChainParts) (chain : ChainParts) → (left ≡ [] → ⊥) → IsRead left chain after → OnlyAll input done left → OnlyAll input (done ++ chain ∷ []) after
only_next input left after done chain some read so_far all are =
    let r = so_far all are in
    others_next all done r.0 left after chain some read r.1 r.2

-- a spelling is some bytes
chain_shorter : (text rest : List ℕ) (chain : ChainParts) → text ≡ chain_text chain ++ rest → length rest < length text
chain_shorter text rest chain is =
    let l : length text ≡ length (chain_text chain ++ rest) = ap length is in
    let ls = chains.lines_text (chains.segments_lines 1 chain.segments) in
    omega (arith, l, length-append (chain_text chain) rest, length-append (chains.head_text (chains.head_of chain)) (10 ∷ ls))

pub found_shorter : (text rest front : List ℕ) (chain : ChainParts) → Spells front chain → text ≡ front ++ rest → length rest < length text
found_shorter text rest front chain (Spells.as_chain is spelt) at = chain_shorter text rest chain (at ∙ ap (λ (bs : List ℕ). bs ++ rest) spelt)
found_shorter text rest front chain (Spells.as_trace trace is spelt same) at = shorter text rest trace (at ∙ ap (λ (bs : List ℕ). bs ++ rest) spelt)

no_more : (left : List ℕ) (others : List ChainParts) → left ≡ [] → AreSpelt left others → others ≡ []
no_more left [] empty are = refl
no_more left (u ∷ others) empty are = absurd (let l : length are.1 < length left = found_shorter left are.1 are.0 u are.2 are.3 in let e : length left ≡ 0 = ap length empty in omega (arith, l, e))

pub only_end : (input left : List ℕ) (done : List ChainParts) → left ≡ [] → OnlyAll input done left → (all : List ChainParts) → AreSpelt input all → done ≡ all
only_end input left done empty so_far all are =
    let r = so_far all are in
    sym (r.1 ∙ ap (λ (us : List ChainParts). done ++ us) (no_more left r.0 empty r.2) ∙ append-nil done)

-- an error where something is left that is spelt is want of memory
pub unread_next : (left : List ℕ) (others : List ChainParts) (e : ChainError) → (left ≡ [] → ⊥) → AreSpelt left others → ((front rest : List ℕ) (chain : ChainParts) → Spells front chain → left ≡ front ++ rest → e ≡ OutOfMemory) → e ≡ OutOfMemory
unread_next left [] e some are unread = absurd (some are)
unread_next left (u ∷ others) e some are unread = unread are.0 are.1 u are.2 are.3

pub by_error : (e : ChainError) → Finds (λ (x : Unit {0}). Unit {0}) (Err e) → e ≡ OutOfMemory
by_error OutOfMemory finds = refl
by_error (Fault fault) finds = absurd finds

pub passed : {X : Type 0} (P : X → Type 0) (r : Result X ChainError) (e : ChainError) → IsErrAnd r (λ f. f ≡ e) → e ≡ OutOfMemory → Finds P r
passed P (Ok x) e is memory = absurd is
passed P (Err f) e is memory = subst (λ (g : ChainError). Finds P (Err g)) (sym (is ∙ memory)) tt

-- ---- the first of them

pub as_chain_found : (text left : List ℕ) (chain : ChainParts) → IsChain chain × (text ≡ chain_text chain ++ left) → IsFound text chain left
as_chain_found text left chain found = (chain_text chain, Spells.as_chain found.0 refl, found.1)

pub as_trace_found : (text left : List ℕ) (chain : ChainParts) → (trace : Trace) × IsTrace trace × (text ≡ trace_text trace ++ left) × (chain ≡ of_trace trace) → IsFound text chain left
as_trace_found text left chain found = (trace_text found.0, Spells.as_trace found.0 found.1 refl found.3, found.2)

pub chain_only : {X : Type 0} (text : List ℕ) (r : Result X ChainError) (Q : ChainParts → List ℕ → X → Type 0) → BeginsAsChain text → ((chain : ChainParts) (rest : List ℕ) → IsChain chain → text ≡ chain_text chain ++ rest → Finds (Q chain rest) r)
    → (front rest : List ℕ) (chain : ChainParts) → Spells front chain → text ≡ front ++ rest → Finds (Q chain rest) r
chain_only text r Q begins only front rest chain (Spells.as_chain is spelt) at = only chain rest is (at ∙ ap (λ (bs : List ℕ). bs ++ rest) spelt)
chain_only text r Q begins only front rest chain (Spells.as_trace trace is spelt same) at = absurd (trace_begins trace text rest (at ∙ ap (λ (bs : List ℕ). bs ++ rest) spelt) begins)

pub trace_only : {X : Type 0} (text : List ℕ) (r : Result X ChainError) (Q : ChainParts → List ℕ → X → Type 0) → (BeginsAsChain text → ⊥) → ((trace : Trace) (rest : List ℕ) → IsTrace trace → text ≡ trace_text trace ++ rest → Finds (Q (of_trace trace) rest) r)
    → (front rest : List ℕ) (chain : ChainParts) → Spells front chain → text ≡ front ++ rest → Finds (Q chain rest) r
trace_only text r Q begins only front rest chain (Spells.as_chain is spelt) at = absurd (begins (chain_begins chain text rest (at ∙ ap (λ (bs : List ℕ). bs ++ rest) spelt)))
trace_only text r Q begins only front rest chain (Spells.as_trace trace is spelt same) at = subst (λ (c : ChainParts). Finds (Q c rest) r) (sym same) (only trace rest is (at ∙ ap (λ (bs : List ℕ). bs ++ rest) spelt))
