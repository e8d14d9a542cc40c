-- A text begins with one chain, and has one fault at most where it begins with none.
use Rattle.std.proofs.Common.{◌≡◌, inl, inr, ℕ, suc, ◌+◌, ◌≤◌, List, [], ◌∷◌, ◌++◌, length, refl, sym, ap, subst, ◌∙◌, append_assoc, arith}
use Rattle.std.specs.Prelude.{Option, Some, None}
use Rattle.std.specs.List.{AllByRecursion}
use Rattle.std.proofs.lemmas.List.{append-nil}
use Rattle.nob_frame.specs.declared.version.Version.TheVariants.{Two}
use Rattle.nob_trace.specs.declared.stamped.Stamped.{Stamped}
use Rattle.nob_trace.specs.Stamps.{last_stamp}
use Rattle.nob_trace.specs.Reading.{BeginsWithLine}
use Rattle.nob_trace.proofs.Parting.{has_one, one_parting}
use Rattle.nob_trace.proofs.Writable as writable
use Rattle.nob_chain.specs.declared.seal.Seal.{Seal}
use Rattle.nob_chain.specs.declared.segment.Segment.{Segment}
use Rattle.nob_chain.specs.declared.head.ChainHead.{ChainHead}
use Rattle.nob_chain.specs.declared.chain.ChainParts.{ChainParts}
use Rattle.nob_chain.specs.declared.fault.ChainFault.{ChainFault}
use Rattle.nob_chain.specs.Chains.{ChainLine, begins, has, ends, entries_of, lines_text, entry_lines, seal_lines, segments_lines, head_text, head_of, chain_text, IsHead, IsSealed, IsSegment, IsChain}
use Rattle.nob_chain.specs.Reading.{Stage, between, start, Waits, after, Go, LineFault, LinesFault, GoesWrong, FrontFault, ChainProblem}
use Rattle.nob_chain.specs.Writing.{HasSeal, IsSpeakable}
use Rattle.nob_chain.specs.Laws.{AreWritable, OneFront, OneChain, OneFault, OneProblem}
use Rattle.nob_chain.proofs.Signs as signs
use Rattle.nob_chain.proofs.OneLine.{head_is}
use Rattle.nob_chain.proofs.OneRun.{Halts, one_run, one_end}
use Rattle.nob_chain.proofs.Leads.{go_segments}

-- ---- lines are those of one list of segments

same_entry : (e f : Stamped) (ls ms : List ChainLine) → has e ∷ ls ≡ has f ∷ ms → (e ≡ f) × (ls ≡ ms)
same_entry e f ls ms is = (cc, cc)

same_seal : (s t : Seal) (ls ms : List ChainLine) → ends s ∷ ls ≡ ends t ∷ ms → (s ≡ t) × (ls ≡ ms)
same_seal s t ls ms is = (cc, cc)

seal_entry : (s : Seal) (e : Stamped) (ls ms : List ChainLine) → ends s ∷ ls ≡ has e ∷ ms → ⊥
seal_entry s e ls ms is = cc

same_opening : (n k c d : ℕ) (ls ms : List ChainLine) → begins n c ∷ ls ≡ begins k d ∷ ms → ls ≡ ms
same_opening n k c d ls ms is = cc

no_lines : (l : ChainLine) (ls : List ChainLine) → [] ≡ l ∷ ls → ⊥
no_lines l ls is = cc

abbrev Same : List Stamped → List Stamped → Option Seal → Option Seal → List ChainLine → List ChainLine → Type 0
Same es fs s t more others = (es ≡ fs) × (s ≡ t) × (more ≡ others)

seals_are : (own n : ℕ) (s t : Option Seal) (more others : List ChainLine) → IsSealed own n s → IsSealed own n t → seal_lines s ++ more ≡ seal_lines t ++ others → Same [] [] s t more others
seals_are own n None t more others is was same = absurd is
seals_are own n s None more others is was same = absurd was
seals_are own n (Some s) (Some t) more others is was same =
    let parts = same_seal s t more others same in
    (refl, ap (λ (x : Seal). Some x) parts.0, parts.1)

seal_alone : (own n : ℕ) (s : Option Seal) (more : List ChainLine) (e : Stamped) (ls : List ChainLine) → IsSealed own n s → seal_lines s ++ more ≡ has e ∷ ls → ⊥
seal_alone own n None more e ls is same = is
seal_alone own n (Some s) more e ls is same = seal_entry s e more ls same

parts_are : (own n : ℕ) (es fs : List Stamped) (s t : Option Seal) (more others : List ChainLine) → IsSealed own n s → IsSealed own n t → (entry_lines es ++ seal_lines s) ++ more ≡ (entry_lines fs ++ seal_lines t) ++ others → Same es fs s t more others
parts_are own n [] [] s t more others is was same = seals_are own n s t more others is was same
parts_are own n [] (f ∷ fs) s t more others is was same = absurd (seal_alone own n s more f ((entry_lines fs ++ seal_lines t) ++ others) is same)
parts_are own n (e ∷ es) [] s t more others is was same = absurd (seal_alone own n t others e ((entry_lines es ++ seal_lines s) ++ more) was (sym same))
parts_are own n (e ∷ es) (f ∷ fs) s t more others is was same =
    let first = same_entry e f ((entry_lines es ++ seal_lines s) ++ more) ((entry_lines fs ++ seal_lines t) ++ others) same in
    let inner = parts_are own n es fs s t more others is was first.1 in
    (ap (λ (x : Stamped). x ∷ es) first.0 ∙ ap (λ (xs : List Stamped). f ∷ xs) inner.0, inner.1, inner.2)

segments_are : (own n k : ℕ) (ss ts : List Segment) → AllByRecursion (IsSegment own n) ss → AllByRecursion (IsSegment own n) ts → segments_lines k ss ≡ segments_lines k ts → ss ≡ ts
segments_are own n k [] [] are were same = refl
segments_are own n k [] (t ∷ ts) are were same = absurd (no_lines _ _ same)
segments_are own n k (s ∷ ss) [] are were same = absurd (no_lines _ _ (sym same))
segments_are own n k (s ∷ ss) (t ∷ ts) are were same =
    let behind = same_opening k k (length s.entries) (length t.entries) _ _ same in
    let parts = parts_are own n s.entries t.entries s.seal t.seal (segments_lines (suc k) ss) (segments_lines (suc k) ts) are.0.seal were.0.seal behind in
    let others = segments_are own n (suc k) ss ts are.1 were.1 parts.2 in
    let made : List Stamped → Option Seal → Segment = λ es x. record { entries = es; seal = x } in
    let first : s ≡ t = ap (λ (es : List Stamped). made es s.seal) parts.0 ∙ ap (λ (x : Option Seal). made t.entries x) parts.1 in
    ap (λ (x : Segment). x ∷ ss) first ∙ ap (λ (xs : List Segment). t ∷ xs) others

-- ---- chains

-- the lines of a chain go on to where none is due any more
pub leads : (c : ChainParts) → IsChain c → Go (head_of c) start (segments_lines 1 c.segments) × (after start (segments_lines 1 c.segments) ≡ between (length c.segments) (last_stamp 0 (entries_of c.segments)))
leads c is = go_segments (head_of c) 0 0 (length c.segments) c.segments (omega arith) (omega arith) is.head.count is.segments is.rise

over : (h : ChainHead) (stage : Stage) (n last : ℕ) (left : List ℕ) → stage ≡ between n last → h.count ≤ n → Halts h stage left
over h stage n last left is most = inl (λ waits. let less = subst (λ (x : Stage). Waits h x) is waits in omega (arith, less, most))

-- the first line of a chain's text and what stands behind it
split : (c : ChainParts) (rest : List ℕ) → chain_text c ++ rest ≡ head_text (head_of c) ++ 10 ∷ (lines_text (segments_lines 1 c.segments) ++ rest)
split c rest = append_assoc (head_text (head_of c)) (10 ∷ lines_text (segments_lines 1 c.segments)) rest

same_heads : (h k : ChainHead) (rest left : List ℕ) → IsHead h → IsHead k → head_text h ++ 10 ∷ rest ≡ head_text k ++ 10 ∷ left → (h ≡ k) × (rest ≡ left)
same_heads h k rest left is was same =
    let parts = one_parting 10 (head_text h) (head_text k) rest left (signs.head h is) (signs.head k was) same in
    (head_is h k is was parts.0, parts.1)

same_chain : (c d : ChainParts) → head_of c ≡ head_of d → c.segments ≡ d.segments → c ≡ d
same_chain c d head segments =
    let made : ChainHead → List Segment → ChainParts = λ h ss. record { space = h.space; n = h.n; limits = h.limits; segments = ss } in
    ap (λ (h : ChainHead). made h c.segments) head ∙ ap (λ (ss : List Segment). made (head_of d) ss) segments

pub one_front : OneFront
one_front c d rest left is was same =
    let parts = same_heads (head_of c) (head_of d) (lines_text (segments_lines 1 c.segments) ++ rest) (lines_text (segments_lines 1 d.segments) ++ left) is.head was.head (sym (split c rest) ∙ same ∙ split d left) in
    let here = leads c is in
    let there = leads d was in
    let back = sym parts.0 in
    let run = one_run (head_of c) (segments_lines 1 c.segments) (segments_lines 1 d.segments) start rest left here.0 (subst (λ (h : ChainHead). Go h start (segments_lines 1 d.segments)) back there.0) parts.1
    (over (head_of c) (after start (segments_lines 1 c.segments)) (length c.segments) (last_stamp 0 (entries_of c.segments)) rest here.1 (omega arith))
    (over (head_of c) (after start (segments_lines 1 d.segments)) (length d.segments) (last_stamp 0 (entries_of d.segments)) left there.1 (let count = ap (λ (h : ChainHead). h.count) parts.0 in omega (arith, count))) in
    let space = ap (λ (h : ChainHead). h.space) back in
    let n = ap (λ (h : ChainHead). h.n) back in
    let were = subst (λ (x : ℕ). AllByRecursion (IsSegment x c.n) d.segments) space (subst (λ (x : ℕ). AllByRecursion (IsSegment d.space x) d.segments) n was.segments) in
    (same_chain c d parts.0 (segments_are c.space c.n 1 c.segments d.segments is.segments were run.0), run.1)

pub one_chain : OneChain
one_chain text c d is was spelt again = (one_front c d [] [] is was (ap (λ (bs : List ℕ). bs ++ []) (sym spelt ∙ again))).0

-- ---- faults

wrong_halts : (h : ChainHead) (text : List ℕ) (f : ChainFault) (ls : List ChainLine) (left : List ℕ) → LinesFault h start text f ls left → Halts h (after start ls) left
wrong_halts h text f ls left wrong = inr (f, wrong.fault_is)

one_wrong : (h : ChainHead) (text : List ℕ) (f g : ChainFault) → GoesWrong h start text f → GoesWrong h start text g → f ≡ g
one_wrong h text f g is was =
    let run = one_run h is.0 was.0 start is.1 was.1 is.2.go was.2.go (sym is.2.text_is ∙ was.2.text_is) (wrong_halts h text f is.0 is.1 is.2) (wrong_halts h text g was.0 was.1 was.2) in
    let moved = subst (λ (ls : List ChainLine). LineFault h (after start ls) is.1 f) run.0 is.2.fault_is in
    one_end h (after start was.0) was.1 f g (subst (λ (bs : List ℕ). LineFault h (after start was.0) bs f) run.1 moved) was.2.fault_is

-- a chain doesn't go wrong
not_wrong : (c : ChainParts) (h : ChainHead) (text rest : List ℕ) (f : ChainFault) → IsChain c → head_of c ≡ h → text ≡ lines_text (segments_lines 1 c.segments) ++ rest → GoesWrong h start text f → ⊥
not_wrong c h text rest f is head spelt wrong =
    let here = leads c is in
    let same_count = ap (λ (k : ChainHead). k.count) head in
    let end = over h (after start (segments_lines 1 c.segments)) (length c.segments) (last_stamp 0 (entries_of c.segments)) rest here.1 (omega (arith, same_count)) in
    let run = one_run h (segments_lines 1 c.segments) wrong.0 start rest wrong.1 (subst (λ (k : ChainHead). Go k start (segments_lines 1 c.segments)) head here.0) wrong.2.go (sym spelt ∙ wrong.2.text_is) end (wrong_halts h text f wrong.0 wrong.1 wrong.2) in
    let waits = subst (λ (ls : List ChainLine). Waits h (after start ls)) (sym run.0) wrong.2.waits in
    let less = subst (λ (x : Stage). Waits h x) here.1 waits in
    omega (arith, less, same_count)

first_line : (h : ChainHead) (text line rest more : List ℕ) → IsHead h → BeginsWithLine text line rest → text ≡ head_text h ++ 10 ∷ more → line ≡ head_text h
first_line h text line rest more is starts spelt = (one_parting 10 line (head_text h) rest more starts.0 (signs.head h is) (sym starts.1 ∙ spelt)).0

one_front_fault : (text : List ℕ) (f g : ChainFault) → FrontFault text f → FrontFault text g → f ≡ g
one_front_fault text f g (FrontFault.cut lacks is) (FrontFault.cut wants was) = is ∙ sym was
one_front_fault text f g (FrontFault.cut lacks is) (FrontFault.bad line rest starts none was) = absurd (has_one 10 text line rest lacks starts.1)
one_front_fault text f g (FrontFault.cut lacks is) (FrontFault.inside h rest was spelt wrong) = absurd (has_one 10 text (head_text h) rest lacks spelt)
one_front_fault text f g (FrontFault.bad line rest starts none is) (FrontFault.cut wants was) = absurd (has_one 10 text line rest wants starts.1)
one_front_fault text f g (FrontFault.bad line rest starts none is) (FrontFault.bad other more opens without was) = is ∙ sym was
one_front_fault text f g (FrontFault.bad line rest starts none is) (FrontFault.inside h more was spelt wrong) = absurd (none h was (first_line h text line rest more was starts spelt))
one_front_fault text f g (FrontFault.inside h rest is spelt wrong) (FrontFault.cut wants was) = absurd (has_one 10 text (head_text h) rest wants spelt)
one_front_fault text f g (FrontFault.inside h rest is spelt wrong) (FrontFault.bad line more starts none was) = absurd (none h is (first_line h text line more rest is starts spelt))
one_front_fault text f g (FrontFault.inside h rest is spelt wrong) (FrontFault.inside k more was again bad) =
    let parts = same_heads h k rest more is was (sym spelt ∙ again) in
    let moved = subst (λ (x : ChainHead). GoesWrong x start rest f) parts.0 wrong in
    one_wrong k more f g (subst (λ (bs : List ℕ). GoesWrong k start bs f) parts.1 moved) bad

-- the text of a chain, parted behind its first line
begins_so : (text rest : List ℕ) (c : ChainParts) → text ≡ chain_text c ++ rest → text ≡ head_text (head_of c) ++ 10 ∷ (lines_text (segments_lines 1 c.segments) ++ rest)
begins_so text rest c spelt = spelt ∙ split c rest

pub no_front_fault : (text rest : List ℕ) (c : ChainParts) (f : ChainFault) → IsChain c → text ≡ chain_text c ++ rest → FrontFault text f → ⊥
no_front_fault text rest c f is spelt (FrontFault.cut lacks how) = has_one 10 text (head_text (head_of c)) _ lacks (begins_so text rest c spelt)
no_front_fault text rest c f is spelt (FrontFault.bad line more starts none how) = none (head_of c) is.head (first_line (head_of c) text line more (lines_text (segments_lines 1 c.segments) ++ rest) is.head starts (begins_so text rest c spelt))
no_front_fault text rest c f is spelt (FrontFault.inside h more was again wrong) =
    let parts = same_heads (head_of c) h (lines_text (segments_lines 1 c.segments) ++ rest) more is.head was (sym (begins_so text rest c spelt) ∙ again) in
    not_wrong c h more rest f is parts.0 (sym parts.1) wrong

pub one_fault : OneFault
one_fault = (one_front_fault, no_front_fault)

one_problem_of : (text : List ℕ) (f g : ChainFault) → ChainProblem text f → ChainProblem text g → f ≡ g
one_problem_of text f g (ChainProblem.front is) (ChainProblem.front was) = one_front_fault text f g is was
one_problem_of text f g (ChainProblem.front is) (ChainProblem.behind c rest chain spelt some how) = absurd (no_front_fault text rest c f chain spelt is)
one_problem_of text f g (ChainProblem.behind c rest chain spelt some how) (ChainProblem.front was) = absurd (no_front_fault text rest c g chain spelt was)
one_problem_of text f g (ChainProblem.behind c rest chain spelt some how) (ChainProblem.behind d left other again more was) = how ∙ sym was

pub no_problem : (text : List ℕ) (c : ChainParts) (f : ChainFault) → IsChain c → text ≡ chain_text c → ChainProblem text f → ⊥
no_problem text c f is spelt (ChainProblem.front wrong) = no_front_fault text [] c f is (spelt ∙ sym (append-nil (chain_text c))) wrong
no_problem text c f is spelt (ChainProblem.behind d rest other again some how) = some (one_front d c rest [] other is (sym again ∙ spelt ∙ sym (append-nil (chain_text c)))).1

pub one_problem : OneProblem
one_problem = (one_problem_of, no_problem)

-- ---- writing

has_seal : (own n : ℕ) (s : Option Seal) → IsSealed own n s → HasSeal s
has_seal own n None is = is
has_seal own n (Some s) is = tt

all_speakable : (own n : ℕ) (ss : List Segment) → AllByRecursion (IsSegment own n) ss → AllByRecursion IsSpeakable ss
all_speakable own n [] are = tt
all_speakable own n (s ∷ ss) are = ((writable.entries Two s.entries are.0.entries, has_seal own n s.seal are.0.seal), all_speakable own n ss are.1)

pub are_writable : AreWritable
are_writable c is = all_speakable c.space c.n c.segments is.segments
