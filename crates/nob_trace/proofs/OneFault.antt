-- A text has one fault at most, and none where it is a trace.
use Rattle.std.proofs.Common.{◌≡◌, ℕ, ◌<◌, ◌≤◌, List, [], ◌∷◌, ◌++◌, length, refl, sym, ap, subst, ◌∙◌, append_assoc, arith}
use Rattle.std.specs.List.{AllByRecursion, flat_map}
use Rattle.std.proofs.lemmas.List.{append-nil}
use Rattle.nob_frame.specs.declared.version.Version.{Version}
use Rattle.nob_trace.specs.declared.stamped.Stamped.{Stamped}
use Rattle.nob_trace.specs.declared.head.Head.{Head}
use Rattle.nob_trace.specs.declared.trace.Trace.{Trace}
use Rattle.nob_trace.specs.declared.fault.TraceFault.{TraceFault}
use Rattle.nob_trace.specs.declared.fault.TraceFault.TheVariants as faults
use Rattle.nob_trace.specs.Stamps.{Rise, last_stamp}
use Rattle.nob_trace.specs.Entries.{entry_text, IsTraced}
use Rattle.nob_trace.specs.Traces.{head_of, head_text, entries_text, trace_text, IsTrace}
use Rattle.nob_trace.specs.Reading.{BeginsWithLine, Breaks, EntriesFault, IsNoEntry, Lacks, TextFault, TraceProblem}
use Rattle.nob_trace.specs.Laws.{OneFault, OneFaultOfAll}
use Rattle.nob_trace.proofs.Parting.{has_one, one_parting}
use Rattle.nob_trace.proofs.Signs as signs
use Rattle.nob_trace.proofs.ReadTraces.{head_lacks, lines_of, no_line}
use Rattle.nob_trace.proofs.OneTrace.{entry_is, head_is, one_front, some_text}

-- ---- entries

-- the fault of what stands behind entries with this last stamp
abbrev Ends : Version → ℕ → List ℕ → TraceFault → Type 0
Ends version last left faults.Short = Lacks 10 left
Ends version last left faults.Entry = (line rest : List ℕ) × BeginsWithLine left line rest × IsNoEntry version line
Ends version last left faults.Stamp = (entry : Stamped) × (rest : List ℕ) × IsTraced version entry × (left ≡ entry_text version entry ++ 10 ∷ rest) × (entry.stamp ≤ last)
Ends version last left faults.Trailing = ⊥
Ends version last left faults.Version = ⊥

-- the entries in front of a fault, and the fault
ends : (version : Version) (lines : List ℕ) (count : ℕ) (fault : TraceFault) → EntriesFault version lines count fault → (entries : List Stamped) × (left : List ℕ) × Breaks version lines count entries left × Ends version (last_stamp 0 entries) left fault
ends version lines count faults.Short found = (found.0, found.1, found.2, found.3)
ends version lines count faults.Entry found = (found.0, found.1, found.4, (found.2, found.3, found.5, found.6))
ends version lines count faults.Stamp found = (found.0, found.1, found.4, (found.3, found.2, found.5, found.6, found.7))
ends version lines count faults.Trailing found = absurd found
ends version lines count faults.Version found = absurd found

-- the first lines of one text
lines_are : (version : Version) (e : Stamped) (line rest more : List ℕ) → IsTraced version e → BeginsWithLine (entry_text version e ++ 10 ∷ more) line rest → line ≡ entry_text version e
lines_are version e line rest more is begins = (one_parting 10 line (entry_text version e) rest more begins.0 (signs.entry version e is) (sym begins.1)).0

one_line : (version : Version) (e u : Stamped) (more rest : List ℕ) → IsTraced version e → IsTraced version u → entry_text version e ++ 10 ∷ more ≡ entry_text version u ++ 10 ∷ rest → (e ≡ u) × (more ≡ rest)
one_line version e u more rest is was same =
    let parts = one_parting 10 (entry_text version e) (entry_text version u) more rest (signs.entry version e is) (signs.entry version u was) same in
    (entry_is version version e u is was parts.0, parts.1)

-- a fault doesn't stand where an entry stands
goes_on : (version : Version) (last : ℕ) (left : List ℕ) (f : TraceFault) (e : Stamped) (more : List ℕ) → Ends version last left f → IsTraced version e → left ≡ entry_text version e ++ 10 ∷ more → last < e.stamp → ⊥
goes_on version last left faults.Short e more end is spelt above = has_one 10 left (entry_text version e) more end spelt
goes_on version last left faults.Entry e more end is spelt above = end.3 e is (lines_are version e end.0 end.1 more is (subst (λ (bs : List ℕ). BeginsWithLine bs end.0 end.1) spelt end.2))
goes_on version last left faults.Stamp e more end is spelt above =
    let same = ap (λ (x : Stamped). x.stamp) (one_line version end.0 e end.1 more end.2 is (sym end.3 ∙ spelt)).0 in
    let low = end.4 in
    omega (arith, same, low, above)
goes_on version last left faults.Trailing e more end is spelt above = end
goes_on version last left faults.Version e more end is spelt above = end

-- what stands there has one fault
one_end : (version : Version) (last : ℕ) (left : List ℕ) (f g : TraceFault) → Ends version last left f → Ends version last left g → f ≡ g
one_end version last left faults.Short faults.Short a b = refl
one_end version last left faults.Short faults.Entry a b = absurd (has_one 10 left b.0 b.1 a b.2.1)
one_end version last left faults.Short faults.Stamp a b = absurd (has_one 10 left (entry_text version b.0) b.1 a b.3)
one_end version last left faults.Entry faults.Short a b = absurd (has_one 10 left a.0 a.1 b a.2.1)
one_end version last left faults.Entry faults.Entry a b = refl
one_end version last left faults.Entry faults.Stamp a b = absurd (a.3 b.0 b.2 (lines_are version b.0 a.0 a.1 b.1 b.2 (subst (λ (bs : List ℕ). BeginsWithLine bs a.0 a.1) b.3 a.2)))
one_end version last left faults.Stamp faults.Short a b = absurd (has_one 10 left (entry_text version a.0) a.1 b a.3)
one_end version last left faults.Stamp faults.Entry a b = absurd (b.3 a.0 a.2 (lines_are version a.0 b.0 b.1 a.1 a.2 (subst (λ (bs : List ℕ). BeginsWithLine bs b.0 b.1) a.3 b.2)))
one_end version last left faults.Stamp faults.Stamp a b = refl
one_end version last left faults.Trailing g a b = absurd a
one_end version last left faults.Version g a b = absurd a
one_end version last left f faults.Trailing a b = absurd b
one_end version last left f faults.Version a b = absurd b

-- the text of a first entry and what follows
first_of : (version : Version) (e : Stamped) (es : List Stamped) (left : List ℕ) → entries_text version (e ∷ es) ++ left ≡ entry_text version e ++ 10 ∷ (entries_text version es ++ left)
first_of version e es left = append_assoc (entry_text version e) (10 ∷ entries_text version es) left

-- lines break off in one way
one_break : (version : Version) (es us : List Stamped) (last : ℕ) (left right : List ℕ) (f g : TraceFault) → Rise last es → AllByRecursion (IsTraced version) es → Rise last us → AllByRecursion (IsTraced version) us → entries_text version es ++ left ≡ entries_text version us ++ right
    → Ends version (last_stamp last es) left f → Ends version (last_stamp last us) right g → f ≡ g
one_break version [] [] last left right f g rise are climb were same a b = one_end version last left f g a (subst (λ (bs : List ℕ). Ends version last bs g) (sym same) b)
one_break version [] (u ∷ us) last left right f g rise are climb were same a b = absurd (goes_on version last left f u (entries_text version us ++ right) a were.0 (same ∙ first_of version u us right) climb.0)
one_break version (e ∷ es) [] last left right f g rise are climb were same a b = absurd (goes_on version last right g e (entries_text version es ++ left) b are.0 (sym same ∙ first_of version e es left) rise.0)
one_break version (e ∷ es) (u ∷ us) last left right f g rise are climb were same a b =
    let first = one_line version e u (entries_text version es ++ left) (entries_text version us ++ right) are.0 were.0 (sym (first_of version e es left) ∙ same ∙ first_of version u us right) in
    let stamp = sym (ap (λ (x : Stamped). x.stamp) first.0) in
    one_break version es us e.stamp left right f g rise.1 are.1 (subst (λ (k : ℕ). Rise k us) stamp climb.1) were.1 first.1 a (subst (λ (k : ℕ). Ends version (last_stamp k us) right g) stamp b)

-- lines don't break off where enough entries stand
no_break : (version : Version) (all es : List Stamped) (last : ℕ) (rest left : List ℕ) (f : TraceFault) → Rise last all → AllByRecursion (IsTraced version) all → AllByRecursion (IsTraced version) es → length es < length all → entries_text version all ++ rest ≡ entries_text version es ++ left
    → Ends version (last_stamp last es) left f → ⊥
no_break version [] es last rest left f rise are were less same end = omega (arith, less)
no_break version (u ∷ us) [] last rest left f rise are were less same end = goes_on version last left f u (entries_text version us ++ rest) end are.0 (sym same ∙ first_of version u us rest) rise.0
no_break version (u ∷ us) (e ∷ es) last rest left f rise are were less same end =
    let first = one_line version u e (entries_text version us ++ rest) (entries_text version es ++ left) are.0 were.0 (sym (first_of version u us rest) ∙ same ∙ first_of version e es left) in
    let stamp = ap (λ (x : Stamped). x.stamp) first.0 in
    no_break version us es e.stamp rest left f (subst (λ (k : ℕ). Rise k us) stamp rise.1) are.1 were.1 (omega (arith, less)) first.1 end

one_of_entries : (version : Version) (lines : List ℕ) (count : ℕ) (f g : TraceFault) → EntriesFault version lines count f → EntriesFault version lines count g → f ≡ g
one_of_entries version lines count f g found other =
    let a = ends version lines count f found in
    let b = ends version lines count g other in
    one_break version a.0 b.0 0 a.1 b.1 f g a.2.rise a.2.traced b.2.rise b.2.traced (sym a.2.lines_are ∙ b.2.lines_are) a.3 b.3

-- ---- what a text begins with

one_of_text : (text : List ℕ) (f g : TraceFault) → TextFault text f → TextFault text g → f ≡ g
one_of_text text f g (TextFault.cut a e) (TextFault.cut b d) = e ∙ sym d
one_of_text text f g (TextFault.cut a e) (TextFault.bad line rest begins wrong d) = absurd (has_one 10 text line rest a begins.1)
one_of_text text f g (TextFault.cut a e) (TextFault.lines head rest is spelt other) = absurd (has_one 10 text (head_text head) rest a spelt)
one_of_text text f g (TextFault.bad line rest begins wrong e) (TextFault.cut b d) = absurd (has_one 10 text line rest b begins.1)
one_of_text text f g (TextFault.bad line rest begins wrong e) (TextFault.bad other left starts amiss d) = e ∙ sym d
one_of_text text f g (TextFault.bad line rest begins wrong e) (TextFault.lines head left is spelt other) =
    absurd (wrong head is (one_parting 10 line (head_text head) rest left begins.0 (head_lacks head is) (sym begins.1 ∙ spelt)).0)
one_of_text text f g (TextFault.lines head rest is spelt found) (TextFault.cut b d) = absurd (has_one 10 text (head_text head) rest b spelt)
one_of_text text f g (TextFault.lines head rest is spelt found) (TextFault.bad line left begins wrong d) =
    absurd (wrong head is (one_parting 10 line (head_text head) left rest begins.0 (head_lacks head is) (sym begins.1 ∙ spelt)).0)
one_of_text text f g (TextFault.lines h rest is spelt found) (TextFault.lines k left was again other) =
    let parts = one_parting 10 (head_text h) (head_text k) rest left (head_lacks h is) (head_lacks k was) (sym spelt ∙ again) in
    let there = subst (λ (x : Head). EntriesFault x.version left x.count g) (sym (head_is h k is was parts.0)) other in
    one_of_entries h.version rest h.count f g found (subst (λ (bs : List ℕ). EntriesFault h.version bs h.count g) (sym parts.1) there)

none_of_text : (text : List ℕ) (t : Trace) (rest : List ℕ) (f : TraceFault) → IsTrace t → text ≡ trace_text t ++ rest → TextFault text f → ⊥
none_of_text text t rest f is spelt (TextFault.cut a e) = no_line text t rest a spelt
none_of_text text t rest f is spelt (TextFault.bad line left begins wrong e) = wrong (head_of t) is.head (lines_of text line left t rest begins is spelt).0
none_of_text text t rest f is spelt (TextFault.lines head left was again found) =
    let parts = lines_of text (head_text head) left t rest (head_lacks head was, again) is spelt in
    let there = subst (λ (x : Head). EntriesFault x.version left x.count f) (head_is head (head_of t) was is.head parts.0) found in
    let a = ends t.version left (length t.entries) f there in
    no_break t.version t.entries a.0 0 rest a.1 f is.rise is.entries a.2.traced a.2.few (sym parts.1 ∙ a.2.lines_are) a.3

-- ---- one trace

one_problem : (text : List ℕ) (f g : TraceFault) → TraceProblem text f → TraceProblem text g → f ≡ g
one_problem text f g (TraceProblem.front a) (TraceProblem.front b) = one_of_text text f g a b
one_problem text f g (TraceProblem.front a) (TraceProblem.behind t rest is spelt some d) = absurd (none_of_text text t rest f is spelt a)
one_problem text f g (TraceProblem.behind t rest is spelt some e) (TraceProblem.front b) = absurd (none_of_text text t rest g is spelt b)
one_problem text f g (TraceProblem.behind t rest is spelt some e) (TraceProblem.behind u left was again more d) = e ∙ sym d

no_problem : (text : List ℕ) (t : Trace) (f : TraceFault) → IsTrace t → text ≡ trace_text t → TraceProblem text f → ⊥
no_problem text t f is spelt (TraceProblem.front a) = none_of_text text t [] f is (spelt ∙ sym (append-nil (trace_text t))) a
no_problem text t f is spelt (TraceProblem.behind u rest was again some e) = some (one_front u t rest [] was is (sym again ∙ spelt ∙ sym (append-nil (trace_text t)))).1

pub one_fault : OneFault
one_fault = (one_problem, no_problem)

-- ---- traces one after the other

-- the text of a first trace and what follows
front_of : (t : Trace) (ts : List Trace) (left : List ℕ) → flat_map trace_text (t ∷ ts) ++ left ≡ trace_text t ++ (flat_map trace_text ts ++ left)
front_of t ts left = append_assoc (trace_text t) (flat_map trace_text ts) left

one_of_all : (ts us : List Trace) (left right : List ℕ) (f g : TraceFault) → AllByRecursion IsTrace ts → AllByRecursion IsTrace us → flat_map trace_text ts ++ left ≡ flat_map trace_text us ++ right → TextFault left f → TextFault right g → f ≡ g
one_of_all [] [] left right f g are were same a b = one_of_text left f g a (subst (λ (bs : List ℕ). TextFault bs g) (sym same) b)
one_of_all [] (u ∷ us) left right f g are were same a b = absurd (none_of_text left u (flat_map trace_text us ++ right) f were.0 (same ∙ front_of u us right) a)
one_of_all (t ∷ ts) [] left right f g are were same a b = absurd (none_of_text right t (flat_map trace_text ts ++ left) g are.0 (sym same ∙ front_of t ts left) b)
one_of_all (t ∷ ts) (u ∷ us) left right f g are were same a b =
    one_of_all ts us left right f g are.1 were.1 (one_front t u (flat_map trace_text ts ++ left) (flat_map trace_text us ++ right) are.0 were.0 (sym (front_of t ts left) ∙ same ∙ front_of u us right)).1 a b

none_of_all : (all ts : List Trace) (left : List ℕ) (f : TraceFault) → AllByRecursion IsTrace all → AllByRecursion IsTrace ts → flat_map trace_text all ≡ flat_map trace_text ts ++ left → (left ≡ [] → ⊥) → TextFault left f → ⊥
none_of_all [] [] left f are were same some a = some (sym same)
none_of_all [] (t ∷ ts) left f are were same some a = some_text t (flat_map trace_text ts ++ left) (same ∙ front_of t ts left)
none_of_all (u ∷ us) [] left f are were same some a = none_of_text left u (flat_map trace_text us) f are.0 (sym same) a
none_of_all (u ∷ us) (t ∷ ts) left f are were same some a =
    none_of_all us ts left f are.1 were.1 (one_front u t (flat_map trace_text us) (flat_map trace_text ts ++ left) are.0 were.0 (same ∙ front_of t ts left)).1 some a

pub one_fault_of_all : OneFaultOfAll
one_fault_of_all = (
  λ text f g ts us left right a b. one_of_all ts us left right f g a.are b.are (sym a.text_is ∙ b.text_is) a.fault_is b.fault_is,
  λ text all f ts left are spelt a. none_of_all all ts left f are a.are (sym spelt ∙ a.text_is) a.some a.fault_is,
)
