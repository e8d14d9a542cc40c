-- A text spells one trace.
use Rattle.std.proofs.Common.{◌≡◌, ℕ, ◌≤◌, subst, List, [], ◌∷◌, ◌++◌, length, codes, refl, sym, ap, ◌∙◌, append_assoc, length-append, arith, Result}
use Rattle.std.proofs.Math.Bridge.{le_prop}
use Rattle.std.specs.List.{AllByRecursion, flat_map}
use Rattle.nob_ids.specs.declared.limits.Limits.{Limits}
use Rattle.nob_frame.specs.declared.version.Version.{Version}
use Rattle.nob_frame.specs.declared.version.Version.TheVariants.{One, Two}
use Rattle.nob_model_types.specs.declared.event.Event.{Event}
use Rattle.nob_model_types.specs.declared.answer.Answer.{Answer}
use Rattle.nob_model_types.specs.declared.refusal.Refusal.{Refusal}
use Rattle.nob_model_text.specs.Events.{event_text}
use Rattle.nob_trace.specs.declared.stamped.Stamped.{Stamped}
use Rattle.nob_trace.specs.declared.head.Head.{Head}
use Rattle.nob_trace.specs.declared.trace.Trace.{Trace}
use Rattle.nob_trace.specs.Entries.{arrival_text, entry_text, result_text, IsTraced}
use Rattle.nob_trace.specs.Traces.{head_of, head_word, head_text, entries_text, trace_text, IsHead, IsTrace}
use Rattle.nob_trace.specs.Laws.{OneEntry, OneFront, OneTrace, OneList}
use Rattle.nob_trace.proofs.Parting.{one_parting}
use Rattle.nob_trace.proofs.Sides.{at_sign, left_lacks, last_same}
use Rattle.nob_trace.proofs.Signs as signs
use Rattle.nob_trace.proofs.ReadTraces.{head_lacks}
use Rattle.nob_trace.proofs.OneValue.{one_number, one_space, number_is}
use Rattle.nob_trace.proofs.OneEvent.{behind, event_is, tail_is}
use Rattle.nob_trace.proofs.OneResult.{result_is}

-- ---- entries

same_entry : (e f : Stamped) → e.stamp ≡ f.stamp → e.event ≡ f.event → e.result ≡ f.result → e ≡ f
same_entry e f stamp event result =
    let made : ℕ → Event → Result Answer Refusal → Stamped = λ s v r. record { stamp = s; event = v; result = r } in
    ap (λ (x : ℕ). made x e.event e.result) stamp ∙ ap (λ (x : Event). made f.stamp x e.result) event ∙ ap (λ (x : Result Answer Refusal). made f.stamp f.event x) result

-- the two sides of an entry
abbrev left_of : Version → Stamped → List ℕ
left_of v e = event_text (arrival_text v e.event) e.event

abbrev right_of : Version → Stamped → List ℕ
right_of v e = result_text v e.result

pub entry_is : (v w : Version) (e f : Stamped) → IsTraced v e → IsTraced w f → entry_text v e ≡ entry_text w f → e ≡ f
entry_is v w e f is was same =
    let stamp = one_number e.stamp f.stamp (32 ∷ (left_of v e ++ (codes " = " ++ right_of v e))) (32 ∷ (left_of w f ++ (codes " = " ++ right_of w f))) is.0 was.0 refl refl same in
    let sides = sym (at_sign (left_of v e) (right_of v e)) ∙ tail_is _ _ _ _ stamp.1 ∙ at_sign (left_of w f) (right_of w f) in
    let parts = one_parting 61 (left_of v e ++ 32 ∷ []) (left_of w f ++ 32 ∷ []) (32 ∷ right_of v e) (32 ∷ right_of w f)
    (left_lacks (left_of v e) (signs.lacks_equals (left_of v e) (signs.event v e.event is.1))) (left_lacks (left_of w f) (signs.lacks_equals (left_of w f) (signs.event w f.event was.1))) sides in
    let event = event_is v w e.event f.event is.1 was.1 (last_same (left_of v e) (left_of w f) 32 32 parts.0).0 in
    let result = result_is v w e.result f.result is.2 was.2 (tail_is _ _ _ _ parts.1) in
    same_entry e f stamp.0 event result

-- as many entries at the front of lines are the same
entries_are : (v w : Version) (es fs : List Stamped) (rest left : List ℕ) → length es ≡ length fs → AllByRecursion (IsTraced v) es → AllByRecursion (IsTraced w) fs → entries_text v es ++ rest ≡ entries_text w fs ++ left → (es ≡ fs) × (rest ≡ left)
entries_are v w [] [] rest left long are were same = (refl, same)
entries_are v w [] (f ∷ fs) rest left long are were same = absurd (omega (arith, long))
entries_are v w (e ∷ es) [] rest left long are were same = absurd (omega (arith, long))
entries_are v w (e ∷ es) (f ∷ fs) rest left long are were same =
    let parts = one_parting 10 (entry_text v e) (entry_text w f) (entries_text v es ++ rest) (entries_text w fs ++ left) (signs.entry v e are.0) (signs.entry w f were.0)
    (sym (append_assoc (entry_text v e) (10 ∷ entries_text v es) rest) ∙ same ∙ append_assoc (entry_text w f) (10 ∷ entries_text w fs) left) in
    let first = entry_is v w e f are.0 were.0 parts.0 in
    let others = entries_are v w es fs rest left (omega (arith, long)) are.1 were.1 parts.1 in
    (ap (λ (x : Stamped). x ∷ es) first ∙ ap (λ (xs : List Stamped). f ∷ xs) others.0, others.1)

-- ---- first lines

abbrev IsWindow : ℕ → Type 0
IsWindow n = (1 ≤ n) × (n ≤ 64)

abbrev IsRetry : ℕ → Type 0
IsRetry n = (1 ≤ n) × (n ≤ 255)

limits_of : (w r : ℕ) → IsWindow w → IsRetry r → Limits
limits_of w r p q = record { window = w; retry = r; window_in_range = p; retry_in_range = q }

any_window : (n : ℕ) (p q : IsWindow n) → p ≡ q
any_window n = hlevel le_prop

any_retry : (n : ℕ) (p q : IsRetry n) → p ≡ q
any_retry n = hlevel le_prop

same_window : (w v r : ℕ) (p : IsWindow w) (o : IsWindow v) (q : IsRetry r) → w ≡ v → limits_of w r p q ≡ limits_of v r o q
same_window w v r p o q same = subst (λ (x : ℕ). (o : IsWindow x) → limits_of w r p q ≡ limits_of x r o q) same (λ (o : IsWindow w). ap (λ (y : IsWindow w). limits_of w r y q) (any_window w p o)) o

same_retry : (w r s : ℕ) (p : IsWindow w) (q : IsRetry r) (o : IsRetry s) → r ≡ s → limits_of w r p q ≡ limits_of w s p o
same_retry w r s p q o same = subst (λ (x : ℕ). (o : IsRetry x) → limits_of w r p q ≡ limits_of w x p o) same (λ (o : IsRetry r). ap (λ (y : IsRetry r). limits_of w r p y) (any_retry r q o)) o

pub same_limits : (l m : Limits) → l.window ≡ m.window → l.retry ≡ m.retry → l ≡ m
unfolding limits_of
same_limits l m window retry =
    same_window l.window m.window l.retry l.window_in_range m.window_in_range l.retry_in_range window ∙ same_retry m.window l.retry m.retry m.window_in_range l.retry_in_range m.retry_in_range retry

pub same_head : (h k : Head) → h.version ≡ k.version → h.space ≡ k.space → h.n ≡ k.n → h.limits ≡ k.limits → h.count ≡ k.count → h ≡ k
same_head h k version space n limits count =
    let made : Version → ℕ → ℕ → Limits → ℕ → Head = λ v s m l c. record { version = v; space = s; n = m; limits = l; count = c } in
    ap (λ (x : Version). made x h.space h.n h.limits h.count) version
    ∙ ap (λ (x : ℕ). made k.version x h.n h.limits h.count) space
    ∙ ap (λ (x : ℕ). made k.version k.space x h.limits h.count) n
    ∙ ap (λ (x : Limits). made k.version k.space k.n x h.count) limits
    ∙ ap (λ (x : ℕ). made k.version k.space k.n k.limits x) count

-- the sixth byte, a space behind the word of version 1 and a digit in that of version 2
sixth : List ℕ → ℕ
sixth (a ∷ b ∷ c ∷ d ∷ e ∷ f ∷ rest) = f
sixth other = 0

-- first lines of one text are of one version
one_word : (v w : Version) (rest left : List ℕ) → head_word v ++ rest ≡ head_word w ++ left → (v ≡ w) × (rest ≡ left)
unfolding sixth
one_word One One rest left same = (refl, behind (codes "trace ") rest left same)
one_word Two Two rest left same = (refl, behind (codes "trace2 ") rest left same)
one_word One Two rest left same = absurd (let k = ap sixth same in omega (arith, k))
one_word Two One rest left same = absurd (let k = ap sixth same in omega (arith, k))

pub head_is : (h k : Head) → IsHead h → IsHead k → head_text h ≡ head_text k → h ≡ k
head_is h k is was same =
    let small = is.limits in
    let little = was.limits in
    let word = one_word h.version k.version _ _ same in
    let space = one_space h.space k.space _ _ is.space was.space refl refl word.1 in
    let n = one_space h.n k.n _ _ is.n was.n refl refl (behind (codes " of ") _ _ space.1) in
    let window = one_number h.limits.window k.limits.window _ _ (omega (arith, small.1)) (omega (arith, little.1)) refl refl (behind (codes " window ") _ _ n.1) in
    let retry = one_number h.limits.retry k.limits.retry _ _ (omega (arith, small.3)) (omega (arith, little.3)) refl refl (behind (codes " retry ") _ _ window.1) in
    let count = number_is h.count k.count is.count was.count (behind (codes " entries ") _ _ retry.1) in
    same_head h k word.0 space.0 n.0 (same_limits h.limits k.limits window.0 retry.0) count

-- ---- traces

same_trace : (t u : Trace) → head_of t ≡ head_of u → t.entries ≡ u.entries → t ≡ u
same_trace t u head entries =
    let made : Head → List Stamped → Trace = λ h es. record { version = h.version; space = h.space; n = h.n; limits = h.limits; entries = es } in
    ap (λ (h : Head). made h t.entries) head ∙ ap (λ (es : List Stamped). made (head_of u) es) entries

pub one_front : OneFront
one_front t u rest left is was same =
    let parts = one_parting 10 (head_text (head_of t)) (head_text (head_of u)) (entries_text t.version t.entries ++ rest) (entries_text u.version u.entries ++ left) (head_lacks (head_of t) is.head) (head_lacks (head_of u) was.head)
    (sym (append_assoc (head_text (head_of t)) (10 ∷ entries_text t.version t.entries) rest) ∙ same ∙ append_assoc (head_text (head_of u)) (10 ∷ entries_text u.version u.entries) left) in
    let head = head_is (head_of t) (head_of u) is.head was.head parts.0 in
    let entries = entries_are t.version u.version t.entries u.entries rest left (ap (λ (h : Head). h.count) head) is.entries was.entries parts.1 in
    (same_trace t u head entries.0, entries.1)

pub one_trace : OneTrace
one_trace text t u is was spelt again = (one_front t u [] [] is was (ap (λ (bs : List ℕ). bs ++ []) (sym spelt ∙ again))).0

pub some_text : (t : Trace) (rest : List ℕ) → [] ≡ trace_text t ++ rest → ⊥
some_text t rest is =
    let l : 0 ≡ length (trace_text t ++ rest) = ap length is in
    omega (arith, l, length-append (trace_text t) rest, length-append (head_text (head_of t)) (10 ∷ entries_text t.version t.entries))

lists_are : (ts us : List Trace) → AllByRecursion IsTrace ts → AllByRecursion IsTrace us → flat_map trace_text ts ≡ flat_map trace_text us → ts ≡ us
lists_are [] [] are were same = refl
lists_are [] (u ∷ us) are were same = absurd (some_text u _ same)
lists_are (t ∷ ts) [] are were same = absurd (some_text t _ (sym same))
lists_are (t ∷ ts) (u ∷ us) are were same =
    let first = one_front t u (flat_map trace_text ts) (flat_map trace_text us) are.0 were.0 same in
    let others = lists_are ts us are.1 were.1 first.1 in
    ap (λ (x : Trace). x ∷ ts) first.0 ∙ ap (λ (xs : List Trace). u ∷ xs) others

pub one_list : OneList
one_list text ts us are were spelt again = lists_are ts us are were (sym spelt ∙ again)

pub one_entry : OneEntry
one_entry line v w e f is was spelt again = entry_is v w e f is was (sym spelt ∙ again)
