-- Lists of which a loop has gone over a front.
use Prim.Native.Nat.{zero}
use Rattle.std.proofs.Common.{◌≡◌, ℕ, suc, ◌+◌, ◌<◌, Bool, true, false, cond, List, [], ◌∷◌, ◌++◌, length, drop, get_or, sym, ap, subst, arith, ◌∙◌, append_assoc}
use Rattle.std.specs.Prelude.{◌==◌}
use Rattle.std.specs.List.{AllByRecursion, flat_map}
use Rattle.nob_model_types.specs.declared.entry.Entry.{Entry}
use Rattle.nob_trace.specs.declared.trace.Trace.{Trace}
use Rattle.nob_trace.specs.Traces.{trace_text}
use Rattle.nob_model_text.proofs.Ahead.{first_ahead}
use Rattle.nob_model_journal.specs.Journals.{at}

-- what holds of all holds of the one at a place
pub one_of : {A : Type 0} (P : A → Type 0) (xs : List A) (i : ℕ) (x d : A) → i < length xs → x ≡ get_or xs i d → AllByRecursion P xs → P x
one_of P [] i x d less same all = absurd (omega (arith, less))
one_of P (y ∷ xs) zero x d less same all = subst P (sym same) all.0
one_of P (y ∷ xs) (suc i) x d less same all = one_of P xs i x d (omega (arith, less)) same all.1

-- an entry of the space is taken, and one of another isn't
pub entry_next : (space : ℕ) (journal : List Entry) (i : ℕ) (e : Entry) (now next all : List Entry) → i < length journal → e ≡ get_or journal i e → (e.space == space) ≡ true → next ≡ now ++ e ∷ [] → now ++ at space (drop i journal) ≡ all → next ++ at space (drop (i + 1) journal) ≡ all
entry_next space journal i e now next all less same own one so_far =
    let left : List Entry = at space (drop (i + 1) journal) in
    let kept : at space (e ∷ drop (i + 1) journal) ≡ e ∷ left = ap (λ (b : Bool). cond b (e ∷ left) left) own in
    ap (λ (es : List Entry). es ++ left) one ∙ append_assoc now (e ∷ []) left ∙ ap (λ (es : List Entry). now ++ es) (sym kept)
    ∙ ap (λ (es : List Entry). now ++ at space es) (sym (first_ahead journal i e less same)) ∙ so_far

pub entry_left_out : (space : ℕ) (journal : List Entry) (i : ℕ) (e : Entry) (now all : List Entry) → i < length journal → e ≡ get_or journal i e → (e.space == space) ≡ false → now ++ at space (drop i journal) ≡ all → now ++ at space (drop (i + 1) journal) ≡ all
entry_left_out space journal i e now all less same other so_far =
    let left : List Entry = at space (drop (i + 1) journal) in
    let kept : at space (e ∷ drop (i + 1) journal) ≡ left = ap (λ (b : Bool). cond b (e ∷ left) left) other in
    ap (λ (es : List Entry). now ++ es) (sym kept) ∙ ap (λ (es : List Entry). now ++ at space es) (sym (first_ahead journal i e less same)) ∙ so_far

-- one more is pushed
pub pushed_next : {A : Type 0} (xs : List A) (i : ℕ) (x : A) (now next all : List A) → i < length xs → x ≡ get_or xs i x → next ≡ now ++ x ∷ [] → now ++ drop i xs ≡ all → next ++ drop (i + 1) xs ≡ all
pushed_next xs i x now next all less same one so_far =
    ap (λ ys. ys ++ drop (i + 1) xs) one ∙ append_assoc now (x ∷ []) (drop (i + 1) xs) ∙ ap (λ ys. now ++ ys) (sym (first_ahead xs i x less same)) ∙ so_far

-- one more trace is written
pub trace_next : (ts : List Trace) (i : ℕ) (t : Trace) (now next all : List ℕ) → i < length ts → t ≡ get_or ts i t → next ≡ now ++ trace_text t → now ++ flat_map trace_text (drop i ts) ≡ all → next ++ flat_map trace_text (drop (i + 1) ts) ≡ all
trace_next ts i t now next all less same one so_far =
    let left : List ℕ = flat_map trace_text (drop (i + 1) ts) in
    ap (λ (bs : List ℕ). bs ++ left) one ∙ append_assoc now (trace_text t) left ∙ ap (λ (us : List Trace). now ++ flat_map trace_text us) (sym (first_ahead ts i t less same)) ∙ so_far
