-- Entries of a trace of which those before are right.
use Rattle.std.proofs.Common.{◌≡◌, ℕ, ◌+◌, ◌<◌, Result, Ok, Err, IfOk, List, [], ◌∷◌, ◌++◌, length, take, drop, get_or, map, reverse, sym, ap, subst, arith, ◌∙◌}
use Rattle.std.proofs.lemmas.List.{length-take-le, reverse-append, take-append-drop, take_all, take_more}
use Rattle.nob_model_types.specs.declared.entry.Entry.{Entry}
use Rattle.nob_model.specs.Right.{right}
use Rattle.nob_trace.specs.declared.stamped.Stamped.{Stamped}
use Rattle.nob_trace.specs.declared.trace.Trace.{Trace}
use Rattle.nob_model_text.proofs.Ahead.{first_ahead}
use Rattle.test_definitions.specs.Verdicts.{AreRight, IsVerdict, entry_at}
use Rattle.nob_trace.specs.Texts.{HaveOneText, right_line, wrong_line}

-- the entries before a place, the newest of which stands first
abbrev pub before_place : List Stamped → ℕ → List Stamped
before_place all place = reverse (take place all)

pub one_before : (all : List Stamped) (place : ℕ) (e : Stamped) → place < length all → e ≡ get_or all place e → before_place all (place + 1) ≡ e ∷ before_place all place
one_before all place e less same =
    ap reverse (take_more all place e less ∙ ap (λ (x : Stamped). take place all ++ x ∷ []) (sym same)) ∙ reverse-append (take place all) (e ∷ [])

-- what the loop keeps: these are the entries before the place, and they are right
abbrev pub AreBefore : Trace → ℕ → List Entry → Type 0
AreBefore trace place entries = (entries ≡ map (entry_at trace.space) (before_place trace.entries place)) × AreRight trace (before_place trace.entries place)

-- an entry's result is the right one after the entries of the space
abbrev pub IsRightAfter : Trace → List Entry → Stamped → Type 0
IsRightAfter trace entries e = HaveOneText trace.version e.result (right trace.space trace.n trace.limits entries e.event)

pub right_next : (trace : Trace) (place : ℕ) (e : Stamped) (entries next : List Entry) → place < length trace.entries → e ≡ get_or trace.entries place e → next ≡ entry_at trace.space e ∷ entries → IsRightAfter trace entries e → AreBefore trace place entries → AreBefore trace (place + 1) next
right_next trace place e entries next less same one right before =
    subst (λ (es : List Stamped). (next ≡ map (entry_at trace.space) es) × AreRight trace es) (sym (one_before trace.entries place e less same))
    (one ∙ ap (λ (es : List Entry). entry_at trace.space e ∷ es) before.0, (subst (λ (es : List Entry). IsRightAfter trace es e) before.0 right, before.1))

pub wrong_here : (trace : Trace) (place : ℕ) (e : Stamped) (entries : List Entry) (text : List ℕ) → place < length trace.entries → e ≡ get_or trace.entries place e → (IsRightAfter trace entries e → ⊥) → AreBefore trace place entries → text ≡ wrong_line place → IsVerdict trace text
wrong_here trace place e entries text less same wrong before is =
    let count : length (take place trace.entries) ≡ place = length-take-le place trace.entries (omega (arith, less)) in
    let parts : trace.entries ≡ take place trace.entries ++ e ∷ drop (place + 1) trace.entries =
    sym (take-append-drop place trace.entries) ∙ ap (λ (es : List Stamped). take place trace.entries ++ es) (first_ahead trace.entries place e less same) in
    IsVerdict.one_wrong (take place trace.entries) e (drop (place + 1) trace.entries) parts before.1 (λ right. wrong (subst (λ (es : List Entry). IsRightAfter trace es e) (sym before.0) right)) (is ∙ ap wrong_line (sym count))

pub all_are : (trace : Trace) (entries : List Entry) (text : List ℕ) (place : ℕ) → place ≡ length trace.entries → AreBefore trace place entries → text ≡ right_line (length trace.entries) → IsVerdict trace text
all_are trace entries text place full before is =
    let all : take place trace.entries ≡ trace.entries = take_all place trace.entries (omega (arith, full)) in
    IsVerdict.all_right (subst (λ (es : List Stamped). AreRight trace (reverse es)) all before.1) is

-- what isn't right is said so
pub said_wrong : {X E : Type 0} (view : X → List ℕ) (r : Result X E) (trace : Trace) (place : ℕ) (e : Stamped) (entries : List Entry) → place < length trace.entries → e ≡ get_or trace.entries place e → (IsRightAfter trace entries e → ⊥) → AreBefore trace place entries → IfOk r (λ text. view text ≡ wrong_line place) → IfOk r (λ text. IsVerdict trace (view text))
said_wrong view (Ok text) trace place e entries less same wrong before is = wrong_here trace place e entries (view text) less same wrong before is
said_wrong view (Err error) trace place e entries less same wrong before is = tt
