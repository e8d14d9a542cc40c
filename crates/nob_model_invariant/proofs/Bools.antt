-- Asks and answers, by one more.
use Rattle.std.proofs.Common.{◌≡◌, ℕ, zero, suc, ◌+◌, not, Bool, true, false, cond, List, [], ◌∷◌, ◌++◌, length, filter, take, refl, sym, ap, subst, ◌∙◌, arith, inl, inr}
use Rattle.std.specs.List.{AllByRecursion}
use Rattle.std.proofs.lemmas.List.{length-append, length_push, take_all, take-append-le}
use Rattle.std.proofs.lemmas.List.Elements.{filter-append}
use Rattle.nob_model_types.specs.declared.turns.OwnerAnswer.{OwnerAnswer}
use Rattle.nob_model_types.specs.declared.turns.OwnerAnswer.TheVariants as said
use Rattle.nob_model_types.specs.Turns.{is_yes, is_granted, is_pending, is_standing, with_dirty, with_answer, with_clean}
use Rattle.nob_model_history.proofs.Turning.{HaveShape, not_standing_idle, pending_waits, granted_answered}
use Rattle.nob_model_invariant.specs.Asking.{dirties_in, cleans_in, last_or, word_of, last_word, turns_by, Alternate, AskedInTurn}

-- ---- counts

pub dirties_push : (asks : List Bool) (ask : Bool) → dirties_in (asks ++ ask ∷ []) ≡ dirties_in asks + cond ask 1 0
dirties_push asks ask =
    ap length (filter-append (λ (b : Bool). b) asks (ask ∷ []))
    ∙ length-append (filter (λ (b : Bool). b) asks) (cond ask (ask ∷ []) [])
    ∙ ap (λ (m : ℕ). dirties_in asks + m) (elim ask as (λ (b : Bool). length (cond b (b ∷ []) []) ≡ cond b 1 0) [ true ↦ refl | false ↦ refl ])

cleans_push : (asks : List Bool) (ask : Bool) → cleans_in (asks ++ ask ∷ []) ≡ cleans_in asks + cond ask 0 1
cleans_push asks ask =
    ap length (filter-append not asks (ask ∷ []))
    ∙ length-append (filter not asks) (cond (not ask) (ask ∷ []) [])
    ∙ ap (λ (m : ℕ). cleans_in asks + m) (elim ask as (λ (b : Bool). length (cond (not b) (b ∷ []) []) ≡ cond b 0 1) [ true ↦ refl | false ↦ refl ])

pub last_push : (before : Bool) (asks : List Bool) (ask : Bool) → last_or before (asks ++ ask ∷ []) ≡ ask
last_push before [] ask = refl
last_push before (first ∷ asks) ask = last_push first asks ask

pub word_push : (before : OwnerAnswer) (answers : List Bool) (answer : Bool) → last_word before (answers ++ answer ∷ []) ≡ word_of answer
word_push before [] answer = refl
word_push before (first ∷ answers) answer = word_push (word_of first) answers answer

-- ---- turns

-- one Dirty more
pub turns_dirty : (asks answers : List Bool) → turns_by (asks ++ true ∷ []) answers ≡ with_dirty (turns_by asks answers)
turns_dirty asks answers = rw (dirties_push asks true, last_push false asks true) refl

-- one Clean more
pub turns_clean : (asks answers : List Bool) → turns_by (asks ++ false ∷ []) answers ≡ with_clean (turns_by asks answers)
turns_clean asks answers = rw (dirties_push asks false, last_push false asks false) (ap (λ (m : ℕ). record { dirties = m; answers = length answers; asks = false; last = last_word said.Pending answers }) (omega arith))

-- one answer more
pub turns_answer : (asks answers : List Bool) (answer : Bool) → turns_by asks (answers ++ answer ∷ []) ≡ with_answer (word_of answer) (turns_by asks answers)
turns_answer asks answers answer = rw (length_push answers answer, word_push said.Pending answers answer) refl

-- ---- alternation

not_not : (b : Bool) → not (not b) ≡ b
not_not true = refl
not_not false = refl

alternate_push : (next : Bool) (asks : List Bool) (ask : Bool) → Alternate next asks → ask ≡ not (last_or (not next) asks) → Alternate next (asks ++ ask ∷ [])
alternate_push next [] ask alternate is = (is ∙ not_not next, tt)
alternate_push next (first ∷ asks) ask alternate is = (alternate.0, alternate_push (not next) asks ask alternate.1 (is ∙ ap (λ (b : Bool). not (last_or b asks)) (alternate.0 ∙ sym (not_not next))))

-- there are as many Cleans as Dirties, or one fewer where a Dirty is the last
balance : (next : Bool) (asks : List Bool) → Alternate next asks → dirties_in asks + cond next 0 1 ≡ cleans_in asks + cond (last_or (not next) asks) 1 0
balance true [] alternate = refl
balance false [] alternate = refl
balance true (true ∷ asks) alternate = let rest = balance false asks alternate.1 in omega (arith, rest)
balance false (false ∷ asks) alternate = let rest = balance true asks alternate.1 in omega (arith, rest)
balance true (false ∷ asks) alternate = absurd (let clash = alternate.0 in cc)
balance false (true ∷ asks) alternate = absurd (let clash = alternate.0 in cc)

pub cleans_are : (asks : List Bool) → Alternate true asks → dirties_in asks ≡ cleans_in asks + cond (last_or false asks) 1 0
cleans_are asks alternate = let same = balance true asks alternate in omega (arith, same)

-- ---- answers

-- an answer that is DirtyOk
abbrev pub IsOk : Bool → Type 0
IsOk answer = answer ≡ true

word_yes : (answer : Bool) → is_yes (word_of answer) ≡ true → answer ≡ true
word_yes true e = refl
word_yes false e = cc

all_yes : (before : OwnerAnswer) (count : ℕ) (answers : List Bool) → AllByRecursion IsOk (take count answers) → length answers ≡ suc count → is_yes (last_word before answers) ≡ true → AllByRecursion IsOk answers
all_yes before zero [] all size granted_last = absurd (omega (arith, size))
all_yes before zero (answer ∷ []) all size granted_last = (word_yes answer granted_last, tt)
all_yes before zero (answer ∷ other ∷ answers) all size granted_last = absurd (omega (arith, size))
all_yes before (suc count) [] all size granted_last = absurd (omega (arith, size))
all_yes before (suc count) (answer ∷ answers) all size granted_last = (all.0, all_yes (word_of answer) count answers all.1 (omega (arith, size)) granted_last)

-- ---- one turn more

-- nothing was asked
pub none_asked : AskedInTurn [] []
none_asked = record { alternate = tt; counts = inl refl; were_granted = tt }

-- a Dirty for what has no surrogate
pub dirty_in_turn : (asks answers : List Bool) → HaveShape (turns_by asks answers) → is_standing (turns_by asks answers) ≡ false → AskedInTurn asks answers → AskedInTurn (asks ++ true ∷ []) answers
dirty_in_turn asks answers shape none turn =
    let idle = not_standing_idle (turns_by asks answers) shape none in
    let cleans : cleans_in (asks ++ true ∷ []) ≡ cleans_in asks = cleans_push asks true ∙ omega arith in
    record {
      alternate = alternate_push true asks true turn.alternate (sym (ap not idle.0));
      counts = inr (ap (λ (m : ℕ). m + 1) idle.1 ∙ sym (dirties_push asks true), last_push false asks true);
      were_granted = subst (λ (m : ℕ). AllByRecursion IsOk (take m answers)) (sym cleans) turn.were_granted;
    }

-- an answer to what is pending
pub answer_in_turn : (asks answers : List Bool) (answer : Bool) → is_pending (turns_by asks answers) ≡ true → AskedInTurn asks answers → AskedInTurn asks (answers ++ answer ∷ [])
answer_in_turn asks answers answer pending turn =
    let waits = pending_waits (turns_by asks answers) pending in
    let count : length answers + 1 ≡ dirties_in asks = waits.1 in
    let cleans : dirties_in asks ≡ cleans_in asks + 1 = cleans_are asks turn.alternate ∙ ap (λ (b : Bool). cleans_in asks + cond b 1 0) waits.0 in
    record {
      alternate = turn.alternate;
      counts = inl (length_push answers answer ∙ count);
      were_granted = subst (AllByRecursion IsOk) (sym (take-append-le (cleans_in asks) answers (answer ∷ []) (omega (arith, count, cleans)))) turn.were_granted;
    }

-- a Clean of what is granted
pub clean_in_turn : (asks answers : List Bool) → is_granted (turns_by asks answers) ≡ true → is_yes (last_word said.Pending answers) ≡ true → AskedInTurn asks answers → AskedInTurn (asks ++ false ∷ []) answers
clean_in_turn asks answers granted granted_last turn =
    let answered = granted_answered (turns_by asks answers) granted in
    let count : length answers ≡ dirties_in asks = answered.1 in
    let cleans : dirties_in asks ≡ cleans_in asks + 1 = cleans_are asks turn.alternate ∙ ap (λ (b : Bool). cleans_in asks + cond b 1 0) answered.0 in
    let all : AllByRecursion IsOk answers = all_yes said.Pending (cleans_in asks) answers turn.were_granted (omega (arith, count, cleans)) granted_last in
    let more = cleans_push asks false in
    record {
      alternate = alternate_push true asks false turn.alternate (sym (ap not answered.0));
      counts = inl (count ∙ sym (dirties_push asks false ∙ omega arith));
      were_granted = subst (AllByRecursion IsOk) (sym (take_all (cleans_in (asks ++ false ∷ [])) answers (omega (arith, count, cleans, more)))) all;
    }
