-- The first line of a text.
use Rattle.std.proofs.Common.{◌≡◌, ℕ, ◌+◌, ◌<◌, ◌≤◌, Bool, true, false, cond, List, [], ◌∷◌, not, ltb, length, take, drop, Some, None, refl, sym, ap, subst, ◌∙◌, arith}
use Rattle.std.specs.List.{slice_split, onto_first, position, position_or_len}
use Rattle.std.proofs.lemmas.Bool.{ltb-true, ltb-false}
use Rattle.std.proofs.lemmas.List.{take_all, drop_all}
use Rattle.std.proofs.lemmas.List.Splits.{slice_split_first, length-slice_split}
use Rattle.nob_model_text.specs.Lines.{is_newline, unless_empty, without_empty_end, lines_of}

-- a line before others stays
line_before : (line : List ℕ) (lines : List (List ℕ)) → 0 < length lines → without_empty_end (line ∷ lines) ≡ line ∷ without_empty_end lines
line_before line [] some = absurd (omega (arith, some))
line_before line (next ∷ lines) some = refl

split_some : (text : List ℕ) → 0 < length (slice_split is_newline text)
split_some text = omega (arith, length-slice_split is_newline text)

found : (b : Bool) (n i : ℕ) → cond b (Some n) None ≡ Some i → (b ≡ true) × (n ≡ i)
found true n i e = (refl, cc)
found false n i e = absurd cc

none : (b : Bool) (n : ℕ) → cond b (Some n) None ≡ None → b ≡ false
none true n e = absurd cc
none false n e = refl

-- a text without a newline is one part
step : (b : Bool) (x : ℕ) (xs : List ℕ) (n : ℕ) (parts : List (List ℕ)) → length (x ∷ xs) ≤ cond (not b) (1 + n) 0 → (length xs ≤ n → parts ≡ xs ∷ []) → cond b ([] ∷ parts) (onto_first x parts) ≡ (x ∷ xs) ∷ []
step true x xs n parts few rest = absurd (omega (arith, few))
step false x xs n parts few rest = ap (onto_first x) (rest (omega (arith, few)))

one_part : (text : List ℕ) → length text ≤ position_or_len is_newline text → slice_split is_newline text ≡ text ∷ []
one_part [] few = refl
one_part (x ∷ xs) few = step (is_newline x) x xs (position_or_len is_newline xs) (slice_split is_newline xs) few (one_part xs)

some_kept : (text : List ℕ) → 0 < length text → unless_empty text ≡ text ∷ []
some_kept [] some = absurd (omega (arith, some))
some_kept (byte ∷ bytes) some = refl

-- the first line ends at the first newline
pub newline_first : (text : List ℕ) (end : ℕ) → position is_newline text ≡ Some end → lines_of text ≡ take end text ∷ lines_of (drop (end + 1) text)
newline_first text end is =
    let at = found (ltb (position_or_len is_newline text) (length text)) (position_or_len is_newline text) end is in
    let split = slice_split_first is_newline text 0 (ltb-true _ _ at.0) in
    let cut : slice_split is_newline text ≡ take end text ∷ slice_split is_newline (drop (end + 1) text) = subst (λ (n : ℕ). slice_split is_newline text ≡ take n text ∷ slice_split is_newline (drop (n + 1) text)) at.1 split in
    ap without_empty_end cut ∙ line_before (take end text) (slice_split is_newline (drop (end + 1) text)) (split_some (drop (end + 1) text))

-- where there is none, all is one line
pub newline_none : (text front rest : List ℕ) → 0 < length text → position is_newline text ≡ None → front ≡ take (length text) text → rest ≡ drop (length text) text → lines_of text ≡ front ∷ lines_of rest
newline_none text front rest some is at_front at_rest =
    let few : length text ≤ position_or_len is_newline text = ltb-false _ _ (none (ltb (position_or_len is_newline text) (length text)) (position_or_len is_newline text) is) in
    let all : lines_of text ≡ text ∷ [] = ap without_empty_end (one_part text few) ∙ some_kept text some in
    all ∙ ap (λ (line : List ℕ). line ∷ []) (sym (at_front ∙ take_all (length text) text (omega arith))) ∙ ap (λ (left : List ℕ). front ∷ lines_of left) (sym (at_rest ∙ drop_all (length text) text (omega arith)))
