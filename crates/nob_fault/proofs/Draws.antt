-- One draw more.
use Rattle.std.proofs.Common.{◌≡◌, ℕ, suc, ◌+◌, [], ◌∷◌, ◌++◌, refl, add-one}
use Rattle.nob_fault.specs.Words.{next_draw, word_of, draw, words_of}

pub draw_none : (start : ℕ) → start ≡ draw start 0
unfolding draw
draw_none start = refl

pub words_none : (loss start : ℕ) → [] ≡ words_of loss start 0
unfolding words_of
words_none loss start = refl

-- the draw after a draw
draw_suc : (start count : ℕ) → next_draw (draw start count) ≡ draw start (suc count)
unfolding draw
draw_suc start count = refl

-- the words up to the word after a draw
words_suc : (loss start count : ℕ) → words_of loss start count ++ word_of loss (draw start (suc count)) ∷ [] ≡ words_of loss start (suc count)
unfolding words_of
words_suc loss start count = refl

pub draw_more : (start count : ℕ) → next_draw (draw start count) ≡ draw start (count + 1)
draw_more start count = rw (add-one count) (draw_suc start count)

pub words_more : (loss start count : ℕ) → words_of loss start count ++ word_of loss (next_draw (draw start count)) ∷ [] ≡ words_of loss start (count + 1)
words_more loss start count = rw (add-one count, draw_suc start count) (words_suc loss start count)
