-- The words that the links of the program's running spaces have.
use Rattle.std.specs.Prelude.{ℕ, zero, suc, ◌+◌, ◌*◌, ◌/◌, ◌%◌, ◌^◌, nat_lt, if◌then◌else◌, List, [], ◌∷◌, ◌++◌}

-- a number in 64 bits: what doesn't fit is lost
abbrev pub wrapped : ℕ → ℕ
wrapped number = number % 2 ^ 64

-- the number before the first draw of the link from one space to another
abbrev pub start_of : ℕ → ℕ → ℕ → ℕ
start_of seed from to = wrapped (seed + (64 * from + to))

-- the number that is drawn after a number
abbrev pub next_draw : ℕ → ℕ
next_draw number = wrapped (wrapped (number * 6364136223846793005) + 1442695040888963407)

-- the word of a drawn number, where so many of ten are lost: its upper 31 bits decide
abbrev pub word_of : ℕ → ℕ → ℕ
word_of loss number = if nat_lt (number / 2 ^ 33 % 10) loss then 0 else 1 + number / 2 ^ 33 % 3

-- the number of this draw, where the first is the draw 1
unfoldable pub draw : ℕ → ℕ → ℕ
draw start zero = start
draw start (suc count) = next_draw (draw start count)

-- the words of the first draws, so many
unfoldable pub words_of : ℕ → ℕ → ℕ → List ℕ
words_of loss start zero = []
words_of loss start (suc count) = words_of loss start count ++ word_of loss (draw start (suc count)) ∷ []

-- the 10,000 words of the link from one space to another, where so many of ten frames are lost
abbrev pub words_between : ℕ → ℕ → ℕ → ℕ → List ℕ
words_between seed from to loss = words_of loss (start_of seed from to) 10000
