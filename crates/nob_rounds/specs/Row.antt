-- A row of numbers that look random: x(0) is the seed, each is made of the one before, and a word is its upper part.
use Rattle.std.specs.Prelude.{ℕ, ◌+◌, ◌*◌, ◌/◌, ◌%◌, ◌^◌, ◌==◌, if◌then◌else◌}

-- the number behind x
abbrev pub next : ℕ → ℕ
next x = (x * 6364136223846793005 + 1442695040888963407) % 2 ^ 64

-- the word of x as a number below count, 0 where that is 0
abbrev pub below : (count x : ℕ) → ℕ
below count x = if count == 0 then 0 else x / 2 ^ 33 % count
