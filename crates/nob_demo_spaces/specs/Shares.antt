-- Who makes which call of a scene. Spaces and calls are numbered from 1.
use Rattle.std.specs.Prelude.{ℕ, zero, suc, ◌+◌, ◌-◌, ◌%◌, ◌==◌, if◌then◌else◌}

-- the space that makes a call, of so many: those from 2 on take turns
abbrev pub caller_of : (spaces call : ℕ) → ℕ
caller_of spaces call = 2 + (call - 1) % (spaces - 1)

-- how many of the calls up to the last one a space makes
abbrev pub calls_of : (spaces space last : ℕ) → ℕ
calls_of spaces space zero = 0
calls_of spaces space (suc before) = if caller_of spaces (suc before) == space then suc (calls_of spaces space before) else calls_of spaces space before
