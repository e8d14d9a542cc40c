-- Why a line doesn't begin the next segment.
use Rattle.std.specs.Prelude.{◌≡◌, ℕ, suc, ◌<◌, ◌^◌, List}
use Rattle.nob_chain.specs.declared.fault.ChainFault.{ChainFault}
use Rattle.nob_chain.specs.declared.fault.ChainFault.TheVariants as faults
use Rattle.nob_chain.specs.Chains.{opening_text}

-- it spells no first line of a segment, or one of another number than the next, or of no entries
abbrev pub OpeningFault : ℕ → List ℕ → ChainFault → Type 0
OpeningFault behind line faults.Entry = (number count : ℕ) → number < 2 ^ 64 → count < 2 ^ 64 → line ≡ opening_text number count → ⊥
OpeningFault behind line faults.Segment = (number count : ℕ) × (number < 2 ^ 64) × (count < 2 ^ 64) × (line ≡ opening_text number count) × ((number ≡ suc behind) × (0 < count) → ⊥)
OpeningFault behind line fault = ⊥
