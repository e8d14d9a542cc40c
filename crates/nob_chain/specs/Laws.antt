-- What is true of all chains.
use Rattle.std.specs.Prelude.{◌≡◌, ℕ, List, ◌++◌}
use Rattle.nob_chain.specs.declared.chain.ChainParts.{ChainParts}
use Rattle.nob_chain.specs.declared.fault.ChainFault.{ChainFault}
use Rattle.nob_chain.specs.Chains.{chain_text, IsChain}
use Rattle.nob_chain.specs.Reading.{FrontFault, ChainProblem}
use Rattle.nob_chain.specs.Writing.{IsWritable}

-- a chain that a text can spell can be written
abbrev pub AreWritable : Type 0
AreWritable = (chain : ChainParts) → IsChain chain → IsWritable chain

-- what begins with a chain begins with that one alone, and the same is left behind it
abbrev pub OneFront : Type 0
OneFront = (chain twin : ChainParts) (rest left : List ℕ) → IsChain chain → IsChain twin → chain_text chain ++ rest ≡ chain_text twin ++ left → (chain ≡ twin) × (rest ≡ left)

-- a text spells one chain
abbrev pub OneChain : Type 0
OneChain = (text : List ℕ) (chain twin : ChainParts) → IsChain chain → IsChain twin → text ≡ chain_text chain → text ≡ chain_text twin → chain ≡ twin

-- a text that doesn't begin with a chain has one fault at most, and one that does has none
abbrev pub OneFault : Type 0
OneFault = ((text : List ℕ) (fault other : ChainFault) → FrontFault text fault → FrontFault text other → fault ≡ other)
    × ((text rest : List ℕ) (chain : ChainParts) (fault : ChainFault) → IsChain chain → text ≡ chain_text chain ++ rest → FrontFault text fault → ⊥)

-- the same of a text that should be one chain
abbrev pub OneProblem : Type 0
OneProblem = ((text : List ℕ) (fault other : ChainFault) → ChainProblem text fault → ChainProblem text other → fault ≡ other)
    × ((text : List ℕ) (chain : ChainParts) (fault : ChainFault) → IsChain chain → text ≡ chain_text chain → ChainProblem text fault → ⊥)
