-- What is wrong in a chain.
use Rattle.std.specs.Prelude.{◌≡◌, ◌<◌, ℕ, Some, None, List}
use Rattle.std.specs.List.{AllByRecursion, Contains}
use Rattle.nob_model_traces.specs.Traces.{IsRightTrace, IsFirstWrong}
use Rattle.nob_chain.specs.Chains.{joined}
use Rattle.nob_chain.specs.declared.chain.ChainParts.{ChainParts}
use Rattle.nob_model_chains.specs.declared.fault.WrongPart.{WrongPart}
use Rattle.nob_model_chains.specs.declared.fault.WrongPart.TheVariants as parts
use Rattle.nob_model_chains.specs.Sealing.{first_wrong_seal}

-- a chain in which each result is right, and each seal that is there
pub record IsRightChain (chain : ChainParts) : Type 0 where
  pub right : IsRightTrace (joined chain)
  pub sealed : first_wrong_seal chain ≡ None

-- this is the first that is wrong in a chain: an entry, by its place among those of all segments; or, where no entry is wrong anywhere in it, a seal
abbrev pub IsWrongPart : ChainParts → WrongPart → Type 0
IsWrongPart chain (parts.Entry place) = IsFirstWrong (joined chain) place
IsWrongPart chain (parts.Seal number) = IsRightTrace (joined chain) × (first_wrong_seal chain ≡ Some number)

-- this is wrong in the chain of this space, and the chains of all lower spaces are right
pub record IsFirstWrongPart (chains : List ChainParts) (space : ℕ) (part : WrongPart) : Type 0 where
  pub chain : ChainParts
  pub is_there : Contains chains chain
  pub space_is : chain.space ≡ space
  pub wrong : IsWrongPart chain part
  pub lower : AllByRecursion (λ other. other.space < space → IsRightChain other) chains
