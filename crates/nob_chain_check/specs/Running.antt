-- A chain run again on a space.
use Rattle.std.specs.Prelude.{◌≡◌, ⊤, ℕ, Bool, true, List, map, take, Option, Some, None, if◌then◌else◌}
use Rattle.std.specs.List.{AllByRecursion}
use Rattle.std.specs.Option.{option_or}
use Rattle.nob_ids.specs.declared.limits.Limits.{Limits}
use Rattle.nob_model_types.specs.Sessions.{is_peer}
use Rattle.nob_model_invariant.specs.Typed.{AreOfTypes}
use Rattle.nob_check.specs.Spaces.{Owner, StandsFor}
use Rattle.nob_trace.specs.declared.trace.Trace.{Trace}
use Rattle.nob_model_traces.specs.Traces.{journal_at, AreRight}
use Rattle.nob_check.specs.Running.{IsRightAndTyped, HaveLimits}
use Rattle.nob_chain.specs.declared.seal.PeerSeal.{PeerSeal}
use Rattle.nob_chain.specs.declared.seal.Seal.{Seal}
use Rattle.nob_chain.specs.declared.chain.ChainParts.{ChainParts}
use Rattle.nob_chain.specs.Chains.{joined}
use Rattle.nob_model_chains.specs.Sealing.{first_wrong_seal}

-- each of these is said of a peer of space s among n
abbrev pub ArePeers : (s n : ℕ) → List PeerSeal → Type 0
ArePeers s n peers = AllByRecursion (λ peer. is_peer s n peer.peer ≡ true) peers

-- the same of a seal where there is one
abbrev pub HasPeers : (s n : ℕ) → Option Seal → Type 0
HasPeers s n None = ⊤
HasPeers s n (Some seal) = ArePeers s n seal.peers

-- the first wrong number, of one that was found, and of a next one, which is wrong where its seal isn't right
abbrev pub with_wrong : Option ℕ → ℕ → Bool → Option ℕ
with_wrong found number right = option_or found (if right then None else Some number)

-- a space that answered so many entries of a trace as the trace has them
pub record HasAnswered (trace : Trace) (count : ℕ) (space : Owner) : Type 0 where
  pub id : space.id ≡ trace.space
  pub n : space.n ≡ trace.n
  pub limits : space.limits ≡ trace.limits
  pub stands : StandsFor space (journal_at trace.space (take count trace.entries))
  pub right : AreRight trace.space trace.n trace.limits (journal_at trace.space (take count trace.entries))
  pub typed : AreOfTypes (journal_at trace.space (take count trace.entries))

-- a chain in which each result is right, what was handed on is of its types, and each seal that is there is right
pub record IsRightAndSealed (chain : ChainParts) : Type 0 where
  pub right : IsRightAndTyped (joined chain)
  pub sealed : first_wrong_seal chain ≡ None

-- these are the limits of each chain's space
abbrev pub ChainsHaveLimits : (ℕ → Limits) → List ChainParts → Type 0
ChainsHaveLimits limits chains = HaveLimits limits (map joined chains)
