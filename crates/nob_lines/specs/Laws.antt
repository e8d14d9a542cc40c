-- What is true of the lines of all chains.
use Rattle.std.specs.Prelude.{◌≡◌}
use Rattle.nob_chain.specs.declared.head.ChainHead.{ChainHead}
use Rattle.nob_chain.specs.Chains.{ChainLine}
use Rattle.nob_chain.specs.Reading.{Stage, between, within, Waits, CanStand, Passes, next}
use Rattle.nob_lines.specs.declared.first.FirstLine.TheVariants.{OfChain}
use Rattle.nob_lines.specs.declared.reached.Reached.{Reached}
use Rattle.nob_lines.specs.declared.reached.Reached.TheVariants.{Between, Within}
use Rattle.nob_lines.specs.Steps.{due_of, CanFollow, Rises, next_of}

-- how far lines have come, as the definition of chains says it
abbrev pub stage_of : Reached → Stage
stage_of (Between behind last) = between behind last
stage_of (Within number last missing) = within number last missing

-- a line goes on as one of a chain should, to the same place
pub record GoesOn (head : ChainHead) (reached : Reached) (line : ChainLine) : Type 0 where
  pub waits : Waits head (stage_of reached)
  pub can : CanStand head (stage_of reached) line
  pub passes : Passes (stage_of reached) line
  pub place : stage_of (next_of reached line) ≡ next (stage_of reached) line

-- what is read of a chain, line by line, are lines of a chain, one after the other
abbrev pub AreOfChains : Type 0
AreOfChains = (head : ChainHead) (reached : Reached) (line : ChainLine) → CanFollow (OfChain head) (due_of (OfChain head) reached) line → Rises reached line → GoesOn head reached line

-- each line that goes on as one of a chain should can be read
abbrev pub AllAreRead : Type 0
AllAreRead = (head : ChainHead) (reached : Reached) (line : ChainLine) → GoesOn head reached line → CanFollow (OfChain head) (due_of (OfChain head) reached) line × Rises reached line
