-- Lines as they are read are those that the definition of chains has.
use Rattle.std.proofs.Common.{◌≡◌, ℕ, suc, Bool, true, false, nat_lt, refl, ap, arith}
use Prim.Native.Nat.{zero}
use Rattle.std.specs.Prelude.{if◌then◌else◌}
use Rattle.std.proofs.lemmas.Bool.Decides.{nat_tests}
use Rattle.nob_trace.specs.declared.stamped.Stamped.{Stamped}
use Rattle.nob_chain.specs.declared.head.ChainHead.{ChainHead}
use Rattle.nob_chain.specs.Chains.{ChainLine, begins, has, ends}
use Rattle.nob_chain.specs.Reading.{within}
use Rattle.nob_lines.specs.declared.first.FirstLine.TheVariants.{OfChain}
use Rattle.nob_lines.specs.declared.reached.Reached.TheVariants.{Between, Within}
use Rattle.nob_lines.specs.declared.reached.LineDue.TheVariants as dues
use Rattle.nob_lines.specs.Steps.{CanFollow, Rises}
use Rattle.nob_lines.specs.Laws.{GoesOn, AreOfChains, AllAreRead}

between_goes : (head : ChainHead) (behind last : ℕ) (b : Bool) (line : ChainLine) → nat_lt behind head.count ≡ b → CanFollow (OfChain head) (if b then dues.Segment else dues.Nothing) line → Rises (Between behind last) line → GoesOn head (Between behind last) line
between_goes head behind last true (begins number count) less can rises = record { waits = (grind (arith, nat_tests, less)); can = can; passes = rises; place = refl }
between_goes head behind last true (has entry) less can rises = absurd can
between_goes head behind last true (ends seal) less can rises = absurd can
between_goes head behind last false line less can rises = absurd can

within_goes : (head : ChainHead) (number last missing : ℕ) (b : Bool) (line : ChainLine) → b ≡ true → CanFollow (OfChain head) (if b then dues.Entry else dues.Seal) line → Rises (Within number last (suc missing)) line → GoesOn head (Within number last (suc missing)) line
within_goes head number last missing true (has entry) more can rises = record { waits = tt; can = can; passes = rises; place = ap (λ (m : ℕ). within number entry.stamp m) (omega arith) }
within_goes head number last missing true (begins n count) more can rises = absurd can
within_goes head number last missing true (ends seal) more can rises = absurd can
within_goes head number last missing false line more can rises = absurd cc

some_missing : (missing : ℕ) → nat_lt 0 (suc missing) ≡ true
some_missing missing = grind (arith, nat_tests)

pub are_of_chains : AreOfChains
are_of_chains head (Between behind last) line can rises = between_goes head behind last (nat_lt behind head.count) line refl can rises
are_of_chains head (Within number last (suc missing)) line can rises = within_goes head number last missing (nat_lt 0 (suc missing)) line (some_missing missing) can rises
are_of_chains head (Within number last zero) (ends seal) can rises = record { waits = tt; can = can; passes = tt; place = refl }
are_of_chains head (Within number last zero) (begins n count) can rises = absurd can
are_of_chains head (Within number last zero) (has entry) can rises = absurd can

between_can : (head : ChainHead) (behind last number count : ℕ) (b : Bool) → nat_lt behind head.count ≡ b → GoesOn head (Between behind last) (begins number count) → CanFollow (OfChain head) (if b then dues.Segment else dues.Nothing) (begins number count)
between_can head behind last number count true less goes = goes.can
between_can head behind last number count false less goes = absurd (let waits = goes.waits in grind (arith, nat_tests, less, waits))

within_can : (head : ChainHead) (number last missing : ℕ) (entry : Stamped) (b : Bool) → b ≡ true → GoesOn head (Within number last (suc missing)) (has entry) → CanFollow (OfChain head) (if b then dues.Entry else dues.Seal) (has entry)
within_can head number last missing entry true more goes = goes.can
within_can head number last missing entry false more goes = absurd cc

pub all_are_read : AllAreRead
all_are_read head (Between behind last) (begins number count) goes = (between_can head behind last number count (nat_lt behind head.count) refl goes, goes.passes)
all_are_read head (Between behind last) (has entry) goes = absurd goes.can
all_are_read head (Between behind last) (ends seal) goes = absurd goes.can
all_are_read head (Within number last (suc missing)) (has entry) goes = (within_can head number last missing entry (nat_lt 0 (suc missing)) (some_missing missing) goes, goes.passes)
all_are_read head (Within number last zero) (ends seal) goes = (goes.can, tt)
all_are_read head (Within number last (suc missing)) (begins n count) goes = absurd goes.can
all_are_read head (Within number last (suc missing)) (ends seal) goes = absurd goes.can
all_are_read head (Within number last zero) (begins n count) goes = absurd goes.can
all_are_read head (Within number last zero) (has entry) goes = absurd goes.can
