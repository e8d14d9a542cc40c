-- What is wrong in the chain of the lowest space.
use Rattle.std.proofs.Common.{◌≡◌, ℕ, ◌<◌, Bool, true, false, List, [], ◌∷◌, Option, Some, None, MatchOption, nat_lt, if◌then◌else◌, refl, arith}
use Rattle.std.proofs.lemmas.Bool.Decides.{nat_tests}
use Rattle.std.specs.List.{AllByRecursion}
use Rattle.nob_chain.specs.declared.chain.ChainParts.{ChainParts}
use Rattle.nob_model_traces.proofs.Transmitting.{contains_here, contains_there}
use Rattle.nob_model_traces.proofs.Choosing.{all_map}
use Rattle.nob_model_chains.specs.declared.fault.WrongPart.{WrongPart}
use Rattle.nob_model_chains.specs.declared.fault.WrongChain.{WrongChain}
use Rattle.nob_model_chains.specs.Parts.{IsRightChain, IsWrongPart, IsFirstWrongPart}
use Rattle.nob_model_chains.specs.Lowest.{lower_of, IsLowest}

-- one of a lower space than the first
lower_behind : (c : ChainParts) (cs : List ChainParts) (space : ℕ) (part : WrongPart) → IsFirstWrongPart cs space part → space < c.space → IsFirstWrongPart (c ∷ cs) space part
lower_behind c cs space part found less = record {
  chain = found.chain;
  is_there = contains_there found.chain c cs found.is_there;
  space_is = found.space_is;
  wrong = found.wrong;
  lower = (λ under. absurd (omega (arith, less, under)), found.lower);
}

-- one behind the first, which is right
right_before : (c : ChainParts) (cs : List ChainParts) (space : ℕ) (part : WrongPart) → IsFirstWrongPart cs space part → IsRightChain c → IsFirstWrongPart (c ∷ cs) space part
right_before c cs space part found right = record {
  chain = found.chain;
  is_there = contains_there found.chain c cs found.is_there;
  space_is = found.space_is;
  wrong = found.wrong;
  lower = (λ under. right, found.lower);
}

-- the first itself, where all behind it are right
wrong_alone : (P : ChainParts → Type 0) → ((d : ChainParts) → P d → IsRightChain d) → (c : ChainParts) (cs : List ChainParts) (part : WrongPart) → AllByRecursion P cs → IsWrongPart c part → IsFirstWrongPart (c ∷ cs) c.space part
wrong_alone P to c cs part all wrong = record {
  chain = c;
  is_there = contains_here c c cs refl;
  space_is = refl;
  wrong = wrong;
  lower = (λ under. absurd (omega (arith, under)), all_map P (λ (other : ChainParts). other.space < c.space → IsRightChain other) cs (λ d p under. to d p) all);
}

-- the first itself, where one behind it isn't right and of no lower space
wrong_first : (c : ChainParts) (cs : List ChainParts) (space : ℕ) (part other : WrongPart) → IsFirstWrongPart cs space other → (space < c.space → ⊥) → IsWrongPart c part → IsFirstWrongPart (c ∷ cs) c.space part
wrong_first c cs space part other found high wrong = record {
  chain = c;
  is_there = contains_here c c cs refl;
  space_is = refl;
  wrong = wrong;
  lower = (λ under. absurd (omega (arith, under)), all_map (λ (d : ChainParts). d.space < space → IsRightChain d) (λ (d : ChainParts). d.space < c.space → IsRightChain d) cs (λ d right under. right (below d under)) found.lower);
}
  where
    below : (d : ChainParts) → d.space < c.space → d.space < space
    below d under = omega (arith, under, high)

-- of one chain more
pub lowest_more : (P : ChainParts → Type 0) → ((d : ChainParts) → P d → IsRightChain d) → (c : ChainParts) (cs : List ChainParts) (own : Option WrongPart) (other : Option WrongChain) → MatchOption own (P c) (λ part. IsWrongPart c part) → IsLowest P cs other
    → IsLowest P (c ∷ cs) (lower_of c.space own other)
lowest_more P to c cs None None right all = (right, all)
lowest_more P to c cs None (Some found) right lowest = right_before c cs found.space found.part lowest (to c right)
lowest_more P to c cs (Some part) None wrong all = wrong_alone P to c cs part all wrong
lowest_more P to c cs (Some part) (Some found) wrong lowest = by (nat_lt found.space c.space) refl
  where
    by : (b : Bool) → nat_lt found.space c.space ≡ b → IsLowest P (c ∷ cs) (if b then Some found else Some (record { space = c.space; part = part }))
    by true less = lower_behind c cs found.space found.part lowest (grind (arith, nat_tests, less))
    by false high = wrong_first c cs found.space part found.part lowest (λ less. grind (arith, nat_tests, less, high)) wrong
