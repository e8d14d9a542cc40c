-- A chain, or a summary, of one space more.
use Rattle.std.proofs.Common.{◌≡◌, ℕ, zero, suc, ◌+◌, List, [], ◌∷◌, ◌++◌, length, map, refl, sym, ap, ◌∙◌, arith, length-append}
use Rattle.nob_chain.specs.declared.chain.ChainParts.{ChainParts}
use Rattle.nob_keeper.specs.Keep.{Keep}
use Rattle.nob_keeper.specs.Keep.TheVariants as keeps
use Rattle.nob_keeper.specs.Summary.{Summary}
use Rattle.nob_keeper.specs.Segments.{spaces_to}
use Rattle.nob_demo_spaces.specs.Endings.{AreChainsOf, AreSummariesOf, AreOfEach}

how_many : (last : ℕ) → length (spaces_to last) ≡ last
how_many zero = refl
how_many (suc last) = omega (arith, how_many last, length-append (spaces_to last) ((last + 1) ∷ []))

module _ {X : Type 0} (space : X → ℕ) where
  length_map : (xs : List X) → length (map space xs) ≡ length xs
  length_map [] = refl
  length_map (x ∷ xs) = omega (arith, length_map xs)

  map_push : (xs : List X) (x : X) → map space (xs ++ x ∷ []) ≡ map space xs ++ space x ∷ []
  map_push [] x = refl
  map_push (y ∷ xs) x = ap (λ (ns : List ℕ). space y ∷ ns) (map_push xs x)

  -- one of the next space is put behind
  one_more : (xs new : List X) (x : X) (before : ℕ) → map space xs ≡ spaces_to before → space x ≡ length xs + 1 → new ≡ xs ++ x ∷ [] → map space new ≡ spaces_to (suc before)
  one_more xs new x before are next more =
      let count : length xs ≡ before = sym (length_map xs) ∙ ap length are ∙ how_many before in
      let number : space x ≡ before + 1 = next ∙ ap (λ (n : ℕ). n + 1) count in
      ap (map space) more ∙ map_push xs x ∙ ap (λ (ns : List ℕ). ns ++ space x ∷ []) are ∙ ap (λ (n : ℕ). spaces_to before ++ n ∷ []) number

pub chain_more : (chains new : List ChainParts) (chain : ChainParts) (before : ℕ) → AreChainsOf before chains → chain.space ≡ length chains + 1 → new ≡ chains ++ chain ∷ [] → AreChainsOf (suc before) new
chain_more = one_more (λ chain. chain.space)

pub summary_more : (summaries new : List Summary) (summary : Summary) (before : ℕ) → AreSummariesOf before summaries → summary.space ≡ length summaries + 1 → new ≡ summaries ++ summary ∷ [] → AreSummariesOf (suc before) new
summary_more = one_more (λ summary. summary.space)

-- of no spaces there is nothing
pub none_yet : (keep : Keep) (chains : List ChainParts) (summaries : List Summary) → chains ≡ [] → summaries ≡ [] → AreOfEach keep 0 chains summaries
none_yet keeps.All chains summaries none nothing = ap (map (λ (chain : ChainParts). chain.space)) none
none_yet keeps.Nothing chains summaries none nothing = ap (map (λ (summary : Summary). summary.space)) nothing
