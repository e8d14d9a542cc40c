-- Values within lists, and the words of those that are no lists.
use Prim.Native.Nat.{zero}
use Rattle.std.specs.Prelude.{◌≡◌, ℕ, suc, List, ◌∷◌, ◌++◌, codes}
use Rattle.std.specs.Fmt.{signed_decimal}
use Rattle.nob_pickle.specs.Trees.{Tree, list, none, more}
use Rattle.nob_pickle.specs.declared.value.Value.{Value}
use Rattle.nob_pickle.specs.declared.value.Value.TheVariants as values
use Rattle.nob_case_texts.specs.Words.{reference_word}

-- a value within so many lists, each of which has nothing else
abbrev pub within_lists : ℕ → Tree → Tree
within_lists zero t = t
within_lists (suc n) t = list (more (within_lists n t) none)

-- what stands behind a text once a value is written that is neither bytes nor a list: of these this says nothing
abbrev pub Adds : Value → List ℕ → List ℕ → Type 0
Adds values.Unit before after = after ≡ before ++ codes "u"
Adds (values.Int n) before after = after ≡ before ++ 105 ∷ signed_decimal n
Adds (values.Ref rep) before after = after ≡ before ++ 114 ∷ reference_word rep
Adds value before after = Unit {0}

-- both are nothing, or the same number or reference
abbrev pub IsSameLeaf : Value → Value → Type 0
IsSameLeaf values.Unit values.Unit = Unit {0}
IsSameLeaf (values.Int m) (values.Int n) = m ≡ n
IsSameLeaf (values.Ref r) (values.Ref s) = r ≡ s
IsSameLeaf one other = ⊥
