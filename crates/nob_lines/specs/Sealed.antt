-- A chain of one segment with one entry, whose seal is a line that is read.
use Rattle.std.specs.Prelude.{ℕ, List, [], ◌∷◌, ◌++◌, codes}
use Rattle.std.specs.Fmt.{decimal}
use Rattle.nob_ids.specs.declared.limits.Limits.{Limits}
use Rattle.nob_chain.specs.declared.head.ChainHead.{ChainHead}
use Rattle.nob_chain.specs.Chains.{head_text}

-- its first line
abbrev pub small_head : Limits → (own n : ℕ) → ChainHead
small_head limits own n = record { space = own; n = n; limits = limits; count = 1 }

-- the lines of its segment in front of the seal, behind the newline of the first line
abbrev pub segment_front : List ℕ
segment_front = codes "\nsegment " ++ (decimal 1 ++ (codes " entries " ++ (decimal 1 ++ 10 ∷ (decimal 1 ++ codes " claim = S10\n"))))

-- the lines in front of the seal
abbrev pub front_text : Limits → (own n : ℕ) → List ℕ
front_text limits own n = head_text (small_head limits own n) ++ segment_front

-- all of its text, with this line for the seal's
abbrev pub small_text : Limits → (own n : ℕ) → List ℕ → List ℕ
small_text limits own n line = front_text limits own n ++ (line ++ 10 ∷ [])
