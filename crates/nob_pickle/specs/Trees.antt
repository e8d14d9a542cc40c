-- What contracts see of a value: a tree. It is unit, a whole number, bytes, a reference, or a list of trees.
use Rattle.std.specs.Prelude.{ℕ, ◌+◌, ℤ, List}
use Rattle.nob_ids.specs.declared.wire_rep.WireRep.{WireRep}

mutual
  pub data Tree : Type 0 where
    unit : Tree
    int : ℤ → Tree
    bytes : List ℕ → Tree
    list : Trees → Tree
    ref : WireRep → Tree

  -- trees, one after another
  pub data Trees : Type 0 where
    none : Trees
    more : Tree → Trees → Trees

-- the elements of a list: a tree that is none has none
abbrev pub elements_of : Tree → Trees
elements_of unit = none
elements_of (int n) = none
elements_of (bytes bs) = none
elements_of (list ts) = ts
elements_of (ref r) = none

-- how many there are
abbrev pub count : Trees → ℕ
count none = 0
count (more t ts) = 1 + count ts

abbrev mutual
  -- how many trees and ends of lists there are in a tree
  pub weight : Tree → ℕ
  weight unit = 1
  weight (int n) = 1
  weight (bytes bs) = 1
  weight (list ts) = 1 + weight_all ts
  weight (ref r) = 1

  -- the same of trees one after another
  pub weight_all : Trees → ℕ
  weight_all none = 1
  weight_all (more t ts) = weight t + weight_all ts
