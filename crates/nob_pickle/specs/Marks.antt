-- How trees are told apart: by what is met in them from left to right.
use Rattle.std.specs.Prelude.{◌≡◌, ℕ, ℤ, List, [], ◌∷◌, ◌⊎◌, refl}
use Rattle.std.specs.Coded.{Coded, code_by, coded_ℕ, coded_ℤ, coded_list, coded×, coded⊎}
use Rattle.std.proofs.Common.{ap, ◌∙◌, inl, inr}
use base.Stored.{coded_unit}
use Rattle.nob_ids.specs.declared.wire_rep.WireRep.{WireRep}
use Rattle.nob_pickle.specs.Trees.{Tree, unit, int, bytes, list, ref, Trees, none, more}

-- a leaf, or where a list begins or ends
pub data Mark : Type 0 where
  unit_mark : Mark
  int_mark : ℤ → Mark
  bytes_mark : List ℕ → Mark
  ref_mark : WireRep → Mark
  opens : Mark
  closes : Mark

-- a mark as one of six
abbrev pub Plain : Type 0
Plain = ((Unit {0} ⊎ Unit {0}) ⊎ (Unit {0} ⊎ ℤ)) ⊎ (List ℕ ⊎ (ℕ × ℕ))

-- which of the six a mark is
abbrev pub plain_mark : Mark → Plain
plain_mark unit_mark = inl (inl (inl tt))
plain_mark opens = inl (inl (inr tt))
plain_mark closes = inl (inr (inl tt))
plain_mark (int_mark n) = inl (inr (inr n))
plain_mark (bytes_mark bs) = inr (inl bs)
plain_mark (ref_mark r) = inr (inr (r.owner, r.index))

-- the mark that one of six is
abbrev pub mark_of : Plain → Mark
mark_of (inl (inl (inl u))) = unit_mark
mark_of (inl (inl (inr u))) = opens
mark_of (inl (inr (inl u))) = closes
mark_of (inl (inr (inr n))) = int_mark n
mark_of (inr (inl bs)) = bytes_mark bs
mark_of (inr (inr r)) = ref_mark (record { owner = r.0; index = r.1 })

-- the one undoes the other
pub mark_of_plain : (m : Mark) → mark_of (plain_mark m) ≡ m
mark_of_plain unit_mark = refl
mark_of_plain opens = refl
mark_of_plain closes = refl
mark_of_plain (int_mark n) = refl
mark_of_plain (bytes_mark bs) = refl
mark_of_plain (ref_mark r) = refl

-- marks are stored so
abbrev pub mark_code : Coded Mark
mark_code =
    code_by Plain (coded⊎ (coded⊎ (coded⊎ coded_unit coded_unit) (coded⊎ coded_unit coded_ℤ)) (coded⊎ (coded_list coded_ℕ) (coded× coded_ℕ coded_ℕ))) plain_mark mark_of mark_of_plain

abbrev mutual
  -- what is met in a tree, and then these
  pub marks : Tree → List Mark → List Mark
  marks unit after = unit_mark ∷ after
  marks (int n) after = int_mark n ∷ after
  marks (bytes bs) after = bytes_mark bs ∷ after
  marks (list ts) after = opens ∷ all_marks ts (closes ∷ after)
  marks (ref r) after = ref_mark r ∷ after

  -- the same of trees one after another
  pub all_marks : Trees → List Mark → List Mark
  all_marks none after = after
  all_marks (more t ts) after = marks t (all_marks ts after)

-- the trees of the innermost list that isn't closed, and of those around it
abbrev pub Open : Type 0
Open = Trees × List Trees

-- a tree in front of those
abbrev pub onto : Tree → Open → Open
onto t o = (more t o.0, o.1)

-- the innermost trees as a list in front of those around it
abbrev pub shut : Trees → List Trees → Open
shut inner [] = (inner, [])
shut inner (outer ∷ rest) = (more (list inner) outer, rest)

-- the trees that marks say, read from right to left
abbrev pub read_back : List Mark → Open
read_back [] = (none, [])
read_back (unit_mark ∷ ms) = onto unit (read_back ms)
read_back (int_mark n ∷ ms) = onto (int n) (read_back ms)
read_back (bytes_mark bs ∷ ms) = onto (bytes bs) (read_back ms)
read_back (ref_mark r ∷ ms) = onto (ref r) (read_back ms)
read_back (opens ∷ ms) = shut (read_back ms).0 (read_back ms).1
read_back (closes ∷ ms) = (none, (read_back ms).0 ∷ (read_back ms).1)

-- trees, and then these
abbrev pub append_trees : Trees → Trees → Trees
append_trees none us = us
append_trees (more t ts) us = more t (append_trees ts us)

pub joined-none : (ts : Trees) → append_trees ts none ≡ ts
joined-none none = refl
joined-none (more t ts) = ap (more t) (joined-none ts)

mutual
  read_back-marks : (t : Tree) (after : List Mark) → read_back (marks t after) ≡ onto t (read_back after)
  read_back-marks unit after = refl
  read_back-marks (int n) after = refl
  read_back-marks (bytes bs) after = refl
  read_back-marks (ref r) after = refl
  read_back-marks (list ts) after =
      let inner = read_back-all_marks ts (closes ∷ after) in
      ap (λ (o : Open). shut o.0 o.1) inner ∙ ap (λ (us : Trees). onto (list us) (read_back after)) (joined-none ts)

  read_back-all_marks : (ts : Trees) (after : List Mark) → read_back (all_marks ts after) ≡ (append_trees ts (read_back after).0, (read_back after).1)
  read_back-all_marks none after = refl
  read_back-all_marks (more t ts) after =
      read_back-marks t (all_marks ts after) ∙ ap (λ (o : Open). onto t o) (read_back-all_marks ts after)

-- the trees that marks say, all lists closed
abbrev pub trees_marked : List Mark → Trees
trees_marked ms = (read_back ms).0

-- they are those that the marks were made of
pub trees_marked_back : (ts : Trees) → trees_marked (all_marks ts []) ≡ ts
trees_marked_back ts = ap (λ (o : Open). o.0) (read_back-all_marks ts []) ∙ joined-none ts

-- trees are stored as their marks
abbrev pub trees_code : Coded Trees
trees_code = code_by (List Mark) (coded_list mark_code) (λ ts. all_marks ts []) trees_marked trees_marked_back
