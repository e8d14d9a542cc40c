-- What the parts of a value tell of the value.
use Rattle.std.proofs.Common.{◌≡◌, List, [], ◌∷◌, ◌++◌, length, refl, sym, ap, ◌∙◌, append_assoc, Bor}
use Rattle.std.proofs.lemmas.List.{append-nil, nil_from_length}
use Rattle.nob_ids.specs.declared.wire_rep.WireRep.{WireRep}
use Rattle.nob_pickle.specs.Trees.{Tree, unit, int, bytes, list, ref, Trees, none, more}
use Rattle.nob_pickle.specs.Shape.{tree, forest}
use Rattle.nob_pickle.specs.Spelling.{refs, all_refs}
use Rattle.nob_pickle.specs.Parts.{parts, all_parts, refs_among, parts_ahead}
use Rattle.nob_pickle.specs.declared.value.Value.{Value}

-- a slice that is put last is met first
pub parts_ahead-push : (ss : List (Bor (List Value))) (s : Bor (List Value)) → parts_ahead (ss ++ s ∷ []) ≡ all_parts (forest s.now) ++ parts_ahead ss
parts_ahead-push [] s = sym (append-nil (all_parts (forest s.now)))
parts_ahead-push (x ∷ ss) s =
    ap (λ (ts : List Tree). ts ++ all_parts (forest x.now)) (parts_ahead-push ss s) ∙ append_assoc (all_parts (forest s.now)) (parts_ahead ss) (all_parts (forest x.now))

refs_among-append : (ts us : List Tree) → refs_among (ts ++ us) ≡ refs_among ts ++ refs_among us
refs_among-append [] us = refl
refs_among-append (unit ∷ ts) us = refs_among-append ts us
refs_among-append (int n ∷ ts) us = refs_among-append ts us
refs_among-append (bytes bs ∷ ts) us = refs_among-append ts us
refs_among-append (list vs ∷ ts) us = refs_among-append ts us
refs_among-append (ref r ∷ ts) us = ap (λ (rs : List WireRep). r ∷ rs) (refs_among-append ts us)

mutual
  -- the references in a tree are those among its parts
  pub refs_among_parts : (t : Tree) → refs_among (parts t) ≡ refs t
  refs_among_parts unit = refl
  refs_among_parts (int n) = refl
  refs_among_parts (bytes bs) = refl
  refs_among_parts (list ts) = refs_among-all_parts ts
  refs_among_parts (ref r) = refl

  pub refs_among-all_parts : (ts : Trees) → refs_among (all_parts ts) ≡ all_refs ts
  refs_among-all_parts none = refl
  refs_among-all_parts (more t ts) =
      refs_among-append (parts t) (all_parts ts)
      ∙ ap (λ (rs : List WireRep). rs ++ refs_among (all_parts ts)) (refs_among_parts t)
      ∙ ap (λ (rs : List WireRep). refs t ++ rs) (refs_among-all_parts ts)

-- a slice with nothing in it is nothing to meet
pub parts_ahead-empty : (ss : List (Bor (List Value))) (s : Bor (List Value)) → length s.now ≡ 0 → parts_ahead (ss ++ s ∷ []) ≡ parts_ahead ss
parts_ahead-empty ss s e =
    parts_ahead-push ss s ∙ ap (λ (vs : List Value). all_parts (forest vs) ++ parts_ahead ss) (nil_from_length s.now e)

-- the next value is met, and then its elements, and then those behind it
pub parts_ahead-first : (ss : List (Bor (List Value))) (s rest inner : Bor (List Value)) (first : Value) → s.now ≡ first ∷ rest.now → parts (tree first) ≡ tree first ∷ all_parts (forest inner.now)
    → parts_ahead (ss ++ s ∷ []) ≡ tree first ∷ parts_ahead ((ss ++ rest ∷ []) ++ inner ∷ [])
parts_ahead-first ss s rest inner first split own =
    parts_ahead-push ss s
    ∙ ap (λ (vs : List Value). all_parts (forest vs) ++ parts_ahead ss) split
    ∙ ap (λ (ts : List Tree). (ts ++ all_parts (forest rest.now)) ++ parts_ahead ss) own
    ∙ ap (λ (ts : List Tree). tree first ∷ ts) (append_assoc (all_parts (forest inner.now)) (all_parts (forest rest.now)) (parts_ahead ss)
    ∙ ap (λ (ts : List Tree). all_parts (forest inner.now) ++ ts) (sym (parts_ahead-push ss rest)) ∙ sym (parts_ahead-push (ss ++ rest ∷ []) inner))
