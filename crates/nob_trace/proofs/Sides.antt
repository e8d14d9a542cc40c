-- The two sides of an entry are parted in one way.
use Rattle.std.proofs.Common.{◌≡◌, ℕ, List, [], ◌∷◌, ◌++◌, codes, refl, sym, ap, ◌∙◌, append_assoc}
use Rattle.nob_trace.specs.Reading.{Lacks}
use Rattle.nob_trace.proofs.Parting.{one_parting, has_one}
use Rattle.nob_trace.proofs.Signs.{lacks_both}

head_is : (a b : ℕ) (xs ys : List ℕ) → a ∷ xs ≡ b ∷ ys → a ≡ b
head_is a b xs ys e = cc

tail_is : (a b : ℕ) (xs ys : List ℕ) → a ∷ xs ≡ b ∷ ys → xs ≡ ys
tail_is a b xs ys e = cc

not_empty_end : (xs : List ℕ) (x : ℕ) → [] ≡ xs ++ x ∷ [] → ⊥
not_empty_end [] x is = absurd cc
not_empty_end (y ∷ xs) x is = absurd cc

pub last_same : (xs ys : List ℕ) (x y : ℕ) → xs ++ x ∷ [] ≡ ys ++ y ∷ [] → (xs ≡ ys) × (x ≡ y)
last_same [] [] x y is = (refl, head_is _ _ _ _ is)
last_same [] (b ∷ ys) x y is = absurd (not_empty_end ys y (tail_is _ _ _ _ is))
last_same (a ∷ xs) [] x y is = absurd (not_empty_end xs x (sym (tail_is _ _ _ _ is)))
last_same (a ∷ xs) (b ∷ ys) x y is =
    let inner = last_same xs ys x y (tail_is _ _ _ _ is) in
    (ap (λ (c : ℕ). c ∷ xs) (head_is _ _ _ _ is) ∙ ap (λ (cs : List ℕ). b ∷ cs) inner.0, inner.1)

pub at_sign : (left right : List ℕ) → left ++ (codes " = " ++ right) ≡ (left ++ 32 ∷ []) ++ 61 ∷ 32 ∷ right
at_sign left right = sym (append_assoc left (32 ∷ []) (61 ∷ 32 ∷ right))

pub left_lacks : (left : List ℕ) → Lacks 61 left → Lacks 61 (left ++ 32 ∷ [])
left_lacks left lacks = lacks_both 61 left (32 ∷ []) lacks (refl, tt)

pub sides : (text front back left right : List ℕ) → Lacks 61 front → text ≡ front ++ 61 ∷ back → Lacks 61 left → text ≡ left ++ (codes " = " ++ right) → (front ≡ left ++ 32 ∷ []) × (back ≡ 32 ∷ right)
sides text front back left right lacks is none spelt = one_parting 61 front (left ++ 32 ∷ []) back (32 ∷ right) lacks (left_lacks left none) (sym is ∙ spelt ∙ at_sign left right)

pub no_sign : (text left right : List ℕ) → Lacks 61 text → text ≡ left ++ (codes " = " ++ right) → ⊥
no_sign text left right lacks spelt = has_one 61 text (left ++ 32 ∷ []) (32 ∷ right) lacks (spelt ∙ at_sign left right)
