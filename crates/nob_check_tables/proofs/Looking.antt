-- What is found in a list of pairs after one was put in, and once some are cut.
use Rattle.std.proofs.Common.{◌≡◌, ◌||◌, not, Bool, true, false, cond, List, [], ◌∷◌, filter, Option, Some, None, if◌then◌else◌, refl, sym, ap, subst, true≢false, ◌∙◌}
use Rattle.std.specs.List.{list_any}
use Rattle.std.specs.Map.{lookup}
use Rattle.indexmap.specs.IndexMap.{insert_entry}

once_more : {A : Type 0} (b : Bool) (x y z : A) → cond b x z ≡ cond b x (cond b y z)
once_more true x y z = refl
once_more false x y z = refl

apart : {A : Type 0} (a b : Bool) (x y z : A) → (a ≡ true → b ≡ true → ⊥) → cond a x (cond b y z) ≡ cond b y (cond a x z)
apart true true x y z never = absurd (never refl refl)
apart true false x y z never = refl
apart false b x y z never = refl

-- the value that was put in stands at its key, and every other key has what it had
pub put_at : {K V : Type 0} (eq : K → K → Bool) → ((a b : K) → eq a b ≡ true → a ≡ b) → ((a : K) → eq a a ≡ true) → (q k : K) (v : V) (es : List (K × V)) → lookup (eq q) (insert_entry eq es k v) ≡ cond (eq q k) (Some v) (lookup (eq q) es)
put_at eq same own q k v [] = refl
put_at eq same own q k v (e ∷ es) = by (put_at eq same own q k v es) (eq k e.0) refl
  where
    by : lookup (eq q) (insert_entry eq es k v) ≡ cond (eq q k) (Some v) (lookup (eq q) es) → (t : Bool) → eq k e.0 ≡ t → lookup (eq q) (insert_entry eq (e ∷ es) k v) ≡ cond (eq q k) (Some v) (lookup (eq q) (e ∷ es))
    by rest true here =
        ap (λ (b : Bool). lookup (eq q) (cond b ((e.0, v) ∷ es) (e ∷ insert_entry eq es k v))) here
        ∙ once_more (eq q e.0) (Some v) (Some e.1) (lookup (eq q) es)
        ∙ ap (λ x. cond (eq q x) (Some v) (cond (eq q e.0) (Some e.1) (lookup (eq q) es))) (sym (same k e.0 here))
    by rest false other =
        ap (λ (b : Bool). lookup (eq q) (cond b ((e.0, v) ∷ es) (e ∷ insert_entry eq es k v))) other
        ∙ ap (λ x. cond (eq q e.0) (Some e.1) x) rest
        ∙ apart (eq q e.0) (eq q k) (Some e.1) (Some v) (lookup (eq q) es) (λ one two. true≢false (sym (subst (λ x. eq k x ≡ true) (sym (same q k two) ∙ same q e.0 one) (own k)) ∙ other))

-- what is put in twice is there as it was put in last
pub put_twice : {K V : Type 0} (eq : K → K → Bool) → ((a : K) → eq a a ≡ true) → (k : K) (v w : V) (es : List (K × V)) → insert_entry eq (insert_entry eq es k v) k w ≡ insert_entry eq es k w
put_twice eq own k v w [] = ap (λ (b : Bool). if b then (k, w) ∷ [] else (k, v) ∷ (k, w) ∷ []) (own k)
put_twice {K} {V} eq own k v w (e ∷ es) = by (put_twice eq own k v w es) (eq k e.0) refl
  where
    by : insert_entry eq (insert_entry eq es k v) k w ≡ insert_entry eq es k w → (t : Bool) → eq k e.0 ≡ t → insert_entry eq (insert_entry eq (e ∷ es) k v) k w ≡ insert_entry eq (e ∷ es) k w
    by rest true here =
        ap (λ (b : Bool). insert_entry eq (if b then (e.0, v) ∷ es else e ∷ insert_entry eq es k v) k w) here
        ∙ ap (λ (b : Bool). if b then (e.0, w) ∷ es else (e.0, v) ∷ insert_entry eq es k w) here
        ∙ sym (ap (λ (b : Bool). if b then (e.0, w) ∷ es else e ∷ insert_entry eq es k w) here)
    by rest false other =
        ap (λ (b : Bool). insert_entry eq (if b then (e.0, v) ∷ es else e ∷ insert_entry eq es k v) k w) other
        ∙ ap (λ (b : Bool). if b then (e.0, w) ∷ insert_entry eq es k v else e ∷ insert_entry eq (insert_entry eq es k v) k w) other
        ∙ ap (λ (xs : List (K × V)). e ∷ xs) rest
        ∙ sym (ap (λ (b : Bool). if b then (e.0, w) ∷ es else e ∷ insert_entry eq es k w) other)

-- ---- what is cut

-- what is one thing either way is that
either_way : {A : Type 0} (b : Bool) (x : A) → x ≡ cond b x x
either_way true x = refl
either_way false x = refl

module _ {K : Type 0} (look cut : K → Bool) (gone : Bool) (agree : (k : K) → look k ≡ true → cut k ≡ gone) where
  -- nothing is found where the keys that are looked for are cut, and where others are, what was
  pub found_without : {V : Type 0} (es : List (K × V)) → lookup look (filter (λ e. not (cut e.0)) es) ≡ cond gone None (lookup look es)
  found_without [] = either_way gone None
  found_without {V} (e ∷ es) = by (found_without es) (cut e.0) (look e.0) refl refl
    where
      rest : List (K × V)
      rest = filter (λ e. not (cut e.0)) es

      left : Bool → Option V
      left b = lookup look (cond (not b) (e ∷ rest) rest)

      whole : Bool → Bool → Option V
      whole b found = cond b None (cond found (Some e.1) (lookup look es))

      by : lookup look rest ≡ cond gone None (lookup look es) → (t u : Bool) → cut e.0 ≡ t → look e.0 ≡ u → lookup look (filter (λ e. not (cut e.0)) (e ∷ es)) ≡ cond gone None (lookup look (e ∷ es))
      by others true true out here =
          let all : gone ≡ true = sym (agree e.0 here) ∙ out in
          ap left out ∙ others ∙ ap (λ (b : Bool). cond b None (lookup look es)) all ∙ sym (ap (λ (b : Bool). whole b (look e.0)) all)
      by others true false out other = ap left out ∙ others ∙ sym (ap (whole gone) other)
      by others false true stays here =
          let none : gone ≡ false = sym (agree e.0 here) ∙ stays in
          ap left stays ∙ ap (λ (b : Bool). cond b (Some e.1) (lookup look rest)) here ∙ sym (ap (λ (b : Bool). whole b (look e.0)) none ∙ ap (whole false) here)
      by others false false stays other = ap left stays ∙ ap (λ (b : Bool). cond b (Some e.1) (lookup look rest)) other ∙ others ∙ sym (ap (whole gone) other)

  -- the same of keys alone
  pub any_without : (ks : List K) → list_any look (filter (λ k. not (cut k)) ks) ≡ cond gone false (list_any look ks)
  any_without [] = either_way gone false
  any_without (k ∷ ks) = by (any_without ks) (cut k) (look k) refl refl
    where
      rest : List K
      rest = filter (λ k. not (cut k)) ks

      left : Bool → Bool
      left b = list_any look (cond (not b) (k ∷ rest) rest)

      whole : Bool → Bool → Bool
      whole b found = cond b false (found || list_any look ks)

      by : list_any look rest ≡ cond gone false (list_any look ks) → (t u : Bool) → cut k ≡ t → look k ≡ u → list_any look (filter (λ k. not (cut k)) (k ∷ ks)) ≡ cond gone false (list_any look (k ∷ ks))
      by others true true out here =
          let all : gone ≡ true = sym (agree k here) ∙ out in
          ap left out ∙ others ∙ ap (λ (b : Bool). cond b false (list_any look ks)) all ∙ sym (ap (λ (b : Bool). whole b (look k)) all)
      by others true false out other = ap left out ∙ others ∙ sym (ap (whole gone) other)
      by others false true stays here =
          let none : gone ≡ false = sym (agree k here) ∙ stays in
          ap left stays ∙ ap (λ (b : Bool). b || list_any look rest) here ∙ sym (ap (λ (b : Bool). whole b (look k)) none ∙ ap (whole false) here)
      by others false false stays other = ap left stays ∙ ap (λ (b : Bool). b || list_any look rest) other ∙ others ∙ sym (ap (whole gone) other)
