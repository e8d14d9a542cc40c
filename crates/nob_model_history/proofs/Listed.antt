-- Somebody is listed for an index where a client is.
use Rattle.std.proofs.Common.{◌≡◌, ℕ, ◌||◌, Bool, true, false, cond, List, [], ◌∷◌, refl, sym, subst, ◌⊎◌, inl, inr}
use Rattle.std.specs.Prelude.{◌==◌}
use Rattle.std.specs.List.{list_any}
use Rattle.std.proofs.lemmas.Bool.{eqb-true, and_parts, or_cases, or_left, or_right}
use Rattle.nob_model_types.specs.declared.deed.Deed.{Deed}
use Rattle.nob_model_types.specs.declared.deed.Deed.TheVariants as did
use Rattle.nob_model_types.specs.Sessions.{item_at}
use Rattle.nob_model_history.specs.Listing.{is_entered, is_entered_after, is_listed, is_of_listed, is_any_listed}

entered_step : (s index c p k : ℕ) (all D : List Deed) → is_listed s index c all ≡ true → (is_entered s index c D ≡ true → list_any (is_of_listed s index all) D ≡ true) → (own : Bool) → (p == c) ≡ own → cond own (is_entered_after s index (item_at p k D) D (is_entered s index c D)) (is_entered s index c D) ≡ true → (is_listed s index p all || list_any (is_of_listed s index all) D) ≡ true
entered_step s index c p k all D listed rest true own entered = or_left _ _ (subst (λ (q : ℕ). is_listed s index q all ≡ true) (sym (eqb-true p c own)) listed)
entered_step s index c p k all D listed rest false own entered = or_right _ _ (rest entered)

entered_any : (s index c : ℕ) (all D : List Deed) → is_listed s index c all ≡ true → is_entered s index c D ≡ true → list_any (is_of_listed s index all) D ≡ true
entered_any s index c all [] listed entered = cc
entered_any s index c all (did.Act p k ∷ D) listed entered = entered_step s index c p k all D listed (entered_any s index c all D listed) (p == c) refl entered
entered_any s index c all (did.Open q k ∷ D) listed entered = entered_any s index c all D listed (kept_entered (q == c) (is_entered s index c D) entered)
  where
    kept_entered : (b before : Bool) → cond b false before ≡ true → before ≡ true
    kept_entered true before entered = cc
    kept_entered false before entered = entered
entered_any s index c all (deed ∷ D) listed entered = entered_any s index c all D listed entered

-- where a client is listed, somebody is
pub listed_any : (s index c : ℕ) (D : List Deed) → is_listed s index c D ≡ true → is_any_listed s index D ≡ true
listed_any s index c D listed = entered_any s index c D D listed (and_parts _ _ listed).1

any_step : (s index p : ℕ) (all D : List Deed) → (list_any (is_of_listed s index all) D ≡ true → (c : ℕ) × (is_listed s index c all ≡ true)) → (is_listed s index p all ≡ true) ⊎ (list_any (is_of_listed s index all) D ≡ true) → (c : ℕ) × (is_listed s index c all ≡ true)
any_step s index p all D rest (inl here) = (p, here)
any_step s index p all D rest (inr behind) = rest behind

any_of : (s index : ℕ) (all D : List Deed) → list_any (is_of_listed s index all) D ≡ true → (c : ℕ) × (is_listed s index c all ≡ true)
any_of s index all [] found = cc
any_of s index all (did.Act p k ∷ D) found = any_step s index p all D (any_of s index all D) (or_cases _ _ found)
any_of s index all (deed ∷ D) found = any_of s index all D found

-- where somebody is listed, a client is
pub any_listed : (s index : ℕ) (D : List Deed) → is_any_listed s index D ≡ true → (c : ℕ) × (is_listed s index c D ≡ true)
any_listed s index D found = any_of s index D D found
