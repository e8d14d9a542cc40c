-- Whether anybody is listed for an index, as the clients are.
use Rattle.std.proofs.Common.{◌≡◌, ℕ, Bool, true, false, not, ◌&&◌, ◌||◌, ◌==◌, List, [], ◌∷◌, if◌then◌else◌, refl, sym, subst}
use Rattle.std.proofs.lemmas.Bool.Decides.{Decides-eqb}
use Rattle.std.specs.List.{list_any}
use Rattle.nob_model_types.specs.declared.deed.Deed.{Deed}
use Rattle.nob_model_types.specs.declared.deed.Deed.TheVariants.{Act, Open}
use Rattle.nob_model_types.specs.Sessions.{item_at, closed}
use Rattle.nob_model_history.specs.Listing.{is_entered, is_entered_after, is_listed, is_of_listed, is_any_listed}

module _ (s index : ℕ) (D : List Deed) where
  nobody_of : ((c : ℕ) → is_listed s index c D ≡ false) → (E : List Deed) → list_any (is_of_listed s index D) E ≡ false
  nobody_of none [] = refl
  nobody_of none (Act p k ∷ E) = rw (none p) (nobody_of none E)
  nobody_of none (_ ∷ E) = nobody_of none E

  -- nobody is listed where no client is
  pub nobody_listed : ((c : ℕ) → is_listed s index c D ≡ false) → is_any_listed s index D ≡ false
  nobody_listed none = nobody_of none D

  somebody_of : (c : ℕ) → is_listed s index c D ≡ true → (E : List Deed) → is_entered s index c E ≡ true → list_any (is_of_listed s index D) E ≡ true
  somebody_of c listed [] entered = absurd (cc)
  somebody_of c listed (Act p k ∷ E) entered = elim (p == c) as (λ b. p == c ≡ b → (if b then is_entered_after s index (item_at p k E) E (is_entered s index c E) else is_entered s index c E) ≡ true → (is_listed s index p D || list_any (is_of_listed s index D) E) ≡ true) [
    | true ↦ λ same _. let here : is_listed s index p D ≡ true = subst (λ q. is_listed s index q D ≡ true) (sym ((Decides-eqb p c).0 same)) listed in rw here refl
    | false ↦ λ _ before. rw (somebody_of c listed E before) (elim (is_listed s index p D) as (λ b. (b || true) ≡ true) [ true ↦ refl | false ↦ refl ])
  ] refl entered
  somebody_of c listed (Open q k ∷ E) entered = somebody_of c listed E (elim (q == c) as (λ b. (if b then false else is_entered s index c E) ≡ true → is_entered s index c E ≡ true) [ true ↦ λ e. absurd (cc) | false ↦ λ e. e ] entered)
  somebody_of c listed (_ ∷ E) entered = somebody_of c listed E entered

  both : (b : Bool) → (not b && false) ≡ true → ⊥
  both true e = absurd (cc)
  both false e = absurd (cc)

  entered_listed : (c : ℕ) → is_listed s index c D ≡ true → is_entered s index c D ≡ true
  entered_listed c listed = elim (is_entered s index c D) as (λ b. (not (closed c D) && b) ≡ true → b ≡ true) [ true ↦ λ _. refl | false ↦ λ e. absurd (both (closed c D) e) ] listed

  -- somebody is listed where a client is
  pub somebody_listed : (c : ℕ) → is_listed s index c D ≡ true → is_any_listed s index D ≡ true
  somebody_listed c listed = somebody_of c listed D (entered_listed c listed)
