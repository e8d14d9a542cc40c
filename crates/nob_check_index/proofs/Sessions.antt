-- The sessions in which items were acted on.
use Rattle.std.proofs.Common.{◌≡◌, ◌&&◌, ◌++◌, ℕ, Bool, true, false, cond, List, [], ◌∷◌, refl, sym, ap, ◌∙◌}
use Rattle.std.specs.Prelude.{◌==◌, reverse}
use Rattle.std.specs.List.{list_any}
use Rattle.nob_model_types.specs.declared.deed.Deed.{Deed}
use Rattle.nob_model_types.specs.declared.deed.Deed.TheVariants.{Act}
use Rattle.nob_model_types.specs.Sessions.{number}
use Rattle.nob_model_journal.specs.Tests.{with_session, sessions_in}
use Rattle.nob_check_tables.proofs.Sessions.{number_is}
use Rattle.nob_check_index.specs.ActedSessions.{is_same_session, with_one, sessions_of}
use Rattle.nob_check_index.proofs.Keys.{equal_swap}
use Rattle.nob_check_index.proofs.Turned.{turned, any_turned}

-- whether a session is one of these
abbrev is_there : (p k : ℕ) → List (ℕ × ℕ) → Bool
is_there p k sessions = list_any (λ other. other.0 == p && other.1 == k) sessions

-- compared either way
same_tests : (p k : ℕ) (sessions : List (ℕ × ℕ)) → list_any (is_same_session (p, k)) sessions ≡ is_there p k sessions
same_tests p k sessions = λ i. list_any (λ (other : ℕ × ℕ). equal_swap p other.0 i && equal_swap k other.1 i) sessions

-- one more in the session of this number
one_more : (p k : ℕ) (sessions : List (ℕ × ℕ)) → with_one p k (reverse sessions) ≡ reverse (with_session p k sessions)
one_more p k sessions =
    ap (λ (b : Bool). cond b (reverse sessions) (reverse sessions ++ (p, k) ∷ [])) (any_turned (is_same_session (p, k)) sessions ∙ same_tests p k sessions)
    ∙ by (is_there p k sessions)
  where
    by : (b : Bool) → cond b (reverse sessions) (reverse sessions ++ (p, k) ∷ []) ≡ reverse (cond b sessions ((p, k) ∷ sessions))
    by true = refl
    by false = sym (turned (p, k) sessions)

-- in which sessions items were acted on
pub sessions_are : (s n : ℕ) (D : List Deed) → sessions_of s n D ≡ reverse (sessions_in D)
sessions_are s n [] = refl
sessions_are s n (Act p k ∷ D) = (λ i. with_one p (number_is s n p D i) (sessions_are s n D i)) ∙ one_more p (number p D) (sessions_in D)
sessions_are s n (_ ∷ D) = sessions_are s n D
