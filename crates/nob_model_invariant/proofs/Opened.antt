-- What a right Open tells: the session had closed, and the new number is above the one before.
use Rattle.std.proofs.Common.{◌≡◌, ℕ, Bool, true, false, cond, List, ◌∷◌, refl, sym, ap, subst, ◌∙◌}
use Rattle.std.specs.Prelude.{◌==◌, ◌<◌}
use Rattle.std.proofs.lemmas.Bool.{eqb-true, both_ways}
use Rattle.nob_ids.specs.declared.limits.Limits.{Limits}
use Rattle.nob_model_types.specs.declared.deed.Deed.{Deed}
use Rattle.nob_model_types.specs.declared.deed.Deed.TheVariants as did
use Rattle.nob_model_types.specs.Sessions.{closed, number}
use Rattle.nob_model_history.proofs.Sessions.{opens}
use Rattle.nob_model.specs.Lists.{IsRightDeed}
use Rattle.nob_model.proofs.Reopening.{open_closed, open_number}

pub never : false ≡ true → ⊥
never e = cc

-- a right deed that opens the session with p opens one that is above
pub opens_above : (s n p : ℕ) (limits : Limits) (deed : Deed) (D : List Deed) → IsRightDeed s n limits deed D → opens p deed ≡ true → number p D < number p (deed ∷ D)
opens_above s n p limits (did.Open q k) D right own =
    subst (λ (m : ℕ). number p D < m) (sym (ap (λ (b : Bool). cond b k (number p D)) own))
    (subst (λ (r : ℕ). number r D < k) (eqb-true q p own) (open_number s n limits q k D right))
opens_above s n p limits deed D right own = absurd (never own)

-- a session that is open isn't opened anew
pub open_stays : (s n p : ℕ) (limits : Limits) (deed : Deed) (D : List Deed) → IsRightDeed s n limits deed D → closed p D ≡ false → number p (deed ∷ D) ≡ number p D
open_stays s n p limits (did.Open q k) D right up = by (q == p) refl
  where
    by : (own : Bool) → (q == p) ≡ own → cond own k (number p D) ≡ number p D
    by true own = absurd (both_ways (closed p D) up (ap (λ (r : ℕ). closed r D) (sym (eqb-true q p own)) ∙ open_closed s n limits q k D right))
    by false other = refl
open_stays s n p limits deed D right up = refl
