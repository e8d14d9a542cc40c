-- A space that has done nothing is born as a new one.
use Rattle.std.proofs.Common.{ℕ, [], refl, arith}
use Rattle.nob_model_history.specs.Histories.{history}
use Rattle.nob_model_history.specs.Anew.{IsNewEnd, BeginsAnew}
use Rattle.nob_model_lives.specs.Births.{NewLaw}

-- an end on which no call was made is in session 1 as at first
new_end : IsNewEnd 1 []
new_end = record { numbered = refl; is_up = refl; none_handed = refl; first_lowest = refl; none_transmitted = refl; none_counted = refl; no_payload = λ j. refl; none_accepted = refl; none_taken = refl; none_ticked = refl; none_arrived = refl; owes_none = refl }

-- the session with each space is as at first where nothing was done
first_session : (s n p : ℕ) → BeginsAnew s n p 1 (history s n [])
first_session s n p = record { is_open = refl; numbered = refl; none_accepted = refl; no_payload = λ j. refl; none_acted = refl; none_settled = λ j. refl; none_entered = λ index. refl; none_listed = λ index. refl; none_asked = λ rep own. refl; end_is_new = new_end }

-- a space that has done nothing is born as a new one
pub new_law : NewLaw
new_law s n limits = record {
  right = tt;
  indexes = refl;
  calls = refl;
  jobs = refl;
  none_live = λ index. refl;
  none_in_hand = λ rep counted. refl;
  none_outstanding = refl;
  none_listed = λ index client. refl;
  none_pinned = refl;
  none_asked = λ rep. refl;
  sessions = λ p peer. first_session s n p;
  none_higher = λ p peer. omega arith;
}
