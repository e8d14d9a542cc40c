-- What went to and fro and isn't done yet, by the state.
use Rattle.std.proofs.Common.{◌≡◌, ℕ, List, length, refl, sym, ap, ◌∙◌}
use Rattle.nob_ids.specs.declared.limits.Limits.{Limits}
use Rattle.nob_model_session.specs.End.{ending}
use Rattle.nob_session.specs.Onward.{StandsOnward}
use Rattle.nob_session.proofs.Alike.{onward_is}
use Rattle.nob_session.specs.Stands.{End}
use Rattle.nob_model_types.specs.declared.deed.Deed.{Deed}
use Rattle.nob_model_types.specs.Sessions.{number, acted}
use Rattle.nob_model_history.specs.Histories.{history_of}
use Rattle.nob_model_history.specs.Ends.{calls_at}
use Rattle.nob_model_history.specs.Premises.{NumbersRise}
use Rattle.nob_model_history.specs.Transit.{count_to, sent}
use Rattle.nob_model_history.proofs.Inbox.{acted_takes}
use Rattle.nob_model_history.proofs.Numbered.{count_handed}
use Rattle.nob_model_history.proofs.Sessions.{number_is}
use Rattle.nob_model.specs.Tallies.{tally, backlog}
use Rattle.nob_space_state.specs.Parts.{State}
use Rattle.nob_space_state.specs.Stands.{Stands}

-- the tally with p is what the end with p counts
pub tally_there : (s n p : ℕ) (limits : Limits) (end : End) (D : List Deed) → NumbersRise D → StandsOnward s p limits end (calls_at p (history_of s n D)) → tally p (history_of s n D) ≡ record { session = end.number; sent = end.handed; acted = end.taken; closed = end.ending }
tally_there s n p limits end D rises stands =
    let handed_is : end.handed ≡ count_to p (number p D) (sent (history_of s n D)) = ap (λ (e : End). e.handed) (onward_is stands) ∙ count_handed s n p D rises in
    let taken_is : end.taken ≡ length (acted p D) = ap (λ (e : End). e.taken) (onward_is stands) ∙ sym (acted_takes s n p D) in
    let number_there : end.number ≡ number p D = ap (λ (e : End). e.number) (onward_is stands) ∙ number_is s n p D in
    let ending_is : end.ending ≡ ending (calls_at p (history_of s n D)) = ap (λ (e : End). e.ending) (onward_is stands) in
    λ i. record { session = sym number_there i; sent = sym handed_is i; acted = sym taken_is i; closed = sym ending_is i }

-- what isn't done yet is as many calls and jobs as the state has
pub backlog_there : {s n : ℕ} {limits : Limits} {st : State} {D : List Deed} → Stands s n limits st D → backlog (history_of s n D) ≡ record { calls = length st.work.calls; ready = length st.work.ready; running = length st.work.running }
backlog_there {s} {n} {limits} {st} {D} stands = rw (sym stands.work) refl
