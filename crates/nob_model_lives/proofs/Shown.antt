-- What a space showed of its numbers, and the deeds of a bridge that show no more.
use Rattle.std.proofs.Common.{◌≡◌, ℕ, Bool, true, false, cond, List, ◌∷◌, length, Ok, refl}
use Rattle.std.specs.Prelude.{◌==◌}
use Rattle.nob_ids.specs.declared.reason.Reason.TheVariants.{Asked}
use Rattle.nob_ids.specs.declared.wire_rep.WireRep.{WireRep}
use Rattle.nob_pickle.specs.declared.value.Value.{Value}
use Rattle.nob_model_session.specs.End.{seen}
use Rattle.nob_model_session.specs.declared.entry.EndEntry.{EndEntry}
use Rattle.nob_model_session.specs.declared.entry.EndEntry.TheVariants as ends
use Rattle.nob_model_types.specs.declared.deed.Deed.{Deed}
use Rattle.nob_model_types.specs.declared.deed.Deed.TheVariants as did
use Rattle.nob_model_types.specs.declared.deed.Cause.TheVariants as causes
use Rattle.nob_model_types.specs.Sessions.{number}
use Rattle.nob_model_types.specs.Objects.{exports}
use Rattle.nob_model_work.specs.Gifts.{gifts, gifts_of}
use Rattle.nob_model_history.specs.Histories.{history_of}
use Rattle.nob_model_history.specs.Ends.{calls_at}
use Rattle.nob_model.specs.Right.{calls_made, jobs_made}

-- what a space showed: so many indexes, calls and jobs, and of its session with each space the number and the highest that came
pub record Shown : Type 0 where
  pub indexes : ℕ
  pub calls : ℕ
  pub jobs : ℕ
  pub given : ℕ → ℕ
  pub heard : ℕ → ℕ

-- what deeds showed
abbrev pub shown_by : (s n : ℕ) → List Deed → Shown
shown_by s n D = record { indexes = length (exports D); calls = calls_made D; jobs = jobs_made D; given = λ p. number p D; heard = λ p. seen (calls_at p (history_of s n D)) }

-- a deed shows no more
abbrev pub ShowsNoMore : (s n : ℕ) → Deed → List Deed → Type 0
ShowsNoMore s n deed D = shown_by s n (deed ∷ D) ≡ shown_by s n D

pub drop_shows : (s n job : ℕ) (D : List Deed) → ShowsNoMore s n (did.DropReply job) D
unfolding gifts gifts_of
drop_shows s n job D = refl

pub take_shows : (s n call status : ℕ) (value : Value) (D : List Deed) → ShowsNoMore s n (did.TakeReply call status value) D
unfolding gifts gifts_of
take_shows s n call status value D = refl

pub end_shows : (s n call : ℕ) (D : List Deed) → ShowsNoMore s n (did.TakeEnd call) D
unfolding gifts gifts_of
end_shows s n call D = refl

pub release_shows : (s n : ℕ) (rep : WireRep) (D : List Deed) → ShowsNoMore s n (did.Release rep) D
unfolding gifts gifts_of
release_shows s n rep D = refl

pub withdraw_shows : (s n index : ℕ) (D : List Deed) → ShowsNoMore s n (did.Withdraw index) D
unfolding gifts gifts_of
withdraw_shows s n index D = refl

closes_unseen : (p : ℕ) (b : Bool) (calls : List EndEntry) → seen (cond b (ends.Close Asked (Ok (record { peer = p; reason = Asked })) ∷ calls) calls) ≡ seen calls
closes_unseen p true calls = refl
closes_unseen p false calls = refl

pub closing_shows : (s n p : ℕ) (D : List Deed) → ShowsNoMore s n (did.Closing p Asked causes.Asked) D
unfolding gifts gifts_of
closing_shows s n p D = λ i. record { indexes = length (exports D); calls = calls_made D; jobs = jobs_made D; given = λ q. number q D; heard = λ q. closes_unseen q (p == q) (calls_at q (history_of s n D)) i }
