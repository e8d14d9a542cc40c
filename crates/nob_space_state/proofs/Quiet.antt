-- Deeds that give nothing, act on nothing and close nothing: what they leave as it is.
use Rattle.std.proofs.Common.{◌≡◌, ℕ, List, ◌∷◌, refl}
use Rattle.nob_ids.specs.declared.wire_rep.WireRep.{WireRep}
use Rattle.nob_model_types.specs.declared.deed.Deed.{Deed}
use Rattle.nob_model_types.specs.declared.deed.Deed.TheVariants.{Export, Dup, Release, Withdraw}
use Rattle.nob_model_types.specs.Sessions.{closed, payload_at}
use Rattle.nob_model_types.specs.Turns.{turns}
use Rattle.nob_model_types.specs.Messages.{copy_after, message_after}
use Rattle.nob_model_work.specs.Work.{work, work_after, with_loans, run_after}
use Rattle.nob_model_work.specs.Gifts.{gifts, gifts_of}
use Rattle.nob_model_history.specs.Histories.{history_of}
use Rattle.nob_model_history.specs.Ends.{calls_at}
use Rattle.nob_model_history.specs.Transit.{bundles, dirties}
use Rattle.nob_model_history.specs.Listing.{is_listed}
use Rattle.nob_model.specs.Right.{calls_made, jobs_made}
use Rattle.nob_model.proofs.Made.{loans_made}

-- what a quiet deed leaves as it is
pub record IsQuiet (s n : ℕ) (deed : Deed) (D : List Deed) : Type 0 where
  pub calls : (p : ℕ) → calls_at p (history_of s n (deed ∷ D)) ≡ calls_at p (history_of s n D)
  pub closed : (p : ℕ) → closed p (deed ∷ D) ≡ closed p D
  pub payloads : (p k : ℕ) → payload_at p k (deed ∷ D) ≡ payload_at p k D
  pub turns : (rep : WireRep) → turns s n rep (deed ∷ D) ≡ turns s n rep D
  pub listed : (index client : ℕ) → is_listed s index client (deed ∷ D) ≡ is_listed s index client D
  pub bundles : bundles (history_of s n (deed ∷ D)) ≡ bundles (history_of s n D)
  pub dirties : dirties (history_of s n (deed ∷ D)) ≡ dirties (history_of s n D)
  pub work : work s n (deed ∷ D) ≡ work s n D
  pub calls_made : calls_made (deed ∷ D) ≡ calls_made D
  pub jobs_made : jobs_made (deed ∷ D) ≡ jobs_made D

pub dup_is_quiet : (s n : ℕ) (rep : WireRep) (D : List Deed) → IsQuiet s n (Dup rep) D
unfolding gifts gifts_of work_after with_loans message_after run_after copy_after
dup_is_quiet s n rep D = record {
  calls = λ p. refl;
  closed = λ p. refl;
  payloads = λ p k. refl;
  turns = λ rep. refl;
  listed = λ index client. refl;
  bundles = refl;
  dirties = refl;
  work = loans_made s n D;
  calls_made = refl;
  jobs_made = refl;
}

pub release_is_quiet : (s n : ℕ) (rep : WireRep) (D : List Deed) → IsQuiet s n (Release rep) D
unfolding gifts gifts_of work_after with_loans message_after run_after copy_after
release_is_quiet s n rep D = record {
  calls = λ p. refl;
  closed = λ p. refl;
  payloads = λ p k. refl;
  turns = λ rep. refl;
  listed = λ index client. refl;
  bundles = refl;
  dirties = refl;
  work = loans_made s n D;
  calls_made = refl;
  jobs_made = refl;
}

pub export_is_quiet : (s n : ℕ) (rep : WireRep) (D : List Deed) → IsQuiet s n (Export rep) D
unfolding gifts gifts_of work_after with_loans message_after run_after copy_after
export_is_quiet s n rep D = record {
  calls = λ p. refl;
  closed = λ p. refl;
  payloads = λ p k. refl;
  turns = λ rep. refl;
  listed = λ index client. refl;
  bundles = refl;
  dirties = refl;
  work = loans_made s n D;
  calls_made = refl;
  jobs_made = refl;
}

pub withdraw_is_quiet : (s n index : ℕ) (D : List Deed) → IsQuiet s n (Withdraw index) D
unfolding gifts gifts_of work_after with_loans message_after run_after copy_after
withdraw_is_quiet s n index D = record {
  calls = λ p. refl;
  closed = λ p. refl;
  payloads = λ p k. refl;
  turns = λ rep. refl;
  listed = λ index client. refl;
  bundles = refl;
  dirties = refl;
  work = loans_made s n D;
  calls_made = refl;
  jobs_made = refl;
}
