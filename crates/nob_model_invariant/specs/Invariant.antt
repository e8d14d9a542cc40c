-- The invariant of all spaces of a run, in one record of the themes of the crates below.
use Rattle.std.specs.Prelude.{◌≡◌, ℕ, List}
use Rattle.std.specs.List.{AllByRecursion}
use Rattle.nob_model_types.specs.declared.entry.Entry.{Entry}
use Rattle.nob_model_types.specs.declared.message.Message.{Message}
use Rattle.nob_model_types.specs.declared.message.RefCopy.{RefCopy}
use Rattle.nob_model_types.specs.declared.message.Loan.TheVariants as loans
use Rattle.nob_model_work.specs.declared.work.Run.{Run}
use Rattle.nob_model_work.specs.Work.{work}
use Rattle.nob_model_journal.specs.Journals.{deeds_at}
use Rattle.nob_model_invariant.specs.SafetyInvariant.{Sessions, Clients, Owners, Names, Listings, Holdings, Living, Settlements, Readings}
use Rattle.nob_model_invariant.specs.ArrivalInvariant.{Guarded, Answers}
use Rattle.nob_model_invariant.specs.LossInvariant.{Settled, Waiting, Denials, Numbers, Copies}

-- all references that a message carries are lent
abbrev pub IsAllLent : Message → Type 0
IsAllLent message = AllByRecursion (λ (copy : RefCopy). copy.loan ≡ loans.Lent) message.copies

-- what is ready, runs or is a ready reply has lent all its references
pub record Loans (n : ℕ) (J : List Entry) : Type 0 where
  pub ready : (s : ℕ) → AllByRecursion IsAllLent (work s n (deeds_at s J)).ready
  pub running : (s : ℕ) → AllByRecursion (λ (run : Run). IsAllLent run.message) (work s n (deeds_at s J)).running
  pub replies : (s : ℕ) → AllByRecursion IsAllLent (work s n (deeds_at s J)).replies

-- the invariant of n spaces: sessions, turns of clients and owners, who is listed, what is held, live and under way, Calls, settling, and the copies
pub record Invariant (n : ℕ) (J : List Entry) : Type 0 where
  pub sessions : Sessions n J
  pub readings : Readings n J
  pub clients : Clients n J
  pub owners : Owners n J
  pub names : Names n J
  pub listings : Listings n J
  pub holdings : Holdings n J
  pub loans : Loans n J
  pub living : Living n J
  pub guarded : Guarded n J
  pub answers : Answers n J
  pub settlements : Settlements n J
  pub settled : Settled n J
  pub waiting : Waiting n J
  pub denials : Denials n J
  pub numbers : Numbers n J
  pub copies : Copies n J
