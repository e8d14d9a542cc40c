-- The ledger after a deed is the ledger of one deed more.
use Rattle.std.proofs.Common.{◌≡◌, ℕ, List, ◌∷◌, refl}
use Rattle.nob_model_types.specs.declared.deed.Deed.{Deed}
use Rattle.nob_model_types.specs.declared.deed.Deed.TheVariants.{Act}
use Rattle.nob_model_work.specs.Gifts.{all_gifts}
use Rattle.nob_model_work.specs.Work.{work}
use Rattle.nob_model_history.specs.Transit.{sent_of}
use Rattle.nob_model_journal.specs.Tests.{acts_while_open, sends_while_open}
use Rattle.nob_check_ledgers.specs.Ledgers.{acts_open_after, acted_items, ledger_of, ledger_after}
use Rattle.nob_check_ledgers.specs.Laws.{LedgerLaw}

-- whether all was acted on while its session was open, by one deed more
acts_kept : (deed : Deed) (D : List Deed) → acts_open_after deed D (acts_while_open D) ≡ acts_while_open (deed ∷ D)
acts_kept (Act p k) D = refl
acts_kept (_) D = refl

-- the ledger by one deed more
pub ledger_kept : (s n : ℕ) (deed : Deed) (D : List Deed) → ledger_after deed (ledger_of s n D) ≡ ledger_of s n (deed ∷ D)
ledger_kept s n deed D = λ i. record {
  index = record { here = record { space = s; n = n }; deeds = deed ∷ D };
  work = work s n (deed ∷ D);
  sent_items = sent_of (deed ∷ D) (all_gifts s n (deed ∷ D));
  acted_items = acted_items (deed ∷ D);
  acts_open = acts_kept deed D i;
  sends_open = sends_while_open (deed ∷ D) (all_gifts s n (deed ∷ D));
}

-- whatever was done
pub ledger_law : LedgerLaw
ledger_law = ledger_kept
