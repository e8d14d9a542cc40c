-- A ledger has its loans made after each deed.
use Rattle.std.proofs.Common.{◌≡◌, ◌∷◌, true}
use Rattle.nob_model_types.specs.declared.deed.Deed.{Deed}
use Rattle.nob_model_work.specs.Work.{work_after}
use Rattle.nob_check_ledgers.proofs.Keeping.{work_made}
use Rattle.nob_check_ledgers.specs.Ledgers.{ledger_after, has_loans_made}
use Rattle.nob_check_ledgers.specs.declared.ledger.Ledger.{Ledger}

pub loans_made : (deed : Deed) (ledger : Ledger) → has_loans_made (ledger_after deed ledger) ≡ true
loans_made deed ledger = work_made ledger.index.here.space ledger.index.here.n (deed ∷ ledger.index.deeds) (work_after ledger.index.here.space ledger.index.here.n deed ledger.index.deeds ledger.work)
