-- What a ledger is kept for.
use Rattle.std.specs.Prelude.{◌≡◌, ℕ, List, ◌∷◌}
use Rattle.nob_model_types.specs.declared.deed.Deed.{Deed}
use Rattle.nob_check_ledgers.specs.Ledgers.{ledger_of, ledger_after}

-- the ledger after a deed is that of one deed more
abbrev pub LedgerLaw : Type 0
LedgerLaw = (s n : ℕ) (deed : Deed) (D : List Deed) → ledger_after deed (ledger_of s n D) ≡ ledger_of s n (deed ∷ D)
