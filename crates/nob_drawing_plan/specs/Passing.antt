-- The bars of a journal in one pass, the first entry first: each space has a ledger, in which an entry looks up what it
-- touches. The newest entry of a journal stands FIRST.
use Rattle.std.specs.Prelude.{◌≡◌, ℕ, Bool, true, ◌&&◌, ◌==◌, List, [], ◌∷◌, Option, Some, None, if◌then◌else◌}
use Rattle.nob_model_types.specs.declared.entry.Entry.{Entry}
use Rattle.nob_model_types.specs.Deeds.{deed_in}
use Rattle.nob_model_types.specs.declared.deed.Deed.{Deed}
use Rattle.nob_model_types.specs.declared.deed.Deed.TheVariants.{Export}
use Rattle.nob_model_journal.specs.Journals.{deeds_at}
use Rattle.nob_check_ledgers.specs.Ledgers.{ledger_of, ledger_after}
use Rattle.nob_check_ledgers.specs.declared.ledger.Ledger.{Ledger}
use Rattle.nob_drawing_plan.specs.declared.bar.Bar.{Bar}
use Rattle.nob_drawing_plan.specs.Steps.{bars_by_deed}

-- whether a deed exports nothing under another space's name
abbrev pub exports_own : ℕ → Option Deed → Bool
exports_own s (Some (Export rep)) = rep.owner == s
exports_own s _ = true

-- whether each space of a journal exported its own objects alone, as in all runs
abbrev pub are_own : List Entry → Bool
are_own [] = true
are_own (entry ∷ J) = exports_own entry.space (deed_in entry) && are_own J

-- the ledger of space s among n, an empty one where there is none
abbrev pub ledger_in : (n s : ℕ) → List Ledger → Ledger
ledger_in n s [] = ledger_of s n []
ledger_in n s (ledger ∷ ledgers) = if ledger.index.here.space == s then ledger else ledger_in n s ledgers

-- the ledgers without the first of space s
abbrev pub without : ℕ → List Ledger → List Ledger
without s [] = []
without s (ledger ∷ ledgers) = if ledger.index.here.space == s then ledgers else ledger ∷ without s ledgers

-- the ledgers after what space s did
abbrev pub ledgers_after : (n s : ℕ) → Option Deed → List Ledger → List Ledger
ledgers_after n s None ledgers = ledgers
ledgers_after n s (Some deed) ledgers = ledger_after deed (ledger_in n s ledgers) ∷ without s ledgers

-- the bars after what space s did at a row
abbrev pub bars_after_did : (n s row : ℕ) → Option Deed → List Ledger → List Bar → List Bar
bars_after_did n s row None ledgers bars = bars
bars_after_did n s row (Some deed) ledgers bars = bars_by_deed row deed (ledger_in n s ledgers) bars

-- the ledgers are those of a journal of n spaces: each that is looked for tells what its space did
abbrev pub Stand : ℕ → List Entry → List Ledger → Type 0
Stand n J ledgers = (s : ℕ) → ledger_in n s ledgers ≡ ledger_of s n (deeds_at s J)
