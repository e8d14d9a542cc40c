-- The line that says of what was done which promise isn't kept.
use Rattle.std.specs.Prelude.{◌≡◌, ℕ, List, codes}
use Rattle.nob_model_types.specs.declared.entry.Entry.{Entry}
use Rattle.nob_model_journal.specs.declared.verdict.Promise.TheVariants as promises
use Rattle.nob_model_journal.specs.declared.verdict.Verdict.{Verdict}
use Rattle.nob_model_journal.specs.declared.verdict.Verdict.TheVariants.{Yes, No}
use Rattle.nob_model_journal.specs.Verdicts.{IsVerdict}

-- the line of a verdict
abbrev pub verdict_line : Verdict → List ℕ
verdict_line Yes = codes "verdict yes\n"
verdict_line (No promises.Fronts) = codes "verdict no fronts\n"
verdict_line (No promises.Withdraws) = codes "verdict no withdraws\n"
verdict_line (No promises.Losses) = codes "verdict no losses\n"
verdict_line (No promises.Found) = codes "verdict no found\n"

-- what is written is the line of a verdict on this journal of n spaces, the newest entry of which stands first
abbrev pub SaysVerdict : ℕ → List Entry → List ℕ → Type 0
SaysVerdict n J text = (verdict : Verdict) × IsVerdict n J verdict × (text ≡ verdict_line verdict)
