-- What is written is one of what may be.
use Rattle.std.proofs.Common.{◌≡◌, ℕ, List, [], ◌++◌, length, reverse, Err, refl, ap, sym, subst, ◌∙◌}
use Rattle.std.proofs.lemmas.List.{append-nil}
use Rattle.nob_model_types.specs.declared.entry.Entry.{Entry}
use Rattle.nob_model_journal.specs.declared.verdict.Verdict.TheVariants.{Yes}
use Rattle.nob_script_text.specs.Verdicts.{verdict_line}
use Rattle.nob_chain.specs.declared.chain.ChainParts.{ChainParts}
use Rattle.nob_chain.specs.declared.fault.ChainFault.{ChainFault}
use Rattle.nob_chain.specs.declared.fault.ChainError.{ChainError}
use Rattle.nob_chain.specs.declared.fault.ChainError.TheVariants as chain_errors
use Rattle.nob_chain.specs.Reading.{Explains}
use Rattle.nob_chain.specs.Inputs.{AreSpelt, IsWrongInput}
use Rattle.nob_chain.specs.Faults.{refusal_line}
use Rattle.nob_model_invariant.specs.Safe.{IsSafe}
use Rattle.nob_model_chains.specs.declared.fault.SetFault.{SetFault}
use Rattle.nob_model_chains.specs.declared.fault.SetError.{SetError}
use Rattle.nob_model_chains.specs.declared.fault.SetError.TheVariants as set_errors
use Rattle.nob_model_chains.specs.Faults.{IsChecked, AreAccepted}
use Rattle.nob_demo.specs.Checks.{Checks, merged_line, fault_line, last_line}
use Rattle.nob_demo.specs.declared.checking.CheckEnding.{CheckEnding}
use Rattle.nob_demo.specs.declared.checking.CheckEnding.TheVariants.{Accepted, Refused}

-- the line of accepted chains, and the verdict
pub accepted_written : (input : List ℕ) (chains : List ChainParts) (merged : List Entry) (line : List ℕ) → AreSpelt input chains → AreAccepted chains merged → IsSafe (length chains) (reverse merged) → line ≡ merged_line (length merged) → Checks input (line ++ last_line Accepted) Accepted
accepted_written input chains merged line spelt right safe is = Checks.accepted chains merged spelt right safe (ap (λ (text : List ℕ). text ++ verdict_line Yes) is) refl

-- the line of a fault
pub refused_written : (input : List ℕ) (chains : List ChainParts) (fault : SetFault) (line : List ℕ) → AreSpelt input chains → (error : SetError) → error ≡ set_errors.Fault fault → IsChecked (λ (merged : List Entry). merged) chains (Err error) → line ≡ fault_line fault → Checks input (line ++ last_line Refused) Refused
refused_written input chains fault line spelt error error_is wrong is = Checks.refused chains fault spelt (subst (λ (e : SetError). IsChecked (λ (merged : List Entry). merged) chains (Err e)) error_is wrong) (append-nil line ∙ is) refl

-- the line of what isn't chains
pub unread_written : (input : List ℕ) (fault : ChainFault) (line : List ℕ) (error : ChainError) → error ≡ chain_errors.Fault fault → Explains (IsWrongInput input) error → line ≡ refusal_line (chain_errors.Fault fault) → Checks input (line ++ last_line Refused) Refused
unread_written input fault line error error_is wrong is = Checks.unread fault (subst (Explains (IsWrongInput input)) error_is wrong) (append-nil line ∙ is) refl

-- behind an empty text a line is as it is alone
pub behind_nothing : (input line old new : List ℕ) (ending : CheckEnding) → old ≡ [] → new ≡ old ++ line → Checks input (line ++ last_line ending) ending → Checks input (new ++ last_line ending) ending
behind_nothing input line old new ending empty is checks = subst (λ (text : List ℕ). Checks input (text ++ last_line ending) ending) (sym (is ∙ ap (λ (text : List ℕ). text ++ line) empty)) checks
