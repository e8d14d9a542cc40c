-- What is written is what is to be written.
use Rattle.std.proofs.Common.{◌≡◌, ℕ, ◌+◌, ◌<◌, Bool, true, false, All, List, [], ◌∷◌, ◌++◌, length, take, get_or, reverse, Err, refl, ap, sym, subst, ◌∙◌, add-one}
use Rattle.std.specs.List.{flat_map}
use Rattle.std.proofs.Math.Seq.{take-suc}
use Rattle.std.proofs.lemmas.List.{flat_map_more}
use Rattle.std.proofs.lemmas.List.Elements.{All-get_or}
use Rattle.nob_model_types.specs.declared.entry.Entry.{Entry}
use Rattle.nob_model_invariant.specs.Safe.{IsSafe}
use Rattle.nob_chain.specs.declared.chain.ChainParts.{ChainParts}
use Rattle.nob_chain.specs.declared.fault.ChainFault.{ChainFault}
use Rattle.nob_chain.specs.declared.fault.ChainError.{ChainError}
use Rattle.nob_chain.specs.declared.fault.ChainError.TheVariants as chain_errors
use Rattle.nob_chain.specs.Chains.{chain_text}
use Rattle.nob_chain.specs.Writing.{IsWritable, Refuses}
use Rattle.nob_chain.specs.Faults.{refusal_line}
use Rattle.nob_model_chains.specs.declared.fault.SetFault.{SetFault}
use Rattle.nob_model_chains.specs.declared.fault.SetError.{SetError}
use Rattle.nob_model_chains.specs.declared.fault.SetError.TheVariants as set_errors
use Rattle.nob_model_chains.specs.Faults.{IsChecked, AreAccepted}
use Rattle.nob_demo_spaces.specs.Lines.{lines}
use Rattle.nob_demo_spaces.specs.Endings.{Counts, Judges, Prints, TellsChains}
use Rattle.nob_demo_spaces.specs.declared.score.Score.{Score}
use Rattle.nob_demo_spaces.specs.declared.ending.SceneEnding.{SceneEnding}
use Rattle.nob_demo_spaces.specs.declared.ending.SceneEnding.TheVariants.{Refused}

-- the text of one chain more
pub printed_more : (chains : List ChainParts) (i : ℕ) (item : ChainParts) (old bytes new : List ℕ) → i < length chains → item ≡ get_or chains i item → old ≡ flat_map chain_text (take i chains) → bytes ≡ chain_text item → new ≡ old ++ bytes → new ≡ flat_map chain_text (take (i + 1) chains)
printed_more chains i item old bytes new below is before said more =
    more
    ∙ ap (λ (text : List ℕ). text ++ bytes) before
    ∙ ap (λ (text : List ℕ). flat_map chain_text (take i chains) ++ text) said
    ∙ flat_map_more chain_text [] (take i chains) item
    ∙ ap (λ (xs : List ChainParts). flat_map chain_text xs) (sym one_more)
  where
    one_more : take (i + 1) chains ≡ take i chains ++ item ∷ []
    one_more = ap (λ (n : ℕ). take n chains) (add-one i) ∙ take-suc chains i item below ∙ ap (λ (x : ChainParts). take i chains ++ x ∷ []) (sym is)

-- what is so of all is so of this one
one_of : (P : ChainParts → Type 0) (chains : List ChainParts) (i : ℕ) (item : ChainParts) → i < length chains → item ≡ get_or chains i item → All P chains → P item
one_of P chains i item below is all = subst P (sym is) (All-get_or P chains i item below all)

-- the line of a chain that isn't written
not_printed : (chains : List ChainParts) (i : ℕ) (item : ChainParts) (fault : ChainFault) (text : List ℕ) → i < length chains → item ≡ get_or chains i item → Refuses (IsWritable item) (chain_errors.Fault fault) → text ≡ refusal_line (chain_errors.Fault fault) → Prints chains text Refused
not_printed chains i item fault text below is wrong said = Prints.unwritten (λ all. wrong.1 (one_of IsWritable chains i item below is all)) (said ∙ ap (λ (fault : ChainFault). refusal_line (chain_errors.Fault fault)) wrong.0) refl

-- the same of the error that was met
pub error_printed : (chains : List ChainParts) (i : ℕ) (item : ChainParts) (fault : ChainFault) (text : List ℕ) (error : ChainError) → i < length chains → item ≡ get_or chains i item → error ≡ chain_errors.Fault fault → Refuses (IsWritable item) error → text ≡ refusal_line (chain_errors.Fault fault) → Prints chains text Refused
error_printed chains i item fault text error below is error_is wrong said = not_printed chains i item fault text below is (subst (Refuses (IsWritable item)) error_is wrong) said

-- what is said of chains that are to be checked
judged : (prints : Bool) (score : Score) (chains : List ChainParts) (text : List ℕ) (ending : SceneEnding) → prints ≡ false → Judges score chains text ending → TellsChains prints score chains text ending
judged prints score chains text ending checks judges = subst (λ (prints : Bool). TellsChains prints score chains text ending) (sym checks) judges

-- what is said of accepted chains
pub accepted_told : (prints : Bool) (score : Score) (chains : List ChainParts) (merged : List Entry) (text : List ℕ) (ending : SceneEnding) → prints ≡ false → AreAccepted chains merged → IsSafe (length chains) (reverse merged) → Counts score merged text ending → TellsChains prints score chains text ending
accepted_told prints score chains merged text ending checks right safe counts = judged prints score chains text ending checks (Judges.accepted merged right safe counts)

-- the lines of refused chains
pub refused_told : (prints : Bool) (score : Score) (chains : List ChainParts) (fault : SetFault) (text : List ℕ) → prints ≡ false → (error : SetError) → error ≡ set_errors.Fault fault → IsChecked (λ (merged : List Entry). merged) chains (Err error) → text ≡ lines score false → TellsChains prints score chains text Refused
refused_told prints score chains fault text checks error error_is wrong is = judged prints score chains text Refused checks (Judges.refused fault (subst (λ (e : SetError). IsChecked (λ (merged : List Entry). merged) chains (Err e)) error_is wrong) is refl)
