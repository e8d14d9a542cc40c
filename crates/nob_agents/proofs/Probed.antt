-- What an agent that probes asks stays tied, where it asks one thing more.
use Rattle.std.proofs.Common.{◌≡◌, ℕ, zero, suc, List, [], ◌∷◌, Option, Some, None, Result, Ok, inl, inr, refl}
use Rattle.std.specs.Prelude.{slice_set}
use Rattle.std.specs.List.{AllByRecursion}
use Rattle.nob_model_types.specs.declared.event.Event.{Event}
use Rattle.nob_model_types.specs.declared.event.Event.TheVariants as events
use Rattle.nob_model_types.specs.declared.answer.Answer.{Answer}
use Rattle.nob_model_types.specs.declared.answer.Answer.TheVariants as answers
use Rattle.nob_model_types.specs.declared.refusal.Refusal.{Refusal}
use Rattle.nob_keeper.specs.Receipt.{Receipt}
use Rattle.nob_agents.specs.Probing.{IsProbe, IsProbing, IsUntaken, AreTied, called_by}

-- what a receipt tells of a probe holds of more receipts
more_of : (receipt : Receipt) (receipts : List Receipt) (one : Option ℕ) → IsUntaken receipts one → IsUntaken (receipt ∷ receipts) one
more_of receipt receipts None is = tt
more_of receipt receipts (Some call) is = inr is

more_untaken : (receipt : Receipt) (receipts : List Receipt) (untaken : List (Option ℕ)) → AllByRecursion (IsUntaken receipts) untaken → AllByRecursion (IsUntaken (receipt ∷ receipts)) untaken
more_untaken receipt receipts [] all = tt
more_untaken receipt receipts (one ∷ others) all = (more_of receipt receipts one all.0, more_untaken receipt receipts others all.1)

-- what holds of each holds where one is another of which it holds
set_one : {X : Type 0} (P : X → Type 0) (xs : List X) (at : ℕ) (x : X) → P x → AllByRecursion P xs → AllByRecursion P (slice_set xs at x)
set_one P [] at x is all = all
set_one P (y ∷ ys) zero x is all = (is, all.1)
set_one P (y ∷ ys) (suc at) x is all = (all.0, set_one P ys at x is all.1)

-- one thing more was asked, and what is untaken of one space is another
tied_after : (receipt : Receipt) (receipts : List Receipt) (untaken : List (Option ℕ)) (place : ℕ) (one : Option ℕ) → IsProbing receipts receipt.event → IsUntaken (receipt ∷ receipts) one → AreTied (record { receipts = receipts; untaken = untaken }) → AreTied (record { receipts = receipt ∷ receipts; untaken = slice_set untaken place one })
tied_after receipt receipts untaken place one asked is tied = ((asked, tied.0), set_one (IsUntaken (receipt ∷ receipts)) untaken place one is (more_untaken receipt receipts untaken tied.1))

-- what the receipt of a probe says was made is a probe
called_untaken : (receipt : Receipt) (receipts : List Receipt) (result : Result Answer Refusal) → receipt.result ≡ result → IsProbe receipt.event → IsUntaken (receipt ∷ receipts) (called_by result)
called_untaken receipt receipts (Ok (answers.Called call)) is probe = inl (probe, is)
called_untaken receipt receipts _ is probe = tt

-- a probe is what such an agent asks
probe_asked : (receipts : List Receipt) (event : Event) → IsProbe event → IsProbing receipts event
probe_asked receipts (events.Call target method value) probe = probe
probe_asked receipts _ probe = absurd probe.1

-- a peer was probed
pub tied_after_probing : (receipt : Receipt) (receipts : List Receipt) (untaken : List (Option ℕ)) (place : ℕ) → IsProbe receipt.event → AreTied (record { receipts = receipts; untaken = untaken }) → AreTied (record { receipts = receipt ∷ receipts; untaken = slice_set untaken place (called_by receipt.result) })
tied_after_probing receipt receipts untaken place probe tied = tied_after receipt receipts untaken place (called_by receipt.result) (probe_asked receipts receipt.event probe) (called_untaken receipt receipts receipt.result refl probe) tied
