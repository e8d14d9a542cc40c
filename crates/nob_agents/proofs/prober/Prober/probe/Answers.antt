use Rattle.std.proofs.Common.{◌≡◌, ◌∷◌, ℕ, List, Option, ap, sym, subst, ◌∙◌}
use Rattle.std.specs.Prelude.{slice_set}
use Rattle.nob_model_types.specs.declared.event.Event.{Event}
use Rattle.nob_keeper.specs.Receipt.{Receipt}
use Rattle.nob_keeper.specs.Seats.{newest}
use Rattle.nob_agents.specs.Probing.{AreTied, IsProbe, called_by, called_in}
use Rattle.nob_agents.proofs.Probed.{tied_after_probing}
use Rattle.nob_agents.proofs.prober.Prober.probe.Goals as goal

pub invariant_of-self-2 : goal.invariant_of-self-2
invariant_of-self-2 g c =
    let adds = c.in_ok-call.ensures.adds in let old : List Receipt = c.self.inside.seat in
    let untaken : List (Option ℕ) = c.self.inside.untaken in let place : ℕ = c.place-place.result in
    let probe : IsProbe adds.0.event = subst (λ (event : Event). IsProbe event) (sym adds.2) (c.args.peer, c.in-Some.ensures.1) in
    let called : c.called_in-called.result ≡ called_by adds.0.result = c.called_in-called.ensures ∙ ap (λ (receipts : List Receipt). called_in (newest receipts)) adds.1 in
    let tied : AreTied (record { receipts = adds.0 ∷ old; untaken = slice_set untaken place c.called_in-called.result }) = subst (λ (one : Option ℕ). AreTied (record { receipts = adds.0 ∷ old; untaken = slice_set untaken place one })) (sym called) (tied_after_probing adds.0 old untaken place probe c.self.invariant) in
    subst (λ (receipts : List Receipt). AreTied (record { receipts = receipts; untaken = slice_set untaken place c.called_in-called.result })) (sym adds.1) tied
