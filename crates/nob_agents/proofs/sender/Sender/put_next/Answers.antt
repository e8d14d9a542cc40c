use Rattle.std.proofs.Common.{◌≡◌, ◌<◌, List, Some, length, ap, sym, subst, ◌∙◌}
use Rattle.std.specs.Prelude.{slice_get}
use Rattle.std.proofs.lemmas.Option.{slice_get-get_or}
use Rattle.nob_agents.specs.Ways.{Way}
use Rattle.nob_agents.proofs.Fed.{tied_after_putting}
use Rattle.nob_agents.proofs.sender.Sender.put_next.Goals as goal

pub invariant_of-self : goal.invariant_of-self
invariant_of-self g c =
    let ways : List Way = c.self.inside.ways.items in let at = c.in-Some.at in let old : Way = c.index_mut-way.result.now in
    let there : slice_get ways at ≡ Some old = slice_get-get_or ways at old (subst (λ (ws : List Way). at < length ws) c.as_slice.ensures.value c.in-Some.ensures) ∙ ap Some (sym c.index_mut-way.ensures.value) in
    tied_after_putting c.self.inside.handled c.self.inside.seat ways at old c.put_next.new.self there c.put_next.ensures.same.0 c.put_next.ensures.tied c.self.invariant
