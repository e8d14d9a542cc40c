use Rattle.std.proofs.Common.{◌≡◌, ◌==◌, ◌∷◌, ℕ, List, Some, ap, sym, subst, ◌∙◌}
use Rattle.std.specs.Prelude.{position, slice_get}
use Rattle.nob_agents.specs.Ways.{Way, IsTied}
use Rattle.nob_agents.proofs.Fed.{fed_one, apart_one, leads_alike, one_leads, one_of}
use Rattle.nob_agents.proofs.passing.pass_on.Goals as goal

pub returns-in-Ok-clause-fed : goal.returns-in-Ok-clause-fed
returns-in-Ok-clause-fed g c f apart all =
    let ways : List Way = c.args.ways.now.items in let at = c.in-Some.at in let old : Way = c.index_mut-way.result.now in let new : Way = c.pass.new.self in
    let found : position (λ (way : Way). way.peer == c.args.peer) ways ≡ Some at = ap (position (λ (way : Way). way.peer == c.args.peer)) (sym c.as_slice.ensures.value) ∙ sym c.place_of.ensures ∙ c.in-Some.is in
    let lead = one_leads c.args.peer ways at old found in
    let there : slice_get ways at ≡ Some old = lead.0 ∙ ap Some (sym c.index_mut-way.ensures.value) in
    let to : old.peer ≡ c.args.peer = ap (λ (w : Way). w.peer) c.index_mut-way.ensures.value ∙ lead.1 in
    let same : new.peer ≡ old.peer = c.pass.ensures.same.0 in
    let mine : IsTied (f old.peer) old = one_of (λ w. IsTied (f w.peer) w) ways at old there all in
    let tied : IsTied (c.args.parcel ∷ f new.peer) new = subst (λ (p : ℕ). IsTied (c.args.parcel ∷ f p) new) (sym same) (c.in-Ok.ensures.tied (f old.peer) mine) in
    λ _. (fed_one f c.args.peer c.args.parcel ways at old new there to same apart all tied, apart_one ways at old new there same apart)

pub returns-in-Ok-clause-leads : goal.returns-in-Ok-clause-leads
returns-in-Ok-clause-leads g c =
    let ways : List Way = c.args.ways.now.items in let at = c.in-Some.at in let old : Way = c.index_mut-way.result.now in let new : Way = c.pass.new.self in
    let found : position (λ (way : Way). way.peer == c.args.peer) ways ≡ Some at = ap (position (λ (way : Way). way.peer == c.args.peer)) (sym c.as_slice.ensures.value) ∙ sym c.place_of.ensures ∙ c.in-Some.is in
    let there : slice_get ways at ≡ Some old = (one_leads c.args.peer ways at old found).0 ∙ ap Some (sym c.index_mut-way.ensures.value) in
    λ _. leads_alike ways at old new there c.pass.ensures.same.0
