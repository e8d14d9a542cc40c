use Rattle.std.proofs.Common.{◌≡◌, ◌≤◌, ℕ, List, sym, subst}
use Rattle.nob_model_types.specs.declared.entry.Entry.{Entry}
use Rattle.nob_model_types.specs.declared.here.Here.{Here}
use Rattle.nob_model_types.specs.Deeds.{deeds}
use Rattle.nob_space_state.specs.Births.{life_of}
use Rattle.nob_space_state.specs.Parts.{state_of}
use Rattle.nob_space_state.specs.Stands.{Stands}
use Rattle.nob_space.proofs.Beginning.{birth_reached}
use Rattle.nob_space.proofs.space.Space.begin_at.Goals as goal

pub invariant_of-result : goal.invariant_of-result
invariant_of-result c =
    let parts = c.in_ok-parts.parts in
    let clauses = c.in_ok-parts.ensures {u = tt} in
    subst (λ (here : Here). (here.n ≤ 32) × (L : List Entry) × Stands here.space here.n c.args.limits (state_of parts) (deeds L)) (sym clauses.here)
    (birth_reached c.args.id c.args.n c.args.limits (life_of c.args.birth.now) (state_of parts) c.requires c.args.limits.window_in_range.0 (c.in_ok-check.ensures {u = tt}).in_range
    (λ L born. subst (λ (here : Here). Stands here.space here.n c.args.limits (state_of parts) (deeds L)) clauses.here (clauses.stands L born)))
