use Rattle.std.proofs.Common.{◌≡◌, List, sym, subst}
use Rattle.nob_chain.specs.declared.segment.Segment.{Segment}
use Rattle.nob_kept.specs.declared.keep.Keep.TheVariants as keeps
use Rattle.nob_kept.specs.Accounts.{Account}
use Rattle.nob_kept.specs.Segments.{IsCut}
use Rattle.nob_kept.proofs.Trails.{all_kept, cut_there}
use Rattle.nob_kept.proofs.kept.Kept.segments.Goals as goal

pub returns-clause-cut : goal.returns-clause-cut
returns-clause-cut c =
    let inside = c.self.inside in
    let space = inside.space in
    let trail = inside.trail in
    let out = c.kept.ensures in
    subst (λ (a : Account). a.keep ≡ keeps.All → IsCut a.id a.n a.size a.entries c.as_slice.result.now c.kept.result.now) c.self.view_is
    (λ all. subst (λ (sealed : List Segment). IsCut space.id space.n trail.size trail.entries.items sealed c.kept.result.now) (sym c.as_slice.ensures.value)
    (cut_there space.id space.n trail.size trail.entries trail.sealed.items out.0 c.kept.result.now (all_kept trail.keep space.id space.n trail.size trail.entries trail.sealed.items all c.self.invariant.0.bytes) out.1 out.2))
