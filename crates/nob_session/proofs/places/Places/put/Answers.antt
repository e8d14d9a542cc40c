use Rattle.std.proofs.Common.{Some, None, subst, sym, ap, ◌∙◌, ◌≡◌}
use Rattle.std.specs.List.{slice_get}
use Rattle.nob_session.proofs.Moving.{put_empty}
use Rattle.nob_session.specs.Keeping.{put_at}
use Rattle.nob_session.proofs.places.Places.put.Goals as goal

pub returns : goal.returns
returns c =
    put_empty c.args.at c.args.payload c.self.inside.ring.items (subst (λ ps. slice_get ps c.args.at ≡ Some None) (sym c.self.view_is) c.requires)
    ∙ ap (put_at c.args.at c.args.payload) c.self.view_is
