use Rattle.std.proofs.Common.{◌≡◌, List, MatchOption, subst, ◌∙◌}
use Rattle.nob_recall.specs.declared.dated.Dated.{Dated}
use Rattle.nob_recall.specs.declared.head.Upcoming.{Upcoming}
use Rattle.nob_recall.specs.Dues.{IsDue}
use Rattle.nob_recall.proofs.heads.Heads.due.Goals as goal

pub returns-clause-due : goal.returns-clause-due
returns-clause-due c =
    let same : c.as_slice.result.now ≡ c.args.self.now = c.as_slice.ensures.value ∙ c.self.view_is in
    subst (λ (heads : List Upcoming). MatchOption c.due_of.result ((dated : Dated) → IsDue heads dated → ⊥) (λ dated. IsDue heads dated.now)) same c.due_of.ensures
