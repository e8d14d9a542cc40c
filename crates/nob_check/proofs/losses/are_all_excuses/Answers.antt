use Rattle.std.proofs.Common.{◌≡◌, ◌∙◌, Bool, IfOk, ap, subst}
use Rattle.std.specs.List.{list_all}
use Rattle.nob_check.specs.Books.{did_by, sent_by}
use Rattle.nob_check.specs.Checks.{is_excuse_by}
use Rattle.nob_check.proofs.losses.are_all_excuses.Goals as goal

pub returns : goal.returns
returns c =
    subst (λ (all : Bool). IfOk c.are_excuses.result (λ answer. answer ≡ all))
    (ap (λ here. list_all (is_excuse_by (did_by c.args.books.now) (sent_by c.args.books.now) here.space c.args.rep.now) c.sources.result.now) c.here.ensures
    ∙ c.sources.ensures.all (is_excuse_by (did_by c.args.books.now) (sent_by c.args.books.now) c.args.past.now.here.space c.args.rep.now))
    c.are_excuses.ensures
