use Rattle.std.proofs.Common.{◌≡◌, drop}
use Rattle.std.specs.List.{list_all}
use Rattle.nob_check.specs.Books.{did_by, sent_by}
use Rattle.nob_check.specs.Checks.{is_excuse_by}
use Rattle.nob_check.proofs.losses.are_excuses.Given as goal

-- all are if the others are
abbrev pub invariant-loop-source : goal.invariant-loop-source
invariant-loop-source l = list_all (is_excuse_by (did_by l.books) (sent_by l.books) l.space l.rep) (drop l.source-index l.all) ≡ list_all (is_excuse_by (did_by l.books) (sent_by l.books) l.space l.rep) l.all
