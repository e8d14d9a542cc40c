use Rattle.std.proofs.Common.{◌≡◌, drop}
use Rattle.std.specs.List.{list_any}
use Rattle.nob_check.specs.Books.{did_by}
use Rattle.nob_check.specs.Checks.{is_open_place_by}
use Rattle.nob_check.proofs.withdraws.is_any_open.Given as goal

-- one of all is if one of the others is
abbrev pub invariant-loop-place : goal.invariant-loop-place
invariant-loop-place l = list_any (is_open_place_by (did_by l.books) l.rep l.ledger) (drop l.place-index l.places) ≡ list_any (is_open_place_by (did_by l.books) l.rep l.ledger) l.places
