use Rattle.std.proofs.Common.{rules, ◌≡◌, ◌==◌, ◌∷◌, Bool, List, length, sym, ap, ◌∙◌}
use Rattle.nob_model_types.specs.declared.here.Here.{Here}
use Rattle.nob_check_ledgers.specs.declared.ledger.Ledger.{Ledger}
use Rattle.nob_check.proofs.Loaning.{rest_lent, first_lent, first_moved}
use Rattle.nob_check.proofs.books.+ledgers_after.Goals as goal

pub ledgers_after-requires : goal.ledgers_after-requires
ledgers_after-requires t c = (search rules, rest_lent c.args.ledgers.items c.remove-first.new.self.items c.remove-first.ensures.items c.requires.lent)

pub with_deed-requires : goal.with_deed-requires
with_deed-requires t c = record { lent = first_lent c.args.ledgers.items c.remove-first.result c.is_empty.result c.if-is_empty.false (c.is_empty.ensures ∙ ap (λ (xs : List Ledger). length xs == 0) c.as_slice.ensures.value) c.remove-first.ensures.value c.requires.lent }

pub returns-then-eq : goal.returns-then-eq
returns-then-eq t c =
    c.in_ok-insert.ensures.items
    ∙ first_moved c.args.space c.args.deed c.args.ledgers.items c.remove-first.new.self.items c.remove-first.result c.in_ok-after.after c.is_empty.result c.if-is_empty.false
    (c.is_empty.ensures ∙ ap (λ (xs : List Ledger). length xs == 0) c.as_slice.ensures.value) c.remove-first.ensures.value
    (ap (λ (here : Here). here.space == c.args.space) (sym c.here.ensures) ∙ sym c.eq.ensures ∙ c.if-eq.true) c.in_ok-after.ensures.step c.remove-first.ensures.items
