use Rattle.std.proofs.Common.{◌≡◌, ◌==◌, ℕ, List, length, filter, sym, ap, ◌∙◌}
use Rattle.nob_ids.specs.declared.wire_rep.WireRep.{WireRep}
use Rattle.nob_table_rows.proofs.Made.{reps_each}
use Rattle.nob_table.proofs.Marks.{surrogate_of}
use Rattle.nob_table.proofs.surrogates.Surrogates.count_of.Goals as goal

pub returns : goal.returns
returns c = rw (← c.self.view_is) (c.count_of.ensures ∙ ap (λ (reps : List WireRep). length (filter (λ rep. rep.owner == c.args.owner) reps)) (sym (reps_each surrogate_of c.self.inside.rows.rows)))
