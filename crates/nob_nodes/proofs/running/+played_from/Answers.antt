use Rattle.std.proofs.Common.{sym, ◌∙◌, vec_len}
use Rattle.std.proofs.lemmas.Bool.Decides.{Decides-eqb}
use Rattle.nob_nodes.proofs.running.+played_from.Goals as goal

-- there are no places, and nothing is in front of them
pub returns-then-is_empty-clause-all : goal.returns-then-is_empty-clause-all
returns-then-is_empty-clause-all g t c = rw (c.requires) (sym (sym c.args.posts.ok.0 ∙ (Decides-eqb (vec_len c.args.posts) 0).0 (sym c.is_empty.ensures ∙ c.if-is_empty.true)))
