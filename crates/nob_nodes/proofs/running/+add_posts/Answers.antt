use Rattle.std.proofs.Common.{sym, ◌∙◌, vec_len}
use Rattle.std.proofs.lemmas.Bool.Decides.{Decides-eqb}
use Rattle.nob_nodes.proofs.running.+add_posts.Goals as goal

-- there are no players, and nothing is in front of them
pub returns-then-is_empty : goal.returns-then-is_empty
returns-then-is_empty g t c = rw (c.requires) (sym (sym c.args.players.ok.0 ∙ (Decides-eqb (vec_len c.args.players) 0).0 (sym c.is_empty.ensures ∙ c.if-is_empty.true)))
