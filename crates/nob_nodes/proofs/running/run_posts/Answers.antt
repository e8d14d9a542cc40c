use Rattle.std.proofs.Common.{rules}
use mir.Syntax.{of_param}
use denote.Exit.{unseen}
use denote.Param.Send.{sendable, Quiet-if}
use Rattle.nob_nodes.proofs.running.run_posts.Goals as goal

-- whoever calls it gives what the threads ask for
pub scoped-requires : goal.scoped-requires
scoped-requires g c = record { at = λ a. ((record { owned = c.type_bounds.send-O.owned; leaving = λ k. Quiet-if (k (of_param 0)) unseen unseen (λ x w. tt) (λ x w. tt) }, record { owned = c.type_bounds.send-A.owned; leaving = λ k. Quiet-if (k (of_param 3)) unseen unseen (λ x w. tt) (λ x w. tt) }, search (rules, c.type_bounds.sync-R), search (rules, c.type_bounds.sync-G)), search (rules, sendable)) }
