use Rattle.std.proofs.Common.{ap, refl, ◌∙◌}
use Rattle.nob_model_text.proofs.Read.{by_error, passed}
use Rattle.nob_chain.specs.Seals.{are_others, peers_text}
use Rattle.nob_chain.proofs.OneLine.{stops_peers}
use Rattle.nob_chain.proofs.seal_reading.seal_of.Goals as goal

pub returns-in_err-stamp-clause-only : goal.returns-in_err-stamp-clause-only
returns-in_err-stamp-clause-only c seal is spelt =
    passed _ c.from_residual.result c.in_err-stamp.field-0.0 c.from_residual.ensures.1 (by_error _ (c.in_err-stamp.ensures.only seal.stamp seal.live (peers_text seal.peers) is.stamp is.live (stops_peers seal.peers) spelt))

pub returns-in_err-peers-clause-only : goal.returns-in_err-peers-clause-only
returns-in_err-peers-clause-only c seal is spelt =
    let front = c.in_ok-stamp.ensures.only seal.stamp seal.live (peers_text seal.peers) is.stamp is.live (stops_peers seal.peers) spelt in
    passed _ c.from_residual-in_err-peers.result c.in_err-peers.field-0.0 c.from_residual-in_err-peers.ensures.1 (by_error _ (c.in_err-peers.ensures.only seal.peers is.peers front.2))

pub returns-then-not-are_due-clause-only : goal.returns-then-not-are_due-clause-only
returns-then-not-are_due-clause-only c seal is spelt =
    let front = c.in_ok-stamp.ensures.only seal.stamp seal.live (peers_text seal.peers) is.stamp is.live (stops_peers seal.peers) spelt in
    let peers = c.in_ok-peers.ensures.only seal.peers is.peers front.2 in
    let yes = c.are_due.ensures ∙ ap (λ ps. are_others c.args.own c.args.n 1 ps) (c.as_slice.ensures ∙ peers) ∙ is.due in
    let no = c.if-not-are_due.true in
    cc

pub returns-clause-only : goal.returns-clause-only
returns-clause-only c seal is spelt =
    let front = c.in_ok-stamp.ensures.only seal.stamp seal.live (peers_text seal.peers) is.stamp is.live (stops_peers seal.peers) spelt in
    let peers = c.in_ok-peers.ensures.only seal.peers is.peers front.2 in
    rw (front.0, front.1, peers) refl
