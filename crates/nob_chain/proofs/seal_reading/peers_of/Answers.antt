use Rattle.std.proofs.Common.{◌≡◌, List, length, sym, subst, ◌∙◌}
use Rattle.std.specs.List.{AllByRecursion}
use Rattle.std.proofs.lemmas.List.{nil_from_length}
use Rattle.std.proofs.lemmas.Bool.Decides.{Decides-eqb}
use Rattle.nob_model_text.proofs.Read.{by_error, passed, not_empty}
use Rattle.nob_chain.specs.declared.seal.PeerSeal.{PeerSeal}
use Rattle.nob_chain.specs.Seals.{peers_text, IsPeerSeal}
use Rattle.nob_chain.proofs.ReadPeers.{FoundPeers, peers_next, peers_end, only_next, only_end, no_peer}
use Rattle.nob_chain.proofs.seal_reading.peers_of.Goals as goal

pub returns-in_err-rest-clause-only : goal.returns-in_err-rest-clause-only
returns-in_err-rest-clause-only c peers are spelt =
    let r = c.loop-left.invariant.1 peers are spelt in
    passed _ c.from_residual.result c.in_err-rest.field-0.0 c.from_residual.ensures.1
    (no_peer r.0 c.loop-left.left.now c.in_err-rest.field-0.0 (λ e. not_empty _ c.is_empty.result e c.is_empty.ensures c.loop-left-test.true) r.2 r.3 (λ p rest is stops text. by_error _ (c.in_err-rest.ensures.only p rest is stops text)))

pub loop-left-preserved : goal.loop-left-preserved
loop-left-preserved c =
    let left = c.loop-left.left.now in
    let after = c.in_ok-rest.rest.now in
    let done = c.loop-left.peers.items in
    let found = c.in_ok-rest.ensures.found in (
      subst (λ (ps : List PeerSeal). FoundPeers c.args.text.now ps after) (sym found.2) (peers_next c.args.text.now left after done found.0 found.1 found.3 c.loop-left.invariant.0),
      only_next c.args.text.now left after done _ (λ e. not_empty left c.is_empty.result e c.is_empty.ensures c.loop-left-test.true) c.in_ok-rest.ensures.only c.loop-left.invariant.1,
    )

pub returns-clause-found : goal.returns-clause-found
returns-clause-found c =
    let empty = nil_from_length c.loop-left.left.now ((Decides-eqb (length c.loop-left.left.now) 0).0 (sym c.is_empty.ensures ∙ c.loop-left-test.false)) in
    subst (λ (ps : List PeerSeal). AllByRecursion IsPeerSeal ps × (c.args.text.now ≡ peers_text ps)) (sym c.from_vec.ensures) (c.loop-left.invariant.0.0, peers_end c.args.text.now c.loop-left.left.now c.loop-left.peers.items empty c.loop-left.invariant.0)

pub returns-clause-only : goal.returns-clause-only
returns-clause-only c peers are spelt =
    let empty = nil_from_length c.loop-left.left.now ((Decides-eqb (length c.loop-left.left.now) 0).0 (sym c.is_empty.ensures ∙ c.loop-left-test.false)) in
    c.from_vec.ensures ∙ only_end c.args.text.now c.loop-left.left.now c.loop-left.peers.items empty c.loop-left.invariant.1 peers are spelt
