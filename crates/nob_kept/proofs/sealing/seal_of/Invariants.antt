use Rattle.std.proofs.Common.{◌≡◌, ◌≤◌, ◌<◌, ◌-◌, List, vec_len}
use Rattle.std.specs.Vec.{vec_capacity}
use Rattle.nob_model_types.specs.declared.entry.Entry.{Entry}
use Rattle.nob_model_history.specs.Histories.{history}
use Rattle.nob_space.specs.Spaces.{StandsFor}
use Rattle.nob_kept.specs.Segments as segments
use Rattle.nob_kept.proofs.sealing.seal_of.Given as goal

abbrev pub invariant-loop-number : goal.invariant-loop-number
invariant-loop-number l =
    ((L : List Entry) → StandsFor l.space L → l.peers.items ≡ segments.peers_among l.space.id l.space.n (history l.space.id l.space.n L) (segments.spaces_to (l.number - 1)))
    × ((vec_len l.peers < l.number) × (l.fn.n ≤ vec_capacity l.peers))
