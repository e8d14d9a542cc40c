use Rattle.std.proofs.Common.{◌≤◌, ◌-◌, length}
use Rattle.nob_demo_spaces.proofs.player.players_of.Given as goal

-- there are no more players than spaces
abbrev pub invariant-loop-scene : goal.invariant-loop-scene
invariant-loop-scene l = length l.players.items ≤ l.fn.scene.spaces

abbrev pub decreases-loop-scene : goal.decreases-loop-scene
decreases-loop-scene l = l.fn.scene.spaces - length l.players.items
