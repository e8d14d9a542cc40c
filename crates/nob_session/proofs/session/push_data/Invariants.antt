use Rattle.std.proofs.Common.{◌≡◌, ◌++◌, ◌+◌, drop, take}
use Rattle.nob_model_session.specs.Right as right
use Rattle.nob_session.proofs.session.push_data.Given as goal

-- the frames so far and those for the places that are left are those from before and those for all places
abbrev pub invariant-loop-i : goal.invariant-loop-i
invariant-loop-i l = l.frames.items ++ right.data_frames l.me l.peer l.session l.ack (l.lowest + l.i) (drop l.i (take l.fn.places.end l.payloads.items)) ≡ l.initial.frames.items ++ right.data_frames l.me l.peer l.session l.ack (l.lowest + l.fn.places.start) (drop l.fn.places.start (take l.fn.places.end l.payloads.items))
