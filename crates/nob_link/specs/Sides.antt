-- What the two ends of a link keep.
use Rattle.std.specs.Prelude.{◌≡◌, ◌≤◌, true}
use Rattle.crossbeam_channel.specs.Claims.{IsSeatAt}
use Rattle.crossbeam_channel.specs.Ends.{sends_on, receives_on, ruled_capacity}
use Rattle.nob_link.specs.declared.ends.PutEnd.TheInside.{Inside as PutInside}
use Rattle.nob_link.specs.declared.ends.TakeEnd.TheInside.{Inside as TakeInside}
use Rattle.nob_link.specs.Ends.{Putting, Taking, link_of, known_by}

-- the end that puts, as contracts see it
abbrev pub putting_of : PutInside → Putting
putting_of end = record { link = link_of end.pass; capacity = ruled_capacity (sends_on end.sender); put = (known_by end.pass).put; gone = end.has_heard_gone }

-- the end that takes, as contracts see it
abbrev pub taking_of : TakeInside → Taking
taking_of end = record { link = link_of end.pass; taken = (known_by end.pass).taken }

-- the pass is one of the channel's, and may put; the channel is none of more than 1,024 parcels
abbrev pub IsPutEnd : PutInside → Type 0
IsPutEnd end = IsSeatAt (sends_on end.sender) end.pass × ((known_by end.pass).puts ≡ true) × (ruled_capacity (sends_on end.sender) ≤ 1024)

-- the pass is one of the channel's, and may take
abbrev pub IsTakeEnd : TakeInside → Type 0
IsTakeEnd end = IsSeatAt (receives_on end.receiver) end.pass × ((known_by end.pass).takes ≡ true)
