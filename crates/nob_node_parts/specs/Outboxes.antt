-- What transmits for a node: a Sender, and once no more is transmitted its seat and its ways.
use Rattle.std.specs.Prelude.{List, Option, Some, None}
use Rattle.nob_agents.specs.Ways.{Way}
use Rattle.nob_agents.specs.Sending.{Sending}
use Rattle.nob_agents.specs.Receipt.{Receipt}
use Rattle.nob_node_parts.specs.declared.outbox.Outbox.{Outbox}

-- the receipts of a Sender, or else those that are left of one
abbrev pub receipts_of : Option Sending → Option (List Receipt) → Option (List Receipt)
receipts_of None left = left
receipts_of (Some sender) left = Some sender.receipts

-- the ways of a Sender, or else those that are left of one
abbrev pub ways_of : Option Sending → List Way → List Way
ways_of None left = left
ways_of (Some sender) left = sender.ways

-- the seat by which something transmits or transmitted, as its receipts
abbrev pub seat_in : Outbox → Option (List Receipt)
seat_in outbox = receipts_of outbox.sender outbox.seat

-- the ways that aren't ended
abbrev pub ways_in : Outbox → List Way
ways_in outbox = ways_of outbox.sender outbox.ways.items
