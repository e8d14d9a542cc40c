-- The threads of a node may share what transmits, what collects, what comes over the links, and how it starts.
use mathlib.Core.List.{[], ◌∷◌}
use denote.Param.Send.{IsSend, IsSync, sendable, recorded_send, struct_send, struct_sync}
use denote.Struct.Declared.{shape}
use denote.Struct.Struct.{Struct}
use Rattle.std.proofs.Crossing.{crosses, Vec-send}
use Rattle.std.specs.contracts.sync.Condvar as Condvar
use Rattle.nob_agents.proofs.Crossing.{taker_send, way_send, sender_send, carer_send}
use Rattle.nob_agents.specs.contracts.parcels.PutEndPutParcel.TheImpl.{ghosts}
use Rattle.nob_agents.specs.contracts.taker.Taker as Taker
use Rattle.nob_agents.specs.contracts.way.Way as Way
use Rattle.nob_agents.specs.declared.parcels.TakeParcel as TakeParcel
use Rattle.nob_agents.proofs.Crossing.{seat_send}
pub use Rattle.nob_agents.proofs.Crossing.{prober_send}
use Rattle.nob_link.proofs.ends.PutEnd.TheSendSync as put_end
use Rattle.nob_link.proofs.ends.TakeEnd.TheSendSync as take_end
use Rattle.nob_link.specs.contracts.ends.PutEnd as PutEnd
use Rattle.nob_link.specs.contracts.ends.TakeEnd as TakeEnd
use Rattle.nob_node_parts.specs.contracts.collecting.Collecting as Collecting
use Rattle.nob_node_parts.specs.contracts.failure.Failure as Failure
use Rattle.nob_node_parts.specs.contracts.idlers.Idlers as Idlers
use Rattle.nob_node_parts.specs.contracts.inbox.Inbox as Inbox
use Rattle.nob_node_parts.specs.contracts.inboxes.Inboxes as Inboxes
use Rattle.nob_node_parts.specs.contracts.outbox.Outbox as Outbox
use Rattle.nob_node_parts.specs.contracts.replies.Replies as Replies
use Rattle.nob_node_parts.specs.contracts.start.Start as Start
use Rattle.nob_node_parts.specs.contracts.transmitting.Transmitting as Transmitting

ways_send : IsSend (Way.the_row PutEnd.the_row ghosts)
ways_send = way_send PutEnd.the_row ghosts put_end.the_send

outbox_field_send : IsSend (Outbox.the_field).row
outbox_field_send =
    let sender = sender_send PutEnd.the_row ghosts put_end.the_send in
    struct_send (shape Outbox.the_type)
    (search (sender, sendable) depth 30, (search (seat_send, sendable) depth 30, (Vec-send (Way.the_row PutEnd.the_row ghosts) ways_send, (search sendable, tt))))

taker_of_node_send : (k : TakeParcel.Ghosts (TakeEnd.the_row).Denot) → IsSend (Taker.the_row TakeEnd.the_row k)
taker_of_node_send k = taker_send TakeEnd.the_row k take_end.the_send

inbox_send : IsSend Inbox.the_row
inbox_send =
    let T = Inbox.the_type in
    recorded_send (Struct (shape T)) T.D T.to T.to_one (struct_send (shape T)
    (search (taker_of_node_send, crosses, sendable) depth 60 fits 20000, tt))

pub condvar_sync : IsSync (Condvar.the_field).row
condvar_sync = search (crosses, sendable) depth 60 fits 20000

pub start_sync : IsSync (Start.the_field).row
start_sync = struct_sync (shape Start.the_type) (search (crosses, sendable) depth 60 fits 20000, (condvar_sync, tt))

pub failure_sync : IsSync (Failure.the_field).row
failure_sync = search (crosses, sendable) depth 60 fits 20000

pub replies_sync : IsSync (Replies.the_field).row
replies_sync = search (crosses, sendable) depth 60 fits 20000

pub idlers_sync : IsSync (Idlers.the_field).row
idlers_sync = search (crosses, sendable) depth 60 fits 20000

pub transmitting_sync : IsSync (Transmitting.the_field).row
transmitting_sync =
    struct_sync (shape Transmitting.the_type)
    (search (outbox_field_send, crosses, sendable) depth 60 fits 20000, (search (crosses, sendable) depth 60 fits 20000, (search (crosses, sendable) depth 60 fits 20000, (search (crosses, sendable) depth 60 fits 20000, (search (crosses, sendable) depth 60 fits 20000, (search (crosses, sendable) depth 60 fits 20000, tt))))))

pub collecting_sync : IsSync (Collecting.the_field).row
collecting_sync = struct_sync (shape Collecting.the_type) (search (carer_send, crosses, sendable) depth 60 fits 20000, (search (crosses, sendable) depth 60 fits 20000, tt))

pub inboxes_sync : IsSync (Inboxes.the_field).row
inboxes_sync = struct_sync (shape Inboxes.the_type) (search (inbox_send, crosses, sendable) depth 60 fits 20000, (search (crosses, sendable) depth 60 fits 20000, (search (crosses, sendable) depth 60 fits 20000, (search (crosses, sendable) depth 60 fits 20000, tt))))
