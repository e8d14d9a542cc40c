-- A space, and so one with its trace, may go to another thread, and so may a seat, and what is left in the end.
use mathlib.Core.List.{[], ◌∷◌}
use denote.Param.Send.{IsSend, AllSend, sendable, recorded_send, struct_send, view_send}
use denote.Struct.Declared.{shape}
use denote.Struct.Field.{u64-field}
use denote.Struct.Struct.{Struct}
use Rattle.std.proofs.Crossing.{crosses, Vec-send}
use Rattle.std.specs.contracts.option.Option as Option
use Rattle.std.specs.contracts.result.Result as Result
use Rattle.nob_bytes.proofs.owned.Bytes.TheSendSync as bytes
use Rattle.nob_chain.proofs.seal.PeerSeals.TheSendSync as peer_seals
use Rattle.nob_chain.specs.contracts.chain.Chain as Chain
use Rattle.nob_chain.specs.contracts.chain.Chain.TheInside as ChainInside
use Rattle.nob_chain.specs.contracts.chain.ChainParts as ChainParts
use Rattle.nob_chain.specs.contracts.seal.Seal as Seal
use Rattle.nob_chain.specs.contracts.segment.Segment as Segment
use Rattle.nob_chain.specs.contracts.segment.Segments as Segments
use Rattle.nob_chain.specs.contracts.segment.Segments.TheInside as SegmentsInside
use Rattle.nob_dirty.proofs.sets.DirtySets.TheSendSync as dirty
use Rattle.nob_kept.specs.contracts.kept.Kept as Kept
use Rattle.nob_kept.specs.contracts.kept.Kept.TheInside as KeptInside
use Rattle.nob_kept.specs.contracts.receipt.Receipt as Receipt
use Rattle.nob_kept.specs.contracts.seat.Seat as Seat
use Rattle.nob_kept.specs.contracts.seat.Seat.TheInside as SeatInside
use Rattle.nob_model.specs.contracts.Message as Message
use Rattle.nob_model_session.proofs.entry.Frames.TheSendSync as frames
use Rattle.nob_model_types.specs.contracts.answer.Answer as Answer
use Rattle.nob_model_types.specs.contracts.event.Event as Event
use Rattle.nob_model_types.specs.contracts.refusal.Refusal as Refusal
use Rattle.nob_model_types.specs.contracts.message.RefCopy as RefCopy
use Rattle.nob_kept.specs.contracts.noted.Noted as Noted
use Rattle.nob_past.proofs.past.Past.TheLaws.TheKnot as past
use Rattle.nob_pickle.proofs.value.Values.TheLaws.TheKnot as values
use Rattle.nob_pins.proofs.table.PinTable.TheSendSync as pins
use Rattle.nob_session.proofs.session.Session.TheSendSync as session
use Rattle.nob_session.specs.contracts.session.Session as Session
use Rattle.nob_space.specs.contracts.space.Space as Space
use Rattle.nob_space.specs.contracts.space.Space.TheInside as SpaceInside
use Rattle.nob_slots.proofs.list.List.TheSendSync as lists
use Rattle.nob_slots.proofs.slots.Slots.TheSendSync as slots
use Rattle.nob_space_calls.proofs.firsts.Firsts.TheSendSync as firsts
use Rattle.nob_space_calls.proofs.rows.Rows.TheSendSync as rows
use Rattle.nob_space_calls.specs.contracts.calls.Calls as Calls
use Rattle.nob_space_calls.specs.contracts.calls.Calls.TheInside as CallsInside
use Rattle.nob_space_calls.specs.contracts.ready.Ready as Ready
use Rattle.nob_space_calls.specs.contracts.ready.Ready.TheInside as ReadyInside
use Rattle.nob_slots.proofs.numbers.Numbers.TheSendSync as space_numbers
use Rattle.nob_queues.proofs.queues.Queues.TheSendSync as queues
use Rattle.nob_space_messages.proofs.in_line.InLine.TheSendSync as in_line
use Rattle.nob_space_messages.proofs.lines.Lines.TheSendSync as lines
use Rattle.nob_space_messages.specs.contracts.entry.Entry as Entry
use Rattle.nob_space_messages.specs.contracts.messages.Messages as Messages
use Rattle.nob_space_messages.specs.contracts.messages.Messages.TheInside as MessagesInside
use Rattle.nob_space_messages.specs.contracts.ready.Ready as ReadyJobs
use Rattle.nob_space_messages.specs.contracts.waits.Waits as Waits
use Rattle.nob_space.specs.Parts as Parts
use Rattle.nob_table.proofs.table.ObjectTable.TheSendSync as table
use Rattle.nob_kept.specs.contracts.summary.PeerTally as PeerTally
use Rattle.nob_kept.specs.contracts.summary.Record as Record
use Rattle.nob_kept.specs.contracts.summary.Summary as Summary
use Rattle.nob_kept.specs.contracts.trail.Trail as Trail
use Rattle.nob_trace.specs.contracts.stamped.Stamped as Stamped
use Rattle.nob_trace.specs.contracts.trace.Entries as Entries
use Rattle.nob_trace.specs.contracts.trace.Entries.TheInside as EntriesInside

copy_send : IsSend RefCopy.the_row
copy_send = search sendable depth 30

message_fields_send : IsSend (Struct (shape Message.the_type))
message_fields_send =
    struct_send (shape Message.the_type)
    (search (crosses, sendable) depth 30, (search sendable depth 30, (search (crosses, sendable) depth 30, (search (bytes.the_send, crosses, values.crosses, sendable) depth 60 fits 20000, (lists.the_send RefCopy.the_row copy_send, tt)))))

message_send : IsSend Message.the_row
message_send = (let T = Message.the_type in recorded_send (Struct (shape T)) T.D T.to T.to_one message_fields_send)

entry_send : IsSend Entry.the_row
entry_send = (let T = Entry.the_type in recorded_send (Struct (shape T)) T.D T.to T.to_one (struct_send (shape T) (message_fields_send, (search sendable depth 30, tt))))

waits_send : IsSend (Struct (shape Waits.the_type))
waits_send =
    struct_send (shape Waits.the_type)
    (space_numbers.the_send, (lines.the_send, (search sendable depth 30, (search sendable, (search sendable, tt)))))

ready_jobs_send : IsSend (Struct (shape ReadyJobs.the_type))
ready_jobs_send =
    struct_send (shape ReadyJobs.the_type)
    (in_line.the_field_send, (space_numbers.the_send, (search sendable, (search sendable, tt))))

messages_inside_send : IsSend MessagesInside.the_row
messages_inside_send =
    let T = MessagesInside.the_type in
    recorded_send (Struct (shape T)) T.D T.to T.to_one (struct_send (shape T)
    (queues.the_send Entry.the_row entry_send, (waits_send, (ready_jobs_send, tt))))

messages_send : IsSend Messages.the_row
messages_send = view_send MessagesInside.the_row _ _ _ _ messages_inside_send

ready_inside_send : IsSend ReadyInside.the_row
ready_inside_send =
    let T = ReadyInside.the_type in
    recorded_send (Struct (shape T)) T.D T.to T.to_one (struct_send (shape T)
    (slots.the_send Message.the_row message_send, (firsts.the_send, (search sendable, (search sendable, tt)))))

ready_send : IsSend Ready.the_row
ready_send = view_send ReadyInside.the_row _ _ _ _ ready_inside_send

calls_inside_send : IsSend CallsInside.the_row
calls_inside_send =
    let T = CallsInside.the_type in
    recorded_send (Struct (shape T)) T.D T.to T.to_one (struct_send (shape T) (rows.the_send, (ready_send, tt)))

calls_send : IsSend Calls.the_row
calls_send = view_send CallsInside.the_row _ _ _ _ calls_inside_send

parts_send : IsSend (Struct (shape Parts.the_type))
parts_send =
    let sessions = Vec-send Session.the_row session.the_send in
    let numbers : AllSend (u64-field.row ∷ u64-field.row ∷ []) = search sendable in
    struct_send (shape Parts.the_type)
    (search sendable depth 30, (sessions, (table.the_send, (dirty.the_send, (pins.the_send, (messages_send, (calls_send, numbers)))))))

space_inside_send : IsSend SpaceInside.the_row
space_inside_send =
    let T = SpaceInside.the_type in
    recorded_send (Struct (shape T)) T.D T.to T.to_one (struct_send (shape T)
    (search sendable depth 30, (search sendable depth 30, (parts_send, tt))))

pub space_send : IsSend Space.the_row
space_send = view_send SpaceInside.the_row _ _ _ _ space_inside_send

event_send : IsSend (Event.the_field).row
event_send = search (bytes.the_send, crosses, values.crosses, sendable) depth 60 fits 20000

answer_send : IsSend Answer.the_row
answer_send = search (frames.the_send, bytes.the_send, crosses, values.crosses, sendable) depth 60 fits 20000

result_send : IsSend (Result.the_field Answer.the_row Refusal.the_row).row
result_send = search (answer_send, sendable) depth 60 fits 20000

stamped_fields_send : IsSend (Struct (shape Stamped.the_type))
stamped_fields_send = struct_send (shape Stamped.the_type) (search sendable, (event_send, (result_send, tt)))

stamped_send : IsSend Stamped.the_row
stamped_send = (let T = Stamped.the_type in recorded_send (Struct (shape T)) T.D T.to T.to_one stamped_fields_send)

noted_send : IsSend Noted.the_row
noted_send =
    let T = Noted.the_type in
    recorded_send (Struct (shape T)) T.D T.to T.to_one (struct_send (shape T) (search sendable, (stamped_fields_send, tt)))

entries_inside_send : IsSend EntriesInside.the_row
entries_inside_send =
    let T = EntriesInside.the_type in
    recorded_send (Struct (shape T)) T.D T.to T.to_one (struct_send (shape T) (Vec-send Stamped.the_row stamped_send, tt))

entries_send : IsSend Entries.the_row
entries_send = view_send EntriesInside.the_row _ _ _ _ entries_inside_send

seal_send : IsSend Seal.the_row
seal_send =
    let T = Seal.the_type in
    recorded_send (Struct (shape T)) T.D T.to T.to_one (struct_send (shape T) (search sendable, (search sendable, (peer_seals.the_send, tt))))

maybe_seal_send : IsSend (Option.the_field Seal.the_row).row
maybe_seal_send = search (seal_send, sendable) depth 60 fits 20000

segment_send : IsSend Segment.the_row
segment_send =
    let T = Segment.the_type in
    recorded_send (Struct (shape T)) T.D T.to T.to_one (struct_send (shape T) (entries_send, (maybe_seal_send, tt)))

trail_fields_send : IsSend (Struct (shape Trail.the_type))
trail_fields_send =
    struct_send (shape Trail.the_type) (
      search sendable depth 30,
      (
        search sendable depth 30,
        (
          search sendable,
          (
            search (stamped_send, past.crosses, crosses, sendable) depth 60,
            (Vec-send Segment.the_row segment_send, (search sendable, tt)),
          ),
        ),
      ),
    )

kept_inside_send : IsSend KeptInside.the_row
kept_inside_send =
    let T = KeptInside.the_type in
    recorded_send (Struct (shape T)) T.D T.to T.to_one (struct_send (shape T) (space_send, (trail_fields_send, (Vec-send Noted.the_row noted_send, tt))))

pub kept_send : IsSend Kept.the_row
kept_send = view_send KeptInside.the_row _ _ _ _ kept_inside_send

receipt_send : IsSend Receipt.the_row
receipt_send =
    let T = Receipt.the_type in
    recorded_send (Struct (shape T)) T.D T.to T.to_one (struct_send (shape T)
    (search sendable, (search sendable, (event_send, (result_send, tt)))))

seat_inside_send : IsSend SeatInside.the_row
seat_inside_send =
    let T = SeatInside.the_type in
    recorded_send (Struct (shape T)) T.D T.to T.to_one (struct_send (shape T) (search (receipt_send, past.crosses, crosses, sendable) depth 60, (search sendable, tt)))

pub seat_send : IsSend Seat.the_row
seat_send = view_send SeatInside.the_row _ _ _ _ seat_inside_send

segments_inside_send : IsSend SegmentsInside.the_row
segments_inside_send =
    let T = SegmentsInside.the_type in
    recorded_send (Struct (shape T)) T.D T.to T.to_one (struct_send (shape T) (Vec-send Segment.the_row segment_send, tt))

segments_send : IsSend Segments.the_row
segments_send = view_send SegmentsInside.the_row _ _ _ _ segments_inside_send

chain_parts_fields_send : IsSend (Struct (shape ChainParts.the_type))
chain_parts_fields_send =
    struct_send (shape ChainParts.the_type) (search sendable depth 30, (search sendable depth 30, (search (crosses, sendable) depth 60, (segments_send, tt))))

chain_inside_send : IsSend ChainInside.the_row
chain_inside_send =
    let T = ChainInside.the_type in
    recorded_send (Struct (shape T)) T.D T.to T.to_one (struct_send (shape T) (chain_parts_fields_send, tt))

chain_send : IsSend Chain.the_row
chain_send = view_send ChainInside.the_row _ _ _ _ chain_inside_send

peer_tally_send : IsSend PeerTally.the_row
peer_tally_send = search (crosses, sendable) depth 60 fits 20000

summary_send : IsSend (Summary.the_field).row
summary_send =
    let number : IsSend u64-field.row = search sendable in
    struct_send (shape Summary.the_type)
    (search sendable depth 30, (search sendable depth 30, (number, (number, (number, (lists.the_send PeerTally.the_row peer_tally_send, tt))))))

-- what a keeper leaves may go to another thread
pub record_send : IsSend (Record.the_field).row
record_send = search (chain_send, summary_send, crosses, sendable) depth 60 fits 20000
