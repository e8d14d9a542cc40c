-- A keeper may be shared among threads, and a seat and what is left of a keeper may go to another.
use denote.Param.Send.{IsSend, IsSync, sendable, recorded_send, recorded_sync, struct_send, struct_sync}
use denote.Struct.Declared.{shape}
use denote.Struct.Struct.{Struct}
use Rattle.std.proofs.Crossing.{crosses, Vec-sync}
use Rattle.std.specs.contracts.sync.Condvar as Condvar
use Rattle.nob_kept.proofs.Crossing.{kept_send}
use Rattle.nob_kept.proofs.Crossing as kept
use Rattle.nob_kept.specs.contracts.seat.Seat as Seat
use Rattle.nob_kept.specs.contracts.summary.Record as Record
use Rattle.nob_keeper.specs.contracts.held.Held as Held
use Rattle.nob_keeper.specs.contracts.keeper.Keeper as Keeper

held_send : IsSend Held.the_row
held_send =
    let T = Held.the_type in
    recorded_send (Struct (shape T)) T.D T.to T.to_one (struct_send (shape T)
    (kept_send, (search (crosses, sendable) depth 60, tt)))

condvar_sync : IsSync Condvar.the_row
condvar_sync = search (crosses, sendable) depth 60 fits 20000

condvar_field_sync : IsSync (Condvar.the_field).row
condvar_field_sync = search (crosses, sendable) depth 60 fits 20000

-- a keeper in a field of another struct
pub keeper_field_sync : IsSync (Keeper.the_field).row
keeper_field_sync =
    let one = condvar_field_sync in
    struct_sync (shape Keeper.the_type) (
      search (crosses, sendable) depth 60,
      (search sendable depth 30, (search (crosses, sendable) depth 60, (search (held_send, crosses, sendable) depth 60, (one, (Vec-sync Condvar.the_row condvar_sync, tt))))),
    )

pub keeper_sync : IsSync Keeper.the_row
keeper_sync = (let T = Keeper.the_type in recorded_sync (Struct (shape T)) T.D T.to T.to_one keeper_field_sync)

pub seat_send : IsSend Seat.the_row
seat_send = kept.seat_send

-- what a keeper leaves may go to another thread
pub record_send : IsSend (Record.the_field).row
record_send = kept.record_send
