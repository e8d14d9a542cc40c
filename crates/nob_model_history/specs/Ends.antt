-- The calls that a space makes on its end of the session with each peer.
use Rattle.std.specs.Prelude.{ℕ, ◌+◌, Bool, true, false, ◌==◌, List, [], ◌∷◌, ◌++◌, length, map, filter, Option, Some, None, Result, Ok, Err, nat_le, if◌then◌else◌}
use Rattle.nob_ids.specs.declared.reason.Reason.{Reason}
use Rattle.nob_model_session.specs.Frame.{Frame}
use Rattle.nob_item.specs.Writing.{bytes_of}
use Rattle.nob_item.specs.declared.fault.ItemFault.{ItemFault}
use Rattle.nob_item.specs.declared.item.Item.{Item}
use Rattle.nob_item.specs.declared.item.Item.TheVariants as items
use Rattle.nob_model_session.specs.End.{handed}
use Rattle.nob_model_session.specs.declared.entry.Kind.{Kind}
use Rattle.nob_model_session.specs.declared.entry.Kind.TheVariants.{Limited, Note}
use Rattle.nob_model_session.specs.declared.entry.Ending.{Ending}
use Rattle.nob_model_session.specs.declared.entry.Arrived.TheVariants as arrived
use Rattle.nob_model_session.specs.declared.entry.EndEntry.{EndEntry}
use Rattle.nob_model_session.specs.declared.entry.EndEntry.TheVariants as ends
use Rattle.nob_model_types.specs.declared.deed.Deed.{Deed}
use Rattle.nob_model_types.specs.declared.deed.Deed.TheVariants.{Act, Transmit, Arrive, Tick, Closing, Open}
use Rattle.nob_model_types.specs.declared.deed.Cause.{Cause}
use Rattle.nob_model_types.specs.declared.deed.Cause.TheVariants as causes
use Rattle.nob_model_work.specs.declared.gifts.Gift.{Gift}
use Rattle.nob_model_history.specs.declared.history.History.{History}

-- how an item counts: a Call and a method's Reply are limited; a note, and the Reply of status 3, which the runtime makes itself, never is
abbrev pub kind_of : Item → Kind
kind_of (items.Call call target method value) = Limited
kind_of (items.Reply call status value) = if nat_le status 2 then Limited else Note
kind_of (items.Settle item) = Note
kind_of (items.Dirty index) = Note
kind_of (items.DirtyOk index) = Note
kind_of (items.DirtyNo index) = Note
kind_of (items.Clean index) = Note

-- the items among gifts that go to p
abbrev pub items_to : ℕ → List Gift → List Item
items_to p gifts = map (λ gift. gift.item) (filter (λ gift. gift.to == p) gifts)

-- the bytes of a spelling, none where there is none
abbrev pub bytes_if : Result (List ℕ) ItemFault → List ℕ
bytes_if (Ok bytes) = bytes
bytes_if (Err fault) = []

-- the payload that carries an item: its spelling
abbrev pub payload_of : Item → List ℕ
payload_of item = bytes_if (bytes_of item)

-- the calls once these items are sent too, each with the next number
abbrev pub with_sends : List Item → List EndEntry → List EndEntry
with_sends [] calls = calls
with_sends (item ∷ rest) calls = with_sends rest (ends.Send (payload_of item) (kind_of item) (Ok (length (handed calls) + 1)) ∷ calls)

-- the call that a closing by this cause is
abbrev pub call_of_closing : ℕ → Reason → Cause → EndEntry
call_of_closing p reason causes.Item = ends.Close reason (Ok (record { peer = p; reason = reason }))
call_of_closing p reason (causes.Frame frame) = ends.Arrive frame (Ok (arrived.Closed (record { peer = p; reason = reason })))
call_of_closing p reason causes.Ticks = ends.Tick (Ok (Some (record { peer = p; reason = reason })))
call_of_closing p reason causes.Asked = ends.Close reason (Ok (record { peer = p; reason = reason }))

-- the call that a deed itself is on the end with p, sends aside
abbrev pub own_calls : ℕ → Deed → List EndEntry → List EndEntry
own_calls p (Act q k) calls = if q == p then ends.Take ∷ calls else calls
own_calls p (Transmit q frames) calls = if q == p then ends.Transmit frames ∷ calls else calls
own_calls p (Arrive frame count) calls = if frame.from == p then ends.Arrive frame (Ok (arrived.Took count)) ∷ calls else calls
own_calls p (Tick q) calls = if q == p then ends.Tick (Ok None) ∷ calls else calls
own_calls p (Closing q reason cause) calls = if q == p then call_of_closing p reason cause ∷ calls else calls
own_calls p (Open q k) calls = if q == p then ends.Reopen k (Ok tt) ∷ calls else calls
own_calls p (_) calls = calls

-- the calls on the end with p by deeds and what they gave, the newest first: what a deed gives is sent before its item is taken
abbrev pub calls_of : ℕ → List Deed → List (List Gift) → List EndEntry
calls_of p [] G = []
calls_of p (deed ∷ D) [] = own_calls p deed (calls_of p D [])
calls_of p (deed ∷ D) (gifts ∷ G) = own_calls p deed (with_sends (items_to p gifts) (calls_of p D G))

-- the calls on the end with p in a history
abbrev pub calls_at : ℕ → History → List EndEntry
calls_at p h = calls_of p h.deeds h.all_gifts
