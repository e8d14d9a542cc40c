-- Which sessions have closed here, their numbers, and which items came from each peer. A session that opens anew begins
-- with nothing: each word about the session with a peer is read since the last Open of it.
use Rattle.std.specs.Prelude.{ℕ, ◌+◌, Bool, false, ◌&&◌, ◌||◌, not, ◌==◌, nat_le, List, [], ◌∷◌, ◌++◌, Option, Some, None, Result, Ok, Err, option_and_then, if◌then◌else◌}
use Rattle.std.specs.Option.{option_or}
use Rattle.nob_model_session.specs.Frame.{Frame}
use Rattle.nob_item.specs.Reading.{item_read}
use Rattle.nob_item.specs.declared.item.Item.{Item}
use Rattle.nob_item.specs.declared.fault.ItemFault.{ItemFault}
use Rattle.nob_model_session.specs.End.{brings_at}
use Rattle.nob_model_types.specs.declared.deed.Deed.{Deed}
use Rattle.nob_model_types.specs.declared.deed.Deed.TheVariants.{Act, Arrive, Closing, Open}

-- the peers of space s are all other spaces from 1 to n
abbrev pub is_peer : (s n p : ℕ) → Bool
is_peer s n p = not (p == s) && nat_le 1 p && nat_le p n

-- whether the session with p has closed here, and wasn't opened anew
abbrev pub closed : ℕ → List Deed → Bool
closed p [] = false
closed p (Open q k ∷ D) = if q == p then false else closed p D
closed p (Closing q reason cause ∷ D) = q == p || closed p D
closed p (_ ∷ D) = closed p D

-- the number of the session with p: 1 until one opened anew
abbrev pub number : ℕ → List Deed → ℕ
number p [] = 1
number p (Open q k ∷ D) = if q == p then k else number p D
number p (_ ∷ D) = number p D

-- whether a frame is from p, and of the session with p
abbrev pub is_from : ℕ → Frame → List Deed → Bool
is_from p frame D = frame.from == p && frame.session == number p D

-- how many items from p were accepted: the sum of what arrivals of frames of the session with p took
abbrev pub accepted_from : ℕ → List Deed → ℕ
accepted_from p [] = 0
accepted_from p (Open q k ∷ D) = if q == p then 0 else accepted_from p D
accepted_from p (Arrive frame count ∷ D) = if is_from p frame D then count + accepted_from p D else accepted_from p D
accepted_from p (_ ∷ D) = accepted_from p D

-- the payload of item n from p: that of the first Data frame of the session with p and of this number that arrived while the number was in reach
abbrev pub payload_at : (p n : ℕ) → List Deed → Option (List ℕ)
payload_at p n [] = None
payload_at p n (Open q k ∷ D) = if q == p then None else payload_at p n D
payload_at p n (Arrive frame count ∷ D) = option_or (payload_at p n D) (if is_from p frame D && brings_at n frame (accepted_from p D) then Some frame.payload else None)
payload_at p n (_ ∷ D) = payload_at p n D

-- the item that was read, if it was
abbrev pub item_of : Result Item ItemFault → Option Item
item_of (Ok item) = Some item
item_of (Err fault) = None

-- the item that bytes spell, if they spell one
abbrev pub item_spelt : List ℕ → Option Item
item_spelt bytes = item_of (item_read bytes)

-- item n from p, where its payload came and spells one
abbrev pub item_at : (p n : ℕ) → List Deed → Option Item
item_at p n D = option_and_then item_spelt (payload_at p n D)

-- the items from p that were acted on in the session with p, with the numbers that were answered, the first first
abbrev pub acted : ℕ → List Deed → List (ℕ × Option Item)
acted p [] = []
acted p (Open q k ∷ D) = if q == p then [] else acted p D
acted p (Act q n ∷ D) = if q == p then acted p D ++ (n, item_at p n D) ∷ [] else acted p D
acted p (_ ∷ D) = acted p D
