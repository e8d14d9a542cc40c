-- Acting on a Call or a Reply, by the state: which of its references get Dirties, and why it stays in the inbox.
use Rattle.std.specs.Prelude.{◌≡◌, ℕ, ◌+◌, ◌-◌, Bool, false, ◌&&◌, ◌||◌, ◌==◌, not, nat_le, nat_lt, List, length, map, filter, Option, Some, None, is_some, if◌then◌else◌}
use Rattle.std.specs.List.{list_all}
use Rattle.nob_ids.specs.declared.wire_rep.WireRep.{WireRep}
use Rattle.nob_session.specs.Stands.{Roomy}
use Rattle.nob_table_rows.specs.Standings.{is_surrogate, is_granted}
use Rattle.nob_rows.specs.Rows.{IsOnce}
use Rattle.nob_table.specs.Table.{Table, standing, surrogate_total, place_of}
use Rattle.nob_model_session.specs.End.{last_item}
use Rattle.nob_model_types.specs.declared.refusal.Refusal.{Refusal}
use Rattle.nob_model_types.specs.declared.refusal.Refusal.TheVariants as refusals
use Rattle.nob_model_types.specs.declared.message.Loan.{Loan}
use Rattle.nob_model_types.specs.declared.message.Loan.TheVariants as loans
use Rattle.nob_model_types.specs.declared.message.RefCopy.{RefCopy}
use Rattle.nob_model_types.specs.Sessions.{is_peer}
use Rattle.nob_model_work.specs.Gifts.{once}
use Rattle.nob_model_acting.specs.Acting.{messages, most_messages, most_surrogates}
use Rattle.nob_space_state.specs.Parts.{State}
use Rattle.nob_space_state.specs.Looks.{end_with, has_closed}
use Rattle.nob_space_items.specs.Settling.{is_lost_here}

-- whether a reference gets a Dirty: its owner is a peer whose session is open here, and it has no surrogate
abbrev pub is_wanted : (s n : ℕ) → State → WireRep → Bool
is_wanted s n st rep = is_peer s n rep.owner && not (has_closed st.sessions rep.owner) && not (is_surrogate (standing st.table rep).state)

-- those of some references that get a Dirty, each once, in reading order
abbrev pub wanted_refs : (s n : ℕ) → State → List WireRep → List WireRep
wanted_refs s n st reps = filter (is_wanted s n st) (once reps)

-- how many of some references a space owns
abbrev pub owner_count : ℕ → List WireRep → ℕ
owner_count p reps = length (filter (λ rep. rep.owner == p) reps)

-- whether an end, where there is one, has so many numbers free
abbrev pub has_free : ℕ → Option Roomy → Bool
has_free count None = false
has_free count (Some end) = nat_le count (last_item - end.end.handed)

-- whether the session with an owner has numbers free for the Dirties of all those that it owns
abbrev pub has_numbers_for : State → List WireRep → WireRep → Bool
has_numbers_for st reps rep = has_free (owner_count rep.owner reps) (end_with st.sessions rep.owner)

-- whether one message more, or surrogates of these references, would pass a limit
abbrev pub is_too_much : State → List WireRep → Bool
is_too_much st reps = nat_le most_messages (messages st.work) || nat_lt most_surrogates (surrogate_total st.table + length reps)

-- why a Call or a Reply stays in the inbox, where these references get Dirties: a limit, then free numbers
unfoldable pub message_refusal : State → List WireRep → Option Refusal
message_refusal st reps = if is_too_much st reps then Some refusals.Limit else if not (list_all (has_numbers_for st reps) reps) then Some refusals.SeqEnd else None

-- whether a reference is own or usable
abbrev pub is_at_hand : (s : ℕ) → State → WireRep → Bool
is_at_hand s st rep = rep.owner == s || is_granted (standing st.table rep).state

-- the loan of a reference as it comes in a message: never where it is lost, made at once where it is own or usable, and else due
abbrev pub new_loan : (s n : ℕ) → State → WireRep → Loan
new_loan s n st rep = if is_lost_here s n st rep then loans.Never else if is_at_hand s st rep then loans.Lent else loans.Due

-- the copies of references as they come in a message
abbrev pub new_copies : (s n : ℕ) → State → List WireRep → List RefCopy
new_copies s n st reps = map (λ rep. record { rep = rep; loan = new_loan s n st rep }) reps

-- what a table knows of its surrogates: none has two rows, and those that have a place are those that stand as one
abbrev pub KnowsSurrogates : Table → Type 0
KnowsSurrogates t = IsOnce t.surrogates × ((rep : WireRep) → is_some (place_of t rep) ≡ is_surrogate (standing t rep).state)
