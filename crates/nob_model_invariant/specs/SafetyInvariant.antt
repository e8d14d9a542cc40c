-- The invariant of all spaces of a run, one record a theme: each says what holds after every entry, of every two
-- spaces.
use Rattle.std.specs.Prelude.{◌≡◌, ◌≢◌, ◌≤◌, ℕ, ◌+◌, ◌-◌, true, false, ◌&&◌, ◌||◌, ◌==◌, Bool, List, Result, Ok, length, map, Some, slice_get}
use Rattle.std.specs.List.{AllByRecursion, Contains}
use Rattle.nob_frame.specs.declared.frame.Frame.{Frame}
use Rattle.nob_frame.specs.Kinds.{is_data}
use Rattle.nob_item.specs.Spelling.{Fits}
use Rattle.nob_model_session.specs.End.{number, up_to, handed, accepted, transmitted}
use Rattle.nob_model_session.specs.Pair.{IsBeginning, Reaches}
use Rattle.nob_model_session.specs.declared.entry.EndEntry.{EndEntry}
use Rattle.nob_ids.specs.declared.reason.Reason.TheVariants.{BadItem}
use Rattle.nob_model_types.specs.declared.answer.Answer.{Answer}
use Rattle.nob_model_types.specs.declared.answer.Answer.TheVariants.{Closed}
use Rattle.nob_model_types.specs.declared.refusal.Refusal.{Refusal}
use Rattle.nob_model_types.specs.declared.entry.Entry.{Entry}
use Rattle.nob_model_history.specs.Ends.{payload_of, calls_at}
use Rattle.nob_ids.specs.declared.wire_rep.WireRep.{WireRep}
use Rattle.nob_model_types.specs.declared.turns.OwnerAnswer.TheVariants as said
use Rattle.nob_model_types.specs.Objects.{is_exported, is_live}
use Rattle.nob_model_types.specs.Turns.{turns, is_own, is_yes, is_granted}
use Rattle.nob_ids.specs.Names.{is_counted}
use Rattle.nob_model_history.specs.Holds.{is_held}
use Rattle.nob_model_history.specs.Transit.{pins}
use Rattle.nob_model_history.specs.Listing.{is_entered, is_listed}
use Rattle.nob_model_work.specs.Work.{work}
use Rattle.nob_model.specs.Right.{own_ref}
use Rattle.nob_model_invariant.specs.Settles.{settles_among, is_in, AreOnce, IsCarrying}
use Rattle.nob_model_invariant.specs.Naming.{NamesExported}
use Rattle.nob_model_invariant.specs.Asking.{asked, heard, was_asked, gave_in, gave, turns_by, has_no, last_or, last_word, AskedInTurn, AnsweredInTurn}
use Rattle.nob_model_journal.specs.Journals.{deeds_at, closed_at, history_at, number_at, are_in_one, sent_in, sent_now, sent_to, acted_in, transmitted_frames}
use Rattle.nob_model_journal.specs.Fronts.{ActsInOrder}

-- a frame as an end gave it: it is of the end's session, acknowledges no more than the end accepted, and a Data frame carries the transmitted payload of its number
pub record IsCarried (calls : List EndEntry) (frame : Frame) : Type 0 where
  pub is_of_session : frame.session ≡ number calls
  pub acknowledges : frame.ack ≤ length (accepted calls) + 1
  pub is_transmitted : is_data frame.kind ≡ true → frame.seq ≤ transmitted calls
  pub is_numbered : is_data frame.kind ≡ true → 1 ≤ frame.seq
  pub carries : is_data frame.kind ≡ true → slice_get (handed calls) (frame.seq - 1) ≡ Some frame.payload

-- the calls on the end of space a with b up to those of session k
abbrev pub calls_in : (n a b k : ℕ) → List Entry → List EndEntry
calls_in n a b k J = up_to k (calls_at b (history_at a n J))

-- the sessions of every two spaces a and b, from a to b: what b has of a is of the session in which b is, and of a's calls as they were in that
pub record Sessions (n : ℕ) (J : List Entry) : Type 0 where
  -- every item that a sent has a spelling
  pub items_spelt : (a b k : ℕ) → AllByRecursion Fits (sent_in n a b k J)
  -- what came there of an item, accepted or kept, is a's of its number and was transmitted before, and what a heard acknowledged was accepted
  pub reached : (a b : ℕ) → a ≢ b → Reaches (calls_in n a b (number_at b a J) J) (calls_at a (history_at b n J))
  -- b accepted a beginning of them
  pub accepted_in_order : (a b : ℕ) → a ≢ b → IsBeginning (accepted (calls_at a (history_at b n J))) (map payload_of (sent_to n a b J))
  -- and in each session b acted on a beginning of what a sent in it, in order
  pub acted_in_order : (a b k : ℕ) → ActsInOrder n a b k J
  -- every frame that was ever given is as its sender gave it in the session of the frame
  pub frames_carry : (frame : Frame) → Contains (transmitted_frames J) frame → IsCarried (calls_in n frame.from frame.to frame.session J) frame

-- every client took turns with every owner: its turns for a reference are what it asked and what it heard
pub record Clients (n : ℕ) (J : List Entry) : Type 0 where
  pub turns_are : (c : ℕ) (rep : WireRep) → turns c n rep (deeds_at c J) ≡ turns_by (asked n c rep J) (heard c rep J)
  pub taken : (c : ℕ) (rep : WireRep) → AskedInTurn (asked n c rep J) (heard c rep J)

-- every owner answered every client in turn
pub record Owners (n : ℕ) (J : List Entry) : Type 0 where
  -- each Dirty once
  pub answered : (o c x : ℕ) → AnsweredInTurn (was_asked o c x J) (gave n o c x J)
  -- a DirtyNo, in whatever session, was of an object that was exported and isn't live any more
  pub denied : (o c x session : ℕ) → has_no (gave_in n o c x session J) ≡ true → (is_exported o x (deeds_at o J) ≡ true) × (is_live o x (deeds_at o J) ≡ false)
  -- a client is entered for an index exactly where it asked last by a Dirty and was answered last by DirtyOk
  pub entered : (o c x : ℕ) → is_entered o x c (deeds_at o J) ≡ (last_or false (was_asked o c x J) && is_yes (last_word said.Pending (gave n o c x J)))

-- all that is named in what a space sent, in whatever session, was exported by its owner
pub record Names (n : ℕ) (J : List Entry) : Type 0 where
  pub exported : (a b k : ℕ) → AllByRecursion (NamesExported J b) (sent_in n a b k J)

-- a client that is granted a reference is listed for it, if the owner is in the client's session and hasn't closed it
pub record Listings (n : ℕ) (J : List Entry) : Type 0 where
  pub granted_listed : (c : ℕ) (rep : WireRep) → is_granted (turns c n rep (deeds_at c J)) ≡ true → are_in_one c rep.owner J ≡ true → closed_at rep.owner c J ≡ false → is_listed rep.owner rep.index c (deeds_at rep.owner J) ≡ true

-- what a space holds, and what has pins there, is own or granted
pub record Holdings (n : ℕ) (J : List Entry) : Type 0 where
  pub held_granted : (c : ℕ) (rep : WireRep) → is_counted rep ≡ true → is_held c rep (history_at c n J) ≡ true → (is_own c rep || is_granted (turns c n rep (deeds_at c J))) ≡ true
  pub pinned_granted : (c : ℕ) (rep : WireRep) → 1 ≤ pins rep (history_at c n J) → (is_own c rep || is_granted (turns c n rep (deeds_at c J))) ≡ true

-- whether a result closes a session for a bad item: bytes that spell none, or an acknowledgement of what was never transmitted
abbrev pub is_bad_item : Result Answer Refusal → Bool
is_bad_item (Ok (Closed BadItem)) = true
is_bad_item _ = false

-- no session closes for a bad item
pub record Readings (n : ℕ) (J : List Entry) : Type 0 where
  pub none_bad : AllByRecursion (λ entry. is_bad_item entry.result ≡ false) J

-- what came to b from a it settles once: in each session no item twice, each was acted on before and carries counted references, and in the one in which b is none whose message waits
pub record Settlements (n : ℕ) (J : List Entry) : Type 0 where
  pub once : (a b session : ℕ) → AreOnce (settles_among (sent_in n b a session J))
  pub were_acted : (a b session : ℕ) → AllByRecursion (λ k. k ≤ length (acted_in a b session J)) (settles_among (sent_in n b a session J))
  pub carried : (a b session : ℕ) → AllByRecursion (IsCarrying (acted_in a b session J)) (settles_among (sent_in n b a session J))
  pub none_waits : (a b : ℕ) → AllByRecursion (λ message. (message.from == a) ≡ true → is_in message.number (settles_among (sent_now n b a J)) ≡ false) (work b n (deeds_at b J)).waiting

-- what an owner holds of its own, what has pins there and what anyone is listed for is live
pub record Living (n : ℕ) (J : List Entry) : Type 0 where
  pub held_live : (o x : ℕ) → is_counted (own_ref o x) ≡ true → is_held o (own_ref o x) (history_at o n J) ≡ true → is_live o x (deeds_at o J) ≡ true
  pub pinned_live : (o x : ℕ) → 1 ≤ pins (own_ref o x) (history_at o n J) → is_live o x (deeds_at o J) ≡ true
  pub listed_live : (o x c : ℕ) → is_listed o x c (deeds_at o J) ≡ true → is_live o x (deeds_at o J) ≡ true
