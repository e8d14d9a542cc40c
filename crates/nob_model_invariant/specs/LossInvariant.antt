-- What is said of losses in every run of a world, one record a theme.
use Rattle.std.specs.Prelude.{◌≡◌, ◌≤◌, ℕ, Bool, true, false, ◌||◌, not, ◌==◌, List, []}
use Rattle.std.specs.List.{AllByRecursion, list_any}
use Rattle.nob_ids.specs.declared.wire_rep.WireRep.{WireRep}
use Rattle.nob_model_types.specs.declared.entry.Entry.{Entry}
use Rattle.nob_model_types.specs.Sessions.{is_peer}
use Rattle.nob_model_types.specs.Turns.{turns, is_own, is_lost, is_pending, is_refused, is_standing, carries}
use Rattle.nob_model_types.specs.declared.deed.Deed.{Deed}
use Rattle.nob_model_types.specs.declared.message.Message.{Message}
use Rattle.nob_model_work.specs.Work.{work}
use Rattle.nob_model_history.specs.Transit.{is_sent_to, owner_session, sent}
use Rattle.nob_model.specs.Right.{own_ref}
use Rattle.nob_model_journal.specs.Journals.{deeds_at, history_at, closed_at, number_at, sent_now, acted_from, acted_in}
use Rattle.nob_model_journal.specs.Losses.{is_source, sources, is_excuse}
use Rattle.nob_model_journal.specs.declared.losses.Source.{Source}
use Rattle.nob_model_invariant.specs.Asking.{items_among, has_no, gave_in}
use Rattle.nob_model_invariant.specs.Settles.{settles_among, is_in}
use Rattle.nob_model_invariant.specs.Copies.{carries_any, is_waiting}

-- while b has not closed its session with a, each item from a that b acted on and that carries counted references waits in its message or was settled
pub record Settled (n : ℕ) (J : List Entry) : Type 0 where
  pub each : (a b : ℕ) → closed_at b a J ≡ false → AllByRecursion (λ pair. carries_any pair.1 ≡ true → (is_waiting a pair.0 (work b n (deeds_at b J)).waiting || is_in pair.0 (settles_among (sent_now n b a J))) ≡ true) (acted_from a b J)

-- whether a reference that came in a message is accounted for at space s: it is its own, it is lost, or it has a surrogate
abbrev pub is_known : (s n : ℕ) → WireRep → List Deed → Bool
is_known s n rep D = is_own s rep || (is_lost s n rep D || is_standing (turns s n rep D))

-- each reference of a message that waits is the space's own, lost, or has a surrogate
pub record Waiting (n : ℕ) (J : List Entry) : Type 0 where
  pub known : (b : ℕ) → AllByRecursion (λ (message : Message). AllByRecursion (λ copy. is_known b n copy.rep (deeds_at b J) ≡ true) message.copies) (work b n (deeds_at b J)).waiting

-- where an owner answered a client by DirtyNo in a session, whatever it sent that client in it with a reference to the object is settled by what it acted on in it
pub record Denials (n : ℕ) (J : List Entry) : Type 0 where
  pub settled : (o b x session : ℕ) → has_no (gave_in n o b x session J) ≡ true → AllByRecursion (λ one. is_sent_to b session one ≡ true → carries (own_ref o x) one.item ≡ true → is_in one.number (settles_among (items_among (acted_in b o session J))) ≡ true) (sent (history_at o n J))

-- session k isn't above the ones in which two spaces are
abbrev pub IsReached : (k a b : ℕ) → List Entry → Type 0
IsReached k a b J = (k ≤ number_at a b J) × (k ≤ number_at b a J)

-- what is known of the sessions of copies: no space opens one again that these had
pub record Numbers (n : ℕ) (J : List Entry) : Type 0 where
  -- the session in which a copy came isn't above the ones in which its sender and the space to which it came are
  pub copies_reached : (b : ℕ) (rep : WireRep) → AllByRecursion (λ copy. IsReached copy.session copy.from b J) (sources b n rep (deeds_at b J))
  -- that copy was sent in it
  pub copies_sent : (b : ℕ) (rep : WireRep) → AllByRecursion (λ copy. list_any (is_source b copy) (sent (history_at copy.from n J)) ≡ true) (sources b n rep (deeds_at b J))
  -- and the session with the owner of a reference in which an item with it was sent isn't above the ones in which its sender and the owner are
  pub owners_reached : (a : ℕ) (rep : WireRep) → AllByRecursion (λ one. IsReached (owner_session rep one) a rep.owner J) (sent (history_at a n J))

-- whether space b has closed the session in which a copy came, or is in another one
abbrev pub has_left : ℕ → Source → List Entry → Bool
has_left b copy J = closed_at b copy.from J || not (copy.session == number_at b copy.from J)

-- how it stands with the copies of a reference that b acted on since it last sent a Clean for it
pub record Copies (n : ℕ) (J : List Entry) : Type 0 where
  -- without a surrogate on an open session there are none
  pub none_without : (b : ℕ) (rep : WireRep) → is_peer b n rep.owner ≡ true → closed_at b rep.owner J ≡ false → is_standing (turns b n rep (deeds_at b J)) ≡ false → sources b n rep (deeds_at b J) ≡ []
  -- while the owner's answer is awaited each waits in its message, or b has left the session in which it came
  pub pending_wait : (b : ℕ) (rep : WireRep) → closed_at b rep.owner J ≡ false → is_pending (turns b n rep (deeds_at b J)) ≡ true → AllByRecursion (λ copy. (is_waiting copy.from copy.number (work b n (deeds_at b J)).waiting || has_left b copy J) ≡ true) (sources b n rep (deeds_at b J))
  -- where the owner refused it each is excused
  pub refused_excused : (b : ℕ) (rep : WireRep) → is_refused (turns b n rep (deeds_at b J)) ≡ true → AllByRecursion (λ copy. is_excuse n b rep J copy ≡ true) (sources b n rep (deeds_at b J))
