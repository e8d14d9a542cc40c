-- What is true of what comes next in every run of a world: one record a theme, each of a journal J and the number n of
-- spaces.
use Rattle.std.specs.Prelude.{◌≡◌, ◌≢◌, ◌≤◌, ◌<◌, ◌⊎◌, ℕ, ◌+◌, true, false, List}
use Rattle.std.specs.List.{list_any}
use Rattle.nob_model_types.specs.declared.entry.Entry.{Entry}
use Rattle.nob_model_types.specs.Messages.{replies_to}
use Rattle.nob_model_work.specs.Work.{work}
use Rattle.nob_model_history.specs.Listing.{is_entered}
use Rattle.nob_model_acting.specs.Acting.{awaits_reply}
use Rattle.nob_model_journal.specs.Journals.{deeds_at, closed_at, number_at, sent_in, sent_now, acted_from}
use Rattle.nob_model_invariant.specs.Asking.{items_among}
use Rattle.nob_model_invariant.specs.Underway.{under_way, AreGuarded}
use Rattle.nob_model_invariant.specs.Counting.{count_of, makes_call, calls_outstanding}

-- what a client sent to an owner and the owner hasn't acted on is guarded: each item that needs an object (a call of it, or a reference to it)
-- comes while the client is entered for that, and no Dirty or Clean for it is under way before
pub record Guarded (n : ℕ) (J : List Entry) : Type 0 where
  pub guarded : (c o x : ℕ) → c ≢ o → AreGuarded o x (is_entered o x c (deeds_at o J)) (under_way n c o J)
  -- and what a client sent in a session to which the owner hasn't come needs none of its objects
  pub ahead : (c o x session : ℕ) → c ≢ o → number_at o c J < session → AreGuarded o x false (sent_in n c o session J)

-- client c and owner o keep to Calls and Replies
pub record Answers (n : ℕ) (J : List Entry) : Type 0 where
  -- the Calls of c in a session are numbered all different
  pub called_once : (c o session k : ℕ) → count_of (makes_call k) (sent_in n c o session J) ≤ 1
  -- and so are the Replies of o
  pub replied_once : (o c session k : ℕ) → count_of (replies_to k) (sent_in n o c session J) ≤ 1
  -- each Reply that o sent in the session in which it is was of a Call that was acted on in it, and of one whose message neither waits nor is ready nor runs
  pub replied_called : (o c k : ℕ) → calls_outstanding c (number_at o c J) k (work o n (deeds_at o J)) + count_of (replies_to k) (sent_now n o c J) ≤ count_of (makes_call k) (items_among (acted_from c o J))
  -- a Call that c sent in the session in which it is has its Reply acted on, or waits for one, unless c has closed the session
  pub awaited : (c o k : ℕ) → closed_at c o J ≡ false → 1 ≤ count_of (makes_call k) (sent_now n c o J) → (1 ≤ count_of (replies_to k) (items_among (acted_from o c J))) ⊎ (list_any (awaits_reply o k) (work c n (deeds_at c J)).calls ≡ true)
