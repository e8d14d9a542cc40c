-- The points of the invariant that are read off one space's list alone.
use Rattle.std.proofs.Common.{not, ap, refl, sym, subst, ◌≤◌, ℕ, List, length, Option, arith}
use Rattle.std.proofs.lemmas.Bool.{and_right, eq-eqb, ne_eqb}
use Rattle.nob_ids.specs.declared.limits.Limits.{Limits}
use Rattle.nob_item.specs.declared.item.Item.{Item}
use Rattle.nob_model_types.specs.declared.deed.Deed.{Deed}
use Rattle.nob_model_types.specs.declared.entry.Entry.{Entry}
use Rattle.nob_model_types.specs.Sessions.{number}
use Rattle.nob_model_types.specs.Objects.{is_exported}
use Rattle.nob_model_history.specs.Histories.{history_of}
use Rattle.nob_model_history.proofs.Numbered.{items_sent_in}
use Rattle.nob_model.specs.Lists.{AreRightDeeds}
use Rattle.nob_model_invariant.proofs.EachSession.{acted_is, each_session}
use Rattle.std.specs.List.{AllByRecursion}
use Rattle.nob_model_history.proofs.Inbox.{acted_takes}
use Rattle.nob_model_invariant.specs.Settles.{settles_among, AreOnce, IsCarrying}
use Rattle.nob_model.proofs.Guarding.{listed_law, pinned_law}
use Rattle.nob_model.specs.Right.{own_ref}
use Rattle.nob_model_history.specs.Transit.{pins, sent}
use Rattle.nob_model_holdings.proofs.Alive.{held_alive}
use Rattle.nob_model_invariant.proofs.Settling.{settles_of, settled_once}
use Rattle.nob_model_invariant.proofs.Settled.{settled_carry}
use Rattle.nob_model_journal.specs.Journals.{deeds_at, history_at, sent_in, acted_during, acted_in}
use Rattle.nob_model_journal.specs.Runs.{WorldRun}
use Rattle.nob_model_invariant.specs.SafetyLaws.{ClientsLaw, OwnersLaw, HoldingsLaw, SettlementsLaw, LivingLaw}
use Rattle.nob_model_invariant.proofs.Entries.{right_deeds_at}
use Rattle.nob_model_invariant.proofs.Clients.{are_turned}
use Rattle.nob_model_invariant.proofs.Owners.{are_answered, gone_in}
use Rattle.nob_model_holdings.proofs.Granted.{held_owned}
use Rattle.nob_model_holdings.proofs.Holdings.{holds_owned, pinned_owned}

pub clients : ClientsLaw
clients n limits J run = record {
  turns_are = λ c rep. (are_turned c n (limits c) rep (deeds_at c J) (right_deeds_at n limits J run c)).turns_are;
  taken = λ c rep. (are_turned c n (limits c) rep (deeds_at c J) (right_deeds_at n limits J run c)).taken;
}

pub owners : OwnersLaw
owners n limits J run = record {
  answered = λ o c x. (are_answered o n (limits o) c x (deeds_at o J) (right_deeds_at n limits J run o)).in_turn;
  denied = λ o c x session no. let gone = gone_in o n (limits o) c x session (deeds_at o J) (right_deeds_at n limits J run o) no in (gone.0, and_right (is_exported o x (deeds_at o J)) _ (ap not gone.1));
  entered = λ o c x. (are_answered o n (limits o) c x (deeds_at o J) (right_deeds_at n limits J run o)).enters;
}

pub holdings : HoldingsLaw
holdings n limits J run = record {
  held_granted = λ c rep counted held. held_owned c n (limits c) rep (deeds_at c J) (right_deeds_at n limits J run c) (holds_owned c n (limits c) (deeds_at c J) (right_deeds_at n limits J run c)) counted held;
  pinned_granted = λ c rep some. pinned_owned c n (limits c) rep (deeds_at c J) (right_deeds_at n limits J run c) some;
}

-- what is settled in a session: no item twice, each was acted on in it and carries counted references
abbrev AreSettled : List (ℕ × Option Item) → List Item → Type 0
AreSettled pairs items = AreOnce (settles_among items) × AllByRecursion (λ k. k ≤ length pairs) (settles_among items) × AllByRecursion (IsCarrying pairs) (settles_among items)

settled_now : (s n p : ℕ) (limits : Limits) (D : List Deed) → AreRightDeeds s n limits D → AreSettled (acted_during p (number p D) D) (items_sent_in p (number p D) (sent (history_of s n D)))
settled_now s n p limits D right =
    let once = settled_once s n limits p D right in
    subst (λ pairs. AreSettled pairs (items_sent_in p (number p D) (sent (history_of s n D)))) (acted_is s n p limits D right)
    (once.once, subst (λ (t : ℕ). AllByRecursion (λ k. k ≤ t) (settles_of s n p D)) (sym (acted_takes s n p D)) once.low, (settled_carry s n limits p D right).settled)

settled_in : (n : ℕ) (limits : ℕ → Limits) (J : List Entry) → WorldRun n limits J → (a b session : ℕ) → AreSettled (acted_in a b session J) (sent_in n b a session J)
settled_in n limits J run a b session = each_session b n a session (limits b) AreSettled (tt, tt, tt) (settled_now b n a (limits b)) (deeds_at b J) (right_deeds_at n limits J run b)

pub settlements : SettlementsLaw
settlements n limits J run = record {
  once = λ a b session. (settled_in n limits J run a b session).0;
  were_acted = λ a b session. (settled_in n limits J run a b session).1;
  carried = λ a b session. (settled_in n limits J run a b session).2;
  none_waits = λ a b. (settled_once b n (limits b) a (deeds_at b J) (right_deeds_at n limits J run b)).over;
}

pub living : LivingLaw
living n limits J run = record {
  held_live = λ o x counted held. held_alive o n (limits o) (own_ref o x) (deeds_at o J) (right_deeds_at n limits J run o) counted (eq-eqb o o refl) held;
  pinned_live = λ o x some. pinned_law o n (limits o) (deeds_at o J) (right_deeds_at n limits J run o) x (ne_eqb (pins (own_ref o x) (history_at o n J)) 0 (λ none. omega (arith, some, none)));
  listed_live = λ o x c listed. listed_law o n (limits o) (deeds_at o J) (right_deeds_at n limits J run o) x c listed;
}
