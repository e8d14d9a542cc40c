-- In a run of a world each space speaks of the first n alone: what it acts on names what was exported, and only spaces of
-- the world export.
use Rattle.std.proofs.Common.{◌≡◌, ℕ, true, List, [], ◌∷◌, length, Some, sym, ap, subst, ◌∙◌, inl, inr}
use Rattle.std.specs.List.{AllByRecursion}
use Rattle.std.proofs.lemmas.Bool.{and_parts, leb-true}
use Rattle.nob_ids.specs.Names.{IsSpaceOf}
use Rattle.nob_ids.specs.declared.limits.Limits.{Limits}
use Rattle.nob_ids.specs.declared.wire_rep.WireRep.{WireRep}
use Rattle.nob_item.specs.Kinds.{counted_in}
use Rattle.nob_item.specs.declared.item.Item.{Item}
use Rattle.nob_model_types.specs.declared.entry.Entry.{Entry}
use Rattle.nob_model_types.specs.declared.deed.Deed.{Deed}
use Rattle.nob_model_types.specs.declared.deed.Deed.TheVariants as did
use Rattle.nob_model_types.specs.Sessions.{is_peer, item_at}
use Rattle.nob_model_types.specs.Objects.{is_exported}
use Rattle.nob_model_types.specs.Turns.{turns, is_granted, is_usable}
use Rattle.nob_model_history.specs.declared.history.History.{History}
use Rattle.nob_model_history.specs.Transit.{by_last_dirty, is_idle}
use Rattle.nob_model.specs.Right.{right_after}
use Rattle.nob_model.specs.Lists.{IsRightDeed, AreRightDeeds}
use Rattle.nob_model.proofs.Doing.{was_answered}
use Rattle.nob_model.proofs.Accepted.{found_passes, call_tells, act_tells, clean_tells}
use Rattle.nob_model.proofs.Waiting.{all_weaker}
use Rattle.nob_model_journal.specs.Journals.{deeds_at, history_at, number_at, sent_to, acted_from}
use Rattle.nob_model_journal.specs.Runs.{WorldRun}
use Rattle.nob_model_invariant.specs.Typed.{AreOfTypes}
use Rattle.nob_model_invariant.specs.Naming.{object_of, WasExported, NamesExported}
use Rattle.nob_model_holdings.proofs.Lists.{all_at, all_split, some_same}
use Rattle.nob_model_invariant.proofs.Entries.{grows, right_deeds_at}
use Rattle.nob_model_invariant.proofs.Clients.{asks_peer}
use Rattle.nob_model_invariant.proofs.Order.{acts_on_next, all_fit}
use Rattle.nob_model_invariant.proofs.Naming.{names}
use Rattle.nob_model_invariant.specs.FirstSpaces.{IsOfFirst, SpeaksOfFirst, AmongFirst}
use Rattle.nob_model_invariant.specs.AlikeLaws.{FirstLaw}

-- a peer is a space
peer_first : (s n p : ℕ) → is_peer s n p ≡ true → IsSpaceOf n p
peer_first s n p peer = let parts = and_parts _ _ peer in (leb-true 1 p (and_parts _ _ parts.0).1, leb-true p n parts.1)

-- only spaces of the world export
exports_first : (n : ℕ) (limits : ℕ → Limits) (J : List Entry) → WorldRun n limits J → (o x : ℕ) → is_exported o x (deeds_at o J) ≡ true → IsSpaceOf n o
exports_first n limits [] run o x is = cc
exports_first n limits (entry ∷ J) run o x is =
    elim (grows o entry J) [
      | inl same ↦ exports_first n limits J run.1 o x (ap (is_exported o x) (sym same) ∙ is)
      | inr more ↦ subst (IsSpaceOf n) more.1 (run.0.first, run.0.last)
    ]

-- what is acted on names what was exported
acts_first : (n : ℕ) (limits : ℕ → Limits) (J : List Entry) → WorldRun n limits J → AreOfTypes J → (s p k : ℕ) → IsRightDeed s n (limits s) (did.Act p k) (deeds_at s J) → (item : Item) → item_at p k (deeds_at s J) ≡ Some item → AllByRecursion (IsOfFirst n) (counted_in item)
acts_first n limits J run typed s p k right item is =
    let own = acts_on_next p s n k limits J run (all_fit n limits J run typed p) right in
    let named : NamesExported J s item =
    subst (NamesExported J s) (some_same own.item item (sym own.found ∙ is)) (all_at (NamesExported J s) (sent_to n p s J) (length (acted_from p s J)) own.item ((names n limits J run typed).exported p s (number_at s p J)) own.was_sent) in
    all_weaker (WasExported J) (IsOfFirst n) (λ rep known. exports_first n limits J run rep.owner rep.index known) (counted_in item) (all_split (WasExported J) (object_of s item) (counted_in item) named).1

-- what can be given up was asked of a peer
idle_first : (s n : ℕ) (rep : WireRep) (h : History) → is_idle s n h rep ≡ true → IsOfFirst n rep
idle_first s n rep h is =
    let usable : is_usable s n rep h.deeds ≡ true = (and_parts _ _ (and_parts _ _ is).0).0 in
    let granted : is_granted (turns s n rep h.deeds) ≡ true = (and_parts _ _ usable).0 in
    peer_first s n rep.owner (asks_peer s n rep h.deeds (and_parts _ _ (and_parts _ _ granted).0).0)

deed_first : (n : ℕ) (limits : ℕ → Limits) (J : List Entry) → WorldRun n limits J → AreOfTypes J → (s : ℕ) (deed : Deed) → IsRightDeed s n (limits s) deed (deeds_at s J) → SpeaksOfFirst n deed (deeds_at s J)
unfolding right_after
deed_first n limits J run typed s (did.Call target method value call) right =
    peer_first s n target.owner (call_tells s n target value call (history_at s n J) (was_answered s n (limits s) (did.Call target method value call) (deeds_at s J) right)).1
deed_first n limits J run typed s (did.Act p k) right = (
  peer_first s n p (act_tells s n p k (history_at s n J) (was_answered s n (limits s) (did.Act p k) (deeds_at s J) right)).0,
  acts_first n limits J run typed s p k right,
)
deed_first n limits J run typed s (did.Clean rep) right =
    let h : History = history_at s n J in
    let told = clean_tells s n rep h (was_answered s n (limits s) (did.Clean rep) (deeds_at s J) right) in
    idle_first s n rep h (found_passes (is_idle s n h) (by_last_dirty h) rep told.0)
deed_first n limits J run typed s deed right = tt

pub first : FirstLaw
first n limits [] run typed s = tt
first n limits (entry ∷ J) run typed s =
    let before : AmongFirst n (deeds_at s J) = first n limits J run.1 typed.1 s in
    elim (grows s entry J) [
      | inl same ↦ subst (AmongFirst n) (sym same) before
      | inr more ↦
          let right : AreRightDeeds s n (limits s) (more.0 ∷ deeds_at s J) = subst (AreRightDeeds s n (limits s)) more.3 (right_deeds_at n limits (entry ∷ J) run s) in
          subst (AmongFirst n) (sym more.3) (deed_first n limits J run.1 typed.1 s more.0 right.0, before)
    ]
