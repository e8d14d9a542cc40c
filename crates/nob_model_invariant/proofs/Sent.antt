-- An item at a place among those of a session is what was sent in it with that number.
use Rattle.std.proofs.Common.{◌≡◌, ℕ, zero, suc, ◌+◌, ◌-◌, true, List, [], ◌∷◌, map, filter, Some, None, sym, ap, ◌∙◌, arith}
use Rattle.std.specs.Prelude.{◌==◌}
use Rattle.std.specs.List.{AllByRecursion, slice_get}
use Rattle.std.proofs.lemmas.Bool.{eqb-true, and_parts}
use Rattle.nob_item.specs.declared.item.Item.{Item}
use Rattle.nob_model_types.specs.declared.entry.Entry.{Entry}
use Rattle.nob_model_history.specs.declared.transit.SentItem.{SentItem}
use Rattle.nob_model_history.specs.Transit.{is_sent_to, count_to, sent}
use Rattle.nob_model_history.proofs.Sending.{numbers_sent}
use Rattle.nob_model.proofs.Carrying.{all_filter}
use Rattle.nob_model_journal.specs.Fronts.{with_numbers}
use Rattle.nob_model_journal.specs.Journals.{deeds_at, history_at, sent_in}
use Rattle.nob_model_holdings.proofs.Lists.{all_at, all_pass, place_before, some_same}
use Rattle.nob_model_invariant.proofs.Bundles.{numbered_item, up_to_at}

none_some : {X : Type 0} (x : X) → None ≡ Some x → ⊥
none_some x e = cc

place_mapped : {X Y : Type 0} (f : X → Y) (xs : List X) (place : ℕ) (x : X) → slice_get xs place ≡ Some x → slice_get (map f xs) place ≡ Some (f x)
place_mapped f [] place x at = absurd (none_some x at)
place_mapped f (y ∷ xs) zero x at = ap (λ one. Some (f one)) (some_same y x at)
place_mapped f (y ∷ xs) (suc place) x at = place_mapped f xs place x at

-- what space a sent to b in a session as its item k
pub record IsSentAs (n a b session k : ℕ) (item : Item) (J : List Entry) : Type 0 where
  pub one : SentItem
  pub to : one.to ≡ b
  pub of_session : one.session ≡ session
  pub number : one.number ≡ k
  pub same : one.item ≡ item
  pub place : slice_get (filter (is_sent_to b session) (sent (history_at a n J))) (k - 1) ≡ Some one

-- what holds of all that was sent holds of it
pub has_it : (n a b session k : ℕ) (item : Item) (J : List Entry) (its : IsSentAs n a b session k item J) (P : SentItem → Type 0) → AllByRecursion P (sent (history_at a n J)) → P its.one
has_it n a b session k item J its P are = all_at P (filter (is_sent_to b session) (sent (history_at a n J))) (k - 1) its.one (all_filter P (is_sent_to b session) (sent (history_at a n J)) are) its.place

pub sent_as : (n a b session k : ℕ) (item : Item) (J : List Entry) → slice_get (with_numbers 1 (sent_in n a b session J)) (k - 1) ≡ Some (k, Some item) → IsSentAs n a b session k item J
sent_as n a b session k item J there =
    let its = numbered_item 1 (sent_in n a b session J) (k - 1) k item there in
    let all : List SentItem = sent (history_at a n J) in
    let mine : List SentItem = filter (is_sent_to b session) all in
    let found = place_before (λ (o : SentItem). o.item) mine (k - 1) item its.0 in
    let one : SentItem = found.0 in
    let own = and_parts (one.to == b) (one.session == session) (all_at (λ (o : SentItem). is_sent_to b session o ≡ true) mine (k - 1) one (all_pass (is_sent_to b session) all) found.1) in
    let place : one.number ≡ (k - 1) + 1 = up_to_at (count_to b session all) (k - 1) one.number (ap (λ (ns : List ℕ). slice_get ns (k - 1)) (sym (numbers_sent a n b session (deeds_at a J))) ∙ place_mapped (λ (o : SentItem). o.number) mine (k - 1) one found.1) in
    let size = its.1 in
    record {
      one = one;
      to = eqb-true one.to b own.0;
      of_session = eqb-true one.session session own.1;
      number = omega (arith, place, size);
      same = found.2;
      place = found.1;
    }
