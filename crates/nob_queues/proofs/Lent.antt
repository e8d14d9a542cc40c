-- What the queues are once an item is written in the slab.
use Rattle.std.proofs.Common.{◌≡◌, ℕ, cond, List, [], ◌∷◌, map, count_by, get_or, Option, Some, None, IsSome, is_some, slice_get, refl, sym, ap, ◌∙◌, arith, true≢false}
use Prim.Native.Nat.{zero, suc}
use lib.ListN.{set}
use Rattle.std.proofs.lemmas.List.Sums.{sum_by-cons}
use Rattle.std.proofs.lemmas.Option.{none-some, same_Some}
use Rattle.nob_slots.specs.Slots.{SlotList, item_at}
use Rattle.nob_queues.specs.Queues.{QueueLists, queue_or_none, with_item, writes_item}
use Rattle.nob_queues.specs.Keys.{AreKept, item_of, queue_of, rows_of}
use Rattle.nob_queues.proofs.Keyed.{queue_is}
use Rattle.nob_queues.proofs.Kept.{written_apart, written_rows}

module _ {T : Type 0} where
  -- as many items as before
  pub count_written : (slots : List (Option T)) (key : ℕ) (w : T) → IsSome (get_or slots key None) → count_by is_some (set slots key (Some w)) ≡ count_by is_some slots
  count_written [] key w some = absurd (true≢false (sym some))
  count_written (None ∷ slots) zero w some = absurd (true≢false (sym some))
  count_written (Some x ∷ slots) zero w some = omega (arith, sum_by-cons (λ (o : Option T). cond (is_some o) 1 0) (Some w) slots, sum_by-cons (λ (o : Option T). cond (is_some o) 1 0) (Some x) slots)
  count_written (o ∷ slots) (suc key) w some = omega (arith, sum_by-cons (λ (o : Option T). cond (is_some o) 1 0) o slots, sum_by-cons (λ (o : Option T). cond (is_some o) 1 0) o (set slots key (Some w)), count_written slots key w some)

  module _ (slots slots' : List (Option T)) where
    all_same : (queues : List (SlotList ℕ)) → ((p : ℕ) (keys : SlotList ℕ) → slice_get queues p ≡ Some keys → queue_of slots' keys ≡ queue_of slots keys) → map (queue_of slots') queues ≡ map (queue_of slots) queues
    all_same [] same = refl
    all_same (keys ∷ queues) same = λ i. same 0 keys refl i ∷ all_same queues (λ p other got. same (suc p) other got) i

    all_but : (queues : List (SlotList ℕ)) (q : ℕ) (old : SlotList ℕ) → slice_get queues q ≡ Some old → ((p : ℕ) (keys : SlotList ℕ) → slice_get queues p ≡ Some keys → (p ≡ q → ⊥) → queue_of slots' keys ≡ queue_of slots keys)
        → map (queue_of slots') queues ≡ set (map (queue_of slots) queues) q (queue_of slots' old)
    all_but [] q old got same = absurd (none-some old got)
    all_but (keys ∷ queues) zero old got same = λ i. queue_of slots' (same_Some keys old got i) ∷ all_same queues (λ p other there. same (suc p) other there (λ e. omega (arith, e))) i
    all_but (keys ∷ queues) (suc q) old got same = λ i. same 0 keys refl (λ e. omega (arith, e)) i ∷ all_but queues q old got (λ p other there ne. same (suc p) other there (λ e. ne (omega (arith, e)))) i

  -- an item that is written under a key is written under its number
  pub lent_is : (slots slots' : List (Option T)) (queues : List (SlotList ℕ)) (kept : AreKept slots queues) (room q : ℕ) (old : SlotList ℕ) (got : slice_get queues q ≡ Some old) (n key : ℕ) (found : item_at old.rows n ≡ Some key) (w : T)
      → item_of slots' key ≡ Some w → ((k : ℕ) → (k ≡ key → ⊥) → item_of slots' k ≡ item_of slots k)
      → ◌≡◌ {A = QueueLists T} (record { queues = map (queue_of slots') queues; room = room }) (writes_item (record { queues = map (queue_of slots) queues; room = room }) q n w)
  lent_is slots slots' queues kept room q old got n key found w changed others =
      let here : queue_or_none (slice_get (map (queue_of slots) queues) q) ≡ queue_of slots old = queue_is slots queues q ∙ ap (λ (o : Option (SlotList ℕ)). queue_of slots (queue_or_none o)) got in
      let rows = written_rows slots queues kept q old got n key found slots' w changed others in
      let new : queue_of slots' old ≡ with_item (queue_of slots old) n w = ap (λ (rs : List (ℕ × T)). record { rows = rs; marked = old.marked; room = old.room }) rows in
      ap (λ (qs : List (SlotList T)). record { queues = qs; room = room }) (
      all_but slots slots' queues q old got (λ p keys there ne. ap (λ (rs : List (ℕ × T)). record { rows = rs; marked = keys.marked; room = keys.room })
      (ap (λ (o : Option (SlotList ℕ)). rows_of slots' (queue_or_none o).rows) (sym there) ∙ written_apart slots queues kept q old got n key found slots' w changed others p ne ∙ ap (λ (o : Option (SlotList ℕ)). rows_of slots (queue_or_none o).rows) there))
      ∙ ap (set (map (queue_of slots) queues) q) (new ∙ ap (λ (s : SlotList T). with_item s n w) (sym here)))
