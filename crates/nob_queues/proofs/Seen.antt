-- What a contract sees of a queue, before and after another is put in its place.
use Rattle.std.proofs.Common.{◌≡◌, ℕ, ◌<◌, Bool, true, List, [], ◌∷◌, length, map, get_or, Option, Some, None, IsSome, slice_get, refl, sym, ap, subst, ◌∙◌, arith, if◌then◌else◌, true≢false}
use Prim.Native.Nat.{suc}
use lib.ListN.{set}
use Rattle.std.proofs.lemmas.Bool.{eqb-false}
use Rattle.std.proofs.lemmas.Option.{slice_get_read}
use Rattle.std.specs.Prelude.{IfSome}
use Rattle.std.specs.Map.{remove_entry}
use Rattle.nob_slots.specs.Slots.{SlotList, item_at, is_marked, is_number, IsAbove, IsRising, PutsMark}
use Rattle.nob_slots.proofs.Flat.{get_set_other, get_set_same}
use Rattle.nob_queues.specs.Queues.{KeepsBut, queue_or_none}
use Rattle.nob_queues.specs.Keys.{AreKept, Stands, item_of, keys_at, queue_of, rows_of}
use Rattle.nob_queues.proofs.Keyed.{all_found, all_out, item_in, item_or, length_in, queue_is, removed_in, rising_in}
use Rattle.nob_queues.proofs.Kept.{all_there, rising_here, some_here, some_key}

-- the queue at a place
pub at_queue : (queues : List (SlotList ℕ)) (q : ℕ) (read : SlotList ℕ) → length queues ≡ 3 → q < 3 → read ≡ get_or queues q read → slice_get queues q ≡ Some (get_or queues q read)
at_queue queues q read three less is = slice_get_read queues (length queues) q read refl (omega (arith, three, less)) is ∙ ap (λ (s : SlotList ℕ). Some s) is

module _ {T : Type 0} where
  -- the queue at a place, as a contract sees it
  abbrev pub seen_at : List (Option T) → List (SlotList ℕ) → ℕ → SlotList T
  seen_at slots queues q = queue_or_none (slice_get (map (queue_of slots) queues) q)

  module _ (slots : List (Option T)) (queues : List (SlotList ℕ)) (q : ℕ) (old : SlotList ℕ) (got : slice_get queues q ≡ Some old) where
    seen : seen_at slots queues q ≡ queue_of slots old
    seen = queue_is slots queues q ∙ ap (λ (o : Option (SlotList ℕ)). queue_of slots (queue_or_none o)) got

    pub rows_seen : (seen_at slots queues q).rows ≡ rows_of slots old.rows
    rows_seen = ap (λ (s : SlotList T). s.rows) seen

    pub marked_seen : (seen_at slots queues q).marked ≡ old.marked
    marked_seen = ap (λ (s : SlotList T). s.marked) seen

    pub room_seen : (seen_at slots queues q).room ≡ old.room
    room_seen = ap (λ (s : SlotList T). s.room) seen

    module _ (slots' : List (Option T)) (new : SlotList ℕ) where
      put : seen_at slots' (set queues q new) q ≡ queue_of slots' new
      put = queue_is slots' (set queues q new) q ∙ ap (λ (o : Option (SlotList ℕ)). queue_of slots' (queue_or_none o)) (get_set_same queues q old new got)

      pub rows_put : (seen_at slots' (set queues q new) q).rows ≡ rows_of slots' new.rows
      rows_put = ap (λ (s : SlotList T). s.rows) put

      pub marked_put : (seen_at slots' (set queues q new) q).marked ≡ new.marked
      marked_put = ap (λ (s : SlotList T). s.marked) put

      pub room_put : (seen_at slots' (set queues q new) q).room ≡ new.room
      room_put = ap (λ (s : SlotList T). s.room) put

      pub other_put : (p : ℕ) → (p ≡ q → ⊥) → rows_of slots' (keys_at queues p) ≡ rows_of slots (keys_at queues p) → seen_at slots' (set queues q new) p ≡ seen_at slots queues p
      other_put p ne same =
          let keys = queue_or_none (slice_get queues p) in
          queue_is slots' (set queues q new) p ∙ ap (λ (o : Option (SlotList ℕ)). queue_of slots' (queue_or_none o)) (get_set_other queues q p new ne)
          ∙ ap (λ (rs : List (ℕ × T)). record { rows = rs; marked = keys.marked; room = keys.room }) same ∙ sym (queue_is slots queues p)

      -- the marks, where one is written
      pub puts_seen : (n : ℕ) (on : Bool) → PutsMark old.marked new.marked n on → PutsMark (seen_at slots queues q).marked (seen_at slots' (set queues q new) q).marked n on
      puts_seen n on puts other =
          ap (λ (ms : List ℕ). is_marked ms other) marked_put ∙ puts other ∙ ap (λ (ms : List ℕ). if is_number n other then on else is_marked ms other) (sym marked_seen)

      -- all but the queue
      pub keeps_but : (room : ℕ) → ((p : ℕ) → (p ≡ q → ⊥) → rows_of slots' (keys_at queues p) ≡ rows_of slots (keys_at queues p)) → new.room ≡ old.room
          → KeepsBut {T = T} (record { queues = map (queue_of slots) queues; room = room }) (record { queues = map (queue_of slots') (set queues q new); room = room }) q
      keeps_but room same rooms = record {
        others = λ p differs. other_put p (eqb-false p q differs) (same p (eqb-false p q differs));
        queue_room = room_put ∙ rooms ∙ sym room_seen;
        room = refl;
      }

    module _ (kept : AreKept slots queues) where
      pub length_seen : length old.rows ≡ length (seen_at slots queues q).rows
      length_seen = sym (ap (λ (rs : List (ℕ × T)). length rs) rows_seen ∙ length_in slots old.rows (all_there slots queues kept q old got))

      pub rising_seen : IsRising (seen_at slots queues q).rows
      rising_seen = subst (λ (rs : List (ℕ × T)). IsRising rs) (sym rows_seen) (rising_in slots old.rows (rising_here slots queues kept q old got))

      pub item_seen : (n : ℕ) → item_at (seen_at slots queues q).rows n ≡ item_or slots (item_at old.rows n)
      item_seen n = ap (λ (rs : List (ℕ × T)). item_at rs n) rows_seen ∙ item_in slots old.rows n (all_there slots queues kept q old got)

      pub some_seen : (n : ℕ) → IsSome (item_at old.rows n) → IsSome (item_at (seen_at slots queues q).rows n)
      some_seen n some = subst (λ (rs : List (ℕ × T)). IsSome (item_at rs n)) (sym rows_seen) (some_here slots queues kept q old got n some)

      pub some_unseen : (n : ℕ) → IsSome (item_at (seen_at slots queues q).rows n) → IsSome (item_at old.rows n)
      some_unseen n some = some_key slots queues kept q old got n (subst (λ (rs : List (ℕ × T)). IsSome (item_at rs n)) rows_seen some)

      pub marks_seen : ((n : ℕ) → is_marked old.marked n ≡ true → IsSome (item_at old.rows n)) → (n : ℕ) → is_marked (seen_at slots queues q).marked n ≡ true → IsSome (item_at (seen_at slots queues q).rows n)
      marks_seen there n on = some_seen n (there n (ap (λ (ms : List ℕ). is_marked ms n) (sym marked_seen) ∙ on))

      pub found_seen : (o : Option ℕ) → IfSome o (λ n. IsSome (item_at old.rows n)) → IfSome o (λ n. IsSome (item_at (seen_at slots queues q).rows n))
      found_seen None there = there
      found_seen (Some n) there = some_seen n there

      pub above_unseen : (n : ℕ) → IsAbove (seen_at slots queues q).rows n → IsAbove old.rows n
      above_unseen n above = all_out (λ m. m < n) slots old.rows (all_there slots queues kept q old got) (subst (λ (rs : List (ℕ × T)). IsAbove rs n) rows_seen above)

      pub removed_seen : (n : ℕ) → rows_of slots (remove_entry (is_number n) old.rows) ≡ remove_entry (is_number n) (seen_at slots queues q).rows
      removed_seen n = removed_in slots n old.rows (all_there slots queues kept q old got) ∙ ap (λ (rs : List (ℕ × T)). remove_entry (is_number n) rs) (sym rows_seen)

  -- as many queues as there are
  pub length_seen_all : (slots : List (Option T)) (queues : List (SlotList ℕ)) → length (map (queue_of slots) queues) ≡ length queues
  length_seen_all slots [] = refl
  length_seen_all slots (keys ∷ queues) = ap (λ (n : ℕ). suc n) (length_seen_all slots queues)

  -- what a contract sees under a number has a key
  pub stands_unseen : (slots : List (Option T)) (queues : List (SlotList ℕ)) (kept : AreKept slots queues) (q n : ℕ) → IsSome (item_at (seen_at slots queues q).rows n) → (key : ℕ) × Stands queues q n key
  stands_unseen slots queues kept q n some =
      let there = all_found (λ m k. IsSome (item_of slots k)) (keys_at queues q) (kept.rising q) (kept.there q) in
      let same : item_at (seen_at slots queues q).rows n ≡ item_or slots (item_at (keys_at queues q) n) =
      ap (λ (s : SlotList T). item_at s.rows n) (queue_is slots queues q) ∙ item_in slots (keys_at queues q) n there in
      elim (item_at (keys_at queues q) n) as (λ (o : Option ℕ). item_at (seen_at slots queues q).rows n ≡ item_or slots o → (key : ℕ) × (o ≡ Some key)) [
        | None ↦ λ e. absurd (true≢false (sym (subst (λ (o : Option T). IsSome o) e some)))
        | Some k ↦ λ e. (k, refl)
      ] same
