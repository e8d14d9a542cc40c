-- What holds where there is no message.
use Rattle.std.proofs.Common.{◌≡◌, ℕ, ◌+◌, ◌^◌, ◌<◌, ◌≤◌, true, false, List, [], None, Some, refl, sym, ap, subst, ◌∙◌, arith, true≢false}
use Rattle.std.proofs.lemmas.Option.{none-some}
use Rattle.nob_slots.specs.Numbers.{NumberLists, numbers_of}
use Rattle.nob_slots.specs.Slots.{SlotList, item_at, IsAbove, IsRising}
use Rattle.nob_space_messages.specs.declared.entry.Entry.{Entry}
use Rattle.nob_space_messages.specs.declared.lanes.Lane.{Lane}
use Rattle.nob_space_messages.specs.declared.links.Link.{Link}
use Rattle.nob_space_messages.specs.Copies.{AreCarried, AreFew, copies_in, count_at}
use Rattle.nob_space_messages.specs.InLine.{AreLinked, target_at}
use Rattle.nob_space_messages.specs.Lanes.{LaneList, lane_at, runs_in}
use Rattle.nob_space_messages.specs.Lines.{AreWaiting, LineList, LineMap, has_line, items_of, places_for, reps_in, stamps_from, times_in}
use Rattle.nob_space_messages.specs.Rows.{AreCounted, AreReady, message_target, newest_first, runs_with}
use Rattle.nob_space_messages.specs.Waiting.{is_awaited}

module _ (rows : List (ℕ × Entry)) (empty : rows ≡ []) where
  nothing : (s : ℕ) (e : Entry) → item_at rows s ≡ Some e → ⊥
  nothing s e found = none-some e (sym (ap (λ (rs : List (ℕ × Entry)). item_at rs s) empty) ∙ found)

  pub none_waiting : (marked : List ℕ) (entries : ℕ) (froms : NumberLists) (lines : LineList) → ((p : ℕ) → numbers_of froms p ≡ []) → lines.owners ≡ [] → AreWaiting rows marked entries froms lines 0 0
  none_waiting marked entries froms lines none no_lines = record {
    rising = subst IsRising (sym empty) tt;
    above = subst (λ (rs : List (ℕ × Entry)). IsAbove rs 0) (sym empty) tt;
    marks = λ s e found. absurd (nothing s e found);
    stamps = λ p. none p ∙ sym (ap (stamps_from p) empty);
    waits = λ s e found. absurd (nothing s e found);
    lined = λ rep has s e found. absurd (nothing s e found);
    awaited = λ rep. ap (λ (os : List LineMap). is_awaited (reps_in os) rep) no_lines ∙ sym (ap (λ (os : List LineMap). has_line (record { owners = os; room = lines.room }) rep) no_lines);
    fresh = λ rep s le. ap (λ (os : List LineMap). times_in (record { owners = os; room = lines.room }) rep s) no_lines;
    few = λ rep. (let none = ap (λ (os : List LineMap). places_for (record { owners = os; room = lines.room }) rep) no_lines in omega (arith, none));
    entry_room = λ some. absurd (omega (arith, some));
    stamp_room = λ some. absurd (omega (arith, some));
    line_room = omega arith;
    small = omega arith;
  }

  pub none_carried : (counts : List ℕ) → ((owner : ℕ) → count_at counts owner ≡ 0) → AreCarried counts (items_of rows)
  none_carried counts none owner = none owner ∙ sym (ap (λ (rs : List (ℕ × Entry)). copies_in owner (items_of rs)) empty)

  none_linked : AreLinked [] [] []
  none_linked = record {
    line = λ t. record {
      before = λ at on. absurd (true≢false (sym on));
      behind = λ at on. absurd (true≢false (sym on));
      ends = λ at. refl;
    };
    head = λ at. refl;
  }

  pub none_ready : (rows_room : ℕ) (links : SlotList Link) (lanes : LaneList) (spaces : NumberLists) → links.rows ≡ [] → links.marked ≡ [] → lanes.rows ≡ [] → ((p : ℕ) → numbers_of spaces p ≡ []) → AreReady rows rows_room links lanes spaces 0 0
  none_ready rows_room links lanes spaces no_links no_marks no_lanes none = record {
    rising = subst IsRising (sym empty) tt;
    below = subst (λ (rs : List (ℕ × Entry)). IsAbove rs 0) (sym empty) tt;
    lines = subst (λ (ls : List (ℕ × Link)). AreLinked ls lanes.rows links.marked) (sym no_links) (subst (λ (ls : List (ℕ × Lane)). AreLinked [] ls links.marked) (sym no_lanes) (subst (λ (ms : List ℕ). AreLinked [] [] ms) (sym no_marks) none_linked));
    targets = λ at. ap (λ (ls : List (ℕ × Link)). target_at ls at) no_links ∙ sym (ap (λ (rs : List (ℕ × Entry)). message_target rs at) empty);
    froms = λ p. none p ∙ sym (ap (stamps_from p) empty);
    messages_room = omega arith;
    links_room = omega arith;
    lanes_room = omega arith;
    froms_room = omega arith;
    small = omega arith;
  }

  pub none_counted : (lanes : LaneList) → lanes.rows ≡ [] → AreCounted lanes (newest_first rows)
  none_counted lanes no_lanes t = ap (λ (ls : List (ℕ × Lane)). runs_in (lane_at ls t)) no_lanes ∙ sym (ap (λ (rs : List (ℕ × Entry)). runs_with (newest_first rs) t) empty)

pub none_few : (counts : List ℕ) → ((owner : ℕ) → count_at counts owner ≡ 0) → AreFew counts 0
none_few counts none owner = (let count = none owner in omega (arith, count))
