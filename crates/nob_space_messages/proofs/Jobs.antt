-- What holds of the ready jobs and of those that run after a change.
use Rattle.std.proofs.Common.{◌≡◌, ℕ, ◌+◌, ◌-◌, ◌<◌, ◌≤◌, ◌==◌, ◌^◌, not, List, [], ◌∷◌, ◌++◌, length, filter, Option, Some, None, refl, sym, ap, subst, ◌∙◌, arith, if◌then◌else◌}
use Rattle.std.specs.Map.{remove_entry}
use Rattle.nob_model_acting.specs.Candidates.{target_of}
use Rattle.nob_model_types.specs.declared.message.Message.{Message}
use Rattle.nob_model_types.specs.Messages.{is_not_from}
use Rattle.nob_model_work.specs.declared.work.Run.{Run}
use Rattle.nob_model_work.specs.Work.{is_run}
use Rattle.nob_slots.proofs.Rising.{rising_push}
use Rattle.nob_slots.specs.Numbers.{NumberLists, Puts, numbers_of}
use Rattle.nob_slots.specs.Slots.{SlotList, item_at, is_number, IsAbove, IsRising}
use Rattle.nob_queues.proofs.Found.{all_removed, pushed_below, removed_rising}
use Rattle.nob_space_messages.specs.declared.entry.Entry.{Entry}
use Rattle.nob_space_messages.specs.declared.links.Link.{Link}
use Rattle.nob_space_messages.specs.InLine.{AreLinked, target_at, with_at}
use Rattle.nob_space_messages.specs.Lanes.{LaneList, is_target, lane_at, runs_in}
use Rattle.nob_space_messages.specs.Lines.{items_of, stamps_from}
use Rattle.nob_space_messages.specs.Rows.{AreCounted, AreReady, message_target, newest_first, run_of, runs_with}
use Rattle.nob_space_messages.proofs.Beside.{pushed_targets, taken_targets}
use Rattle.nob_space_messages.proofs.Counted.{counted_less, runs_parted}
use Rattle.nob_space_messages.proofs.Found.{kept, kept_below, kept_rising}
use Rattle.nob_space_messages.proofs.Newest.{one_newer}
use Rattle.nob_space_messages.proofs.Stamps.{stamps_dropped, stamps_pushed, stamps_taken}

module _ {rows : List (ℕ × Entry)} {rows_room : ℕ} {links : SlotList Link} {lanes : LaneList} {spaces : NumberLists} {next room : ℕ} (are : AreReady rows rows_room links lanes spaces next room) where
  -- one more
  pub ready_pushed : (e : Entry) (t : ℕ) (rows' : List (ℕ × Entry)) (rows_room' : ℕ) (links' : SlotList Link) (lanes' : LaneList) (spaces' : NumberLists)
      → rows' ≡ rows ++ (next, e) ∷ [] → 0 < room → t ≡ target_of e.message.item
      → ((k : ℕ) → target_at links'.rows k ≡ with_at (target_at links.rows) next (Some t) k) → AreLinked links'.rows lanes'.rows links'.marked
      → Puts spaces spaces' e.message.from (numbers_of spaces e.message.from ++ next ∷ [])
      → rows_room ≤ rows_room' + 1 → links'.room + 1 ≡ links.room → lanes.room ≤ lanes'.room + 1 → spaces'.room + 1 ≡ spaces.room
      → AreReady rows' rows_room' links' lanes' spaces' (next + 1) (room - 1)
  ready_pushed e t rows' rows_room' links' lanes' spaces' is some its targets lines puts more_rows more_links more_lanes more_spaces =
      record {
        rising = subst IsRising (sym is) (rising_push rows (next, e) are.rising are.below);
        below = subst (λ (rs : List (ℕ × Entry)). IsAbove rs (next + 1)) (sym is) (pushed_below next (next + 1) e rows (omega arith) are.below);
        lines = lines;
        targets = λ k. pushed_targets links.rows links'.rows rows are.targets next t e are.below its targets k ∙ ap (λ (rs : List (ℕ × Entry)). message_target rs k) (sym is);
        froms = λ p. stamps_pushed spaces spaces' rows next e are.froms puts p ∙ ap (λ (rs : List (ℕ × Entry)). stamps_from p rs) (sym is);
        messages_room = omega (arith, some, more_rows, are.messages_room);
        links_room = omega (arith, some, more_links, are.links_room);
        lanes_room = omega (arith, some, more_lanes, are.lanes_room);
        froms_room = omega (arith, some, more_spaces, are.froms_room);
        small = omega (arith, some, are.small);
      }

  -- one less
  pub ready_taken : (n : ℕ) (e : Entry) (rows' : List (ℕ × Entry)) (rows_room' : ℕ) (links' : SlotList Link) (lanes' : LaneList) (spaces' : NumberLists)
      → item_at rows n ≡ Some e → rows' ≡ remove_entry (is_number n) rows
      → ((k : ℕ) → target_at links'.rows k ≡ with_at (target_at links.rows) n None k) → AreLinked links'.rows lanes'.rows links'.marked
      → Puts spaces spaces' e.message.from (filter (λ other. not (n == other)) (numbers_of spaces e.message.from))
      → rows_room' ≡ rows_room → links'.room ≡ links.room → lanes.room ≤ lanes'.room → spaces'.room ≡ spaces.room
      → AreReady rows' rows_room' links' lanes' spaces' next room
  ready_taken n e rows' rows_room' links' lanes' spaces' found is targets lines puts same_rows same_links more_lanes same_spaces =
      record {
        rising = subst IsRising (sym is) (removed_rising n rows are.rising);
        below = subst (λ (rs : List (ℕ × Entry)). IsAbove rs next) (sym is) (all_removed (λ row. row.0 < next) n rows are.below);
        lines = lines;
        targets = λ k. taken_targets links.rows links'.rows rows are.targets n are.rising targets k ∙ ap (λ (rs : List (ℕ × Entry)). message_target rs k) (sym is);
        froms = λ p. stamps_taken spaces spaces' rows n e are.froms are.rising found puts p ∙ ap (λ (rs : List (ℕ × Entry)). stamps_from p rs) (sym is);
        messages_room = omega (arith, same_rows, are.messages_room);
        links_room = omega (arith, same_links, are.links_room);
        lanes_room = omega (arith, more_lanes, are.lanes_room);
        froms_room = omega (arith, same_spaces, are.froms_room);
        small = are.small;
      }

  -- those from a space less
  pub ready_dropped : (p : ℕ) (rows' : List (ℕ × Entry)) (rows_room' : ℕ) (links' : SlotList Link) (lanes' : LaneList) (spaces' : NumberLists)
      → rows' ≡ kept (is_not_from p) rows
      → ((k : ℕ) → target_at links'.rows k ≡ message_target rows' k) → AreLinked links'.rows lanes'.rows links'.marked
      → Puts spaces spaces' p []
      → rows_room' ≡ rows_room → links'.room ≡ links.room → lanes.room ≤ lanes'.room → spaces'.room ≡ spaces.room
      → AreReady rows' rows_room' links' lanes' spaces' next room
  ready_dropped p rows' rows_room' links' lanes' spaces' is targets lines puts same_rows same_links more_lanes same_spaces =
      record {
        rising = subst IsRising (sym is) (kept_rising (is_not_from p) rows are.rising);
        below = subst (λ (rs : List (ℕ × Entry)). IsAbove rs next) (sym is) (kept_below (is_not_from p) next rows are.below);
        lines = lines;
        targets = targets;
        froms = λ q. stamps_dropped spaces spaces' rows p are.froms puts q ∙ ap (λ (rs : List (ℕ × Entry)). stamps_from q rs) (sym is);
        messages_room = omega (arith, same_rows, are.messages_room);
        links_room = omega (arith, same_links, are.links_room);
        lanes_room = omega (arith, more_lanes, are.lanes_room);
        froms_room = omega (arith, same_spaces, are.froms_room);
        small = are.small;
      }

  -- a job that runs no more
  pub ready_ended : (links' : SlotList Link) (lanes' : LaneList) → links'.rows ≡ links.rows → AreLinked links'.rows lanes'.rows links'.marked → links'.room ≡ links.room → lanes.room ≤ lanes'.room → AreReady rows rows_room links' lanes' spaces next room
  ready_ended links' lanes' same lines same_links more_lanes = record {
    rising = are.rising;
    below = are.below;
    lines = lines;
    targets = λ k. ap (λ (ls : List (ℕ × Link)). target_at ls k) same ∙ are.targets k;
    froms = are.froms;
    messages_room = are.messages_room;
    links_room = omega (arith, same_links, are.links_room);
    lanes_room = omega (arith, more_lanes, are.lanes_room);
    froms_room = are.froms_room;
    small = are.small;
  }

-- ---- one message more
pub items_more : (n : ℕ) (e : Entry) (rows : List (ℕ × Entry)) → items_of (rows ++ (n, e) ∷ []) ≡ items_of rows ++ e.message ∷ []
items_more n e [] = refl
items_more n e (row ∷ rows) = ap (λ (ms : List Message). row.1.message ∷ ms) (items_more n e rows)

-- ---- how many run
module _ (lanes lanes' : LaneList) (rows : List (ℕ × Entry)) (counted : AreCounted lanes (newest_first rows)) where
  -- as many of each target
  pub counted_same : ((t : ℕ) → runs_in (lane_at lanes'.rows t) ≡ runs_in (lane_at lanes.rows t)) → AreCounted lanes' (newest_first rows)
  counted_same same t = same t ∙ counted t

  -- one more
  pub counted_more : (n t : ℕ) (e : Entry) (rows' : List (ℕ × Entry)) → rows' ≡ rows ++ (n, e) ∷ [] → t ≡ target_of e.message.item
      → ((k : ℕ) → runs_in (lane_at lanes'.rows k) ≡ (if is_target t k then 1 + runs_in (lane_at lanes.rows k) else runs_in (lane_at lanes.rows k)))
      → AreCounted lanes' (newest_first rows')
  counted_more n t e rows' is its runs k =
      runs k ∙ ap (λ (m : ℕ). if is_target t k then 1 + m else m) (counted k) ∙ ap (λ (u : ℕ). if is_target u k then 1 + runs_with (newest_first rows) k else runs_with (newest_first rows) k) its
      ∙ ap (λ (rs : List Run). runs_with rs k) (sym (ap newest_first is ∙ one_newer rows (n, e)))

  -- one less
  pub counted_fewer : (job : ℕ) (run : Run) (t : ℕ) (rows' : List (ℕ × Entry)) → newest_first rows' ≡ filter (λ r. not (is_run job r)) (newest_first rows) → filter (is_run job) (newest_first rows) ≡ run ∷ [] → t ≡ target_of run.message.item
      → ((k : ℕ) → runs_in (lane_at lanes.rows k) ≡ (if is_target t k then 1 + runs_in (lane_at lanes'.rows k) else runs_in (lane_at lanes'.rows k)))
      → AreCounted lanes' (newest_first rows')
  counted_fewer job run t rows' is alone its runs k =
      counted_less (is_target (target_of run.message.item) k) (runs_in (lane_at lanes'.rows k)) (runs_with (filter (λ r. not (is_run job r)) (newest_first rows)) k)
      (ap (λ (u : ℕ). if is_target u k then 1 + runs_in (lane_at lanes'.rows k) else runs_in (lane_at lanes'.rows k)) (sym its) ∙ sym (runs k) ∙ counted k ∙ runs_parted (is_run job) (newest_first rows) run alone k)
      ∙ ap (λ (rs : List Run). runs_with rs k) (sym is)
