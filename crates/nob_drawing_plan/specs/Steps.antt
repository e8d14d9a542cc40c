-- What one deed changes of the bars of its space, by what can be looked up once it is done: which of the marks that have
-- a bar still hold, and which marks are new. The newest deed stands FIRST.
use Rattle.std.specs.Prelude.{ℕ, Bool, true, ◌&&◌, not, ◌==◌, List, [], ◌∷◌, length, map, filter, flat_map, Option, Some, None, drop, if◌then◌else◌}
use Rattle.nob_item.specs.declared.item.Item.{Item}
use Rattle.nob_item.specs.declared.item.Item.TheVariants as items
use Rattle.nob_model_types.specs.Sessions.{closed, number, item_at}
use Rattle.nob_model_types.specs.Objects.{is_live}
use Rattle.nob_model_types.specs.declared.deed.Deed.{Deed}
use Rattle.nob_model_types.specs.declared.deed.Deed.TheVariants.{Export, Act, Open}
use Rattle.nob_model_history.specs.Transit.{is_settled, is_pinned}
use Rattle.nob_model_history.specs.declared.transit.SentItem.{SentItem}
use Rattle.nob_check_ledgers.specs.Ledgers.{ledger_after}
use Rattle.nob_check_ledgers.specs.declared.ledger.Ledger.{Ledger}
use Rattle.nob_drawing_plan.specs.declared.mark.Mark.{Mark}
use Rattle.nob_drawing_plan.specs.declared.mark.Mark.TheVariants as marks
use Rattle.nob_drawing_plan.specs.declared.bar.Bar.{Bar}
use Rattle.nob_drawing_plan.specs.declared.steps.Change.{Change}
use Rattle.nob_drawing_plan.specs.declared.steps.Change.TheVariants as changes
use Rattle.nob_drawing_plan.specs.Marks.{pins_of, is_quiet_deed}
use Rattle.nob_drawing_plan.specs.Bars.{goes_on, with_begun}

-- what acting on an item from p changes of the marks
abbrev pub change_by : ℕ → Option Item → Change
change_by p (Some (items.Dirty index)) = changes.Asked p index
change_by p (Some (items.Clean index)) = changes.GaveUp p index
change_by p _ = changes.Other

-- what a deed changes of them, the pins of what it sends aside
abbrev pub change_of : Deed → List Deed → Change
change_of (Export rep) D = changes.Exported rep
change_of (Act p k) D = change_by p (item_at p k D)
change_of (Open p k) D = changes.Opened p
change_of (_) D = changes.Other

-- whether client c, whose last word for an index was a Dirty that was answered by DirtyOk, has such a last word after a change
abbrev pub is_entered_still : (s index c : ℕ) → Change → List Deed → Bool
is_entered_still s index c (changes.Asked p x) D = if p == c && x == index then is_live s x D else true
is_entered_still s index c (changes.GaveUp p x) D = not (p == c && x == index)
is_entered_still s index c (changes.Opened p) D = not (p == c)
is_entered_still s index c (_) D = true

-- whether a mark that held before a change holds after it
abbrev pub holds_still : ℕ → Change → List Deed → Mark → Bool
holds_still s change D (marks.Live rep) = is_live s rep.index D
holds_still s change D (marks.Listed rep c) = not (closed c D) && is_entered_still s rep.index c change D
holds_still s change D (marks.Pinned rep p session k) = session == number p D && not (is_settled p k D) && not (closed p D)

-- the mark that holds after a change and perhaps not before, where there is one
abbrev pub first_new : ℕ → Change → List Deed → Option Mark
first_new s (changes.Exported rep) D = if is_live s rep.index D then Some (marks.Live rep) else None
first_new s (changes.Asked p x) D = if is_live s x D && not (closed p D) then Some (marks.Listed (record { owner = s; index = x }) p) else None
first_new s _ D = None

-- the pins of what was sent of these items
abbrev pub new_pins : List Deed → List SentItem → List Mark
new_pins D sent_items = flat_map pins_of (filter (is_pinned D) sent_items)

-- a bar ends at a row of its space by a change after which its mark holds no more
abbrev pub ended_by : (s row : ℕ) → Change → List Deed → Bar → Bar
ended_by s row change D bar = if goes_on s bar && not (holds_still s change D bar.mark) then record { space = bar.space; mark = bar.mark; lane = bar.lane; start = bar.start; end = Some row } else bar

-- a bar begins for a mark, where there is one that has none
abbrev pub one_begun : (s row : ℕ) → Option Mark → List Bar → List Bar
one_begun s row None bars = bars
one_begun s row (Some mark) bars = with_begun s row (mark ∷ []) bars

-- the bars after a change at a row of its space, by which these items were sent
abbrev pub bars_by : (s row : ℕ) → Change → List Deed → List SentItem → List Bar → List Bar
bars_by s row change D sent_items bars = with_begun s row (new_pins D sent_items) (one_begun s row (first_new s change D) (map (ended_by s row change D) bars))

-- how many of so many items that were sent before a deed get no pin by it: all of them, unless a session is opened anew, under a number that it had before
abbrev pub passed_over : Deed → ℕ → ℕ
passed_over (Open p k) count = 0
passed_over _ count = count

-- what of all that a ledger's space sent may have pins after a deed that it had not before
abbrev pub just_sent : Deed → Ledger → List SentItem
just_sent deed ledger = drop (passed_over deed (length ledger.sent_items)) (ledger_after deed ledger).sent_items

-- the bars after a deed of a ledger's space at a row
abbrev pub bars_by_deed : ℕ → Deed → Ledger → List Bar → List Bar
bars_by_deed row deed ledger bars = if is_quiet_deed deed then bars else bars_by ledger.index.here.space row (change_of deed ledger.index.deeds) (deed ∷ ledger.index.deeds) (just_sent deed ledger) bars
