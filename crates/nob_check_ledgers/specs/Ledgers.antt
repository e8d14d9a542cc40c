-- The ledger of a space: what one pass over a journal keeps of it, and what one deed more makes of that.
use Rattle.std.specs.Prelude.{ℕ, ◌+◌, ◌-◌, Bool, ◌&&◌, not, ◌==◌, List, [], ◌∷◌, ◌++◌}
use Rattle.std.specs.List.{list_all}
use Rattle.nob_ids.specs.declared.wire_rep.WireRep.{WireRep}
use Rattle.nob_model_types.specs.Sessions.{closed, number, item_at}
use Rattle.nob_model_types.specs.declared.deed.Deed.{Deed}
use Rattle.nob_model_types.specs.declared.deed.Deed.TheVariants.{Act}
use Rattle.nob_model_work.specs.Work.{work, work_after, with_loans}
use Rattle.nob_model_work.specs.Gifts.{gifts, all_gifts}
use Rattle.nob_model_work.specs.declared.gifts.Gift.{Gift}
use Rattle.nob_model_work.specs.declared.work.Outstanding.{Outstanding}
use Rattle.nob_model_history.specs.Holds.{times, gains, releases, lent_in}
use Rattle.nob_model_history.specs.Transit.{sent_of, with_gifts}
use Rattle.nob_model_journal.specs.Tests.{acts_while_open, sends_while_open}
use Rattle.nob_check_ledgers.specs.Making.{all_lent}
use Rattle.nob_check_ledgers.specs.declared.lists.ActedItem.{ActedItem}
use Rattle.nob_check_ledgers.specs.declared.ledger.Ledger.{Ledger}

-- what was acted on after a deed, behind these
abbrev pub acted_after : Deed → List Deed → List ActedItem → List ActedItem
acted_after (Act p k) D items = items ++ record { from = p; session = number p D; number = k; item = item_at p k D } ∷ []
acted_after (_) D items = items

-- what was acted on, the first first
abbrev pub acted_items : List Deed → List ActedItem
acted_items [] = []
acted_items (deed ∷ D) = acted_after deed D (acted_items D)

-- whether nothing was acted on after its session closed, after a deed
abbrev pub acts_open_after : Deed → List Deed → Bool → Bool
acts_open_after (Act p k) D before = not (closed p D) && before
acts_open_after (_) D before = before

-- whether the sessions with the receivers of gifts are open
abbrev pub are_open : List Gift → List Deed → Bool
are_open gifts D = list_all (λ gift. not (closed gift.to D)) gifts

-- what is outstanding after the first of these deeds, by what was outstanding before it
abbrev pub work_with : (s n : ℕ) → List Deed → Outstanding → Outstanding
work_with s n [] W = W
work_with s n (deed ∷ D) W = with_loans s n (deed ∷ D) (work_after s n deed D W)

-- the ledger of space s, among n, that did this
abbrev pub ledger_of : (s n : ℕ) → List Deed → Ledger
ledger_of s n D = record {
  index = record { here = record { space = s; n = n }; deeds = D };
  work = work s n D;
  sent_items = sent_of D (all_gifts s n D);
  acted_items = acted_items D;
  acts_open = acts_while_open D;
  sends_open = sends_while_open D (all_gifts s n D);
}

-- whether no loan outstanding is due that can be made
abbrev pub has_loans_made : Ledger → Bool
has_loans_made ledger = all_lent ledger.index.here.space ledger.index.here.n ledger.index.deeds ledger.work

-- the ledger after a deed that gave this
abbrev pub ledger_with : Deed → List Gift → Ledger → Ledger
ledger_with deed given ledger = record {
  index = record { here = ledger.index.here; deeds = deed ∷ ledger.index.deeds };
  work = work_with ledger.index.here.space ledger.index.here.n (deed ∷ ledger.index.deeds) ledger.work;
  sent_items = with_gifts ledger.index.deeds ledger.sent_items given;
  acted_items = acted_after deed ledger.index.deeds ledger.acted_items;
  acts_open = acts_open_after deed ledger.index.deeds ledger.acts_open;
  sends_open = are_open given ledger.index.deeds && ledger.sends_open;
}

-- the ledger after a deed
abbrev pub ledger_after : Deed → Ledger → Ledger
ledger_after deed ledger = ledger_with deed (gifts ledger.index.here.space ledger.index.here.n deed ledger.index.deeds ledger.work) ledger

-- whether the space of a ledger holds a reference
abbrev pub is_held_by : WireRep → Ledger → Bool
is_held_by rep ledger = not ((times rep (gains ledger.index.deeds) + times rep (lent_in ledger.index.here.space ledger.work)) - times rep (releases ledger.index.deeds) == 0)
