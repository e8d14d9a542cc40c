-- Loans that are made: no loan outstanding is due that could be made. So a deed makes loans outstanding only where it makes a
-- reference usable that was not.
use Rattle.std.specs.Prelude.{ℕ, Bool, ◌&&◌, ◌||◌, not, List, [], ◌∷◌, Option, Some, None, filter}
use Rattle.std.specs.List.{list_any, list_all}
use Rattle.nob_ids.specs.declared.wire_rep.WireRep.{WireRep}
use Rattle.nob_item.specs.Kinds.{counted_in}
use Rattle.nob_item.specs.declared.item.Item.{Item}
use Rattle.nob_item.specs.declared.item.Item.TheVariants as items
use Rattle.nob_model_types.specs.declared.deed.Deed.{Deed}
use Rattle.nob_model_types.specs.declared.deed.Deed.TheVariants.{Act}
use Rattle.nob_model_types.specs.declared.message.RefCopy.{RefCopy}
use Rattle.nob_model_types.specs.declared.message.Message.{Message}
use Rattle.nob_model_types.specs.Sessions.{item_at}
use Rattle.nob_model_types.specs.Turns.{is_own, is_usable}
use Rattle.nob_model_work.specs.declared.work.Outstanding.{Outstanding}
use Rattle.nob_check_ledgers.specs.Acting.{is_due}

-- whether a loan of a reference can be made
abbrev pub can_lend : (s n : ℕ) → List Deed → WireRep → Bool
can_lend s n D rep = is_own s rep || is_usable s n rep D

-- whether the loan of a copy is due and can be made
abbrev pub is_ripe : (s n : ℕ) → List Deed → RefCopy → Bool
is_ripe s n D copy = is_due copy && can_lend s n D copy.rep

-- whether a message has no such loan
abbrev pub is_lent : (s n : ℕ) → List Deed → Message → Bool
is_lent s n D message = list_all (λ copy. not (is_ripe s n D copy)) message.copies

-- whether nothing outstanding has such a loan
abbrev pub all_lent : (s n : ℕ) → List Deed → Outstanding → Bool
all_lent s n D work = list_all (is_lent s n D) work.waiting && list_all (is_lent s n D) work.ready && list_all (λ run. is_lent s n D run.message) work.running && list_all (is_lent s n D) work.replies

-- the references that acting on an item from p may make usable
abbrev pub named_in : ℕ → Option Item → List WireRep
named_in p None = []
named_in p (Some (items.Call call target method value)) = counted_in (items.Call call target method value)
named_in p (Some (items.Reply call status value)) = counted_in (items.Reply call status value)
named_in p (Some (items.Settle item)) = []
named_in p (Some (items.Dirty index)) = []
named_in p (Some (items.DirtyOk index)) = record { owner = p; index = index } ∷ []
named_in p (Some (items.DirtyNo index)) = []
named_in p (Some (items.Clean index)) = []

-- the references that a deed may make usable
abbrev pub named_by : Deed → List Deed → List WireRep
named_by (Act p k) D = named_in p (item_at p k D)
named_by (_) D = []

-- those of them of which no loan can be made before
abbrev pub awaited_by : (s n : ℕ) → Deed → List Deed → List WireRep
awaited_by s n deed D = filter (λ rep. not (can_lend s n D rep)) (named_by deed D)

-- whether a loan of one of them can be made after
abbrev pub makes_usable : (s n : ℕ) → Deed → List Deed → Bool
makes_usable s n deed D = list_any (can_lend s n (deed ∷ D)) (awaited_by s n deed D)
