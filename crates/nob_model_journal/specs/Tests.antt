-- The promises as tests: a journal speaks of few spaces, peers and references, and it is enough to look at those.
use Rattle.std.specs.Prelude.{ℕ, ◌+◌, Bool, true, false, ◌&&◌, ◌||◌, not, ◌==◌, List, [], ◌∷◌, Option, Some, None, if◌then◌else◌}
use Rattle.std.specs.List.{list_any, list_all}
use Rattle.nob_ids.specs.declared.wire_rep.WireRep.{WireRep}
use Rattle.nob_item.specs.Kinds.{counted_in}
use Rattle.nob_item.specs.declared.item.Item.{Item}
use Rattle.nob_item.specs.declared.item.Item.TheVariants as items
use Rattle.nob_model_types.specs.declared.entry.Entry.{Entry}
use Rattle.nob_model_types.specs.Deeds.{deed_in}
use Rattle.nob_model_types.specs.Same.{same_value}
use Rattle.nob_model_types.specs.Sessions.{closed, number, item_at}
use Rattle.nob_model_types.specs.declared.deed.Deed.{Deed}
use Rattle.nob_model_types.specs.declared.deed.Deed.TheVariants.{Act, Withdraw}
use Rattle.nob_model_work.specs.Gifts.{all_gifts}
use Rattle.nob_model_work.specs.declared.gifts.Gift.{Gift}
use Rattle.nob_model.specs.Right.{own_ref}
use Rattle.nob_model_journal.specs.Journals.{deeds_at, sent_in, acted_in}
use Rattle.nob_model_journal.specs.Safety.{can_use, has_open_copy}
use Rattle.nob_model_journal.specs.Losses.{is_loss, is_excuse, sources}
use Rattle.nob_model_journal.specs.Findings.{is_fault_found}

-- spaces with one more, unless it is one of them
abbrev pub with_space : ℕ → List ℕ → List ℕ
with_space s spaces = if list_any (λ other. other == s) spaces then spaces else s ∷ spaces

-- the spaces that have entries, each once
abbrev pub spaces_in : List Entry → List ℕ
spaces_in [] = []
spaces_in (entry ∷ J) = with_space entry.space (spaces_in J)

-- sessions with one more, unless it is one of them: each a peer with the number of the session with it
abbrev pub with_session : (p k : ℕ) → List (ℕ × ℕ) → List (ℕ × ℕ)
with_session p k sessions = if list_any (λ other. other.0 == p && other.1 == k) sessions then sessions else (p, k) ∷ sessions

-- the sessions in which items were acted on, each once
abbrev pub sessions_in : List Deed → List (ℕ × ℕ)
sessions_in [] = []
sessions_in (Act p k ∷ D) = with_session p (number p D) (sessions_in D)
sessions_in (_ ∷ D) = sessions_in D

-- whether a test holds of each entry of a journal and the entries before it
abbrev pub each : (Entry → List Entry → Bool) → List Entry → Bool
each test [] = true
each test (entry ∷ J) = test entry J && each test J

-- whether two items are the same
abbrev pub same_item : Item → Item → Bool
same_item (items.Call call target method value) (items.Call call2 target2 method2 value2) = call == call2 && target == target2 && method == method2 && same_value value value2
same_item (items.Reply call status value) (items.Reply call2 status2 value2) = call == call2 && status == status2 && same_value value value2
same_item (items.Settle item) (items.Settle item2) = item == item2
same_item (items.Dirty index) (items.Dirty index2) = index == index2
same_item (items.DirtyOk index) (items.DirtyOk index2) = index == index2
same_item (items.DirtyNo index) (items.DirtyNo index2) = index == index2
same_item (items.Clean index) (items.Clean index2) = index == index2
same_item _ _ = false

-- whether items with their numbers are the first of these, which are counted from k
abbrev pub is_front : ℕ → List (ℕ × Option Item) → List Item → Bool
is_front k [] items = true
is_front k ((number, None) ∷ acted_on) items = false
is_front k ((number, Some item) ∷ acted_on) [] = false
is_front k ((number, Some item) ∷ acted_on) (sent_item ∷ items) = number == k && same_item item sent_item && is_front (k + 1) acted_on items

-- whether nothing was acted on after the session with its sender closed
abbrev pub acts_while_open : List Deed → Bool
acts_while_open [] = true
acts_while_open (Act p k ∷ D) = not (closed p D) && acts_while_open D
acts_while_open (_ ∷ D) = acts_while_open D

-- whether nothing was sent after the session with its receiver closed, by what each deed gave
abbrev pub sends_while_open : List Deed → List (List Gift) → Bool
sends_while_open [] G = true
sends_while_open (deed ∷ D) [] = true
sends_while_open (deed ∷ D) (gifts ∷ G) = list_all (λ gift. not (closed gift.to D)) gifts && sends_while_open D G

-- whether the fronts of space b are as they should be: of what it acted on in each session, and of when it acted and sent
abbrev pub has_fronts : ℕ → List Entry → ℕ → Bool
has_fronts n J b = list_all (λ session. is_front 1 (acted_in session.0 b session.1 J) (sent_in n session.0 b session.1 J)) (sessions_in (deeds_at b J)) && acts_while_open (deeds_at b J) && sends_while_open (deeds_at b J) (all_gifts b n (deeds_at b J))

-- whether all fronts are
abbrev pub keeps_fronts : ℕ → List Entry → Bool
keeps_fronts n J = list_all (has_fronts n J) (spaces_in J)

-- whether space s needs a reference
abbrev pub needs : ℕ → WireRep → List Entry → ℕ → Bool
needs n rep J s = can_use n s rep J || has_open_copy n s rep J

-- whether a deed of space s isn't the withdrawal of an object that a space needs
abbrev pub is_unneeded : (n s : ℕ) → Option Deed → List Entry → Bool
is_unneeded n s (Some (Withdraw index)) J = list_all (λ other. not (needs n (own_ref s index) J other)) (spaces_in J)
is_unneeded n s _ J = true

-- whether no object is withdrawn while a space needs it
abbrev pub withdraws_safely : ℕ → List Entry → Bool
withdraws_safely n J = each (λ entry before. is_unneeded n entry.space (deed_in entry) before) J

-- the references that can be lost by an item from p that is acted on
abbrev pub reps_at_risk : ℕ → Option Item → List WireRep
reps_at_risk p None = []
reps_at_risk p (Some (items.Call call target method value)) = counted_in (items.Call call target method value)
reps_at_risk p (Some (items.Reply call status value)) = counted_in (items.Reply call status value)
reps_at_risk p (Some (items.Settle item)) = []
reps_at_risk p (Some (items.Dirty index)) = []
reps_at_risk p (Some (items.DirtyOk index)) = []
reps_at_risk p (Some (items.DirtyNo index)) = record { owner = p; index = index } ∷ []
reps_at_risk p (Some (items.Clean index)) = []

-- whether a reference isn't lost where space s acts on item k from p, or is with an excuse for each copy
abbrev pub is_excused : (n s p k : ℕ) → List Entry → WireRep → Bool
is_excused n s p k J rep = not (is_loss s n p rep (item_at p k (deeds_at s J)) (deeds_at s J)) || list_all (is_excuse n s rep J) (sources s n rep (Act p k ∷ deeds_at s J))

-- whether each reference that is lost by a deed of space s is excused
abbrev pub is_lossless : (n s : ℕ) → Option Deed → List Entry → Bool
is_lossless n s (Some (Act p k)) J = list_all (is_excused n s p k J) (reps_at_risk p (item_at p k (deeds_at s J)))
is_lossless n s _ J = true

-- whether no reference is lost without a cause
abbrev pub excuses_losses : ℕ → List Entry → Bool
excuses_losses n J = each (λ entry before. is_lossless n entry.space (deed_in entry) before) J

-- whether no session is closed for a fault in what came over it
abbrev pub finds_all : List Entry → Bool
finds_all J = list_all (λ entry. not (is_fault_found entry.result)) J
