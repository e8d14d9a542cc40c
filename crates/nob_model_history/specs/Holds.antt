-- Holds: the hand and what is lent.
use Rattle.std.specs.Prelude.{ℕ, ◌+◌, ◌-◌, Bool, true, false, ◌==◌, not, List, [], ◌∷◌, ◌++◌, length, map, filter, flat_map, if◌then◌else◌}
use Rattle.nob_ids.specs.Names.{is_same}
use Rattle.nob_ids.specs.declared.wire_rep.WireRep.{WireRep}
use Rattle.nob_pickle.specs.Spelling.{refs_in}
use Rattle.nob_item.specs.declared.item.Item.{Item}
use Rattle.nob_item.specs.declared.item.Item.TheVariants as items
use Rattle.nob_model_types.specs.declared.deed.Deed.{Deed}
use Rattle.nob_model_types.specs.declared.deed.Deed.TheVariants.{Export, Dup, Release, TakeReply}
use Rattle.nob_model_types.specs.declared.message.Loan.{Loan}
use Rattle.nob_model_types.specs.declared.message.Loan.TheVariants as loan
use Rattle.nob_model_types.specs.declared.message.RefCopy.{RefCopy}
use Rattle.nob_model_types.specs.declared.message.Message.{Message}
use Rattle.nob_model_work.specs.declared.work.Outstanding.{Outstanding}
use Rattle.nob_model_history.specs.declared.history.History.{History}

-- how often a reference stands in a list
abbrev pub times : WireRep → List WireRep → ℕ
times rep reps = length (filter (is_same rep) reps)

-- the references that came into the hand: by an Export, a Dup, and each as often as it stands in the value of a reply that was taken
abbrev pub gains : List Deed → List WireRep
gains [] = []
gains (Export rep ∷ D) = rep ∷ gains D
gains (Dup rep ∷ D) = rep ∷ gains D
gains (TakeReply call status value ∷ D) = refs_in value ++ gains D
gains (_ ∷ D) = gains D

-- the references that were released
abbrev pub releases : List Deed → List WireRep
releases [] = []
releases (Release rep ∷ D) = rep ∷ releases D
releases (_ ∷ D) = releases D

-- the hand: what came into it less what was released, 0 where more was released than came
abbrev pub hand : WireRep → List Deed → ℕ
hand rep D = times rep (gains D) - times rep (releases D)

-- whether a loan is made
abbrev pub is_lent : Loan → Bool
is_lent loan.Due = false
is_lent loan.Lent = true
is_lent loan.Never = false

-- the references that a message has lent
abbrev pub copies_lent : List RefCopy → List WireRep
copies_lent copies = map (λ copy. copy.rep) (filter (λ copy. is_lent copy.loan) copies)

-- the counted target of a Call is lent by it
abbrev pub target_lent : ℕ → Item → List WireRep
target_lent s (items.Call call target method value) = if target == 0 then [] else record { owner = s; index = target } ∷ []
target_lent s (items.Reply call status value) = []
target_lent s (items.Settle item) = []
target_lent s (items.Dirty index) = []
target_lent s (items.DirtyOk index) = []
target_lent s (items.DirtyNo index) = []
target_lent s (items.Clean index) = []

-- all that a message at space s lends
abbrev pub loans_of : ℕ → Message → List WireRep
loans_of s message = target_lent s message.item ++ copies_lent message.copies

-- all that is lent at space s, by messages that wait, ready and running jobs, and ready replies
abbrev pub lent_in : ℕ → Outstanding → List WireRep
lent_in s W = flat_map (loans_of s) W.waiting ++ (flat_map (loans_of s) W.ready ++ (flat_map (λ run. loans_of s run.message) W.running ++ flat_map (loans_of s) W.replies))

-- the holds of space s on a reference: what came into the hand or is lent, less what was released. On a right list that is hand and lent together
abbrev pub holds : ℕ → WireRep → History → ℕ
holds s rep h = (times rep (gains h.deeds) + times rep (lent_in s h.work)) - times rep (releases h.deeds)

-- whether it has any
abbrev pub is_held : ℕ → WireRep → History → Bool
is_held s rep h = not (holds s rep h == 0)
