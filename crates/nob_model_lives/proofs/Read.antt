-- In every list of right deeds the value of a reply that is outstanding has few references.
use Rattle.std.proofs.Common.{◌≡◌, ℕ, ◌≤◌, Bool, true, false, List, [], ◌∷◌, length, filter, Option, Some, None, Result, Ok, Err, IfOk, if◌then◌else◌, subst, arith}
use Rattle.std.specs.Prelude.{◌==◌, ⊤}
use Rattle.std.specs.Option.{option_and_then}
use Rattle.nob_ids.specs.Names.{is_same, is_counted}
use Rattle.nob_ids.specs.declared.wire_rep.WireRep.{WireRep}
use Rattle.nob_pickle.specs.Limits.{most_references}
use Rattle.nob_pickle.specs.Spelling.{refs_in}
use Rattle.nob_pickle.specs.Reading.{value_read}
use Rattle.nob_pickle.specs.declared.value.Value.{Value}
use Rattle.nob_pickle.specs.declared.fault.PickleFault.{PickleFault}
use Rattle.nob_item.specs.Judging.{◌>>=◌, of_value}
use Rattle.nob_item.specs.Reading.{reply_front, call_at, call_front, reply_at, settle_at, index_at, note_by, item_by, item_read}
use Rattle.nob_item.specs.declared.item.Item.{Item}
use Rattle.nob_item.specs.declared.item.Item.TheVariants as items
use Rattle.nob_item.specs.declared.fault.ItemFault.{ItemFault}
use Rattle.nob_model_types.specs.declared.deed.Deed.{Deed}
use Rattle.nob_model_types.specs.declared.deed.Deed.TheVariants as did
use Rattle.nob_model_types.specs.declared.message.Message.{Message}
use Rattle.nob_model_types.specs.Sessions.{item_of, item_spelt, payload_at}
use Rattle.nob_model_types.specs.Messages.{message_after}
use Rattle.nob_model_work.specs.Work.{work}
use Rattle.nob_model_history.specs.Holds.{times}
use Rattle.nob_model.proofs.Carrying.{AllOutstanding}
use Rattle.nob_model_holdings.proofs.Hands.{New, outstanding_more}
use Rattle.nob_model_lives.proofs.Few.{value_few}
use Rattle.nob_model_lives.proofs.Finishes.{filter_length}

-- an item is no Reply, or one whose value has few references
abbrev pub HasFew : Item → Type 0
HasFew (items.Reply call status value) = length (refs_in value) ≤ most_references
HasFew (_) = ⊤

onward : {A B : Type 0} (P : A → Type 0) (Q : B → Type 0) (r : Result A ItemFault) (f : A → Result B ItemFault) → IfOk r P → ((x : A) → P x → IfOk (f x) Q) → IfOk (r >>= f) Q
onward P Q (Ok x) f is step = step x is
onward P Q (Err fault) f is step = tt

nothing : {A : Type 0} (r : Result A ItemFault) → IfOk r (λ x. Unit {0})
nothing (Ok x) = tt
nothing (Err fault) = tt

value_of_few : (r : Result Value PickleFault) → IfOk r (λ v. length (refs_in v) ≤ most_references) → IfOk (of_value r) (λ v. length (refs_in v) ≤ most_references)
value_of_few (Ok v) few = few
value_of_few (Err fault) few = tt

call_few : (bs : List ℕ) → IfOk (call_at bs) HasFew
unfolding call_at
call_few bs = onward (λ front. Unit {0}) HasFew (call_front bs) _ (nothing (call_front bs)) (λ front any. onward (λ value. Unit {0}) HasFew (of_value (value_read front.3)) _ (nothing (of_value (value_read front.3))) (λ value all. tt))

reply_few : (bs : List ℕ) → IfOk (reply_at bs) HasFew
unfolding reply_at
reply_few bs = onward (λ front. Unit {0}) HasFew (reply_front bs) _ (nothing (reply_front bs)) (λ front any. onward (λ v. length (refs_in v) ≤ most_references) HasFew (of_value (value_read front.2)) _ (value_of_few (value_read front.2) (value_few front.2)) (λ value few. few))

choose : (b : Bool) (one other : Result Item ItemFault) → IfOk one HasFew → IfOk other HasFew → IfOk (if b then one else other) HasFew
choose true one other first second = first
choose false one other first second = second

noted : (r : Result ℕ ItemFault) (note : ℕ → Item) → ((k : ℕ) → HasFew (note k)) → IfOk (r >>= λ k. Ok (note k)) HasFew
noted r note is = onward (λ n. Unit {0}) HasFew r (λ k. Ok (note k)) (nothing r) (λ k any. is k)

note_few : (first : ℕ) (bs : List ℕ) → IfOk (note_by first bs) HasFew
unfolding note_by
note_few first bs =
    choose (first == 3) _ _ (noted (settle_at bs) (λ k. items.Settle k) (λ k. tt))
    (choose (first == 4) _ _ (noted (index_at bs) (λ k. items.Dirty k) (λ k. tt))
    (choose (first == 5) _ _ (noted (index_at bs) (λ k. items.DirtyOk k) (λ k. tt))
    (choose (first == 6) _ _ (noted (index_at bs) (λ k. items.DirtyNo k) (λ k. tt))
    (choose (first == 7) _ _ (noted (index_at bs) (λ k. items.Clean k) (λ k. tt)) tt))))

read_few : (bs : List ℕ) → IfOk (item_read bs) HasFew
unfolding item_by
read_few [] = tt
read_few (first ∷ bs) = choose (first == 1) _ _ (call_few bs) (choose (first == 2) _ _ (reply_few bs) (note_few first bs))

none_some : {A : Type 0} (x : A) → None ≡ Some x → ⊥
none_some x e = cc

found_few : (read : Result Item ItemFault) (item : Item) → IfOk read HasFew → item_of read ≡ Some item → HasFew item
found_few (Ok other) item is found = let same : other ≡ item = cc in subst HasFew same is
found_few (Err fault) item is found = absurd (none_some item found)

spelt_few : (payload : Option (List ℕ)) (item : Item) → option_and_then item_spelt payload ≡ Some item → HasFew item
spelt_few (Some bs) item found = found_few (item_read bs) item (read_few bs) found
spelt_few None item found = absurd (none_some item found)

-- the item of a message has few references, if it is a Reply
abbrev pub CarriesFew : Message → Type 0
CarriesFew m = HasFew m.item

new_few : (s n : ℕ) (deed : Deed) (D : List Deed) → New s n CarriesFew (λ m call status value is its. omega arith) deed D
new_few s n (did.Act p k) D = λ item is. spelt_few (payload_at p k D) item is
new_few s n deed D = tt

kept_few : (s n : ℕ) (D : List Deed) (m : Message) → CarriesFew m → CarriesFew (message_after s n D m)
unfolding message_after
kept_few s n D m its = its

-- each message that is outstanding does
pub all_few : (s n : ℕ) (D : List Deed) → AllOutstanding CarriesFew (work s n D)
all_few s n [] = record { waiting = tt; ready = tt; running = tt; replies = tt }
all_few s n (deed ∷ D) = outstanding_more s n CarriesFew (λ m call status value is its. omega arith) deed D (kept_few s n (deed ∷ D)) (new_few s n deed D) (all_few s n D)

-- a reference stands in a value at most as often as it has references
pub times_few : (rep : WireRep) (reps : List WireRep) → times rep (filter is_counted reps) ≤ length reps
times_few rep reps = let one = filter_length (is_same rep) (filter is_counted reps) in let two = filter_length is_counted reps in omega (arith, one, two)
