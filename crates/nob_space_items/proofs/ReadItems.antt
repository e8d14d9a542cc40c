-- An item that can be read carries few references.
use Rattle.std.proofs.Common.{◌≡◌, ℕ, ◌≤◌, ◌==◌, List, [], ◌∷◌, length, filter, Some, Result, Ok, Err, refl, sym, ap, subst, ◌∙◌, arith}
use Rattle.std.proofs.lemmas.List.Sums.{length-filter, count_by-le-length}
use Rattle.nob_ids.specs.Names.{is_counted}
use Rattle.nob_pickle.specs.Spelling.{refs_in}
use Rattle.nob_pickle.specs.Reading.{value_read}
use Rattle.nob_pickle.specs.declared.fault.PickleFault.{PickleFault}
use Rattle.nob_pickle.specs.declared.value.Value.{Value}
use Rattle.nob_item.specs.Judging.{◌>>=◌, of_value}
use Rattle.nob_item.specs.Kinds.{counted_in}
use Rattle.nob_item.specs.Reading.{call_front, call_at, reply_front, reply_at, settle_at, index_at, note_by, item_by, item_read}
use Rattle.nob_item.specs.declared.fault.ItemFault.{ItemFault}
use Rattle.nob_item.specs.declared.fault.ItemFault.TheVariants as item_faults
use Rattle.nob_item.specs.declared.item.Item.{Item}
use Rattle.nob_item.specs.declared.item.Item.TheVariants as all
use Rattle.nob_item.proofs.Choices.{bind_ok}
use Rattle.nob_model_types.specs.Sessions.{item_of, item_spelt}
use Rattle.nob_space_items.proofs.Read.{value_few, either, no_ok}

of_value_ok : (r : Result Value PickleFault) (v : Value) → of_value r ≡ Ok v → r ≡ Ok v
of_value_ok (Ok x) v e = (let is : x ≡ v = cc in ap (λ (w : Value). Ok w) is)
of_value_ok (Err fault) v e = absurd (cc)

counted_few : (v : Value) → length (refs_in v) ≤ 32 → length (filter is_counted (refs_in v)) ≤ 32
counted_few v few =
    let fewer : length (filter is_counted (refs_in v)) ≤ length (refs_in v) = subst (λ k. k ≤ length (refs_in v)) (sym (length-filter is_counted (refs_in v))) (count_by-le-length is_counted (refs_in v)) in
    omega (arith, few, fewer)

abbrev read_as : Item → Result Item ItemFault
read_as item = Ok item

item_is : (x y : Item) → read_as x ≡ read_as y → x ≡ y
item_is x y e = cc

call_few : (bs : List ℕ) (item : Item) → call_at bs ≡ Ok item → length (counted_in item) ≤ 32
unfolding call_at
call_few bs item e =
    let a = bind_ok (call_front bs) (λ front. of_value (value_read front.3) >>= λ value. Ok (all.Call front.0 front.1 front.2 value)) item e in
    let b = bind_ok (of_value (value_read a.0.3)) (λ value. Ok (all.Call a.0.0 a.0.1 a.0.2 value)) item a.2 in
    subst (λ (it : Item). length (counted_in it) ≤ 32) (item_is (all.Call a.0.0 a.0.1 a.0.2 b.0) item b.2) (counted_few b.0 (value_few a.0.3 b.0 (of_value_ok (value_read a.0.3) b.0 b.1)))

reply_few : (bs : List ℕ) (item : Item) → reply_at bs ≡ Ok item → length (counted_in item) ≤ 32
unfolding reply_at
reply_few bs item e =
    let a = bind_ok (reply_front bs) (λ front. of_value (value_read front.2) >>= λ value. Ok (all.Reply front.0 front.1 value)) item e in
    let b = bind_ok (of_value (value_read a.0.2)) (λ value. Ok (all.Reply a.0.0 a.0.1 value)) item a.2 in
    subst (λ (it : Item). length (counted_in it) ≤ 32) (item_is (all.Reply a.0.0 a.0.1 b.0) item b.2) (counted_few b.0 (value_few a.0.2 b.0 (of_value_ok (value_read a.0.2) b.0 b.1)))

none_few : (item : Item) (made : ℕ → Item) (read : Result ℕ ItemFault) → ((k : ℕ) → counted_in (made k) ≡ []) → (read >>= λ k. Ok (made k)) ≡ Ok item → length (counted_in item) ≤ 32
none_few item made read none e =
    let a = bind_ok read (λ k. Ok (made k)) item e in
    let empty : length (counted_in item) ≡ 0 = ap (λ (it : Item). length (counted_in it)) (sym (item_is (made a.0) item a.2)) ∙ ap length (none a.0) in
    omega (arith, empty)

note_few : (first : ℕ) (bs : List ℕ) (item : Item) → note_by first bs ≡ Ok item → length (counted_in item) ≤ 32
unfolding note_by
note_few first bs item e =
    either (first == 3) _ _ item e (none_few item all.Settle (settle_at bs) (λ k. refl)) (λ f.
    either (first == 4) _ _ item f (none_few item all.Dirty (index_at bs) (λ k. refl)) (λ g.
    either (first == 5) _ _ item g (none_few item all.DirtyOk (index_at bs) (λ k. refl)) (λ h.
    either (first == 6) _ _ item h (none_few item all.DirtyNo (index_at bs) (λ k. refl)) (λ i.
    either (first == 7) _ _ item i (none_few item all.Clean (index_at bs) (λ k. refl)) (λ j. absurd (no_ok item_faults.Tag item j))))))

read_few : (bs : List ℕ) (item : Item) → item_read bs ≡ Ok item → length (counted_in item) ≤ 32
unfolding item_by
read_few [] item e = absurd (no_ok item_faults.Short item e)
read_few (first ∷ bs) item e = either (first == 1) _ _ item e (call_few bs item) (λ f. either (first == 2) _ _ item f (reply_few bs item) (note_few first bs item))

spelt_ok : (r : Result Item ItemFault) (item : Item) → item_of r ≡ Some item → r ≡ Ok item
spelt_ok (Ok x) item e = (let is : x ≡ item = cc in ap (λ (it : Item). Ok it) is)
spelt_ok (Err fault) item e = absurd (cc)

-- an item that bytes spell carries 32 counted references at most
pub item_few : (bs : List ℕ) (item : Item) → item_spelt bs ≡ Some item → length (counted_in item) ≤ 32
item_few bs item e = read_few bs item (spelt_ok (item_read bs) item e)
