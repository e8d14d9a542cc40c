-- The payload of an item that has a spelling spells that item.
use Rattle.std.proofs.Common.{◌≡◌, ℕ, ◌+◌, ◌^◌, true, List, ◌∷◌, Some, Result, Ok, Err, refl, sym, ap, ◌∙◌, arith}
use Rattle.std.proofs.lemmas.Bool.Decides.{nat_tests}
use Rattle.nob_pickle.specs.Limits.{Spelt as PickleSpelt}
use Rattle.nob_pickle.specs.Reading.{value_read}
use Rattle.nob_pickle.specs.declared.fault.PickleFault.{PickleFault}
use Rattle.nob_pickle.specs.declared.fault.PickleError.TheVariants as pickle_errors
use Rattle.nob_pickle.specs.declared.value.Value.{Value}
use Rattle.nob_pickle.specs.declared.value.Value.TheVariants as values
use Rattle.nob_pickle.proofs.Whole.{fits_pickle, only_by}
use Rattle.nob_item.specs.declared.item.Item.{Item}
use Rattle.nob_item.specs.declared.item.Item.TheVariants as items
use Rattle.nob_item.specs.Spelling.{IsCallNumber, IsItemNumber, IsStatus, Fits, spelling}
use Rattle.nob_item.specs.Judging.{is_call_number, is_item_number, is_status}
use Rattle.nob_item.specs.Reading.{call_at, reply_at, item_by, item_read}
use Rattle.nob_item.specs.Writing.{bytes_of}
use Rattle.nob_item.proofs.Fronts.{call_is, reply_is}
use Rattle.nob_item.proofs.Notes.{note_only}
use Rattle.nob_model_types.specs.Sessions.{item_of, item_spelt}
use Rattle.nob_model_history.specs.Ends.{bytes_if, payload_of}

-- ---- values

-- a result with a value, as one that was read
abbrev pub reads : Value → Result Value PickleFault
reads v = Ok v

error_reads : (fault : PickleFault) (v : Value) → reads v ≡ Err fault → ⊥
error_reads fault v e = cc

-- what is spelled is read
value_back : (bytes : List ℕ) (v : Value) → PickleSpelt bytes v → value_read bytes ≡ Ok v
value_back bytes v spelt =
    elim (value_read bytes) as (λ r. value_read bytes ≡ r → r ≡ Ok v) [
      | Ok w ↦ λ e. sym (only_by (Ok w) bytes v spelt e)
      | Err fault ↦ λ e. absurd (error_reads fault v (only_by (Err (pickle_errors.Fault fault)) bytes v spelt e))
    ] refl

-- ---- items

call_passes : (call : ℕ) → IsCallNumber call → is_call_number call ≡ true
call_passes call h = grind (arith, nat_tests)

item_passes : (item : ℕ) → IsItemNumber item → is_item_number item ≡ true
item_passes item h = grind (arith, nat_tests)

status_passes : (status : ℕ) → IsStatus status → is_status status ≡ true
status_passes status h = grind (arith, nat_tests)

call_back : (bs : List ℕ) (item : Item) → Fits item → spelling item ≡ 1 ∷ bs → item_read (1 ∷ bs) ≡ Ok item
unfolding item_by call_at
call_back bs item fits is =
    let a = call_is bs item (fits, sym is) in
    rw (a.2, value_back a.0.3 a.1 a.4) (ap (λ (i : Item). Ok i) (sym a.3))

reply_back : (bs : List ℕ) (item : Item) → Fits item → spelling item ≡ 2 ∷ bs → item_read (2 ∷ bs) ≡ Ok item
unfolding item_by reply_at
reply_back bs item fits is =
    let a = reply_is bs item (fits, sym is) in
    rw (a.2, value_back a.0.2 a.1 a.4) (ap (λ (i : Item). Ok i) (sym a.3))

-- what an item that fits is spelled as reads as that item
read_back : (item : Item) → Fits item → item_read (spelling item) ≡ Ok item
unfolding item_by
read_back (items.Call call target method value) fits = call_back _ (items.Call call target method value) fits refl
read_back (items.Reply call status value) fits = reply_back _ (items.Reply call status value) fits refl
read_back (items.Settle n) fits = note_only 3 _ (items.Settle n) (λ e. omega (arith, e)) (λ e. omega (arith, e)) (fits, refl)
read_back (items.Dirty n) fits = note_only 4 _ (items.Dirty n) (λ e. omega (arith, e)) (λ e. omega (arith, e)) (fits, refl)
read_back (items.DirtyOk n) fits = note_only 5 _ (items.DirtyOk n) (λ e. omega (arith, e)) (λ e. omega (arith, e)) (fits, refl)
read_back (items.DirtyNo n) fits = note_only 6 _ (items.DirtyNo n) (λ e. omega (arith, e)) (λ e. omega (arith, e)) (fits, refl)
read_back (items.Clean n) fits = note_only 7 _ (items.Clean n) (λ e. omega (arith, e)) (λ e. omega (arith, e)) (fits, refl)

-- an item that fits has its spelling
pub fits_spelt : (item : Item) → Fits item → bytes_of item ≡ Ok (spelling item)
fits_spelt (items.Call call target method value) fits = rw (call_passes call fits.0, fits_pickle value fits.3) refl
fits_spelt (items.Reply call status value) fits = rw (call_passes call fits.0, status_passes status fits.1, fits_pickle value fits.2) refl
fits_spelt (items.Settle n) fits = rw (item_passes n fits) refl
fits_spelt (items.Dirty n) fits = refl
fits_spelt (items.DirtyOk n) fits = refl
fits_spelt (items.DirtyNo n) fits = refl
fits_spelt (items.Clean n) fits = refl

-- its payload spells it
pub payload_back : (item : Item) → Fits item → item_spelt (payload_of item) ≡ Some item
payload_back item fits =
    ap (λ r. item_spelt (bytes_if r)) (fits_spelt item fits)
    ∙ ap item_of (read_back item fits)

-- ---- out of its types

-- why a run is asked to keep to its types: two Calls with one payload, of which the second alone can be read back
pub one_payload : payload_of (items.Call 1 0 (2 ^ 16 + 5) values.Unit) ≡ payload_of (items.Call 1 0 5 values.Unit)
one_payload = refl
