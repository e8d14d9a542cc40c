-- Values of the types of a program: their references have indexes of a u64, and what has a pickle has a spelling.
use Rattle.std.proofs.Common.{◌≡◌, ℕ, ◌^◌, ◌<◌, ltb, Bool, true, false, cond, List, [], ◌∷◌, length, filter, not, Option, Some, None, Result, Ok, Err, refl}
use Rattle.std.specs.List.{AllByRecursion}
use Rattle.nob_ids.specs.declared.wire_rep.WireRep.{WireRep}
use Rattle.nob_ids.specs.Names.{is_counted}
use Rattle.nob_pickle.specs.Trees.{Tree, unit, int, bytes, list, ref, Trees, none, more}
use Rattle.nob_pickle.specs.Shape.{tree}
use Rattle.nob_pickle.specs.Limits.{IsTyped, AreTyped, Fits as PickleFits}
use Rattle.nob_pickle.specs.Spelling.{refs, all_refs, refs_in, spelling as pickle}
use Rattle.nob_pickle.specs.Writing.{◌>>=◌, references_left, pickle_of}
use Rattle.nob_pickle.specs.declared.fault.PickleFault.{PickleFault}
use Rattle.nob_pickle.specs.declared.fault.PickleFault.TheVariants as faults
use Rattle.nob_pickle.specs.declared.value.Value.{Value}
use Rattle.nob_pickle.proofs.Whole.{judged_fits}
use Rattle.nob_item.specs.Kinds.{counted_in}
use Rattle.nob_item.specs.Spelling.{Fits}
use Rattle.nob_item.specs.declared.item.Item.{Item}
use Rattle.nob_item.specs.declared.item.Item.TheVariants as items
use Rattle.nob_model_types.specs.declared.refusal.Refusal.{Refusal}
use Rattle.nob_model_types.specs.declared.refusal.Refusal.TheVariants as refusals
use Rattle.nob_model_history.specs.declared.history.History.{History}
use Rattle.nob_model_acting.specs.Sending.{◌or_else◌, refuse_if, is_gone, ref_refused, is_faulty, refs_refused, value_refused}
use Rattle.nob_model_history.specs.Holds.{is_held}
use Rattle.std.proofs.lemmas.Bool.{not-false}
use Rattle.nob_model.proofs.Carrying.{all_filter}
use Rattle.nob_model_holdings.proofs.Lists.{all_append}

-- ---- references

-- a reference has an index of a u64
abbrev pub HasIndex : WireRep → Type 0
HasIndex rep = rep.index < 2 ^ 64

mutual
  refs_index : (t : Tree) → IsTyped t → AllByRecursion HasIndex (refs t)
  refs_index unit typed = tt
  refs_index (int n) typed = tt
  refs_index (bytes bs) typed = tt
  refs_index (list ts) typed = all_refs_index ts typed
  refs_index (ref r) typed = (typed.1, tt)

  all_refs_index : (ts : Trees) → AreTyped ts → AllByRecursion HasIndex (all_refs ts)
  all_refs_index none typed = tt
  all_refs_index (more t ts) typed = all_append HasIndex (refs t) (all_refs ts) (refs_index t typed.0) (all_refs_index ts typed.1)

-- the counted references of an item that fits
pub counted_index : (item : Item) → Fits item → AllByRecursion HasIndex (counted_in item)
counted_index (items.Call call target method value) fits = all_filter HasIndex is_counted (refs_in value) (refs_index (tree value) fits.3.typed)
counted_index (items.Reply call status value) fits = all_filter HasIndex is_counted (refs_in value) (refs_index (tree value) fits.2.typed)
counted_index (items.Settle n) fits = tt
counted_index (items.Dirty n) fits = tt
counted_index (items.DirtyOk n) fits = tt
counted_index (items.DirtyNo n) fits = tt
counted_index (items.Clean n) fits = tt

-- ---- pickles

true_false : true ≡ false → ⊥
true_false e = cc

pickled_step : (b : Bool) (r : Result ℕ PickleFault) (bs : List ℕ) → is_faulty (cond b (Err faults.TooBig) (r >>= λ left. Ok bs)) ≡ false → cond b (Err faults.TooBig) (r >>= λ left. Ok bs) ≡ Ok bs
pickled_step true r bs e = absurd (true_false e)
pickled_step false (Ok left) bs e = refl
pickled_step false (Err fault) bs e = absurd (true_false e)

pickled : (v : Value) → is_faulty (pickle_of v) ≡ false → pickle_of v ≡ Ok (pickle v)
unfolding pickle_of
pickled v e = pickled_step (ltb 16000 (length (pickle v))) (references_left (tree v) 16 32) (pickle v) e

refused_none : (refusal : Refusal) → Some refusal ≡ None → ⊥
refused_none refusal e = cc

-- a test that refuses, and then the others
pub next_none : (test : Bool) (refusal : Refusal) (rest : Option Refusal) → (refuse_if test refusal or_else rest) ≡ None → (test ≡ false) × (rest ≡ None)
next_none true refusal rest e = absurd (refused_none refusal e)
next_none false refusal rest e = (refl, e)

-- a value that may be sent has a spelling
pub sendable_fits : (s : ℕ) (h : History) (v : Value) → IsTyped (tree v) → value_refused s h v ≡ None → PickleFits v
sendable_fits s h v typed e = judged_fits v typed (pickled v (next_none (is_faulty (pickle_of v)) refusals.TooBig (refs_refused s h (filter is_counted (refs_in v))) e).0)

either_none : (a b : Option Refusal) → (a or_else b) ≡ None → (a ≡ None) × (b ≡ None)
either_none (Some refusal) b e = absurd (refused_none refusal e)
either_none None b e = (refl, e)

ref_held : (s : ℕ) (h : History) (rep : WireRep) → ref_refused s h rep ≡ None → is_held s rep h ≡ true
ref_held s h rep e = not-false _ (next_none (not (is_held s rep h)) refusals.NotHeld _ (next_none (is_gone s rep h) refusals.NoObject _ e).1).0

-- references that may be sent are held
pub refs_held : (s : ℕ) (h : History) (reps : List WireRep) → refs_refused s h reps ≡ None → AllByRecursion (λ rep. is_held s rep h ≡ true) reps
refs_held s h [] e = tt
refs_held s h (rep ∷ reps) e = let parts = either_none (ref_refused s h rep) (refs_refused s h reps) e in (ref_held s h rep parts.0, refs_held s h reps parts.1)
