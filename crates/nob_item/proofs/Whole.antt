-- Laws of items and their spellings.
use Rattle.std.proofs.Common.{◌≡◌, ℕ, List, [], ◌∷◌, ◌++◌, Some, None, filter, refl, sym, ap, subst, ◌∙◌, arith}
use Rattle.std.proofs.lemmas.List.{append-nil}
use Rattle.byteorder.specs.Endian.{big_bytes}
use Rattle.nob_ids.specs.Names.{is_counted}
use Rattle.nob_pickle.specs.Limits.{Spelt as PickleSpelt}
use Rattle.nob_pickle.specs.Laws.{NoFront}
use Rattle.nob_pickle.specs.Spelling.{spelling as pickle, refs_in}
use Rattle.nob_pickle.specs.declared.value.Value.{Value}
use Rattle.nob_item.specs.declared.item.Item.{Item}
use Rattle.nob_item.specs.declared.item.Item.TheVariants as items
use Rattle.nob_item.specs.Kinds.{value_in, counted_in}
use Rattle.nob_item.specs.Spelling.{Spelt, spelling}
use Rattle.nob_item.specs.Laws.{OneItem, CountedAreRefs}
use Rattle.nob_item.proofs.Choices.{ok_is}
use Rattle.nob_item.proofs.Fronts.{call_is, call_only, reply_is, reply_only}
use Rattle.nob_item.proofs.Notes.{note_only}

-- bytes spell one value
one_value : NoFront → (bs : List ℕ) (v w : Value) → PickleSpelt bs v → PickleSpelt bs w → v ≡ w
one_value law bs v w s t = (law bs bs [] v w s t (sym (append-nil bs))).1

same_call : NoFront → (bs : List ℕ) (item twin : Item) → Spelt (1 ∷ bs) item → Spelt (1 ∷ bs) twin → item ≡ twin
same_call law bs item twin s t =
    let a = call_is bs item s in
    let b = call_only bs a.0 twin a.2 t in
    a.3 ∙ ap (λ (w : Value). items.Call a.0.0 a.0.1 a.0.2 w) (one_value law a.0.3 a.1 b.0 a.4 b.2) ∙ sym b.1

same_reply : NoFront → (bs : List ℕ) (item twin : Item) → Spelt (2 ∷ bs) item → Spelt (2 ∷ bs) twin → item ≡ twin
same_reply law bs item twin s t =
    let a = reply_is bs item s in
    let b = reply_only bs a.0 twin a.2 t in
    a.3 ∙ ap (λ (w : Value). items.Reply a.0.0 a.0.1 w) (one_value law a.0.2 a.1 b.0 a.4 b.2) ∙ sym b.1

same_note : (first : ℕ) (bs : List ℕ) (item twin : Item) → (first ≡ 1 → ⊥) → (first ≡ 2 → ⊥) → Spelt (first ∷ bs) item → Spelt (first ∷ bs) twin → item ≡ twin
same_note first bs item twin no_call no_reply s t = ok_is item twin (sym (note_only first bs item no_call no_reply s) ∙ note_only first bs twin no_call no_reply t)

-- the other item, spelled as the first one is
spelled_as : (bytes : List ℕ) (item twin : Item) → Spelt bytes item → Spelt bytes twin → Spelt (spelling item) twin
spelled_as bytes item twin s t = subst (λ (l : List ℕ). Spelt l twin) s.1 t

pub one_item : NoFront → OneItem
one_item law bytes (items.Call call target method value) twin s t =
    same_call law (big_bytes 8 call ++ (big_bytes 8 target ++ (big_bytes 2 method ++ pickle value))) (items.Call call target method value) twin (s.0, refl) (spelled_as bytes (items.Call call target method value) twin s t)
one_item law bytes (items.Reply call status value) twin s t =
    same_reply law (big_bytes 8 call ++ (status ∷ pickle value)) (items.Reply call status value) twin (s.0, refl) (spelled_as bytes (items.Reply call status value) twin s t)
one_item law bytes (items.Settle n) twin s t =
    same_note 3 (big_bytes 8 n) (items.Settle n) twin (λ e. omega (arith, e)) (λ e. omega (arith, e)) (s.0, refl) (spelled_as bytes (items.Settle n) twin s t)
one_item law bytes (items.Dirty n) twin s t =
    same_note 4 (big_bytes 8 n) (items.Dirty n) twin (λ e. omega (arith, e)) (λ e. omega (arith, e)) (s.0, refl) (spelled_as bytes (items.Dirty n) twin s t)
one_item law bytes (items.DirtyOk n) twin s t =
    same_note 5 (big_bytes 8 n) (items.DirtyOk n) twin (λ e. omega (arith, e)) (λ e. omega (arith, e)) (s.0, refl) (spelled_as bytes (items.DirtyOk n) twin s t)
one_item law bytes (items.DirtyNo n) twin s t =
    same_note 6 (big_bytes 8 n) (items.DirtyNo n) twin (λ e. omega (arith, e)) (λ e. omega (arith, e)) (s.0, refl) (spelled_as bytes (items.DirtyNo n) twin s t)
one_item law bytes (items.Clean n) twin s t =
    same_note 7 (big_bytes 8 n) (items.Clean n) twin (λ e. omega (arith, e)) (λ e. omega (arith, e)) (s.0, refl) (spelled_as bytes (items.Clean n) twin s t)

-- ---- counted references

of_value : (item : Item) (value : Value) → value_in item ≡ Some value → counted_in item ≡ filter is_counted (refs_in value)
of_value (items.Call call target method v) value e = let same : v ≡ value = cc in ap (λ (w : Value). filter is_counted (refs_in w)) same
of_value (items.Reply call status v) value e = let same : v ≡ value = cc in ap (λ (w : Value). filter is_counted (refs_in w)) same
of_value (items.Settle n) value e = absurd cc
of_value (items.Dirty n) value e = absurd cc
of_value (items.DirtyOk n) value e = absurd cc
of_value (items.DirtyNo n) value e = absurd cc
of_value (items.Clean n) value e = absurd cc

of_none : (item : Item) → value_in item ≡ None → counted_in item ≡ []
of_none (items.Call call target method v) e = absurd cc
of_none (items.Reply call status v) e = absurd cc
of_none (items.Settle n) e = refl
of_none (items.Dirty n) e = refl
of_none (items.DirtyOk n) e = refl
of_none (items.DirtyNo n) e = refl
of_none (items.Clean n) e = refl

pub counted_are_refs : CountedAreRefs
counted_are_refs = (of_value, of_none)
