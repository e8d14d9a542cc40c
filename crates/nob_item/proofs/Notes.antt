-- Notes: what is read of them is spelled so, and what is spelled so is read.
use Rattle.std.proofs.Common.{◌≡◌, ℕ, ◌^◌, ◌<◌, eqb, List, [], ◌∷◌, ◌++◌, length, Result, Ok, refl, sym, ap, subst, ◌∙◌, inl, inr}
use Rattle.std.proofs.lemmas.Bool.{eqb-true}
use Rattle.std.proofs.lemmas.List.{append-nil, nil_from_length}
use Rattle.byteorder.specs.Endian.{big_bytes}
use Rattle.nob_item.specs.declared.fault.ItemFault.{ItemFault}
use Rattle.nob_item.specs.declared.fault.ItemFault.TheVariants as faults
use Rattle.nob_item.specs.declared.item.Item.{Item}
use Rattle.nob_item.specs.declared.item.Item.TheVariants as items
use Rattle.nob_item.specs.Spelling.{IsItemNumber, Spelt}
use Rattle.nob_item.specs.Judging.{◌>>=◌}
use Rattle.nob_item.specs.Reading.{number_at, item_number_at, alone, settle_at, index_at, note_by}
use Rattle.nob_item.proofs.Choices.{bind_ok, ended_ok, choice, ok_is}
use Rattle.nob_bytes.proofs.Lists.{IsBytes}
use Rattle.nob_bytes.proofs.Numbers.{Takes, back_8}
use Rattle.nob_item.proofs.Numbers.{number_takes, number_again, item_number_takes, item_number_again}
use Rattle.nob_item.proofs.Fronts.{first_is, rest_is}

-- a number that stands alone is all of the bytes
alone_takes : (bs : List ℕ) (x : ℕ × List ℕ) (n : ℕ) → Takes bs (big_bytes 8 x.0) x.1 → alone x ≡ Ok n → (bs ≡ big_bytes 8 n) × (x.0 ≡ n)
alone_takes bs x n t e =
    let h = ended_ok (eqb (length x.1) 0) faults.Trailing x.0 n e in
    let nothing : x.1 ≡ [] = nil_from_length x.1 (eqb-true _ _ h.0) in
    (t.parts ∙ ap (λ (r : List ℕ). big_bytes 8 x.0 ++ r) nothing ∙ append-nil (big_bytes 8 x.0) ∙ ap (big_bytes 8) h.1, h.1)

index_takes : (bs : List ℕ) (n : ℕ) → IsBytes bs → index_at bs ≡ Ok n → (bs ≡ big_bytes 8 n) × (n < 2 ^ 64)
unfolding index_at
index_takes bs n fits e =
    let b = bind_ok (number_at 8 bs) alone n e in
    let t = number_takes 8 bs b.0.0 b.0.1 back_8 fits b.1 in
    let a = alone_takes bs b.0 n t.0 b.2 in
    (a.0, subst (λ (k : ℕ). k < 2 ^ 64) a.1 t.1)

settle_takes : (bs : List ℕ) (n : ℕ) → IsBytes bs → settle_at bs ≡ Ok n → (bs ≡ big_bytes 8 n) × IsItemNumber n
unfolding settle_at
settle_takes bs n fits e =
    let b = bind_ok (item_number_at bs) alone n e in
    let t = item_number_takes bs b.0 fits b.1 in
    let a = alone_takes bs b.0 n t.0 b.2 in
    (a.0, subst IsItemNumber a.1 t.1)

index_again : (n : ℕ) → n < 2 ^ 64 → index_at (big_bytes 8 n) ≡ Ok n
unfolding index_at
index_again n lt = ap (λ (r : Result (ℕ × List ℕ) ItemFault). r >>= alone) (ap (number_at 8) (sym (append-nil (big_bytes 8 n))) ∙ number_again 8 n [] lt)

settle_again : (n : ℕ) → IsItemNumber n → settle_at (big_bytes 8 n) ≡ Ok n
unfolding settle_at
settle_again n h = ap (λ (r : Result (ℕ × List ℕ) ItemFault). r >>= alone) (ap item_number_at (sym (append-nil (big_bytes 8 n))) ∙ item_number_again n [] h)

-- a note that holds an index
index_note : (first : ℕ) (make : ℕ → Item) → ((n : ℕ) → n < 2 ^ 64 → Spelt (first ∷ big_bytes 8 n) (make n)) → (bs : List ℕ) (item : Item) → IsBytes bs
    → (index_at bs >>= λ n. Ok (make n)) ≡ Ok item → Spelt (first ∷ bs) item
index_note first make spells bs item fits e =
    let b = bind_ok (index_at bs) (λ n. Ok (make n)) item e in
    let t = index_takes bs b.0 fits b.1 in
    subst (λ (i : Item). Spelt (first ∷ bs) i) (ok_is (make b.0) item b.2) (subst (λ (l : List ℕ). Spelt (first ∷ l) (make b.0)) (sym t.0) (spells b.0 t.1))

settle_note : (bs : List ℕ) (item : Item) → IsBytes bs → (settle_at bs >>= λ n. Ok (items.Settle n)) ≡ Ok item → Spelt (3 ∷ bs) item
settle_note bs item fits e =
    let b = bind_ok (settle_at bs) (λ n. Ok (items.Settle n)) item e in
    let t = settle_takes bs b.0 fits b.1 in
    subst (λ (i : Item). Spelt (3 ∷ bs) i) (ok_is (items.Settle b.0) item b.2) (t.1, ap (λ (l : List ℕ). 3 ∷ l) t.0)

-- what is read of a note is spelled so
pub note_spelt : (first : ℕ) (bs : List ℕ) (item : Item) → IsBytes bs → note_by first bs ≡ Ok item → Spelt (first ∷ bs) item
unfolding note_by
note_spelt first bs item fits e =
    let P : ℕ → Type 0 = λ k. Spelt (k ∷ bs) item in
    elim (choice (eqb first 3) (settle_at bs >>= λ n. Ok (items.Settle n)) _ item e) [
      | inl h ↦ subst P (sym (eqb-true first 3 h.0)) (settle_note bs item fits h.1)
      | inr e3 ↦ elim (choice (eqb first 4) (index_at bs >>= λ n. Ok (items.Dirty n)) _ item e3) [
        | inl h ↦ subst P (sym (eqb-true first 4 h.0)) (index_note 4 (λ n. items.Dirty n) (λ n lt. (lt, refl)) bs item fits h.1)
        | inr e4 ↦ elim (choice (eqb first 5) (index_at bs >>= λ n. Ok (items.DirtyOk n)) _ item e4) [
          | inl h ↦ subst P (sym (eqb-true first 5 h.0)) (index_note 5 (λ n. items.DirtyOk n) (λ n lt. (lt, refl)) bs item fits h.1)
          | inr e5 ↦ elim (choice (eqb first 6) (index_at bs >>= λ n. Ok (items.DirtyNo n)) _ item e5) [
            | inl h ↦ subst P (sym (eqb-true first 6 h.0)) (index_note 6 (λ n. items.DirtyNo n) (λ n lt. (lt, refl)) bs item fits h.1)
            | inr e6 ↦ elim (choice (eqb first 7) (index_at bs >>= λ n. Ok (items.Clean n)) _ item e6) [
              | inl h ↦ subst P (sym (eqb-true first 7 h.0)) (index_note 7 (λ n. items.Clean n) (λ n lt. (lt, refl)) bs item fits h.1)
              | inr e7 ↦ absurd cc
            ]
          ]
        ]
      ]
    ]

-- what is read of bytes that are a note's
read_as : (first k : ℕ) (bs : List ℕ) (n : ℕ) (item : Item) → first ∷ bs ≡ k ∷ big_bytes 8 n → note_by k (big_bytes 8 n) ≡ Ok item → note_by first bs ≡ Ok item
read_as first k bs n item e again =
    subst (λ (i : ℕ). note_by i bs ≡ Ok item) (sym (first_is first k bs (big_bytes 8 n) e))
    (subst (λ (l : List ℕ). note_by k l ≡ Ok item) (sym (rest_is first k bs (big_bytes 8 n) e)) again)

-- an item that is spelled with another first byte than a Call's or a Reply's is a note, and is read so
pub note_only : (first : ℕ) (bs : List ℕ) (item : Item) → (first ≡ 1 → ⊥) → (first ≡ 2 → ⊥) → Spelt (first ∷ bs) item → note_by first bs ≡ Ok item
unfolding note_by
note_only first bs (items.Call call target method value) no_call no_reply s = absurd (no_call (first_is first 1 _ _ s.1))
note_only first bs (items.Reply call status value) no_call no_reply s = absurd (no_reply (first_is first 2 _ _ s.1))
note_only first bs (items.Settle n) no_call no_reply s =
    read_as first 3 bs n (items.Settle n) s.1 (ap (λ (r : Result ℕ ItemFault). r >>= λ i. Ok (items.Settle i)) (settle_again n s.0))
note_only first bs (items.Dirty n) no_call no_reply s =
    read_as first 4 bs n (items.Dirty n) s.1 (ap (λ (r : Result ℕ ItemFault). r >>= λ i. Ok (items.Dirty i)) (index_again n s.0))
note_only first bs (items.DirtyOk n) no_call no_reply s =
    read_as first 5 bs n (items.DirtyOk n) s.1 (ap (λ (r : Result ℕ ItemFault). r >>= λ i. Ok (items.DirtyOk i)) (index_again n s.0))
note_only first bs (items.DirtyNo n) no_call no_reply s =
    read_as first 6 bs n (items.DirtyNo n) s.1 (ap (λ (r : Result ℕ ItemFault). r >>= λ i. Ok (items.DirtyNo i)) (index_again n s.0))
note_only first bs (items.Clean n) no_call no_reply s =
    read_as first 7 bs n (items.Clean n) s.1 (ap (λ (r : Result ℕ ItemFault). r >>= λ i. Ok (items.Clean i)) (index_again n s.0))
