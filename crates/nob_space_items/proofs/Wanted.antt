-- The references that get a Dirty, one reference after the other.
use Rattle.std.proofs.Common.{◌≡◌, ℕ, ◌+◌, Bool, true, false, not, ◌&&◌, ◌||◌, cond, List, [], ◌∷◌, ◌++◌, filter, take, slice_get, Some, None, inl, inr, refl, sym, ap, ◌∙◌}
use Rattle.std.specs.List.{list_any}
use Rattle.std.proofs.lemmas.List.{append-nil, take_more, take_all}
use Rattle.std.proofs.lemmas.List.Elements.{filter-append}
use Rattle.std.proofs.lemmas.Map.Views.{any-filter_same}
use Rattle.std.proofs.lemmas.Option.{slice_get_within, get_or_from_slice_get, slice_get_cases, none-some}
use Rattle.nob_ids.specs.Names.{is_same}
use Rattle.nob_ids.specs.declared.wire_rep.WireRep.{WireRep}
use Rattle.nob_table_rows.proofs.Same.{same_is}
use Rattle.nob_model_work.specs.Gifts.{once}
use Rattle.nob_model_history.proofs.Dirtying.{same_flip}
use Rattle.nob_space_state.specs.Parts.{State}
use Rattle.nob_space_items.specs.Messages.{is_wanted, wanted_refs}

-- one reference more, each once: it stands last, unless it stood there before
once_push : (x : WireRep) (xs : List WireRep) → once (xs ++ x ∷ []) ≡ cond (list_any (is_same x) xs) (once xs) (once xs ++ x ∷ [])
once_push x [] = refl
once_push x (y ∷ xs) =
    let unlike : WireRep → Bool = λ other. not (is_same y other) in
    ap (λ (rs : List WireRep). y ∷ filter unlike rs) (once_push x xs)
    ∙ elim (list_any (is_same x) xs) as (λ b. (y ∷ filter unlike (cond b (once xs) (once xs ++ x ∷ []))) ≡ cond (is_same x y || b) (y ∷ filter unlike (once xs)) (y ∷ filter unlike (once xs) ++ x ∷ [])) [
      | true ↦ elim (is_same x y) as (λ c. (y ∷ filter unlike (once xs)) ≡ cond (c || true) (y ∷ filter unlike (once xs)) (y ∷ filter unlike (once xs) ++ x ∷ [])) [ true ↦ refl | false ↦ refl ]
      | false ↦
          ap (λ (rs : List WireRep). y ∷ rs) (filter-append unlike (once xs) (x ∷ []))
          ∙ ap (λ c. y ∷ filter unlike (once xs) ++ cond (not c) (x ∷ []) []) (same_flip y x)
          ∙ elim (is_same x y) as (λ c. (y ∷ filter unlike (once xs) ++ cond (not c) (x ∷ []) []) ≡ cond (c || false) (y ∷ filter unlike (once xs)) (y ∷ filter unlike (once xs) ++ x ∷ [])) [ true ↦ ap (λ (rs : List WireRep). y ∷ rs) (append-nil (filter unlike (once xs))) | false ↦ refl ]
    ]

-- each once are the same references
pub any_once : (rep : WireRep) (xs : List WireRep) → list_any (is_same rep) (once xs) ≡ list_any (is_same rep) xs
any_once rep [] = refl
any_once rep (y ∷ xs) = elim (is_same rep y) as (λ b. is_same rep y ≡ b → (b || list_any (is_same rep) (filter (λ other. not (is_same y other)) (once xs))) ≡ (b || list_any (is_same rep) xs)) [
  | true ↦ λ _. refl
  | false ↦ λ differs.
      any-filter_same (is_same rep) (λ other. not (is_same y other)) true (λ k same. ap not (same_flip y k ∙ sym (ap (λ (w : WireRep). is_same w y) (same_is rep k same)) ∙ differs)) (once xs)
      ∙ any_once rep xs
] refl

module _ (s n : ℕ) (st : State) where
  -- whether a reference is among those that get a Dirty
  pub any_wanted : (rep : WireRep) (xs : List WireRep) → list_any (is_same rep) (wanted_refs s n st xs) ≡ (is_wanted s n st rep && list_any (is_same rep) xs)
  any_wanted rep xs =
      any-filter_same (is_same rep) (is_wanted s n st) (is_wanted s n st rep) (λ k same. ap (is_wanted s n st) (sym (same_is rep k same))) (once xs)
      ∙ ap (λ b. is_wanted s n st rep && b) (any_once rep xs)

  -- one reference more: it stands last, if it gets a Dirty and doesn't stand there yet
  wanted_push : (x : WireRep) (xs : List WireRep) → wanted_refs s n st (xs ++ x ∷ []) ≡ cond (is_wanted s n st x && not (list_any (is_same x) (wanted_refs s n st xs))) (wanted_refs s n st xs ++ x ∷ []) (wanted_refs s n st xs)
  wanted_push x xs =
      ap (filter (is_wanted s n st)) (once_push x xs)
      ∙ rw (any_wanted x xs) (elim (list_any (is_same x) xs) as (λ b. filter (is_wanted s n st) (cond b (once xs) (once xs ++ x ∷ [])) ≡ cond (is_wanted s n st x && not (is_wanted s n st x && b)) (wanted_refs s n st xs ++ x ∷ []) (wanted_refs s n st xs)) [
        | true ↦ elim (is_wanted s n st x) as (λ c. wanted_refs s n st xs ≡ cond (c && not (c && true)) (wanted_refs s n st xs ++ x ∷ []) (wanted_refs s n st xs)) [ true ↦ refl | false ↦ refl ]
        | false ↦ filter-append (is_wanted s n st) (once xs) (x ∷ []) ∙ elim (is_wanted s n st x) as (λ c. wanted_refs s n st xs ++ cond c (x ∷ []) [] ≡ cond (c && not (c && false)) (wanted_refs s n st xs ++ x ∷ []) (wanted_refs s n st xs)) [ true ↦ refl | false ↦ append-nil (wanted_refs s n st xs) ]
      ])

  -- the references up to one, and that one
  take_next : (xs : List WireRep) (k : ℕ) (x : WireRep) → slice_get xs k ≡ Some x → take (k + 1) xs ≡ take k xs ++ x ∷ []
  take_next xs k x there = take_more xs k x (slice_get_within xs k x there) ∙ ap (λ (y : WireRep). take k xs ++ y ∷ []) (get_or_from_slice_get xs k x x there)

  -- one reference further: it stands last, if it gets a Dirty that none got before
  pub wanted_more : (kept xs : List WireRep) (k : ℕ) (x : WireRep) (b : Bool) → slice_get xs k ≡ Some x → kept ≡ wanted_refs s n st (take k xs) → b ≡ (is_wanted s n st x && not (list_any (is_same x) kept)) → cond b (kept ++ x ∷ []) kept ≡ wanted_refs s n st (take (k + 1) xs)
  wanted_more kept xs k x b there are next =
      let next_there : b ≡ (is_wanted s n st x && not (list_any (is_same x) (wanted_refs s n st (take k xs)))) = next ∙ ap (λ (rs : List WireRep). is_wanted s n st x && not (list_any (is_same x) rs)) are in
      ap (λ (rs : List WireRep). cond b (rs ++ x ∷ []) rs) are
      ∙ ap (λ c. cond c (wanted_refs s n st (take k xs) ++ x ∷ []) (wanted_refs s n st (take k xs))) next_there
      ∙ sym (ap (wanted_refs s n st) (take_next xs k x there) ∙ wanted_push x (take k xs))

-- behind the last reference there is none more
pub past_last : (xs : List WireRep) (k : ℕ) → slice_get xs k ≡ None → take k xs ≡ xs
past_last xs k none = elim (slice_get_cases xs k).1 [
  | inl found ↦ absurd (none-some found.0 (sym none ∙ found.2))
  | inr past ↦ take_all k xs past.0
]
