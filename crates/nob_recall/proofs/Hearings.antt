-- What an entry more leaves of the table of what each space has heard of each other.
use Rattle.std.proofs.Common.{◌≡◌, ℕ, ◌+◌, ◌-◌, ◌<◌, ◌^◌, max, min, nat_lt, Bool, true, false, cond, ◌&&◌, ◌==◌, List, [], ◌∷◌, ◌++◌, length, slice_get, Some, refl, sym, ap, ◌∙◌, arith}
use Rattle.std.specs.Prelude.{Result, Ok, Err}
use Prim.Native.Nat.{zero, suc}
use lib.ListN.{set}
use Rattle.std.proofs.lemmas.List.{length-set}
use Rattle.std.proofs.lemmas.Cmp.{nat_eq_equiv}
use Rattle.std.proofs.lemmas.Bool.Decides.{nat_tests, Decides-eqb}
use Rattle.nob_ids.specs.Names.{IsSpace}
use Rattle.nob_frame.specs.declared.frame.Frame.{Frame}
use Rattle.nob_model_types.specs.declared.answer.Answer.{Answer}
use Rattle.nob_model_types.specs.declared.answer.Answer.TheVariants as answers
use Rattle.nob_model_types.specs.declared.entry.Entry.{Entry}
use Rattle.nob_model_types.specs.declared.event.Event.{Event}
use Rattle.nob_model_types.specs.declared.event.Event.TheVariants as events
use Rattle.nob_model_types.specs.declared.refusal.Refusal.{Refusal}
use Rattle.nob_recall.specs.declared.heard.Heard.{Heard}
use Rattle.nob_recall.specs.Hearing.{heard, heard_by, no_word}
use Rattle.nob_recall.specs.Tables.{TableStands, IsAbout, row_of}

get_set_other : {A : Type 0} (xs : List A) (i j : ℕ) (y : A) → (j ≡ i → ⊥) → slice_get (set xs i y) j ≡ slice_get xs j
get_set_other [] i j y other = refl
get_set_other (a ∷ xs) zero zero y other = absurd (other refl)
get_set_other (a ∷ xs) zero (suc j) y other = refl
get_set_other (a ∷ xs) (suc i) zero y other = refl
get_set_other (a ∷ xs) (suc i) (suc j) y other = get_set_other xs i j y (λ e. other (ap suc e))

swapped : (a b : ℕ) → (a == b) ≡ false → (b == a) ≡ false
swapped a b h = grind (arith, nat_tests, h)

placed : {A : Type 0} (xs : List A) (k : ℕ) (x y : A) → slice_get xs k ≡ Some y → slice_get (set xs k x) k ≡ Some x
placed [] k x y is = absurd cc
placed (z ∷ zs) zero x y is = refl
placed (z ∷ zs) (suc k) x y is = placed zs k x y is

-- whom an event is about
pub about_arrive : (frame : Frame) → IsAbout frame.from (events.Arrive frame)
about_arrive frame c (Ok (answers.Took count)) h differs =
    let took : Heard = record { session = h.session; accepted = min (h.accepted + count) (2 ^ 64 - 1); ack = max h.ack frame.ack } in
    ap (λ (b : Bool). cond (b && frame.session == h.session) took h) (swapped c frame.from differs)
about_arrive frame c (Ok _) h differs = refl
about_arrive frame c (Err refusal) h differs = refl

pub about_open : (peer : ℕ) → IsAbout peer (events.Open peer)
about_open peer c (Ok (answers.Opened number)) h differs =
    let opened : Heard = record { session = number; accepted = 0; ack = 0 } in
    ap (λ (b : Bool). cond (b && nat_lt h.session number) opened h) (swapped c peer differs)
about_open peer c (Ok _) h differs = refl
about_open peer c (Err refusal) h differs = refl

-- an event that is no arrival and opens nothing is about none
abbrev IsQuiet : Event → Type 0
IsQuiet event = (c : ℕ) (result : Result Answer Refusal) (h : Heard) → heard_by c event result h ≡ h

-- an entry that says nothing of a space to another leaves what was heard
same_row : (a b : ℕ) (entry : Entry) (J : List Entry) → ((entry.space == b) ≡ true → heard_by a entry.event entry.result (heard a b J) ≡ heard a b J) → heard a b (entry ∷ J) ≡ heard a b J
same_row a b entry J quiet = by (entry.space == b) refl
  where
    by : (t : Bool) → (entry.space == b) ≡ t → cond t (heard_by a entry.event entry.result (heard a b J)) (heard a b J) ≡ heard a b J
    by true is = quiet is
    by false is = refl

pub stands_quiet : (table : List Heard) (J : List Entry) (entry : Entry) → IsQuiet entry.event → TableStands table J → TableStands table (entry ∷ J)
stands_quiet table J entry quiet stands = record {
  count = stands.count;
  each = λ a b is_a is_b. stands.each a b is_a is_b ∙ ap Some (sym (same_row a b entry J (λ here. quiet a entry.result (heard a b J))));
}

own_row : (a : ℕ) (entry : Entry) (J : List Entry) → heard a entry.space (entry ∷ J) ≡ heard_by a entry.event entry.result (heard a entry.space J)
own_row a entry J = ap (λ (b : Bool). cond b (heard_by a entry.event entry.result (heard a entry.space J)) (heard a entry.space J)) (nat_eq_equiv.refl entry.space)

one_place : (a b c d : ℕ) → IsSpace a → IsSpace b → IsSpace c → IsSpace d → row_of c d ≡ row_of a b → (c ≡ a) × (d ≡ b)
one_place a b c d is_a is_b is_c is_d same = let p = is_a.0 in let q = is_a.1 in let r = is_b.0 in let s = is_b.1 in let t = is_c.0 in let u = is_c.1 in let v = is_d.0 in let w = is_d.1 in (omega (arith, p, q, r, s, t, u, v, w, same), omega (arith, p, q, r, s, t, u, v, w, same))

-- the row of the space that an event is about is heard anew
pub stands_heard : (table : List Heard) (J : List Entry) (entry : Entry) (a row : ℕ) (old : Heard) → IsSpace a → IsSpace entry.space → row ≡ row_of a entry.space → slice_get table row ≡ Some old → IsAbout a entry.event → TableStands table J
    → TableStands (set table row (heard_by a entry.event entry.result old)) (entry ∷ J)
stands_heard table J entry a row old is_a is_own row_is there about stands = record {
  count = length-set table row value ∙ stands.count;
  each = λ c d is_c is_d. by c d is_c is_d (row_of c d == row) refl;
}
  where
    value : Heard
    value = heard_by a entry.event entry.result old

    old_is : old ≡ heard a entry.space J
    old_is = let both : Some old ≡ Some (heard a entry.space J) = sym there ∙ ap (slice_get table) row_is ∙ stands.each a entry.space is_a is_own in cc

    by : (c d : ℕ) → IsSpace c → IsSpace d → (t : Bool) → (row_of c d == row) ≡ t → slice_get (set table row value) (row_of c d) ≡ Some (heard c d (entry ∷ J))
    by c d is_c is_d true here =
        let at : row_of c d ≡ row = (Decides-eqb (row_of c d) row).0 here in
        let both = one_place a entry.space c d is_a is_own is_c is_d (at ∙ row_is) in
        let read : slice_get (set table row value) row ≡ Some value = placed table row value old there in
        ap (slice_get (set table row value)) at ∙ read ∙ ap Some (ap (heard_by a entry.event entry.result) old_is ∙ sym (own_row a entry J))
        ∙ ap Some (ap (λ (k : ℕ). heard k entry.space (entry ∷ J)) (sym both.0) ∙ ap (λ (k : ℕ). heard c k (entry ∷ J)) (sym both.1))
    by c d is_c is_d false elsewhere =
        let apart : row_of c d ≡ row → ⊥ = λ e. let holds : true ≡ false = sym ((Decides-eqb (row_of c d) row).1 e) ∙ elsewhere in absurd cc in
        get_set_other table row (row_of c d) value apart ∙ stands.each c d is_c is_d ∙ ap Some (sym (same_row c d entry J (λ own. about c entry.result (heard c d J) (other c d own apart))))
      where
        other : (c d : ℕ) → (entry.space == d) ≡ true → (row_of c d ≡ row → ⊥) → (c == a) ≡ false
        other c d own apart = split (c == a) refl
          where
            split : (t : Bool) → (c == a) ≡ t → t ≡ false
            split true is = absurd (apart (ap (λ (k : ℕ). row_of k d) ((Decides-eqb c a).0 is) ∙ ap (λ (k : ℕ). row_of a k) (sym ((Decides-eqb entry.space d).0 own)) ∙ sym row_is))
            split false is = refl

-- one row more of which nothing was heard
pub none_push : (xs : List Heard) (x : Heard) → ((k : ℕ) → k < length xs → slice_get xs k ≡ Some x) → (k : ℕ) → k < length (xs ++ x ∷ []) → slice_get (xs ++ x ∷ []) k ≡ Some x
none_push [] x none zero less = refl
none_push [] x none (suc k) less = absurd (omega (arith, less))
none_push (y ∷ ys) x none zero less = none zero (omega arith)
none_push (y ∷ ys) x none (suc k) less = none_push ys x (λ j low. none (suc j) (omega (arith, low))) k (omega (arith, less))

-- a table of rows of which nothing was heard
pub stands_none : (table : List Heard) → length table ≡ 1024 → ((k : ℕ) → k < length table → slice_get table k ≡ Some no_word) → TableStands table []
stands_none table count none = record {
  count = count;
  each = λ a b is_a is_b. none (row_of a b) (let p = is_a.0 in let q = is_a.1 in let r = is_b.0 in let s = is_b.1 in omega (arith, p, q, r, s, count));
}
