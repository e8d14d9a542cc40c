-- The lines of an owner's references, one after the other.
use Rattle.std.proofs.Common.{◌≡◌, ℕ, ◌+◌, ◌-◌, ◌==◌, ◌&&◌, ◌||◌, Bool, true, false, not, List, [], ◌∷◌, Some, refl, ap, ◌∙◌, arith, true≢false}
use Rattle.std.specs.List.{AllByRecursion, IsDistinct, list_any}
use Rattle.nob_ids.specs.declared.wire_rep.WireRep.{WireRep}
use Rattle.nob_ids.specs.Names.{is_same}
use Rattle.nob_model_types.specs.declared.message.Message.{Message}
use Rattle.nob_slots.specs.Numbers.{NumberLists}
use Rattle.nob_slots.specs.Slots.{item_at}
use Rattle.nob_space_messages.specs.declared.entry.Entry.{Entry}
use Rattle.nob_space_messages.specs.Waiting.{due_to}
use Rattle.nob_space_messages.specs.Lines.{LineList, AreWaiting, has_line, open_in, times_in, times_of}
use Rattle.nob_space_messages.proofs.Counting.{same_is, same_turned}
use Rattle.nob_space_messages.proofs.Ended.{times_none}
use Rattle.nob_space_messages.proofs.Granted.{but, open_less, open_same}

without_one : (s t a : Bool) → ((t && not a) && not s) ≡ (t && not (s || a))
without_one true t a = elim (t && not a) as (λ b. (b && false) ≡ false) [ true ↦ refl | false ↦ refl ] ∙ elim t as (λ b. false ≡ (b && false)) [ true ↦ refl | false ↦ refl ]
without_one false t a = elim (t && not a) as (λ b. (b && true) ≡ b) [ true ↦ refl | false ↦ refl ]

without_none : (s t a : Bool) → (s ≡ true → t ≡ false) → (t && not a) ≡ (t && not (s || a))
without_none true true a h = absurd (true≢false (h refl))
without_none true false a h = refl
without_none false t a h = refl

not_among : (rep r : WireRep) (reps : List WireRep) → AllByRecursion (λ y. is_same rep y ≡ false) reps → list_any (is_same rep) reps ≡ false
not_among rep r [] all = refl
not_among rep r (x ∷ reps) all = rw (all.0) (not_among rep r reps all.1)

module _ (lines : LineList) (m : Message) (s : ℕ) (test : WireRep → Bool) (lined : (r : WireRep) → test r ≡ true → times_in lines r s ≡ due_to r m) (none : (r : WireRep) → test r ≡ false → times_in lines r s ≡ 0) where
  abbrev left : List WireRep → WireRep → Bool
  left reps r = test r && not (list_any (is_same r) reps)

  pub lines_split : (reps : List WireRep) → IsDistinct is_same reps → open_in test m ≡ open_in (left reps) m + times_of lines reps s
  unfolding IsDistinct
  lines_split [] apart =
      let same = open_same test (left []) m (λ r. elim (test r) as (λ t. t ≡ (t && true)) [ true ↦ refl | false ↦ refl ]) in
      omega (arith, same)
  lines_split (rep ∷ reps) apart =
      let rest = lines_split reps apart.1 in
      elim (test rep) as (λ t. test rep ≡ t → open_in test m ≡ open_in (left (rep ∷ reps)) m + (times_in lines rep s + times_of lines reps s)) [
        | true ↦ λ on.
            let this : left reps rep ≡ true = rw (on, not_among rep rep reps apart.0) refl in
            let less = open_less rep (left reps) m this in
            let same = open_same (but rep (left reps)) (left (rep ∷ reps)) m
            (λ r. without_one (is_same rep r) (test r) (list_any (is_same r) reps) ∙ ap (λ b. test r && not (b || list_any (is_same r) reps)) (same_turned rep r)) in
            let its = lined rep on in
            omega (arith, rest, less, same, its)
        | false ↦ λ off.
            let same = open_same (left reps) (left (rep ∷ reps)) m
            (λ r. without_none (is_same r rep) (test r) (list_any (is_same r) reps) (λ t. ap test (same_is r rep t) ∙ off)) in
            let zero = none rep off in
            omega (arith, rest, same, zero)
      ] refl

pub owner_open : {rows : List (ℕ × Entry)} {marked : List ℕ} {entries next room : ℕ} {froms : NumberLists} {lines : LineList} (are : AreWaiting rows marked entries froms lines next room) (owner : ℕ) (reps : List WireRep) → IsDistinct is_same reps
    → ((r : WireRep) → list_any (is_same r) reps ≡ (r.owner == owner && has_line lines r))
    → (s : ℕ) (e : Entry) → item_at rows s ≡ Some e → e.waits - times_of lines reps s ≡ open_in (λ r. has_line lines r && not (r.owner == owner)) e.message
owner_open {lines = lines} are owner reps apart of s e found =
    let waits = are.waits s e found in
    let split = lines_split lines e.message s (has_line lines) (λ r on. are.lined r on s e found) (λ r off. times_none lines r s off) reps apart in
    let same = open_same (λ r. has_line lines r && not (list_any (is_same r) reps)) (λ r. has_line lines r && not (r.owner == owner)) e.message
    (λ r. ap (λ b. has_line lines r && not b) (of r) ∙ both (has_line lines r) (r.owner == owner)) in
    omega (arith, waits, split, same)
  where
    both : (h o : Bool) → (h && not (o && h)) ≡ (h && not o)
    both true true = refl
    both true false = refl
    both false o = refl
