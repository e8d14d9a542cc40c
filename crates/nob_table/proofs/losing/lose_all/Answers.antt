use Rattle.std.proofs.Common.{◌≡◌, ◌<◌, ◌≤◌, ◌-◌, ℕ, List, length, Some, slice_get, get_or, refl, sym, ap, ◌∙◌, arith, Bool, true, false, subst}
use Rattle.std.proofs.lemmas.Option.{slice_get_read, slice_get-get_or}
use Rattle.nob_ids.specs.declared.wire_rep.WireRep.{WireRep}
use Rattle.nob_table_rows.specs.declared.counts.Counts.{Counts}
use Rattle.nob_table.specs.declared.order.Slot.{Slot}
use Rattle.nob_table_rows.specs.declared.standing.Surrogate.{Surrogate}
use Rattle.nob_table.specs.Far.{is_current, Covers}
use Rattle.nob_table.proofs.Lost.{none_lost, few_less, covers_gap, covers_lost, ordered_lost, lost_more, marks_more, ordered_ended, surrogates_left, counted_left}
use Rattle.nob_table.proofs.losing.lose_all.Goals as goal

pub loop-ahead-init : goal.loop-ahead-init
loop-ahead-init c =
    let ends : List ℕ = c.args.order.now.ends in
    let at : slice_get ends c.args.owner ≡ Some (get_or ends c.number_of-number.result 0) =
    ap (λ (j : ℕ). slice_get ends j) (sym c.number_of-number.ensures.value) ∙ slice_get-get_or ends c.number_of-number.result 0 (omega (arith, c.number_of-number.ensures.small)) in
    (refl, refl, refl, refl, refl, omega arith, omega arith, c.requires.once, c.requires.ordered, c.requires.ordered.ended c.args.owner (get_or ends c.number_of-number.result 0) at, none_lost c.args.owner c.args.counted.now.rows c.args.surrogates.now.rows, λ rep apart. refl)

pub loop-ahead-smaller : goal.loop-ahead-smaller
loop-ahead-smaller c =
    let slots : List Slot = c.args.order.now.slots.items in
    let before : List ℕ = c.args.order.now.before.items in
    let inv = c.loop-ahead.invariant in
    let ahead : ℕ = c.loop-ahead.ahead in
    let some : 0 < ahead = c.loop-ahead-test.true in
    let low : ahead ≤ length slots = inv.9.low in
    let got : slice_get slots (ahead - 1) ≡ Some c.index.result.now = slice_get_read slots (length slots) (ahead - 1) c.index.result.now refl (omega (arith, low, some)) (rw inv.0 at c.index.ensures) in
    let is : slice_get before (ahead - 1) ≡ Some c.index-ahead.result.now = slice_get_read before (length before) (ahead - 1) c.index-ahead.result.now refl (omega (arith, low, some, inv.8.same)) (rw inv.1 at c.index-ahead.ensures) in
    few_less slots c.args.owner c.loop-ahead.surrogates.rows c.loop-ahead.surrogates.kept before c.args.order.now.ends c.loop-ahead.counted.rows c.loop-ahead.order.idle c.loop-ahead.order.spare inv.8 ahead c.index-ahead.result.now some inv.9 c.index.result.now got is

pub loop-ahead-preserved : goal.loop-ahead-preserved
loop-ahead-preserved c =
    let slots : List Slot = c.args.order.now.slots.items in
    let before : List ℕ = c.args.order.now.before.items in
    let inv = c.loop-ahead.invariant in
    let ahead : ℕ = c.loop-ahead.ahead in
    let some : 0 < ahead = c.loop-ahead-test.true in
    let low : ahead ≤ length slots = inv.9.low in
    let got : slice_get slots (ahead - 1) ≡ Some c.index.result.now = slice_get_read slots (length slots) (ahead - 1) c.index.result.now refl (omega (arith, low, some)) (rw inv.0 at c.index.ensures) in
    let is : slice_get before (ahead - 1) ≡ Some c.index-ahead.result.now = slice_get_read before (length before) (ahead - 1) c.index-ahead.result.now refl (omega (arith, low, some, inv.8.same)) (rw inv.1 at c.index-ahead.ensures) in
    let gap : is_current c.loop-ahead.surrogates.rows c.index.result.now ≡ false = sym c.is_current.ensures ∙ c.if-is_current.false in
    (inv.0, inv.1, inv.2, inv.3, inv.4, inv.5, inv.6, inv.7, inv.8, covers_gap slots c.args.owner c.loop-ahead.surrogates.rows c.loop-ahead.surrogates.kept before c.args.order.now.ends c.loop-ahead.counted.rows c.loop-ahead.order.idle c.loop-ahead.order.spare inv.8 ahead c.index-ahead.result.now some inv.9 c.index.result.now got is gap, inv.10, inv.11)

pub loop-ahead-preserved-then-is_current : goal.loop-ahead-preserved-then-is_current
loop-ahead-preserved-then-is_current c =
    let slots : List Slot = c.args.order.now.slots.items in
    let before : List ℕ = c.args.order.now.before.items in
    let ends : List ℕ = c.args.order.now.ends in
    let owner : ℕ = c.args.owner in
    let counted : List (WireRep × Counts) = c.loop-ahead.counted.rows in
    let surrogates : List (WireRep × Surrogate) = c.loop-ahead.surrogates.rows in
    let kept : List (WireRep × Bool) = c.loop-ahead.surrogates.kept in
    let idle : List ℕ = c.loop-ahead.order.idle in
    let spare : List ℕ = c.loop-ahead.order.spare in
    let inv = c.loop-ahead.invariant in
    let ahead : ℕ = c.loop-ahead.ahead in
    let few : ℕ = c.index-ahead.result.now in
    let e : Slot = c.index.result.now in
    let some : 0 < ahead = c.loop-ahead-test.true in
    let low : ahead ≤ length slots = inv.9.low in
    let got : slice_get slots (ahead - 1) ≡ Some e = slice_get_read slots (length slots) (ahead - 1) e refl (omega (arith, low, some)) (rw inv.0 at c.index.ensures) in
    let is : slice_get before (ahead - 1) ≡ Some few = slice_get_read before (length before) (ahead - 1) few refl (omega (arith, low, some, inv.8.same)) (rw inv.1 at c.index-ahead.ensures) in
    let current : is_current surrogates e ≡ true = sym c.is_current.ensures ∙ c.if-is_current.true in
    let after = c.lose.ensures in (
      inv.0,
      inv.1,
      inv.2,
      after.idle_bound ∙ inv.3,
      after.spare_bound ∙ inv.4,
      omega (arith, inv.5, after.counted_room),
      omega (arith, inv.6, after.surrogates_room),
      after.once,
      ordered_lost slots owner surrogates kept before ends counted idle spare inv.8 ahead few some inv.9 e got is current c.lose.new.counted.rows c.lose.new.surrogates.rows c.lose.new.surrogates.kept c.lose.new.idle c.lose.new.spare
          after.surrogates after.counted after.kept after.idle after.spare,
      covers_lost slots owner surrogates kept before ends counted idle spare inv.8 ahead few some inv.9 e got is current c.lose.new.counted.rows c.lose.new.surrogates.rows c.lose.new.surrogates.kept c.lose.new.idle c.lose.new.spare
          after.surrogates after.counted after.kept after.idle after.spare,
      lost_more slots owner surrogates kept before ends counted idle spare inv.8 ahead few some inv.9 e got is current c.lose.new.counted.rows c.lose.new.surrogates.rows c.lose.new.surrogates.kept c.lose.new.idle c.lose.new.spare
          after.surrogates after.counted after.kept after.idle after.spare
          c.args.counted.now.rows c.args.surrogates.now.rows inv.10,
      marks_more slots owner surrogates kept before ends counted idle spare inv.8 ahead few some inv.9 e got is current c.lose.new.counted.rows c.lose.new.surrogates.rows c.lose.new.surrogates.kept c.lose.new.idle c.lose.new.spare
          after.surrogates after.counted after.kept after.idle after.spare c.args.surrogates.now.kept inv.11,
    )

pub returns-clause-ordered : goal.returns-clause-ordered
returns-clause-ordered c =
    let inv = c.loop-ahead.invariant in
    let slots : List Slot = c.args.order.now.slots.items in
    let end : c.loop-ahead.ahead ≡ 0 = omega (arith, c.loop-ahead-test.false) in
    let covers : Covers slots c.loop-ahead.surrogates.rows c.args.owner (length slots) 0 = subst (λ (n : ℕ). Covers slots c.loop-ahead.surrogates.rows c.args.owner (length slots) n) end inv.9 in
    rw (inv.0, inv.1, inv.2, c.number_of-number.ensures.value) (ordered_ended slots c.args.owner c.args.counted.now.rows c.loop-ahead.counted.rows c.args.surrogates.now.rows c.loop-ahead.surrogates.rows c.loop-ahead.surrogates.kept c.args.order.now.before.items c.args.order.now.ends
    c.loop-ahead.order.idle c.loop-ahead.order.spare inv.8 covers inv.10)

pub returns-clause-surrogates : goal.returns-clause-surrogates
returns-clause-surrogates c =
    let inv = c.loop-ahead.invariant in
    let slots : List Slot = c.args.order.now.slots.items in
    let end : c.loop-ahead.ahead ≡ 0 = omega (arith, c.loop-ahead-test.false) in
    let covers : Covers slots c.loop-ahead.surrogates.rows c.args.owner (length slots) 0 = subst (λ (n : ℕ). Covers slots c.loop-ahead.surrogates.rows c.args.owner (length slots) n) end inv.9 in
    surrogates_left slots c.args.owner c.args.counted.now.rows c.loop-ahead.counted.rows c.args.surrogates.now.rows c.loop-ahead.surrogates.rows c.loop-ahead.surrogates.kept c.args.order.now.before.items c.args.order.now.ends c.loop-ahead.order.idle c.loop-ahead.order.spare inv.8 covers inv.10

pub returns-clause-counted : goal.returns-clause-counted
returns-clause-counted c =
    let inv = c.loop-ahead.invariant in
    let slots : List Slot = c.args.order.now.slots.items in
    let end : c.loop-ahead.ahead ≡ 0 = omega (arith, c.loop-ahead-test.false) in
    let covers : Covers slots c.loop-ahead.surrogates.rows c.args.owner (length slots) 0 = subst (λ (n : ℕ). Covers slots c.loop-ahead.surrogates.rows c.args.owner (length slots) n) end inv.9 in
    counted_left slots c.args.owner c.args.counted.now.rows c.loop-ahead.counted.rows c.args.surrogates.now.rows c.loop-ahead.surrogates.rows c.loop-ahead.surrogates.kept c.args.order.now.before.items c.args.order.now.ends c.loop-ahead.order.idle c.loop-ahead.order.spare inv.8 covers inv.10
