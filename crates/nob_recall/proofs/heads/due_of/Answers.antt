use Rattle.std.proofs.Common.{◌≡◌, ◌<◌, ◌-◌, ℕ, false, length, Some, None, slice_get, sym, ap, subst, ◌∙◌}
use Rattle.std.specs.List.{list_any}
use Rattle.nob_model_traces.proofs.Entering.{read}
use Rattle.nob_recall.specs.declared.head.Upcoming.{Upcoming}
use Rattle.nob_recall.specs.Dues.{earliest, may_come}
use Rattle.nob_recall.proofs.Dues.{due_at, one_is_there, there_low}
use Rattle.nob_recall.proofs.heads.due_of.Goals as goal

pub bounds-heads-place : goal.bounds-heads-place
bounds-heads-place c =
    let first : earliest 1 c.args.heads.now ≡ Some c.in-Some.moment = sym c.earliest.ensures ∙ c.in-Some.is in
    subst (λ (k : ℕ). k < length c.args.heads.now) (sym c.place.ensures.value) (there_low c.args.heads.now c.in-Some.moment first)

pub returns-in-Some-next : goal.returns-in-Some-next
returns-in-Some-next c =
    let first : earliest 1 c.args.heads.now ≡ Some c.in-Some.moment = sym c.earliest.ensures ∙ c.in-Some.is in
    let none : list_any (may_come c.in-Some.moment.stamp) c.args.heads.now ≡ false = sym c.any_may_come.ensures ∙ c.if-any_may_come.false in
    let low : c.place.result < length c.args.heads.now = subst (λ (k : ℕ). k < length c.args.heads.now) (sym c.place.ensures.value) (there_low c.args.heads.now c.in-Some.moment first) in
    let there : slice_get c.args.heads.now (c.in-Some.moment.space - 1) ≡ Some c.index-heads-place.result = subst (λ (k : ℕ). slice_get c.args.heads.now k ≡ Some c.index-heads-place.result) c.place.ensures.value (read c.args.heads.now c.place.result c.index-heads-place.result low c.index-heads-place.is) in
    due_at c.args.heads.now c.in-Some.moment c.index-heads-place.result c.in-Some-next.dated c.requires first none there (ap (λ (h : Upcoming). h.next) c.index-heads-place.is ∙ c.in-Some-next.is)

pub returns-in-None : goal.returns-in-None
returns-in-None c = λ dated due. (
    let first : earliest 1 c.args.heads.now ≡ Some c.in-Some.moment = sym c.earliest.ensures ∙ c.in-Some.is in
    let low : c.place.result < length c.args.heads.now = subst (λ (k : ℕ). k < length c.args.heads.now) (sym c.place.ensures.value) (there_low c.args.heads.now c.in-Some.moment first) in
    let there : slice_get c.args.heads.now (c.in-Some.moment.space - 1) ≡ Some c.index-heads-place.result = subst (λ (k : ℕ). slice_get c.args.heads.now k ≡ Some c.index-heads-place.result) c.place.ensures.value (read c.args.heads.now c.place.result c.index-heads-place.result low c.index-heads-place.is) in
    one_is_there c.args.heads.now c.in-Some.moment c.index-heads-place.result first there (ap (λ (h : Upcoming). h.next) c.index-heads-place.is ∙ c.in-None.is))
