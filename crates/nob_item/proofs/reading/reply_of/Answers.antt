use Rattle.std.proofs.Common.{rules, ◌≡◌, ℕ, ◌∷◌, ap, sym, ◌∙◌, subst, arith}
use Rattle.nob_pickle.specs.declared.value.Value.{Value}
use Rattle.nob_item.specs.declared.item.Item.TheVariants as items
use Rattle.nob_item.specs.Spelling.{Spelt}
use Rattle.nob_item.specs.Judging.{Fails}
use Rattle.nob_item.proofs.Choices.{done, no_error, fails_any, ok_is, same_ok}
use Rattle.nob_item.proofs.Fronts.{reply_spelt, reply_is, reply_only}
use Rattle.nob_item.proofs.reading.reply_of.Goals as goal

pub returns-in_err-front-clause-only : goal.returns-in_err-front-clause-only
returns-in_err-front-clause-only c = λ item s.
    let x = reply_is c.args.bytes.now item s in
    absurd (no_error _ x.0 _ x.2 c.in_err-front.ensures)

pub returns-in_err-value-clause-only : goal.returns-in_err-value-clause-only
returns-in_err-value-clause-only c = λ item s.
    let f = c.in_ok-front.front in
    let x = reply_only c.args.bytes.now (f.call, f.status, f.pickle.now) item c.in_ok-front.ensures s in
    let fails : Fails c.in_err-value.field-0.0 (done item) = fails_any x.0 item c.in_err-value.field-0.0 (c.in_err-value.ensures.only x.0 x.2) in
    search rules

pub returns-clause-found : goal.returns-clause-found
returns-clause-found c =
    let f = c.in_ok-front.front in
    let v = c.in_ok-value.value in
    let spelt = reply_spelt c.args.bytes.now (f.call, f.status, f.pickle.now) v (λ i. omega (arith, c.type_inv.bytes i)) c.in_ok-front.ensures c.in_ok-value.ensures.found in
    subst (λ (k : ℕ). Spelt (2 ∷ c.args.bytes.now) (items.Reply k f.status v)) (sym c.new.ensures) spelt

pub returns-clause-only : goal.returns-clause-only
returns-clause-only c = λ item s.
    let f = c.in_ok-front.front in
    let v = c.in_ok-value.value in
    let x = reply_only c.args.bytes.now (f.call, f.status, f.pickle.now) item c.in_ok-front.ensures s in
    let same : x.0 ≡ v = ok_is x.0 v (c.in_ok-value.ensures.only x.0 x.2) in
    same_ok item _ (x.1 ∙ ap (λ (w : Value). items.Reply f.call f.status w) same ∙ ap (λ (k : ℕ). items.Reply k f.status v) (sym c.new.ensures))
