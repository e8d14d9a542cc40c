use Rattle.std.proofs.Common.{◌≡◌, ℕ, take, drop, arith, ap, ◌∙◌}
use Rattle.std.specs.Fmt.{decimal}
use Rattle.nob_demo_scripts.proofs.Headers.{parts_of}
use Rattle.nob_demo_scripts.proofs.parse.limits_of.Goals as goal

pub returns-in_default-clause-only : goal.returns-in_default-clause-only
returns-in_default-clause-only c window retry fits spelt =
    let parts = parts_of c.args.text.now window retry fits spelt in
    absurd (c.in_default.ensures.only (decimal retry) (c.split_at.ensures.back ∙ ap (λ (n : ℕ). drop n c.args.text.now) c.word_len.ensures.value ∙ parts.1))

pub returns-in_default-2-clause-only : goal.returns-in_default-2-clause-only
returns-in_default-2-clause-only c window retry fits spelt =
    let parts = parts_of c.args.text.now window retry fits spelt in
    let read = c.in_ok-window.ensures.only window (omega (arith, fits.1)) (c.split_at.ensures.front ∙ ap (λ (n : ℕ). take n c.args.text.now) c.word_len.ensures.value ∙ parts.0) in
    cc (read, c.in_default-2.is)

pub returns-in_default-3-clause-only : goal.returns-in_default-3-clause-only
returns-in_default-3-clause-only c window retry fits spelt =
    let parts = parts_of c.args.text.now window retry fits spelt in
    let rest = c.in-Some.ensures.only (decimal retry) (c.split_at.ensures.back ∙ ap (λ (n : ℕ). drop n c.args.text.now) c.word_len.ensures.value ∙ parts.1) in
    let read = c.in_ok-retry.ensures.only retry (omega (arith, fits.3)) rest in
    cc (read, c.in_default-3.is)

pub returns-clause-only : goal.returns-clause-only
returns-clause-only c window retry fits spelt =
    let parts = parts_of c.args.text.now window retry fits spelt in
    let rest = c.in-Some.ensures.only (decimal retry) (c.split_at.ensures.back ∙ ap (λ (n : ℕ). drop n c.args.text.now) c.word_len.ensures.value ∙ parts.1) in
    let first = c.in_ok-window.ensures.only window (omega (arith, fits.1)) (c.split_at.ensures.front ∙ ap (λ (n : ℕ). take n c.args.text.now) c.word_len.ensures.value ∙ parts.0) in
    let second = c.in_ok-retry.ensures.only retry (omega (arith, fits.3)) rest in
    let w : c.in-Some-2.window ≡ window = cc (first, c.in-Some-2.is) in
    let r : c.in-Some-3.retry ≡ retry = cc (second, c.in-Some-3.is) in
    c.new.ensures.in_range.1 (omega (arith, w, fits.0), omega (arith, w, fits.1), omega (arith, r, fits.2), omega (arith, r, fits.3))
