use Rattle.std.proofs.Common.{◌∙◌, ◌+◌, ℕ, Bool, List, codes, drop, map, sym, ap}
use Rattle.std.specs.Str.{bytes_eq}
use Rattle.nob_demo_spaces.specs.Words.{say_nothing, says_nothing}
use Rattle.nob_demo_spaces.proofs.Saying.{goes_on, says_so}
use Rattle.nob_demo_spaces.proofs.keeping.say_nothing.Goals as goal

pub returns-then-says_nothing : goal.returns-then-says_nothing
returns-then-says_nothing g c =
    let said = ap (says_nothing c.loop-word.after_keep) (sym c.as_str-word.ensures) ∙ sym (c.if-says_nothing.ensures {u = tt}) in
    says_so g.S.AsStr.text c.args.words.now c.loop-word.word-index c.word-item.result c.loop-word.after_keep c.loop-word-test.true c.word-item.is said ∙ c.loop-word.invariant

pub loop-word-preserved : goal.loop-word-preserved
loop-word-preserved g c =
    let unsaid = ap (says_nothing c.loop-word.after_keep) (sym c.as_str-word.ensures) ∙ sym (c.if-says_nothing.ensures {u = tt}) in
    let next = c.eq-after_keep.ensures ∙ ap (λ (word : List ℕ). bytes_eq word (codes "--keep")) c.as_str-word.ensures in
    ap (λ (after_keep : Bool). say_nothing after_keep (map g.S.AsStr.text (drop (c.loop-word.word-index + 1) c.args.words.now))) next
    ∙ goes_on g.S.AsStr.text c.args.words.now c.loop-word.word-index c.word-item.result c.loop-word.after_keep c.loop-word-test.true c.word-item.is unsaid
    ∙ c.loop-word.invariant
