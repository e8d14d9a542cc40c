use Rattle.std.proofs.Common.{List, ℕ, ◌++◌, ap, ◌∙◌}
use Rattle.std.specs.String.{string_bytes}
use Rattle.nob_demo_scripts.specs.Run.{sent_text}
use Rattle.nob_demo_scripts.proofs.Numbers.{one_more}
use Rattle.nob_demo_scripts.proofs.text.frames_text.Goals as goal

pub loop-i-preserved : goal.loop-i-preserved
loop-i-preserved c =
    one_more (string_bytes c.loop-i.text) _ c.args.sent.before c.args.sent.count c.loop-i.i (sent_text c.args.sent.before c.args.sent.count) c.loop-i-test.true
    (c.in_ok-push_str.ensures.bytes ∙ ap (λ (n : List ℕ). string_bytes c.loop-i.text ++ n) (c.as_str.ensures.value ∙ c.in_ok-number.ensures)) c.loop-i.invariant
