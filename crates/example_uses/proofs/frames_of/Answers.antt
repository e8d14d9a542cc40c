use Rattle.std.proofs.Common.{[], subst}
use Rattle.nob_frame.specs.Streams.{Answers, Kept}
use Rattle.example_uses.proofs.frames_of.Goals as goal

pub returns-clause-answer : goal.returns-clause-answer
returns-clause-answer c = (c.push.new.self, subst (λ (kept : Kept). Answers (λ given. given.items) kept c.args.bytes.now c.push.result c.push.new.self) c.new-feed.ensures c.push.ensures.answer)

pub returns-clause-only : goal.returns-clause-only
returns-clause-only c frames rest splits = c.push.ensures.only [] frames rest c.new-feed.ensures splits
