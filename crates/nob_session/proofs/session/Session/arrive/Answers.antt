use Rattle.std.proofs.Common.{◌≡◌, ◌||◌, true, false, nat_lt, not, ap, sym, ◌∙◌, subst}
use Rattle.nob_model_session.specs.Right.{is_of_pair}
use Rattle.nob_session.specs.Calls.{acceptable, accepting}
use Rattle.nob_session.specs.Stands.{End, Roomy, heard, is_open_end}
use Rattle.nob_session.proofs.Arrived.{Hears, Passes, hears_by, pair_by, passed_stands, item_arrives, other_arrives, arrives_anew}
use Rattle.nob_session.proofs.session.Session.arrive.Goals as goal

pub returns-then-passes-clause-answer : goal.returns-then-passes-clause-answer
returns-then-passes-clause-answer c = λ me peer limits L stands.
    let passes : Passes c.args.self.now.end c.args.frame.now = record {
      pair = subst (λ (r : Roomy). is_of_pair r.end.me r.end.peer c.args.frame.now ≡ true) c.self.view_is (pair_by c.self.inside c.args.frame.now _ _ c.ne.ensures c.if-ne.false c.ne-else-ne.ensures c.if-ne-2.false);
      either = sym c.passes.ensures ∙ c.if-passes.true;
    } in
    rw c.pass_over.ensures.passed (passed_stands me peer limits L c.args.self.now.end c.args.frame.now passes stands)

pub returns-then-not-is_data-clause-answer : goal.returns-then-not-is_data-clause-answer
returns-then-not-is_data-clause-answer c = λ me peer limits L stands.
    let present = subst (λ (r : Roomy). (nat_lt c.args.frame.now.session r.end.number || not (is_open_end r.end)) ≡ false) (sym c.self.view_is) (sym c.passes.ensures ∙ c.if-passes.false) in
    let hears : Hears c.args.self.now.end c.args.frame.now = subst (λ (r : Roomy). Hears r.end c.args.frame.now) c.self.view_is
    (hears_by c.self.inside c.args.frame.now _ _ c.self.invariant c.ne.ensures c.if-ne.false c.ne-else-ne.ensures c.if-ne-2.false present c.if-frame-self.false (sym c.is_close.ensures ∙ c.if-is_close.false) c.if-frame-self-2.false) in
    rw c.hear.ensures.heard
    (other_arrives me peer limits L c.args.self.now.end c.args.frame.now hears (sym c.is_data.ensures ∙ c.if-not-is_data.true) stands)

pub returns-in_err-keep-clause-memory_last : goal.returns-in_err-keep-clause-memory_last
returns-in_err-keep-clause-memory_last c = λ me peer limits L stands memory.
    let present = subst (λ (r : Roomy). (nat_lt c.args.frame.now.session r.end.number || not (is_open_end r.end)) ≡ false) (sym c.self.view_is) (sym c.passes.ensures ∙ c.if-passes.false) in
    let hears : Hears c.args.self.now.end c.args.frame.now = subst (λ (r : Roomy). Hears r.end c.args.frame.now) c.self.view_is
    (hears_by c.self.inside c.args.frame.now _ _ c.self.invariant c.ne.ensures c.if-ne.false c.ne-else-ne.ensures c.if-ne-2.false present c.if-frame-self.false (sym c.is_close.ensures ∙ c.if-is_close.false) c.if-frame-self-2.false) in
    let wanted = c.in_err-keep.ensures {u = tt} in
    arrives_anew me peer limits L c.args.self.now.end c.args.frame.now hears (sym c.is_data.ensures ∙ c.if-not-is_data.false) wanted.reach wanted.empty stands

pub returns-clause-answer : goal.returns-clause-answer
returns-clause-answer c = λ me peer limits L stands.
    let present = subst (λ (r : Roomy). (nat_lt c.args.frame.now.session r.end.number || not (is_open_end r.end)) ≡ false) (sym c.self.view_is) (sym c.passes.ensures ∙ c.if-passes.false) in
    let hears : Hears c.args.self.now.end c.args.frame.now = subst (λ (r : Roomy). Hears r.end c.args.frame.now) c.self.view_is
    (hears_by c.self.inside c.args.frame.now _ _ c.self.invariant c.ne.ensures c.if-ne.false c.ne-else-ne.ensures c.if-ne-2.false present c.if-frame-self.false (sym c.is_close.ensures ∙ c.if-is_close.false) c.if-frame-self-2.false) in
    let kept = (c.in_ok-keep.ensures {u = tt}).kept in
    let count = c.accept-count.ensures.count ∙ ap acceptable kept in
    let left = c.hear-2.ensures.heard ∙ ap (λ (e : End). heard e c.args.frame.now) (c.accept-count.ensures.accepted ∙ ap (accepting c.accept-count.result) kept) in
    rw left
    (item_arrives me peer limits L c.args.self.now.end c.args.frame.now c.accept-count.result hears (sym c.is_data.ensures ∙ c.if-not-is_data.false) count stands)
