use Rattle.std.proofs.Common.{◌≡◌, ◌∷◌, ℕ, List, Some, sym, ◌∙◌, subst}
use Rattle.nob_frame.specs.declared.frame.Frame.{Frame}
use Rattle.nob_frame.specs.declared.version.Version.TheVariants.{Two}
use Rattle.nob_frame.specs.Spelling.{Spelt}
use Rattle.nob_model_session.specs.declared.entry.EndEntry.TheVariants.{Arrive}
use Rattle.nob_model_session.specs.Right.{right_arrive}
use Rattle.nob_model_session.specs.Pair.{first_calls, second_calls}
use Rattle.nob_demo_scripts.specs.Run.{frame_numbered}
use Rattle.nob_demo_scripts.proofs.Keeping.{kept}
use Rattle.nob_demo_scripts.proofs.Steps.{first_arrived, second_arrived}
use Rattle.nob_demo_scripts.proofs.pair.deliver.Goals as goal

pub returns-then-get-eq1-clause-answer : goal.returns-then-get-eq1-clause-answer
returns-then-get-eq1-clause-answer c limits J st =
    let frame = c.in-Some.frame in
    let spelt = subst (λ (bytes : List ℕ). Spelt Two bytes frame) (sym c.deref.ensures.value) c.in_ok-bytes.ensures in
    let numbered = subst (λ (xs : List Frame). frame_numbered c.args.number xs ≡ Some frame) st.frames (sym c.in_ok-frame.ensures.frame ∙ c.in-Some.is) in
    first_arrived limits _ J c.args.number frame _ c.arrive.result st numbered (sym c.get.ensures.value ∙ c.if-get-eq1.true) (c.arrive.ensures.answer frame 1 2 limits (first_calls J) spelt st.first)

pub returns-then-get-eq1-clause-first_end : goal.returns-then-get-eq1-clause-first_end
returns-then-get-eq1-clause-first_end c me peer h =
    let frame = c.in-Some.frame in
    let spelt = subst (λ (bytes : List ℕ). Spelt Two bytes frame) (sym c.deref.ensures.value) c.in_ok-bytes.ensures in
    kept _ me peer h.0 _ _ h.1 (Arrive frame (right_arrive me peer frame h.1) ∷ h.1) c.arrive.result h.2 (c.arrive.ensures.answer frame me peer h.0 h.1 spelt h.2) c.arrive.ensures.err

pub returns-clause-answer : goal.returns-clause-answer
returns-clause-answer c limits J st =
    let frame = c.in-Some.frame in
    let spelt = subst (λ (bytes : List ℕ). Spelt Two bytes frame) (sym c.deref-2.ensures.value) c.in_ok-bytes.ensures in
    let numbered = subst (λ (xs : List Frame). frame_numbered c.args.number xs ≡ Some frame) st.frames (sym c.in_ok-frame.ensures.frame ∙ c.in-Some.is) in
    second_arrived limits _ J c.args.number frame _ c.arrive-2.result st numbered (λ e. c.if-get-eq1.false (c.get.ensures.value ∙ e)) (c.arrive-2.ensures.answer frame 2 1 limits (second_calls J) spelt st.second)

pub returns-clause-second_end : goal.returns-clause-second_end
returns-clause-second_end c me peer h =
    let frame = c.in-Some.frame in
    let spelt = subst (λ (bytes : List ℕ). Spelt Two bytes frame) (sym c.deref-2.ensures.value) c.in_ok-bytes.ensures in
    kept _ me peer h.0 _ _ h.1 (Arrive frame (right_arrive me peer frame h.1) ∷ h.1) c.arrive-2.result h.2 (c.arrive-2.ensures.answer frame me peer h.0 h.1 spelt h.2) c.arrive-2.ensures.err
