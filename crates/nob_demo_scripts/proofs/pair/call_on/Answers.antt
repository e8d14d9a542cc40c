use Rattle.nob_model_session.specs.Pair.{first_calls, second_calls}
use Rattle.nob_demo_scripts.proofs.Steps.{first_made, second_made}
use Rattle.nob_demo_scripts.proofs.pair.call_on.Goals as goal

pub returns-in-First-clause-answer : goal.returns-in-First-clause-answer
returns-in-First-clause-answer c limits J st =
    rw (c.in-First.is)
    (first_made limits _ J c.args.call _ _ c.call_at.result st (c.call_at.ensures.answer 1 2 limits (first_calls J) st.first) (c.call_at.ensures.given 1 2 limits (first_calls J) st.first))

pub returns-in-Second-clause-answer : goal.returns-in-Second-clause-answer
returns-in-Second-clause-answer c limits J st =
    let made = c.call_at-in-Second in
    rw (c.in-Second.is)
    (second_made limits _ J c.args.call _ _ made.result st (made.ensures.answer 2 1 limits (second_calls J) st.second) (made.ensures.given 2 1 limits (second_calls J) st.second))

pub returns-in-First-clause-memory : goal.returns-in-First-clause-memory
returns-in-First-clause-memory c limits J st = rw (c.in-First.is) (c.call_at.ensures.memory 1 2 limits (first_calls J) st.first)

pub returns-in-Second-clause-memory : goal.returns-in-Second-clause-memory
returns-in-Second-clause-memory c limits J st = rw (c.in-Second.is) (c.call_at-in-Second.ensures.memory 2 1 limits (second_calls J) st.second)
