use Rattle.std.proofs.Common.{◌≡◌, true, is_none, Ok, arith, ap, subst, sym}
use Rattle.nob_session.specs.Calls.{next_of}
use Rattle.nob_session.specs.Sound.{as_seen}
use Rattle.nob_session.specs.Stands.{Roomy, Stands, is_open_end}
use Rattle.nob_session.proofs.Sent.{sent_stands}
use Rattle.nob_session.proofs.session.Session.send.Goals as goal

pub returns-clause-answer : goal.returns-clause-answer
returns-clause-answer c = λ me peer limits L stands.
    let next = c.in_ok-number.ensures {u = tt} in
    rw ((c.in_ok-push_back.ensures {u = tt}).items, c.shared.ensures)
    (sent_stands me peer limits L (as_seen c.self.inside).end c.args.payload.items c.args.kind c.in_ok-number.number
    (subst (λ (r : Roomy). is_open_end r.end ≡ true) (sym c.self.view_is) (ap is_none next.open))
    (omega (arith, c.self.invariant.lowest_out, c.self.invariant.transmitted_handed))
    (subst (λ (r : Roomy). Ok c.in_ok-number.number ≡ next_of c.args.kind r.end) (sym c.self.view_is) next.next)
    (subst (λ (r : Roomy). Stands me peer limits r.end L) (sym c.self.view_is) stands))
