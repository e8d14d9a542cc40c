use Rattle.nob_dispatch_lanes.specs.Ends.{stake_of}
use Rattle.nob_dispatch.specs.Serving.{given, taken}
use Rattle.nob_dispatch.specs.Stakes.{of_desk}
use Rattle.nob_dispatch.proofs.Returns.{comes_back}
use Rattle.nob_dispatch.proofs.desk.Desk.take_one_back.Goals as goal

pub returns-in-Some-clause-back : goal.returns-in-Some-clause-back
returns-in-Some-clause-back g c =
    let desk = c.self.inside in
    rw (← c.self.view_is) (λ is. (c.in-Some.back, comes_back c.in-Some.back (given desk.errands) (taken desk.returns) (taken c.try_get_as.new.self) desk.unsent desk.errands.has_heard_gone desk.away c.saturating_sub-self-inside.result desk.has_stopped desk.dispatcher c.put_down.new.dispatcher (of_desk desk.errands desk.returns) (of_desk desk.errands c.try_get_as.new.self) c.in-Some.ensures.answer c.saturating_sub-self-inside.ensures c.put_down.ensures.away c.put_down.ensures.out (λ i. record { errands = stake_of desk.errands.pass; returns = c.in-Some.ensures.stake i })))
