use Rattle.std.proofs.Common.{◌++◌, length}
use Rattle.nob_demo_scripts.specs.declared.step.Call.TheVariants.{Put, Send, Get, Tick, Close, Open}
use Rattle.nob_demo_scripts.specs.Run.{calls_of}
use Rattle.nob_demo_scripts.proofs.Keeping.{kept}
use Rattle.nob_demo_scripts.proofs.pair.call_at.Goals as goal

pub returns-in-Put-clause-answer : goal.returns-in-Put-clause-answer
returns-in-Put-clause-answer c me peer limits L st = rw (c.in-Put.is) (c.put.ensures.answer me peer (length c.args.frames.now.frames) limits L st)

pub returns-in-Put-clause-end : goal.returns-in-Put-clause-end
returns-in-Put-clause-end c me peer h = kept _ me peer h.0 _ _ h.1 (calls_of h.0 me peer (Put c.in-Put.item) h.1 ++ h.1) c.put.result h.2 (c.put.ensures.answer me peer 0 h.0 h.1 h.2) c.put.ensures.err

pub returns-in-Send-clause-answer : goal.returns-in-Send-clause-answer
returns-in-Send-clause-answer c me peer limits L st = rw (c.in-Send.is) (c.send.ensures.answer me peer limits L st)

pub returns-in-Send-clause-end : goal.returns-in-Send-clause-end
returns-in-Send-clause-end c me peer h = kept _ me peer h.0 _ _ h.1 (calls_of h.0 me peer Send h.1 ++ h.1) c.send.result h.2 (c.send.ensures.answer me peer h.0 h.1 h.2) c.send.ensures.session

pub returns-in-Get-clause-answer : goal.returns-in-Get-clause-answer
returns-in-Get-clause-answer c me peer limits L st = rw (c.in-Get.is) (c.get.ensures.answer me peer (length c.args.frames.now.frames) limits L st)

pub returns-in-Get-clause-end : goal.returns-in-Get-clause-end
returns-in-Get-clause-end c me peer h = kept _ me peer h.0 _ _ h.1 (calls_of h.0 me peer Get h.1 ++ h.1) c.get.result h.2 (c.get.ensures.answer me peer 0 h.0 h.1 h.2) c.get.ensures.err

pub returns-in-Tick-clause-answer : goal.returns-in-Tick-clause-answer
returns-in-Tick-clause-answer c me peer limits L st = rw (c.in-Tick.is) (c.tick.ensures.answer me peer (length c.args.frames.now.frames) limits L st)

pub returns-in-Tick-clause-end : goal.returns-in-Tick-clause-end
returns-in-Tick-clause-end c me peer h = (h.0, calls_of h.0 me peer Tick h.1 ++ h.1, (c.tick.ensures.answer me peer 0 h.0 h.1 h.2).1)

pub returns-in-Close-clause-answer : goal.returns-in-Close-clause-answer
returns-in-Close-clause-answer c me peer limits L st = rw (c.in-Close.is) (c.close.ensures.answer me peer (length c.args.frames.now.frames) limits L st)

pub returns-in-Close-clause-end : goal.returns-in-Close-clause-end
returns-in-Close-clause-end c me peer h = (h.0, calls_of h.0 me peer Close h.1 ++ h.1, (c.close.ensures.answer me peer 0 h.0 h.1 h.2).1)

pub returns-in-Open-clause-answer : goal.returns-in-Open-clause-answer
returns-in-Open-clause-answer c me peer limits L st = rw (c.in-Open.is) (c.open.ensures.answer me peer (length c.args.frames.now.frames) limits L st)

pub returns-in-Open-clause-end : goal.returns-in-Open-clause-end
returns-in-Open-clause-end c me peer h = (h.0, calls_of h.0 me peer Open h.1 ++ h.1, (c.open.ensures.answer me peer 0 h.0 h.1 h.2).1)

pub returns-in-Get-clause-memory : goal.returns-in-Get-clause-memory
returns-in-Get-clause-memory c me peer limits L st = rw (c.in-Get.is) (c.get.ensures.memory me peer limits L st)

pub returns-in-Put-clause-memory : goal.returns-in-Put-clause-memory
returns-in-Put-clause-memory c me peer limits L st = rw (c.in-Put.is) (c.put.ensures.memory me peer limits L st)
