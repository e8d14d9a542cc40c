use Rattle.nob_keeper.proofs.held.notice_to_all.Goals as goal

pub returns-clause-prospects : goal.returns-clause-prospects
returns-clause-prospects c = record { send = c.prospects_of.ensures.send; care = c.prospects_of.ensures.care; claim = c.prospects_of.ensures.claim }
