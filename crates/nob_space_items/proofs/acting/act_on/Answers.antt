use Rattle.nob_space_items.proofs.Taken.{settle_free, granted_free, refused_free, clean_free}
use Rattle.nob_space_items.proofs.acting.act_on.Goals as goal

pub returns-in-Settle-clause-answer : goal.returns-in-Settle-clause-answer
returns-in-Settle-clause-answer c limits D stands = settle_free c.in-Settle.field-0 c.args.item c.in-Settle.is (c.requires.front limits D stands)

pub returns-in-DirtyOk-clause-answer : goal.returns-in-DirtyOk-clause-answer
returns-in-DirtyOk-clause-answer c limits D stands = granted_free c.in-DirtyOk.index c.args.item c.in-DirtyOk.is (c.requires.front limits D stands)

pub returns-in-DirtyNo-clause-answer : goal.returns-in-DirtyNo-clause-answer
returns-in-DirtyNo-clause-answer c limits D stands = refused_free c.in-DirtyNo.index c.args.item c.in-DirtyNo.is (c.requires.front limits D stands)

pub returns-in-Clean-clause-answer : goal.returns-in-Clean-clause-answer
returns-in-Clean-clause-answer c limits D stands = clean_free c.in-Clean.index c.args.item c.in-Clean.is (c.requires.front limits D stands)
