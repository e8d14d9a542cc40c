use Rattle.std.proofs.Common.{◌<◌, ◌^◌, ℕ, List, length, sym, subst}
use Rattle.nob_recall.specs.declared.dated.Dated.{Dated}
use Rattle.nob_watch.specs.Reruns.{journal_of, IsFound, IsLive}
use Rattle.nob_watch.proofs.Reruns.{place_low, live_same, taken_ok, taken_fault, taken_none}
use Rattle.nob_watch.proofs.making.take.Goals as goal

pub enter-requires-clause-few : goal.enter-requires-clause-few
enter-requires-clause-few c place there =
    place_low c.requires.0 c.args.passed.now.items c.args.places.now.items c.args.dated.now.entry.space place c.requires.3.next c.judge.ensures.space c.requires.2 there
    (subst (λ (passed : List Dated). length passed < 2 ^ 62) c.in-Ok.ensures.passed c.in-Ok.ensures.short)

pub returns-in-Ok-None-clause-taken : goal.returns-in-Ok-None-clause-taken
returns-in-Ok-None-clause-taken c n list high live run =
    let dated = c.args.dated.now in
    let J = journal_of c.args.passed.now.items in
    let spaces = c.args.spaces.now.items in
    let places = c.args.places.now.items in
    let old = c.args.recall.now in
    let recall = c.prepare.new.recall in
    let same = c.prepare.ensures.same in
    let own = subst (λ (ps : List ℕ). IsLive n list J spaces ps recall) (sym c.as_slice.ensures.value) (live_same n list J spaces places old recall same live) in
    let found = subst (IsFound n list J c.judge.new.spaces.items recall dated) c.in-Ok-None.field-0-is (c.in-Ok-None.ensures.judged n list J own) in
    taken_ok n list J dated spaces places c.enter.new.places.items old recall c.enter.new.recall c.judge.ensures.space high same live run c.judge.new.spaces.items found
    (c.enter.ensures.places n J) (c.enter.ensures.recalls J c.in-Ok.ensures.frames)

pub returns-in-Ok-Some-clause-taken : goal.returns-in-Ok-Some-clause-taken
returns-in-Ok-Some-clause-taken c n list high live run =
    let dated = c.args.dated.now in
    let J = journal_of c.args.passed.now.items in
    let spaces = c.args.spaces.now.items in
    let old = c.args.recall.now in
    let recall = c.prepare.new.recall in
    let same = c.prepare.ensures.same in
    let own = subst (λ (ps : List ℕ). IsLive n list J spaces ps recall) (sym c.as_slice.ensures.value) (live_same n list J spaces c.args.places.now.items old recall same live) in
    let found = subst (IsFound n list J c.judge.new.spaces.items recall dated) c.in-Ok-Some.field-0-is (c.in-Ok-Some.ensures.judged n list J own) in
    taken_fault n list J dated c.judge.new.spaces.items old recall c.in-Ok-Some.fault same found

pub returns-in-Err-clause-taken : goal.returns-in-Err-clause-taken
returns-in-Err-clause-taken c n list high live run =
    let J = journal_of c.args.passed.now.items in
    let spaces = c.args.spaces.now.items in
    let places = c.args.places.now.items in
    let old = c.args.recall.now in
    let recall = c.prepare.new.recall in
    let same = c.prepare.ensures.same in
    let own = subst (λ (ps : List ℕ). IsLive n list J spaces ps recall) (sym c.as_slice.ensures.value) (live_same n list J spaces places old recall same live) in
    taken_none n list J spaces c.judge.new.spaces.items places old recall same live (c.in-Err.ensures.judged n list J own)
