use Rattle.std.proofs.Common.{◌≡◌, ◌≤◌, None, Some, refl, sym, subst}
use Rattle.std.specs.Prelude.{Result, Ok, Err}
use Rattle.nob_recall.specs.declared.fault.WatchError.{WatchError}
use Rattle.nob_recall.specs.declared.fault.WatchError.TheVariants.{Fault}
use Rattle.nob_watch.specs.Reruns.{Following, journal_of, with_dated, with_fault, HasTaken, Passes}
use Rattle.nob_watch.proofs.Reruns.{live_of, following_is, rerun_more, rerun_same, passes_ok, passes_fault}
use Rattle.nob_watch.proofs.rerun.Rerun.pass.Goals as goal

pub invariant_of-self : goal.invariant_of-self
invariant_of-self c =
    let its = c.self.inside in
    let dated = c.args.dated.now in
    let old : Following = record { n = its.n; limits = its.limits.items; span = its.recall.span; passed = its.passed.items; fault = its.fault } in
    let spaces = c.take-told.new.spaces.items in
    let places = c.take-told.new.places.items in
    let recall = c.take-told.new.recall in
    let none : its.fault ≡ None = c.in_default.is in
    let high = subst (λ (f : Following). dated.entry.space ≤ f.n) (sym c.self.view_is) c.requires in
    let live = live_of old its.spaces.items its.places.items its.recall c.self.invariant none in
    let taken = c.in-Ok.ensures.taken its.n its.limits.items high live c.self.invariant.run in
    let new : Following = record { n = its.n; limits = its.limits.items; span = recall.span; passed = c.take-told.new.passed.items; fault = its.fault } in
    let made : new ≡ with_dated dated old = following_is new (with_dated dated old) refl refl c.take-told.ensures.span c.in-Ok.ensures.ok refl in
    rerun_more old new dated its.spaces.items spaces its.places.items places its.recall recall c.self.invariant none made taken

pub returns-in-Ok : goal.returns-in-Ok
returns-in-Ok c =
    let its = c.self.inside in
    let dated = c.args.dated.now in
    let old : Following = record { n = its.n; limits = its.limits.items; span = its.recall.span; passed = its.passed.items; fault = its.fault } in
    let spaces = c.take-told.new.spaces.items in
    let places = c.take-told.new.places.items in
    let recall = c.take-told.new.recall in
    let none : its.fault ≡ None = c.in_default.is in
    let high = subst (λ (f : Following). dated.entry.space ≤ f.n) (sym c.self.view_is) c.requires in
    let live = live_of old its.spaces.items its.places.items its.recall c.self.invariant none in
    let taken = c.in-Ok.ensures.taken its.n its.limits.items high live c.self.invariant.run in
    let new : Following = record { n = its.n; limits = its.limits.items; span = recall.span; passed = c.take-told.new.passed.items; fault = its.fault } in
    let made : new ≡ with_dated dated old = following_is new (with_dated dated old) refl refl c.take-told.ensures.span c.in-Ok.ensures.ok refl in
    subst (λ (f : Following). Passes f new dated (Ok tt)) c.self.view_is (passes_ok old new dated spaces places recall none taken made)

pub invariant_of-self-in-Err-OutOfMemory : goal.invariant_of-self-in-Err-OutOfMemory
invariant_of-self-in-Err-OutOfMemory c =
    let its = c.self.inside in
    let dated = c.args.dated.now in
    let old : Following = record { n = its.n; limits = its.limits.items; span = its.recall.span; passed = its.passed.items; fault = its.fault } in
    let spaces = c.take-told.new.spaces.items in
    let places = c.take-told.new.places.items in
    let recall = c.take-told.new.recall in
    let none : its.fault ≡ None = c.in_default.is in
    let high = subst (λ (f : Following). dated.entry.space ≤ f.n) (sym c.self.view_is) c.requires in
    let live = live_of old its.spaces.items its.places.items its.recall c.self.invariant none in
    let still = subst (λ (e : WatchError). HasTaken its.n its.limits.items (journal_of its.passed.items) its.recall.span dated spaces places recall (Err e)) c.in-Err-OutOfMemory.field-0-is
    (c.in-Err-OutOfMemory.ensures.taken its.n its.limits.items high live c.self.invariant.run) in
    let new : Following = record { n = its.n; limits = its.limits.items; span = recall.span; passed = c.take-told.new.passed.items; fault = its.fault } in
    let made : new ≡ old = following_is new old refl refl c.take-told.ensures.span c.in-Err-OutOfMemory.ensures.err refl in
    rerun_same old new its.spaces.items spaces its.places.items places its.recall recall c.self.invariant none made still

pub returns : goal.returns
returns c =
    let its = c.self.inside in
    let dated = c.args.dated.now in
    let old : Following = record { n = its.n; limits = its.limits.items; span = its.recall.span; passed = its.passed.items; fault = its.fault } in
    let spaces = c.take-told.new.spaces.items in
    let places = c.take-told.new.places.items in
    let recall = c.take-told.new.recall in
    let none : its.fault ≡ None = c.in_default.is in
    let high = subst (λ (f : Following). dated.entry.space ≤ f.n) (sym c.self.view_is) c.requires in
    let live = live_of old its.spaces.items its.places.items its.recall c.self.invariant none in
    let fault = c.in-Err-Fault.fault in
    let wrong = subst (λ (e : WatchError). HasTaken its.n its.limits.items (journal_of its.passed.items) its.recall.span dated spaces places recall (Err e)) c.in-Err-Fault.field-0-is
    (c.in-Err-Fault.ensures.taken its.n its.limits.items high live c.self.invariant.run) in
    let new : Following = record { n = its.n; limits = its.limits.items; span = recall.span; passed = c.take-told.new.passed.items; fault = Some fault } in
    let made : new ≡ with_fault fault old = following_is new (with_fault fault old) refl refl c.take-told.ensures.span c.in-Err-Fault.ensures.err refl in
    subst (λ (r : Result Unit WatchError). Passes c.args.self.now new dated r) (sym c.stop_of.ensures)
    (subst (λ (f : Following). Passes f new dated (Err (Fault fault))) c.self.view_is (passes_fault old new dated fault none wrong made))
