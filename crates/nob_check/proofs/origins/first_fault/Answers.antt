use Rattle.std.proofs.Common.{◌≡◌, ◌+◌, ◌++◌, List, Option, Some, None, MatchOption, Bor, slice_get, take, length, reverse, sym, subst}
use Rattle.std.specs.List.{Contains}
use Rattle.nob_frame.specs.declared.frame.Frame.{Frame}
use Rattle.nob_check.specs.Marks.{AreOf}
use Rattle.nob_model_types.specs.declared.entry.Entry.{Entry}
use Rattle.nob_model_types.specs.declared.event.Event.TheVariants as events
use Rattle.nob_model_journal.specs.Journals.{at, transmitted_frames}
use Rattle.nob_model_journal.specs.Runs.{ArrivesGiven}
use Rattle.nob_model_traces.specs.Origins.{IsRefusedFor}
use Rattle.nob_model_traces.proofs.Entering.{read, newest}
use Rattle.nob_model_traces.proofs.Transmitting.{origins_more, alone_at}
use Rattle.nob_check.proofs.origins.first_fault.Goals as goal

-- what is said of the frame of an entry after those before it
abbrev Lone : Entry → List Entry → Option (Bor Frame) → Type 0
Lone e J lone = MatchOption lone (ArrivesGiven e.event J) (λ frame. (e.event ≡ events.Arrive frame.now) × (Contains (transmitted_frames J) frame.now → ⊥))

pub returns-in-Some : goal.returns-in-Some
returns-in-Some c =
    let e = c.index-merged-place.result in
    let all = c.args.merged.now in
    let i = c.loop-place.place in
    let there : slice_get all i ≡ Some e = read all i e c.loop-place-test.true c.index-merged-place.is in
    let lone : Lone e (reverse (take i all)) (Some c.in-Some.frame) = subst (Lone e (reverse (take i all))) c.in-Some.is (c.in_ok-frame.ensures (reverse (take i all)) c.loop-place.invariant.table) in
    alone_at all i e c.in-Some.frame.now c.origin_fault.result there c.loop-place.invariant.origins lone.0 lone.1
    (subst (λ (es : List Entry). IsRefusedFor all e.space (length (at e.space es) + 1) c.in-Some.frame.now c.origin_fault.result) c.split_at.ensures.front c.origin_fault.ensures)

pub loop-place-preserved : goal.loop-place-preserved
loop-place-preserved c =
    let e = c.index-merged-place.result in
    let all = c.args.merged.now in
    let i = c.loop-place.place in
    let there : slice_get all i ≡ Some e = read all i e c.loop-place-test.true c.index-merged-place.is in
    let given : Lone e (reverse (take i all)) None = subst (Lone e (reverse (take i all))) c.in_default.is (c.in_ok-frame.ensures (reverse (take i all)) c.loop-place.invariant.table) in
    record {
      origins = origins_more all i e there c.loop-place.invariant.origins given;
      table = subst (λ (es : List Entry). AreOf (transmitted_frames es) c.in_ok-set.set) (sym (newest all i e there))
          (subst (λ (fs : List Frame). AreOf (transmitted_frames (reverse (take i all)) ++ fs) c.in_ok-set.set) c.frames_of.ensures (c.in_ok-set.ensures (transmitted_frames (reverse (take i all))) c.loop-place.invariant.table));
    }
