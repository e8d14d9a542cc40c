use Rattle.std.proofs.Common.{◌∷◌, ◌++◌, codes, refl}
use Rattle.nob_model_text.specs.Events.{event_text}
use Rattle.nob_model_text.proofs.Read.{by_error, passed}
use Rattle.nob_trace.specs.Entries.{arrival_text, result_text}
use Rattle.nob_trace.proofs.Signs.{event, lacks_equals}
use Rattle.nob_trace.proofs.entry_reading.entry_of.Goals as goal

pub returns-in_err-event-clause-only : goal.returns-in_err-event-clause-only
returns-in_err-event-clause-only c entry is spelt =
    let left = event_text (arrival_text c.args.version entry.event) entry.event in
    let right = result_text c.args.version entry.result in
    let behind = c.in_ok-stamp.ensures.only entry.stamp (32 ∷ (left ++ (codes " = " ++ right))) is.0 refl spelt in
    let text = c.in_ok-after_space.ensures.only (left ++ (codes " = " ++ right)) behind.1 in
    passed _ c.from_residual-in_err-event.result c.in_err-event.field-0.0 c.from_residual-in_err-event.ensures.1
    (by_error _ (c.in_err-event.ensures.only left right (lacks_equals left (event c.args.version entry.event is.1)) text))

pub returns-in_err-event-2-clause-only : goal.returns-in_err-event-2-clause-only
returns-in_err-event-2-clause-only c entry is spelt =
    let left = event_text (arrival_text c.args.version entry.event) entry.event in
    let right = result_text c.args.version entry.result in
    let behind = c.in_ok-stamp.ensures.only entry.stamp (32 ∷ (left ++ (codes " = " ++ right))) is.0 refl spelt in
    let text = c.in_ok-after_space.ensures.only (left ++ (codes " = " ++ right)) behind.1 in
    let sides = c.in_ok-event.ensures.only left right (lacks_equals left (event c.args.version entry.event is.1)) text in
    passed _ c.from_residual-in_err-event-2.result c.in_err-event-2.field-0.0 c.from_residual-in_err-event-2.ensures.1
    (by_error _ (c.in_err-event-2.ensures.only entry.event is.1 sides.0))

pub returns-in_err-result-clause-only : goal.returns-in_err-result-clause-only
returns-in_err-result-clause-only c entry is spelt =
    let left = event_text (arrival_text c.args.version entry.event) entry.event in
    let right = result_text c.args.version entry.result in
    let behind = c.in_ok-stamp.ensures.only entry.stamp (32 ∷ (left ++ (codes " = " ++ right))) is.0 refl spelt in
    let text = c.in_ok-after_space.ensures.only (left ++ (codes " = " ++ right)) behind.1 in
    let sides = c.in_ok-event.ensures.only left right (lacks_equals left (event c.args.version entry.event is.1)) text in
    passed _ c.from_residual-in_err-result.result c.in_err-result.field-0.0 c.from_residual-in_err-result.ensures.1
    (by_error _ (c.in_err-result.ensures.only entry.result is.2 sides.1))

pub returns-clause-only : goal.returns-clause-only
returns-clause-only c entry is spelt =
    let left = event_text (arrival_text c.args.version entry.event) entry.event in
    let right = result_text c.args.version entry.result in
    let behind = c.in_ok-stamp.ensures.only entry.stamp (32 ∷ (left ++ (codes " = " ++ right))) is.0 refl spelt in
    let text = c.in_ok-after_space.ensures.only (left ++ (codes " = " ++ right)) behind.1 in
    let sides = c.in_ok-event.ensures.only left right (lacks_equals left (event c.args.version entry.event is.1)) text in
    let one = c.in_ok-event-2.ensures.only entry.event is.1 sides.0 in
    let two = c.in_ok-result.ensures.only entry.result is.2 sides.1 in
    rw (behind.0, one, two) refl
