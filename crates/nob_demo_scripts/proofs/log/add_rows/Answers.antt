use Rattle.std.proofs.Common.{◌≡◌, ◌++◌, ◌+◌, ℕ, List, ◌∷◌, [], sym, ap, subst, ◌∙◌}
use Rattle.nob_frame.specs.declared.frame.Frame.{Frame}
use Rattle.nob_demo_scripts.specs.declared.batch.Batch.TheVariants.{Run, Whole}
use Rattle.nob_demo_scripts.specs.declared.batch.Row.{Row}
use Rattle.nob_demo_scripts.specs.Log.{AreCounted, all_frames}
use Rattle.nob_demo_scripts.proofs.Logs.{row_more, rows_more}
use Rattle.nob_demo_scripts.proofs.log.add_rows.Goals as goal

-- rows that count these frames behind those before
abbrev Added : (first second : List (List ℕ)) (frames : List Frame) (old new : List Row) → Type 0
Added first second frames old new = AreCounted first second 0 new × (all_frames first second new ≡ all_frames first second old ++ frames)

one_run : (c : goal.After-drop-frames) → Added c.args.first.now c.args.second.now c.args.frames.items c.args.rows.now.items c.push_row.new.rows.items
one_run c =
    let run = c.in-Some.run' in
    let h = c.in-Some.ensures in
    subst (Added c.args.first.now c.args.second.now c.args.frames.items c.args.rows.now.items) (sym c.push_row.ensures.items)
    (row_more c.args.first.now c.args.second.now c.args.rows.now.items (record { before = c.args.before; batch = Run run }) c.args.frames.items c.requires.counted c.requires.before h.0 (sym h.1 ∙ c.deref.ensures.value))

two_runs : (c : goal.After-drop-frames-in-Some-runs_of) → Added c.args.first.now c.args.second.now c.args.frames.items c.args.rows.now.items c.push_row-in-Some-runs_of-2.new.rows.items
two_runs c =
    let head = c.in-Some-runs_of.head in
    let rest = c.in-Some-runs_of.rest in
    let h = c.in-Some-runs_of.ensures in
    let items = c.push_row-in-Some-runs_of-2.ensures.items ∙ ap (λ (rows : List Row). rows ++ record { before = c.args.before + 1; batch = Run rest } ∷ []) c.push_row-in-Some-runs_of.ensures.items in
    subst (Added c.args.first.now c.args.second.now c.args.frames.items c.args.rows.now.items) (sym items)
    (rows_more c.args.first.now c.args.second.now c.args.rows.now.items c.args.before (Run head) (Run rest) c.args.frames.items c.requires.counted c.requires.before h.0 h.1 h.2 (sym c.deref-2.ensures.value ∙ h.3))

no_run : (c : goal.After-push_row-2) → Added c.args.first.now c.args.second.now c.args.frames.items c.args.rows.now.items c.push_row-2.new.rows.items
no_run c =
    subst (Added c.args.first.now c.args.second.now c.args.frames.items c.args.rows.now.items) (sym c.push_row-2.ensures.items)
    (row_more c.args.first.now c.args.second.now c.args.rows.now.items (record { before = c.args.before; batch = Whole c.from_vec.result }) c.args.frames.items c.requires.counted c.requires.before tt c.from_vec.ensures)

pub returns-in-Some-clause-counted : goal.returns-in-Some-clause-counted
returns-in-Some-clause-counted c = (one_run c).0

pub returns-in-Some-clause-frames : goal.returns-in-Some-clause-frames
returns-in-Some-clause-frames c = (one_run c).1

pub returns-in-Some-runs_of-clause-counted : goal.returns-in-Some-runs_of-clause-counted
returns-in-Some-runs_of-clause-counted c = (two_runs c).0

pub returns-in-Some-runs_of-clause-frames : goal.returns-in-Some-runs_of-clause-frames
returns-in-Some-runs_of-clause-frames c = (two_runs c).1

pub returns-clause-counted : goal.returns-clause-counted
returns-clause-counted c = (no_run c).0

pub returns-clause-frames : goal.returns-clause-frames
returns-clause-frames c = (no_run c).1
