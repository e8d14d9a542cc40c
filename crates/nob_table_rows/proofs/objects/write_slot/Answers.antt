use Rattle.std.proofs.Common.{arith}
use Rattle.nob_table_rows.specs.Counts.{is_unheld_object, is_spare_object}
use Rattle.nob_table_rows.proofs.Marked.{point_there, passing_set, some_row}
use Rattle.nob_table_rows.proofs.objects.write_slot.Goals as goal

pub write_marks-requires-clause-unheld_room : goal.write_marks-requires-clause-unheld_room
write_marks-requires-clause-unheld_room c =
    let old = some_row c.args.slots.now.rows c.args.rep.now c.requires.there in
    let point = point_there c.args.slots.now.rows c.requires.by_index c.args.rep.now old.0 old.1 c.count_below-at.result (λ k f got less. c.count_below-at.ensures.below k f got less) (λ k f got le. c.count_below-at.ensures.from k f got le) in
    omega (arith, point.0, c.requires.unheld_room)

pub write_marks-requires-clause-spare_room : goal.write_marks-requires-clause-spare_room
write_marks-requires-clause-spare_room c =
    let old = some_row c.args.slots.now.rows c.args.rep.now c.requires.there in
    let point = point_there c.args.slots.now.rows c.requires.by_index c.args.rep.now old.0 old.1 c.count_below-at.result (λ k f got less. c.count_below-at.ensures.below k f got less) (λ k f got le. c.count_below-at.ensures.from k f got le) in
    omega (arith, point.0, c.requires.spare_room)

pub returns-clause-unheld : goal.returns-clause-unheld
returns-clause-unheld c = λ marked.
    let old = some_row c.args.slots.now.rows c.args.rep.now c.requires.there in
    let point = point_there c.args.slots.now.rows c.requires.by_index c.args.rep.now old.0 old.1 c.count_below-at.result (λ k f got less. c.count_below-at.ensures.below k f got less) (λ k f got le. c.count_below-at.ensures.from k f got le) in
    rw c.set.ensures.written (passing_set c.args.slots.now.rows c.requires.by_index c.args.rep.now old.0 old.1 is_unheld_object c.count_below-at.result c.args.slot c.args.unheld.now c.write_marks.new.unheld point.1 marked c.write_marks.ensures.unheld)

pub returns-clause-spare : goal.returns-clause-spare
returns-clause-spare c = λ marked.
    let old = some_row c.args.slots.now.rows c.args.rep.now c.requires.there in
    let point = point_there c.args.slots.now.rows c.requires.by_index c.args.rep.now old.0 old.1 c.count_below-at.result (λ k f got less. c.count_below-at.ensures.below k f got less) (λ k f got le. c.count_below-at.ensures.from k f got le) in
    rw c.set.ensures.written (passing_set c.args.slots.now.rows c.requires.by_index c.args.rep.now old.0 old.1 is_spare_object c.count_below-at.result c.args.slot c.args.spare.now c.write_marks.new.spare point.1 marked c.write_marks.ensures.spare)
