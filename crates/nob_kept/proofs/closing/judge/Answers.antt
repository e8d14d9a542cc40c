use Rattle.std.proofs.Common.{◌≡◌, ℕ, ◌<◌, true, false, Bool, List, [], length, get_or, replicate, append-nil, refl, sym, ap, subst, ◌∙◌}
use Rattle.std.proofs.lemmas.List.{length-replicate}
use Rattle.nob_kept.specs.Closing as closing
use Rattle.nob_trace.specs.declared.stamped.Stamped.{Stamped}
use Rattle.nob_kept.proofs.Marks.{no_marks, all_marks, unmarked_there}
use Rattle.nob_kept.proofs.closing.judge.Goals as goal

-- where nothing is marked yet no receipt was seen
begun : (entries : List Stamped) (marks : List Bool) → marks ≡ replicate (length entries) false → closing.AreMarks marks entries []
begun entries marks none = subst (λ (marks : List Bool). closing.AreMarks marks entries []) (sym none) (no_marks entries (length entries))

pub returns-in-Ok-mark_all-clause-ok : goal.returns-in-Ok-mark_all-clause-ok
returns-in-Ok-mark_all-clause-ok c =
    let entries = c.args.kept.now.entries in
    let marks = c.mark_all.new.marks.items in
    let marked = c.in-Ok-mark_all.ensures {u = tt} in
    let none : c.in-Ok.marks.items ≡ replicate (length entries) false = c.in-Ok.ensures {u = tt} ∙ ap (λ (k : ℕ). replicate k false) c.len.ensures in
    let are : closing.AreMarks marks entries (closing.receipts_of c.args.seats.now) = marked.marks [] (begun entries c.in-Ok.marks.items none) in
    let long : length marks ≡ length entries = marked.len ∙ ap length none ∙ length-replicate (length entries) false in
    let set : (place : ℕ) → place < length marks → get_or marks place false ≡ true =
    subst (λ (marks : List Bool). (place : ℕ) → place < length marks → get_or marks place false ≡ true) c.as_slice.ensures.value ((c.if-not-are_all_set.ensures {u = tt}).set refl) in
    all_marks marks entries (closing.receipts_of c.args.seats.now) are long set

pub returns-then-not-are_all_set-clause-seats : goal.returns-then-not-are_all_set-clause-seats
returns-then-not-are_all_set-clause-seats c is are =
    let entries = c.args.kept.now.entries in
    let marks = c.mark_all.new.marks.items in
    let marked = c.in-Ok-mark_all.ensures {u = tt} in
    let none : c.in-Ok.marks.items ≡ replicate (length entries) false = c.in-Ok.ensures {u = tt} ∙ ap (λ (k : ℕ). replicate k false) c.len.ensures in
    let long : length marks ≡ length entries = marked.len ∙ ap length none ∙ length-replicate (length entries) false in
    let unset : (place : ℕ) × (place < length marks) × (get_or marks place false ≡ false) =
    subst (λ (marks : List Bool). (place : ℕ) × (place < length marks) × (get_or marks place false ≡ false)) c.as_slice.ensures.value ((c.if-not-are_all_set.ensures {u = tt}).unset refl) in
    unmarked_there marks entries (closing.receipts_of c.args.seats.now) unset.0 (marked.marks [] (begun entries c.in-Ok.marks.items none)) long unset.1 unset.2 are

pub returns-clause-seats : goal.returns-clause-seats
returns-clause-seats c is are =
    (c.in-Err.ensures {u = tt}).fault [] [] is (begun c.args.kept.now.entries c.in-Ok.marks.items (c.in-Ok.ensures {u = tt} ∙ ap (λ (k : ℕ). replicate k false) c.len.ensures))
    (subst (closing.AreOf c.args.kept.now.entries) (sym (append-nil (closing.receipts_of c.args.seats.now))) are)
