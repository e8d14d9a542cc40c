use Rattle.std.proofs.Common.{◌≡◌, ℕ, ◌+◌, ◌∷◌, List, Ok, sym, ap, subst, ◌∙◌}
use Rattle.nob_model_session.specs.declared.entry.EndEntry.TheVariants as calls
use Rattle.nob_model_session.specs.declared.entry.Kind.TheVariants as kinds
use Rattle.nob_session.specs.Stands as ends
use Rattle.nob_session.specs.Stands.{End}
use Rattle.nob_model_history.specs.Ends.{payload_of}
use Rattle.nob_space_items.specs.Notes.{dirty_answer}
use Rattle.nob_space_items.proofs.notes.answer_dirty.Goals as goal

pub returns-clause-session : goal.returns-clause-session
returns-clause-session c me other limits L stands =
    let spelled : c.in_ok-payload.payload.items ≡ payload_of (dirty_answer c.args.live c.args.index) = c.in_ok-payload.ensures.spelled ∙ ap payload_of c.dirty_answer.ensures in
    let next : c.send_reserved.result ≡ c.args.session.now.end.handed + 1 = c.send_reserved.ensures.number ∙ ap (λ (e : End). e.handed + 1) c.reserve.ensures.same in
    (c.take.ensures.answer me other limits (calls.Send (payload_of (dirty_answer c.args.live c.args.index)) kinds.Note (Ok (c.args.session.now.end.handed + 1)) ∷ L)
    (subst (λ (k : ℕ). ends.Stands me other limits c.send_reserved.new.session.end (calls.Send (payload_of (dirty_answer c.args.live c.args.index)) kinds.Note (Ok k) ∷ L)) next
    (subst (λ (bytes : List ℕ). ends.Stands me other limits c.send_reserved.new.session.end (calls.Send bytes kinds.Note (Ok c.send_reserved.result) ∷ L)) spelled
    (c.send_reserved.ensures.answer me other limits L (c.reserve.ensures.same ∙ stands))))).1
