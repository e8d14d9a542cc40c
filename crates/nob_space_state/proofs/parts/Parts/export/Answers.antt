use Rattle.std.proofs.Common.{◌≡◌, ◌+◌, ◌∷◌, Ok, IsOk, length, refl, sym, ap, subst, ◌∙◌}
use Rattle.nob_ids.specs.declared.wire_rep.WireRep.{WireRep}
use Rattle.nob_table_rows.specs.Standings.{exported_standing}
use Rattle.nob_table.specs.Table.{Becomes, IsRefusal, export_fault}
use Rattle.nob_model_types.specs.declared.answer.Answer.TheVariants as answers
use Rattle.nob_model_types.specs.declared.deed.Deed.TheVariants as did
use Rattle.nob_model_types.specs.Objects.{exports}
use Rattle.nob_model.specs.Right.{own_ref}
use Rattle.nob_model_acting.specs.Sending.{unless}
use Rattle.nob_space_state.specs.Parts.{state_of, with_table}
use Rattle.nob_space_state.specs.Stands.{Stands}
use Rattle.nob_space_state.proofs.Exported.{export_right, export_free, export_full, export_wants, export_stands, next_there}
use Rattle.nob_space_state.proofs.Orderly.{export_is}
use Rattle.nob_space_state.proofs.parts.Parts.export.Goals as goal

pub returns-in-Ok-clause-answer : goal.returns-in-Ok-clause-answer
returns-in-Ok-clause-answer c limits D stands =
    let rep : c.in-Ok.rep ≡ own_ref c.args.self.now.here.space (length (exports D) + 1) = (c.in-Ok.ensures {u = tt}).rep ∙ next_there stands in
    export_right stands c.object_count.ensures.once c.object_count.ensures.live
    ∙ ap (λ refusal. unless refusal (answers.Exported (own_ref c.args.self.now.here.space (length (exports D) + 1)))) (export_free (state_of c.args.self.now) (c.in-Ok.ensures {u = tt}).accepted)
    ∙ ap (λ (w : WireRep). Ok (answers.Exported w)) (sym rep)

pub returns-in-Ok-clause-stands : goal.returns-in-Ok-clause-stands
returns-in-Ok-clause-stands c limits D stands =
    let rep : c.in-Ok.rep ≡ own_ref c.args.self.now.here.space (length (exports D) + 1) = (c.in-Ok.ensures {u = tt}).rep ∙ next_there stands in
    subst (λ (w : WireRep). Stands c.args.self.now.here.space c.args.self.now.here.n limits (with_table c.export.new.self (state_of c.args.self.now)) (did.Export w ∷ D)) (sym rep)
    (export_stands stands c.export.new.self (export_is c.args.self.now.here.space c.args.self.now.here.n limits D (own_ref c.args.self.now.here.space (length (exports D) + 1)) (returns-in-Ok-clause-answer c limits D stands ∙ ap (λ (w : WireRep). Ok (answers.Exported w)) rep)) (c.in-Ok.ensures {u = tt}).left (subst (λ (w : WireRep). Becomes c.args.self.now.table c.export.new.self w exported_standing) rep (c.in-Ok.ensures {u = tt}).exported) (c.in-Ok.ensures {u = tt}).next)

pub returns-in-Err-Fault-clause-answer : goal.returns-in-Err-Fault-clause-answer
returns-in-Err-Fault-clause-answer c limits D stands =
    export_right stands c.object_count.ensures.once c.object_count.ensures.live
    ∙ ap (λ refusal. unless refusal (answers.Exported (own_ref c.args.self.now.here.space (length (exports D) + 1)))) (export_full (state_of c.args.self.now) c.in-Err-Fault.field-0-0 (subst (IsRefusal (export_fault c.args.self.now.table)) c.in-Err-Fault.field-0-is (c.in-Err-Fault.ensures {u = tt}).refused))

pub returns-in-Err-OutOfMemory-clause-answer : goal.returns-in-Err-OutOfMemory-clause-answer
returns-in-Err-OutOfMemory-clause-answer c limits D stands =
    subst IsOk (sym (export_right stands c.object_count.ensures.once c.object_count.ensures.live
    ∙ ap (λ refusal. unless refusal (answers.Exported (own_ref c.args.self.now.here.space (length (exports D) + 1)))) (export_wants (state_of c.args.self.now) (subst (IsRefusal (export_fault c.args.self.now.table)) c.in-Err-OutOfMemory.field-0-is (c.in-Err-OutOfMemory.ensures {u = tt}).refused)))) refl
