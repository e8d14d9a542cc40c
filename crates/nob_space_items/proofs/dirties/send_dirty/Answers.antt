use Rattle.std.proofs.Common.{◌∷◌, Ok, sym, ap, subst, ◌∙◌}
use Rattle.nob_ids.specs.declared.wire_rep.WireRep.{WireRep}
use Rattle.nob_item.specs.declared.item.Item.TheVariants as items
use Rattle.nob_model_session.specs.declared.entry.EndEntry.TheVariants.{Send}
use Rattle.nob_model_session.specs.declared.entry.Kind.TheVariants.{Note}
use Rattle.nob_session.specs.Stands as ends
use Rattle.nob_session.specs.Stands.{End}
use Rattle.nob_model_history.specs.Ends.{payload_of}
use Rattle.nob_space_items.proofs.dirties.send_dirty.Goals as goal

pub returns : goal.returns
returns c =
    let sent = c.send_reserved.ensures.sent in
    record {
      ending = ap (λ (e : End). e.ending) sent;
      handed = ap (λ (e : End). e.handed) sent;
      room = c.send_reserved.ensures.left;
      answer = λ me peer limits L stands.
          subst (λ k. ends.Stands me peer limits c.send_reserved.new.session.end (Send (payload_of (items.Dirty c.args.dirty.index)) Note (Ok k) ∷ L)) c.send_reserved.ensures.number
          (subst (λ bytes. ends.Stands me peer limits c.send_reserved.new.session.end (Send bytes Note (Ok c.send_reserved.result) ∷ L)) (c.dirty.invariant.0 ∙ ap (λ (rep : WireRep). payload_of (items.Dirty rep.index)) c.dirty.view_is) (c.send_reserved.ensures.answer me peer limits L stands));
    }
