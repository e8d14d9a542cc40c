use Rattle.std.proofs.Common.{◌≡◌, ◌-◌, List, ◌∷◌, length, take, drop, set, sym, ap, subst, ◌∙◌, arith}
use Rattle.nob_ids.specs.declared.wire_rep.WireRep.{WireRep}
use Rattle.nob_model_types.proofs.Lists.{first_and_rest, rest_is}
use Rattle.nob_space_items.specs.Growing.{AreAmong, SameEnds, HaveRoom}
use Rattle.nob_space_items.proofs.Grown.{one_grown, same_then, room_first, on_ok, ok_holds}
use Rattle.nob_space_items.proofs.growing.+grow_sessions.Goals as goal

pub returns-then-is_err-clause-same : goal.returns-then-is_err-clause-same
returns-then-is_err-clause-same t c =
    let others : List WireRep = take (length c.args.reps.now - 1) (drop 1 c.args.reps.now) in
    let split : c.args.reps.now ≡ c.rep-item.result ∷ others = first_and_rest c.args.reps.now c.rep-item.result c.in-len1-up.len_at_least c.rep-item.is ∙ ap (λ (rest : List WireRep). c.rep-item.result ∷ rest) (sym (rest_is c.args.reps.now)) in
    let among : AreAmong (length c.args.sessions.now.items) (c.rep-item.result ∷ others) = subst (AreAmong (length c.args.sessions.now.items)) split c.requires in
    let low = among.0.0 in
    let high = among.0.1 in
    let at = c.place_of.ensures in
    one_grown c.args.sessions.now.items c.place_of.result c.index_mut-session.result.now c.reserve.new.self (omega (arith, low, high, at)) c.index_mut-session.ensures.value c.reserve.ensures.same c.reserve.ensures.kept

pub returns-else-is_err-clause-same : goal.returns-else-is_err-clause-same
returns-else-is_err-clause-same t c =
    let others : List WireRep = take (length c.args.reps.now - 1) (drop 1 c.args.reps.now) in
    let split : c.args.reps.now ≡ c.rep-item.result ∷ others = first_and_rest c.args.reps.now c.rep-item.result c.in-len1-up.len_at_least c.rep-item.is ∙ ap (λ (rest : List WireRep). c.rep-item.result ∷ rest) (sym (rest_is c.args.reps.now)) in
    let among : AreAmong (length c.args.sessions.now.items) (c.rep-item.result ∷ others) = subst (AreAmong (length c.args.sessions.now.items)) split c.requires in
    let low = among.0.0 in
    let high = among.0.1 in
    let at = c.place_of.ensures in
    same_then c.args.sessions.now.items (set c.args.sessions.now.items c.place_of.result c.reserve.new.self) c.grow_sessions.new.sessions.items
    (one_grown c.args.sessions.now.items c.place_of.result c.index_mut-session.result.now c.reserve.new.self (omega (arith, low, high, at)) c.index_mut-session.ensures.value c.reserve.ensures.same c.reserve.ensures.kept)
    c.grow_sessions.ensures.same

pub returns-else-is_err-clause-room : goal.returns-else-is_err-clause-room
returns-else-is_err-clause-room t c =
    let others : List WireRep = take (length c.args.reps.now - 1) (drop 1 c.args.reps.now) in
    let split : c.args.reps.now ≡ c.rep-item.result ∷ others = first_and_rest c.args.reps.now c.rep-item.result c.in-len1-up.len_at_least c.rep-item.is ∙ ap (λ (rest : List WireRep). c.rep-item.result ∷ rest) (sym (rest_is c.args.reps.now)) in
    on_ok c.grow_sessions.result c.grow_sessions.ensures.room (λ have. subst (HaveRoom c.args.count c.grow_sessions.new.sessions.items) (sym split)
    (room_first c.args.count c.args.sessions.now.items c.grow_sessions.new.sessions.items c.rep-item.result others c.reserve.new.self (ok_holds c.reserve.result (sym c.is_err.ensures.value ∙ c.if-is_err.false) c.reserve.ensures.room)
    (subst (λ k. SameEnds (set c.args.sessions.now.items k c.reserve.new.self) c.grow_sessions.new.sessions.items) c.place_of.ensures c.grow_sessions.ensures.same) have))
