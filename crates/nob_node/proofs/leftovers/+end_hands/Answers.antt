use Rattle.std.proofs.Common.{◌≤◌, ◌++◌, ◌∷◌, [], arith, List, length, vec_len, ap, ◌∙◌}
use Rattle.nob_node.proofs.Hands.{some, one_more}
use Rattle.nob_node.proofs.leftovers.+end_hands.Goals as goal

-- the first hand's end stands behind those before, and those of the others behind that
pub returns : goal.returns
returns g t c =
    let filled : 1 ≤ length c.args.hands.items = some (vec_len c.args.hands) (length c.args.hands.items) c.is_empty.result c.if-is_empty.false c.is_empty.ensures (omega arith) in
    one_more c.args.hands.items c.remove-hand.new.self.items c.remove-hand.result c.args.ends.now.items c.push_reserved.new.self.items c.end_hands.new.ends.items c.end_hand-end.result c.args.shelf.now c.end_hand-end.new.shelf c.end_hands.new.shelf
    filled c.remove-hand.ensures.value c.remove-hand.ensures.items
    (c.push_reserved.ensures.items ∙ ap (λ (xs : List _). xs ++ c.end_hand-end.result ∷ []) c.make_room.ensures.items)
    c.end_hand-end.ensures c.end_hands.ensures
