use Rattle.std.proofs.Common.{◌≡◌, ◌↔◌, true, List, subst}
use Rattle.std.specs.List.{Contains}
use Rattle.nob_frame.specs.declared.frame.Frame.{Frame}
use Rattle.nob_recall.specs.Remembering.{IsIn}
use Rattle.nob_recall.specs.Recalls.{Recalled}
use Rattle.nob_recall.proofs.Recalling.{has_either}
use Rattle.nob_recall.proofs.recall.Recall.has.Goals as goal

pub returns-else-is_among : goal.returns-else-is_among
returns-else-is_among c =
    let f : Frame = c.args.frame.now in
    subst (λ (r : Recalled). (c.is_among-else-is_among.result ≡ true) ↔ IsIn f r.memory) c.self.view_is
    (has_either f c.self.inside.older.items c.self.inside.newer.items c.self.inside.kept c.is_among.result c.is_among-else-is_among.result
    (subst (λ (fs : List Frame). (c.is_among.result ≡ true) ↔ Contains fs f) c.as_slice.ensures.value c.is_among.ensures)
    c.if-is_among.false
    (subst (λ (fs : List Frame). (c.is_among-else-is_among.result ≡ true) ↔ Contains fs f) c.as_slice-else-is_among.ensures.value c.is_among-else-is_among.ensures))
