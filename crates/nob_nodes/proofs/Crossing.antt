-- The threads of nodes share their places: what each takes from there and leaves there may go to another thread, where the application's objects and players may.
use mathlib.Core.List.{[], ◌∷◌}
use denote.RattleType.{RattleType}
use denote.Param.Send.{IsSend, IsSync, sendable, recorded_send, recorded_sync, struct_send, struct_sync}
use denote.Struct.Declared.{shape}
use denote.Struct.Struct.{Struct}
use denote.Struct.Tuple.{Tuple, tuple_type}
use Rattle.std.proofs.Crossing.{crosses, Vec-send}
use Rattle.nob_dispatch_objects.specs.declared.object.Object as Object
use Rattle.nob_node.proofs.Crossing.{record_send}
use Rattle.nob_node.proofs.Crossing.{left_send}
use Rattle.nob_node.proofs.error.NodeError.TheSendSync as node_error
use Rattle.nob_node.specs.contracts.running.Report as Report
use Rattle.nob_nodes.proofs.launch.Launch.TheSendSync as launch
use Rattle.nob_nodes.specs.contracts.player.Played as Played
use Rattle.nob_nodes.specs.contracts.running.Post as Post
use Rattle.nob_nodes.specs.contracts.launch.Launch as Launch

pair_send : (R S : RattleType) → IsSend R → IsSend S → IsSend (Tuple (R ∷ S ∷ []))
pair_send R S one other =
    let T = tuple_type (R ∷ S ∷ []) in
    recorded_send (Struct (shape T)) T.D T.to T.to_one (struct_send (shape T) (one, (other, tt)))

module _ (O : RattleType) (crossing : IsSend O) (A : RattleType) (crosses_too : IsSend A) where
  report_send : IsSend (Report.the_row O)
  report_send =
      let T = Report.the_type O in
      recorded_send (Struct (shape T)) T.D T.to T.to_one (struct_send (shape T) (record_send, (Vec-send _ (left_send O crossing), tt)))

  turn_send : IsSend (Tuple (Launch.the_row ∷ A ∷ []))
  turn_send = pair_send Launch.the_row A launch.the_send crosses_too

  pub played_send : (k : Object.Ghosts O.Denot) → IsSend (Played.the_row O A k)
  played_send k =
      let T = Played.the_type O A k in
      recorded_send (Struct (shape T)) T.D T.to T.to_one (struct_send (shape T) (
        search (crosses, sendable) depth 60 fits 20000,
        (crosses_too, (search (report_send, pair_send _ _ node_error.the_send (Vec-send _ (left_send O crossing)), crosses, sendable) depth 60 fits 20000, tt)),
      ))

  pub post_sync : (k : Object.Ghosts O.Denot) → IsSync (Post.the_row O A k)
  post_sync k =
      let T = Post.the_type O A k in
      recorded_sync (Struct (shape T)) T.D T.to T.to_one (struct_sync (shape T) (
        search (turn_send, crosses, sendable) depth 60 fits 20000,
        (search (played_send, crosses, sendable) depth 60 fits 20000, tt),
      ))
