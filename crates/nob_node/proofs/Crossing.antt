-- What a node leaves may go to another thread, where the application's objects may.
use mathlib.Core.List.{[], ◌∷◌}
use denote.RattleType.{RattleType}
use denote.Param.Send.{IsSend, struct_send}
use denote.Struct.Declared.{shape}
use Rattle.std.proofs.Crossing.{Vec-send}
pub use Rattle.nob_keeper.proofs.Crossing.{record_send}
use Rattle.nob_node.specs.contracts.running.Report as Report
pub use Rattle.nob_node_site.proofs.Crossing.{left_send}

module _ (O : RattleType) (crossing : IsSend O) where
  pub report_send : IsSend (Report.the_field O).row
  report_send = struct_send (shape (Report.the_type O)) (record_send, (Vec-send _ (left_send O crossing), tt))
