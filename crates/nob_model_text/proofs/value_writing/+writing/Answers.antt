use Rattle.std.proofs.Common.{◌<◌, ◌++◌, arith, ap, ◌∙◌, List, ℕ}
use Rattle.std.specs.String.{string_bytes}
use Rattle.nob_pickle.specs.Trees.{weight, weight_all}
use Rattle.nob_pickle.specs.Shape.{tree, forest}
use Rattle.nob_pickle.proofs.Ahead.{weight_at}
use Rattle.nob_model_text.proofs.Written.{written_behind}
use Rattle.nob_model_text.proofs.value_writing.+writing.Goals as goal

pub put_behind-put_value-requires : goal.put_behind-put_value-requires
put_behind-put_value-requires t c =
    (let less : weight (tree c.value-item.result) < weight_all (forest c.args.values.now) = weight_at c.args.values.now c.loop-value.value-index c.value-item.result c.loop-value-test.true c.value-item.is in omega (arith, less, c.decreases), tt)

pub put_behind-loop-value-preserved : goal.put_behind-loop-value-preserved
put_behind-loop-value-preserved t c =
    written_behind c.args.values.now c.loop-value.value-index c.value-item.result _ _ _ _ c.loop-value-test.true c.value-item.is c.in_ok-push_str.ensures.bytes c.in_ok-put_value.ensures c.loop-value.invariant
