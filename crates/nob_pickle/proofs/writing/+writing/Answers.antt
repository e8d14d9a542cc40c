use Rattle.std.proofs.Common.{◌<◌, arith}
use Rattle.nob_pickle.specs.Trees.{weight, weight_all}
use Rattle.nob_pickle.specs.Shape.{tree, forest}
use Rattle.nob_pickle.proofs.Ahead.{weight_at, short_bytes_ahead, short_lists_ahead}
use Rattle.nob_pickle.proofs.Written.{written_goes_on}
use Rattle.nob_pickle.proofs.writing.+writing.Goals as goal

pub put_values-put_value-requires : goal.put_values-put_value-requires
put_values-put_value-requires t c =
    let vs = c.args.values.now in
    let i = c.loop-value.value-index in
    let v = c.value-item.result in
    let lt = c.loop-value-test.true in
    let less : weight (tree c.value-item.result) < weight_all (forest c.args.values.now) = weight_at vs i v lt c.value-item.is in (
      omega (arith, less, c.decreases),
      ((short_bytes_ahead vs i v lt c.value-item.is c.loop-value.invariant.0).0, (short_lists_ahead vs i v lt c.value-item.is c.loop-value.invariant.1).0),
    )

pub put_values-loop-value-preserved : goal.put_values-loop-value-preserved
put_values-loop-value-preserved t c =
    let vs = c.args.values.now in
    let i = c.loop-value.value-index in
    let v = c.value-item.result in
    let lt = c.loop-value-test.true in (
      (short_bytes_ahead vs i v lt c.value-item.is c.loop-value.invariant.0).1,
      (short_lists_ahead vs i v lt c.value-item.is c.loop-value.invariant.1).1,
      written_goes_on vs i v _ _ _ lt c.value-item.is c.loop-value.invariant.2 c.in_ok-put_value.ensures,
    )
