-- Without its first test a mask has room to double.
use Rattle.std.proofs.Common.{rules, ◌-◌, length, take, drop, arith}
use Rattle.nob_host_space.proofs.Masks.{mask_bound}
use Rattle.nob_host_space.proofs.bits.+mask_of.Goals as goal

pub overflow_mul-result : goal.overflow_mul-result
overflow_mul-result t c = omega (arith, c.mask_of-high.ensures, mask_bound (take (length c.args.tests.now - 1) (drop 1 c.args.tests.now)) (search rules))

pub overflow_add-result : goal.overflow_add-result
overflow_add-result t c = omega (arith, c.mask_of-high.ensures, mask_bound (take (length c.args.tests.now - 1) (drop 1 c.args.tests.now)) (search rules))

pub overflow_mul-result-else-test : goal.overflow_mul-result-else-test
overflow_mul-result-else-test t c = omega (arith, c.mask_of-high.ensures, mask_bound (take (length c.args.tests.now - 1) (drop 1 c.args.tests.now)) (search rules))
