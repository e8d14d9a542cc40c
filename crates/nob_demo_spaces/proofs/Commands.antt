-- The command is one of which clap's contracts say all, whatever the nodes of a scene keep.
use Rattle.std.proofs.Common.{◌≡◌, ◌<◌, ◌≤◌, ◌^◌, true, refl, arith}
use Rattle.clap.specs.Words.{is_simple, is_simple_and_free}
use Rattle.nob_keeper.specs.Keep.{Keep}
use Rattle.nob_keeper.specs.Keep.TheVariants.{All, Nothing}
use Rattle.nob_demo_spaces.specs.Scenes.{most_spaces, most_calls}
use Rattle.nob_demo_spaces.specs.Words.{nobj}

pub simple : (keep : Keep) → is_simple (nobj keep) ≡ true
simple All = refl
simple Nothing = refl

pub simple_and_free : (keep : Keep) → is_simple_and_free (nobj keep) ≡ true
simple_and_free All = refl
simple_and_free Nothing = refl

-- a number of calls has 32 bits
pub calls_fit : (keep : Keep) → most_calls keep < 2 ^ 32
calls_fit All = omega arith
calls_fit Nothing = omega arith

-- and there may be fifty
pub fifty_calls : (keep : Keep) → 50 ≤ most_calls keep
fifty_calls All = omega arith
fifty_calls Nothing = omega arith

-- a number of spaces has 8 bits
pub spaces_fit : (keep : Keep) → most_spaces keep < 2 ^ 8
spaces_fit All = omega arith
spaces_fit Nothing = omega arith

-- and there may be three
pub three_spaces : (keep : Keep) → 3 ≤ most_spaces keep
three_spaces All = omega arith
three_spaces Nothing = omega arith
