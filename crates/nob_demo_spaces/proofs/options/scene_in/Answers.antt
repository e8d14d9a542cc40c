use Rattle.std.proofs.Common.{◌∙◌, codes, refl, arith}
use Rattle.clap.specs.Words.{found_of}
use Rattle.nob_demo_spaces.specs.Options.{greatest}
use Rattle.nob_demo_spaces.specs.Scenes.{most_spaces, most_calls}
use Rattle.nob_demo_spaces.proofs.Commands.{spaces_fit, three_spaces, calls_fit, fifty_calls}
use Rattle.nob_demo_spaces.proofs.Readings.{number_got}
use Rattle.nob_demo_spaces.proofs.options.scene_in.Goals as goal

pub new-requires : goal.new-requires
new-requires c =
    let spaces = number_got 8 2 (most_spaces c.args.keep) 3 (spaces_fit c.args.keep) (found_of c.args.options.now) (codes "spaces") c.get_one.result c.unwrap_or-spaces.result c.unwrap_or-spaces.ensures c.requires.spaces (omega arith, three_spaces c.args.keep) c.get_one.ensures.none c.get_one.ensures.value in
    let workers = number_got 8 1 16 2 (omega arith) (found_of c.args.options.now) (codes "workers") c.get_one-2.result c.unwrap_or-workers.result c.unwrap_or-workers.ensures c.requires.workers (omega arith, omega arith) c.get_one-2.ensures.none c.get_one-2.ensures.value in
    let calls = number_got 32 0 (most_calls c.args.keep) 50 (calls_fit c.args.keep) (found_of c.args.options.now) (codes "calls") c.get_one-3.result c.unwrap_or-calls.result c.unwrap_or-calls.ensures c.requires.calls (omega arith, fifty_calls c.args.keep) c.get_one-3.ensures.none c.get_one-3.ensures.value in
    let loss = number_got 8 0 9 0 (omega arith) (found_of c.args.options.now) (codes "loss") c.get_one-4.result c.unwrap_or-loss.result c.unwrap_or-loss.ensures c.requires.loss (omega arith, omega arith) c.get_one-4.ensures.none c.get_one-4.ensures.value in
    (spaces.1, workers.1, calls.1, loss.1)

pub returns : goal.returns
returns c =
    let spaces = number_got 8 2 (most_spaces c.args.keep) 3 (spaces_fit c.args.keep) (found_of c.args.options.now) (codes "spaces") c.get_one.result c.unwrap_or-spaces.result c.unwrap_or-spaces.ensures c.requires.spaces (omega arith, three_spaces c.args.keep) c.get_one.ensures.none c.get_one.ensures.value in
    let workers = number_got 8 1 16 2 (omega arith) (found_of c.args.options.now) (codes "workers") c.get_one-2.result c.unwrap_or-workers.result c.unwrap_or-workers.ensures c.requires.workers (omega arith, omega arith) c.get_one-2.ensures.none c.get_one-2.ensures.value in
    let calls = number_got 32 0 (most_calls c.args.keep) 50 (calls_fit c.args.keep) (found_of c.args.options.now) (codes "calls") c.get_one-3.result c.unwrap_or-calls.result c.unwrap_or-calls.ensures c.requires.calls (omega arith, fifty_calls c.args.keep) c.get_one-3.ensures.none c.get_one-3.ensures.value in
    let loss = number_got 8 0 9 0 (omega arith) (found_of c.args.options.now) (codes "loss") c.get_one-4.result c.unwrap_or-loss.result c.unwrap_or-loss.ensures c.requires.loss (omega arith, omega arith) c.get_one-4.ensures.none c.get_one-4.ensures.value in
    let seed = number_got 64 0 greatest 1 (omega arith) (found_of c.args.options.now) (codes "seed") c.get_one-5.result c.unwrap_or-seed.result c.unwrap_or-seed.ensures c.requires.seed (omega arith, omega arith) c.get_one-5.ensures.none c.get_one-5.ensures.value in
    c.new.ensures ∙ (rw (spaces.0, workers.0, calls.0, loss.0, seed.0, c.is_set-traces.ensures) refl)
