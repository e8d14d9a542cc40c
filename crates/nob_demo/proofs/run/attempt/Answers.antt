use Rattle.std.proofs.Common.{◌++◌, List, ℕ, map, subst}
use Rattle.std.specs.Io.KnownBytes.{Appends}
use Rattle.nob_demo_spaces.specs.Words.{subcommand_in}
use Rattle.nob_demo.specs.Program.{Does, IsInput, reads_input}
use Rattle.nob_demo_spaces.specs.declared.command_line.Subcommand.{Subcommand}
use Rattle.nob_demo.proofs.Known.{appends_more}
use Rattle.nob_demo.proofs.run.attempt.Goals as goal

pub returns : goal.returns
returns g c =
    let text : List ℕ = c.play-status.new.text.items in
    let last : List ℕ = c.play-status.result.0.now in
    let status = c.play-status.result.1 in
    let played : Does c.in_ok-subcommand.subcommand c.in_ok-input.input.items (text ++ last) status = subst (λ (bytes : List ℕ). Does c.in_ok-subcommand.subcommand bytes (text ++ last) status) c.deref.ensures.value c.play-status.ensures in
    let played_it : Does (subcommand_in (map g.S.AsStr.text c.args.words.now)) c.in_ok-input.input.items (text ++ last) status = subst (λ (subcommand : Subcommand). Does subcommand c.in_ok-input.input.items (text ++ last) status) c.in_ok-subcommand.ensures.subcommand played in
    let first = subst (λ (bytes : List ℕ). Appends (g.W.Write.contents c.args.out.now.writer) (g.W.Write.contents c.write_all.new.self.writer) bytes) c.deref-2.ensures.value c.in-Ok.ensures.bytes in
    let given_it : IsInput (reads_input (subcommand_in (map g.S.AsStr.text c.args.words.now))) (record {
      input = g.R.Read.remaining c.args.reader.now.reader;
      rest = g.R.Read.remaining c.input_of.new.source.reader;
      reads = c.input_of.new.source.reads;
      bytes = c.input_of.new.source.bytes;
      failed = c.input_of.new.source.failed;
      ended = c.input_of.new.source.ended;
    }) c.in_ok-input.input.items = subst (λ (subcommand : Subcommand). IsInput (reads_input subcommand) (record {
      input = g.R.Read.remaining c.args.reader.now.reader;
      rest = g.R.Read.remaining c.input_of.new.source.reader;
      reads = c.input_of.new.source.reads;
      bytes = c.input_of.new.source.bytes;
      failed = c.input_of.new.source.failed;
      ended = c.input_of.new.source.ended;
    }) c.in_ok-input.input.items) c.in_ok-subcommand.ensures.subcommand c.in_ok-input.ensures.input in
    record {
      ended = (c.in_ok-input.input.items, text ++ last, (c.in_ok-subcommand.ensures.taken, given_it), played_it, appends_more _ _ _ text last first c.in-Ok-write_all.ensures.bytes, c.in-Ok-write_all.ensures.ok);
    }
