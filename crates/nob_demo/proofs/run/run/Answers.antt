use Rattle.std.proofs.Common.{Err, map, subst}
use Rattle.nob_demo_spaces.specs.Words.{subcommand_in, takes_words, word_faults}
use Rattle.nob_demo.specs.Program.{Attempt, Ended, Goes}
use Rattle.nob_demo_spaces.specs.declared.fault.Fault.{Fault}
use Rattle.nob_demo.proofs.Known.{keeps_same, kept_then_appends}
use Rattle.nob_demo.proofs.Endings.{refused_goes, unread_goes, stopped_goes}
use Rattle.nob_demo.proofs.run.run.Goals as goal

pub returns-in-Ok : goal.returns-in-Ok
returns-in-Ok g c = let e = c.in-Ok.ensures.ended in record { goes = Goes.played e (keeps_same _, c.requires.err) }

pub returns-in-Err-Words : goal.returns-in-Err-Words
returns-in-Err-Words g c =
    let a : Attempt = record {
      taken = takes_words (word_faults (map g.S.AsStr.text c.args.words.now));
      subcommand = subcommand_in (map g.S.AsStr.text c.args.words.now);
      reading = record {
        input = g.R.Read.remaining c.args.reader.now.reader;
        rest = g.R.Read.remaining c.attempt.new.reader.reader;
        reads = c.attempt.new.reader.reads;
        bytes = c.attempt.new.reader.bytes;
        failed = c.attempt.new.reader.failed;
        ended = c.attempt.new.reader.ended;
      };
      out_before = g.W.Write.contents c.args.out.now.writer;
      out_after = g.W.Write.contents c.attempt.new.out.writer;
      out_failed = c.attempt.new.out.failed;
    } in
    let e = subst (λ (f : Fault). Ended (Err f) a) c.in-Err-Words.field-0-is c.in-Err-Words.ensures.ended in
    record { goes = refused_goes _ c.as_bytes.result.now e.0 e.1 c.said.ensures.written c.said.ensures.failed }

pub returns-in-Err-Read : goal.returns-in-Err-Read
returns-in-Err-Read g c =
    let a : Attempt = record {
      taken = takes_words (word_faults (map g.S.AsStr.text c.args.words.now));
      subcommand = subcommand_in (map g.S.AsStr.text c.args.words.now);
      reading = record {
        input = g.R.Read.remaining c.args.reader.now.reader;
        rest = g.R.Read.remaining c.attempt.new.reader.reader;
        reads = c.attempt.new.reader.reads;
        bytes = c.attempt.new.reader.bytes;
        failed = c.attempt.new.reader.failed;
        ended = c.attempt.new.reader.ended;
      };
      out_before = g.W.Write.contents c.args.out.now.writer;
      out_after = g.W.Write.contents c.attempt.new.out.writer;
      out_failed = c.attempt.new.out.failed;
    } in
    let e = subst (λ (f : Fault). Ended (Err f) a) c.in-Err-Read.field-0-is c.in-Err-Read.ensures.ended in
    record { goes = unread_goes _ e.0 e.1 c.said-in-Err-Read.ensures.written c.said-in-Err-Read.ensures.failed }

pub returns-in-Err-Memory : goal.returns-in-Err-Memory
returns-in-Err-Memory g c =
    let a : Attempt = record {
      taken = takes_words (word_faults (map g.S.AsStr.text c.args.words.now));
      subcommand = subcommand_in (map g.S.AsStr.text c.args.words.now);
      reading = record {
        input = g.R.Read.remaining c.args.reader.now.reader;
        rest = g.R.Read.remaining c.attempt.new.reader.reader;
        reads = c.attempt.new.reader.reads;
        bytes = c.attempt.new.reader.bytes;
        failed = c.attempt.new.reader.failed;
        ended = c.attempt.new.reader.ended;
      };
      out_before = g.W.Write.contents c.args.out.now.writer;
      out_after = g.W.Write.contents c.attempt.new.out.writer;
      out_failed = c.attempt.new.out.failed;
    } in
    let e = subst (λ (f : Fault). Ended (Err f) a) c.in-Err-Memory.field-0-is c.in-Err-Memory.ensures.ended in
    let written = c.said-in-Err-Memory.ensures.written in
    record { goes = stopped_goes _ e.0 (keeps_same _, c.requires.err) (λ none. (kept_then_appends _ _ _ _ e.1.0 (written none).0, (written none).1)) c.said-in-Err-Memory.ensures.failed }
