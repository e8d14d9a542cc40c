use Rattle.std.proofs.Common.{ℕ, List, ◌++◌, subst, sym}
use Rattle.nob_demo_spaces.specs.declared.command_line.Subcommand.{Subcommand}
use Rattle.nob_demo.specs.Checks as checks
use Rattle.nob_demo.specs.Draws as drawings
use Rattle.nob_demo.specs.declared.drawing.Part.{Part}
use Rattle.nob_demo.specs.Program.{Does, part_of}
use Rattle.nob_demo.proofs.run.play.Goals as goal

pub returns-in-Check : goal.returns-in-Check
returns-in-Check g c =
    let ending = c.play-ending-in-Check.result in
    let before = c.play-ending-in-Check.new.text.items in
    let said = subst (λ (last : List ℕ). checks.Checks c.args.input.now (before ++ last) ending) (sym c.last_line-in-Check.ensures) c.play-ending-in-Check.ensures in
    subst (λ (subcommand : Subcommand). Does subcommand c.args.input.now (before ++ c.last_line-in-Check.result.now) c.check_status_of.result) (sym c.in-Check.is)
    (ending, said, c.check_status_of.ensures)

pub returns-in-Draw : goal.returns-in-Draw
returns-in-Draw g c =
    let ending = c.play-ending-in-Draw.result in
    let before = c.play-ending-in-Draw.new.text.items in
    let drawn = subst (λ (part : Part). drawings.Draws c.args.input.now part (before ++ drawings.last_line ending) ending) c.part_of.ensures c.play-ending-in-Draw.ensures in
    let said = subst (λ (last : List ℕ). drawings.Draws c.args.input.now (part_of c.in-Draw.excerpt) (before ++ last) ending) (sym c.last_line-in-Draw.ensures) drawn in
    subst (λ (subcommand : Subcommand). Does subcommand c.args.input.now (before ++ c.last_line-in-Draw.result.now) c.draw_status_of.result) (sym c.in-Draw.is)
    (ending, said, c.draw_status_of.ensures)
