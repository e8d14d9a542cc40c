use Rattle.std.proofs.Common.{◌≡◌, true, [], map, refl, sym, ap, ap₂, subst, ◌∙◌}
use Rattle.clap.specs.Words.{App, fault_of, is_simple, is_simple_and_free, subcommand_of}
use Rattle.clap.specs.Kinds.{HasKind}
use Rattle.clap.proofs.FaultLemmas.{failed_up}
use Rattle.nob_keeper.specs.Keep.{Keep}
use Rattle.nob_demo_spaces.specs.Options.{AreWithin}
use Rattle.nob_demo_spaces.specs.Words.{keep_in, nobj, subcommand_by, takes_words}
use Rattle.nob_demo_spaces.proofs.Commands.{simple, simple_and_free}
use Rattle.nob_demo_spaces.proofs.Within.{taken_are_within}
use Rattle.nob_demo_spaces.proofs.command_line.matched.Goals as goal

pub returns : goal.returns
returns g c =
    let words = map g.S.AsStr.text c.args.words.now in
    let keep_is = c.keep_in-keep.ensures in
    let is = c.in_ok-command.ensures ∙ ap nobj keep_is in
    let found = (c.in_ok-matches.ensures.matches (subst (λ (a : App). is_simple a ≡ true) (sym is) (simple (keep_in words)))).1 in
    record {
      kinds = subst (λ (a : App). fault_of a words ≡ []) is (c.in_ok-matches.ensures.kinds (subst (λ (a : App). is_simple_and_free a ≡ true) (sym is) (simple_and_free (keep_in words))));
      subcommand = c.met_in.ensures ∙ ap₂ subcommand_by keep_is (found ∙ ap (λ (a : App). subcommand_of a words) is);
    }

pub returns-in_err-matches-clause-kinds : goal.returns-in_err-matches-clause-kinds
returns-in_err-matches-clause-kinds g c =
    let words = map g.S.AsStr.text c.args.words.now in
    let is = c.in_ok-command.ensures ∙ ap nobj c.keep_in-keep.ensures in
    let kinds = c.in_err-matches.ensures.kinds (subst (λ (a : App). is_simple_and_free a ≡ true) (sym is) (simple_and_free (keep_in words))) in
    failed_up c.from_residual-in_err-matches.result c.in_err-matches.field-0.0 _ _ c.from_residual-in_err-matches.ensures.1 (subst (λ (a : App). HasKind (fault_of a words) c.in_err-matches.field-0.0) is kinds)

pub met_in-requires : goal.met_in-requires
met_in-requires g c =
    let words = map g.S.AsStr.text c.args.words.now in
    let keep_is = c.keep_in-keep.ensures in
    let is = c.in_ok-command.ensures ∙ ap nobj keep_is in
    let found = (c.in_ok-matches.ensures.matches (subst (λ (a : App). is_simple a ≡ true) (sym is) (simple (keep_in words)))).1 ∙ ap (λ (a : App). subcommand_of a words) is in
    let none = subst (λ (a : App). fault_of a words ≡ []) is (c.in_ok-matches.ensures.kinds (subst (λ (a : App). is_simple_and_free a ≡ true) (sym is) (simple_and_free (keep_in words)))) in
    λ name rows e. subst (λ (keep : Keep). AreWithin keep name rows) (sym keep_is) (taken_are_within words name rows (ap takes_words none) (sym found ∙ e))
