use Rattle.std.proofs.Common.{◌≡◌}
use Rattle.nob_trace.specs.declared.stamped.Stamped.{Stamped}
use Rattle.test_definitions.specs.Journals.{stamped_of}
use Rattle.test_definitions.proofs.Entering.{traced, is_unread}
use Rattle.test_definitions.proofs.entries.spelt_entry.Goals as goal

pub returns-in-Ok-clause-only : goal.returns-in-Ok-clause-only
returns-in-Ok-clause-only c = λ entry is spelt. c.at_space.ensures.only entry is.0 (c.in-Ok.ensures.only (stamped_of entry) (traced c.args.version entry is) spelt)

pub returns-in-Err-NoText-clause-only : goal.returns-in-Err-NoText-clause-only
returns-in-Err-NoText-clause-only c =
    λ entry is spelt. absurd (is_unread {X = Stamped} (λ e. e ≡ stamped_of entry) c.in-Err-NoText.field-0 c.in-Err-NoText.field-0-is (c.in-Err-NoText.ensures.only (stamped_of entry) (traced c.args.version entry is) spelt))
