use Rattle.std.proofs.Common.{◌≡◌, Some, refl, sym, ap, ◌∙◌}
use Rattle.std.specs.Option.{option_copied, option_map}
use Rattle.nob_slots.specs.Slots.{item_at}
use Rattle.nob_space_messages.specs.declared.links.Link.{Link}
use Rattle.nob_space_messages.specs.InLine.{before_of, behind_of}
use Rattle.nob_queues.proofs.Found.{set_by, set_same}
use Rattle.nob_space_messages.proofs.links.set_behind.Goals as goal

-- the link that was
found : (c : goal.After-set-old) → item_at c.args.links.now.rows c.in-Some.stamp ≡ Some c.in-Some-get.link.now
found c = sym c.get.ensures ∙ ap option_copied c.in-Some-get.is

pub returns-clause-targets : goal.returns-clause-targets
returns-clause-targets c other = rw c.set-old.ensures.rows (set_same (option_map (λ (l : Link). l.target)) c.in-Some.stamp c.args.links.now.rows c.in-Some-get.link.now _ other (found c) refl)

pub returns-clause-before : goal.returns-clause-before
returns-clause-before c other = rw c.set-old.ensures.rows (set_same before_of c.in-Some.stamp c.args.links.now.rows c.in-Some-get.link.now _ other (found c) refl)

pub returns-clause-behind : goal.returns-clause-behind
returns-clause-behind c other = rw (c.set-old.ensures.rows, c.in-Some.is) (set_by behind_of c.in-Some.stamp c.args.links.now.rows c.in-Some-get.link.now _ other (found c))
