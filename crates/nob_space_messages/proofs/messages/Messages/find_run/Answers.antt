use Rattle.std.proofs.Common.{◌≡◌, Some, filter, ap, sym, refl, ◌∙◌}
use Rattle.std.specs.Option.{option_copied, option_map, option_to_list}
use Rattle.nob_model_work.specs.Work.{is_run}
use Rattle.nob_slots.specs.Slots.{item_at}
use Rattle.nob_queues.specs.Queues.{rows_at}
use Rattle.nob_space_messages.specs.Rows.{newest_first}
use Rattle.nob_space_messages.proofs.Newest.{alone, as_run, first_of, lent_cases}
use Rattle.nob_space_messages.proofs.messages.Messages.find_run.Goals as goal

pub returns-in_default-clause-found : goal.returns-in_default-clause-found
returns-in_default-clause-found c =
    let rows = rows_at c.self.inside.queues 2 in
    let none = alone c.args.job rows c.len-count.ensures.rising ∙ ap (λ o. option_to_list (option_map (as_run c.args.job) o)) (ap (item_at rows) (sym c.get.ensures) ∙ sym c.get-2.ensures ∙ ap option_copied c.in_default.is) in
    rw (← c.self.view_is) (sym (first_of c.args.job (newest_first rows) _ none))

pub returns-in_default-clause-alone : goal.returns-in_default-clause-alone
returns-in_default-clause-alone c =
    let rows = rows_at c.self.inside.queues 2 in
    rw (← c.self.view_is) (alone c.args.job rows c.len-count.ensures.rising ∙ ap (λ o. option_to_list (option_map (as_run c.args.job) o)) (ap (item_at rows) (sym c.get.ensures) ∙ sym c.get-2.ensures ∙ ap option_copied c.in_default.is))

pub returns-clause-found : goal.returns-clause-found
returns-clause-found c =
    let rows = rows_at c.self.inside.queues 2 in
    let one = alone c.args.job rows c.len-count.ensures.rising ∙ ap (λ o. option_to_list (option_map (as_run c.args.job) o)) (ap (item_at rows) (sym c.get.ensures) ∙ sym c.get-2.ensures ∙ ap option_copied c.in-Some.is) in
    rw (← c.self.view_is) (sym (first_of c.args.job (newest_first rows) _ one))

pub returns-clause-alone : goal.returns-clause-alone
returns-clause-alone c =
    let rows = rows_at c.self.inside.queues 2 in
    rw (← c.self.view_is) (alone c.args.job rows c.len-count.ensures.rising ∙ ap (λ o. option_to_list (option_map (as_run c.args.job) o)) (ap (item_at rows) (sym c.get.ensures) ∙ sym c.get-2.ensures ∙ ap option_copied c.in-Some.is))
