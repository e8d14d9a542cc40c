use Rattle.std.proofs.Common.{◌∙◌, ap, filter, rules}
use Rattle.std.proofs.lemmas.Fn.{filter_same}
use Rattle.nob_ids.specs.Names.{is_counted}
use Rattle.nob_model_acting.proofs.sending.counted.Goals as goal

pub returns : goal.returns
returns c = filter_same _ is_counted _ (λ x b f call. search rules) _ _ c.retain.ensures.filtered ∙ ap (λ reps. filter is_counted reps) (c.in_ok-reps.ensures {u = tt})
