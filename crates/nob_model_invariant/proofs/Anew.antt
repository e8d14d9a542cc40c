-- Nothing was sent in a session that a deed opens.
use Rattle.std.proofs.Common.{◌≡◌, ℕ, List, [], ◌∷◌, ◌∙◌, arith}
use Rattle.std.specs.Prelude.{◌<◌}
use Rattle.std.proofs.lemmas.Bool.{ne_eqb}
use Rattle.nob_ids.specs.declared.limits.Limits.{Limits}
use Rattle.nob_model_types.specs.declared.deed.Deed.{Deed}
use Rattle.nob_model_types.specs.Sessions.{number}
use Rattle.nob_model_history.specs.Histories.{history_of}
use Rattle.nob_model_history.specs.Transit.{sent}
use Rattle.nob_model_history.proofs.Numbered.{items_sent_in}
use Rattle.nob_model.specs.Lists.{AreRightDeeds}
use Rattle.nob_model_invariant.proofs.BySession.{sent_in_same}
use Rattle.nob_model_invariant.proofs.EachSession.{none_sent_above}

-- nothing was sent in a session that is above the one in which a space was
pub none_sent_new : (s n p : ℕ) (limits : Limits) (deed : Deed) (D : List Deed) → AreRightDeeds s n limits (deed ∷ D) → number p D < number p (deed ∷ D) → items_sent_in p (number p (deed ∷ D)) (sent (history_of s n (deed ∷ D))) ≡ []
none_sent_new s n p limits deed D right above =
    sent_in_same s n p (number p (deed ∷ D)) deed D (ne_eqb (number p D) (number p (deed ∷ D)) (λ same. omega (arith, above, same)))
    ∙ none_sent_above s n p (number p (deed ∷ D)) limits D right.1 above
