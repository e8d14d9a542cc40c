-- An errand that a dispatcher handed on is given, or kept.
use Rattle.std.proofs.Common.{◌≡◌, ℕ, ◌+◌, ◌≤◌, List, [], ◌∷◌, ◌++◌, length, Option, Some, None, inl, refl, sym, subst, ap, ◌∙◌, arith, reverse}
use Rattle.std.specs.Prelude.{Ok}
use Rattle.std.proofs.lemmas.List.{reverse-append}
use Rattle.nob_model_types.specs.declared.answer.Job.{Job}
use Rattle.nob_dispatch.specs.declared.dispatcher.Handing.{Handing}
use Rattle.nob_dispatch.specs.declared.dispatcher.Handing.TheVariants as handings
use Rattle.nob_dispatch.specs.declared.errand.Errand.{Errand}
use Rattle.nob_dispatch.specs.declared.shelf.Place.{Place}
use Rattle.nob_dispatch.specs.declared.shelf.Place.TheVariants.{Here, Away}
use Rattle.nob_dispatch.specs.Ends.{with_job}
use Rattle.nob_dispatch.specs.Dispatching.{Dispatching, IsTied, HandsOver, with_handed}
use Rattle.nob_dispatch.specs.Shelves.{place_of, with_place}
use Rattle.nob_dispatch.specs.Assigning.{Assigning, GivesNone, GoesOn, jobs}

module _ {O : Type 0} where
  length_push : (errands : List (Errand O)) (errand : Errand O) → length (errands ++ errand ∷ []) ≡ length errands + 1
  length_push [] errand = refl
  length_push (first ∷ rest) errand = omega (arith, length_push rest errand)

  jobs_push : (given given' : List (Errand O)) (errand : Errand O) → given' ≡ given ++ errand ∷ [] → jobs (reverse given') ≡ errand.job ∷ jobs (reverse given)
  jobs_push given given' errand is = ap (λ (xs : List (Errand O)). jobs (reverse xs)) is ∙ ap jobs (reverse-append given (errand ∷ []))

  -- it is handed on with its object
  pub handed_over : (handing : Handing O) (errand : Errand O) (old new : List (ℕ × Place O)) → handing ≡ handings.Errand errand → HandsOver (Ok handing) old new → (place_of errand.job.target old ≡ Some (Here errand.object)) × (new ≡ with_place errand.job.target Away old)
  handed_over handing errand old new is hands = subst (λ (h : Handing O). HandsOver (Ok h) old new) is hands

  -- it is given
  pub given_more : (d : Dispatching O) (handing : Handing O) (errand : Errand O) (unsent : Option Job) (given given' : List (Errand O)) → handing ≡ handings.Errand errand → unsent ≡ None → IsTied (with_handed (Ok handing) (with_job unsent (jobs (reverse given)))) d → given' ≡ given ++ errand ∷ [] → IsTied (with_job unsent (jobs (reverse given'))) d
  given_more d handing errand unsent given given' is none tied more =
      let tied_now = subst (λ (h : Handing O). IsTied (with_handed (Ok h) (with_job unsent (jobs (reverse given)))) d) is tied in
      let tied_none = subst (λ (u : Option Job). IsTied (errand.job ∷ with_job u (jobs (reverse given))) d) none tied_now in
      subst (λ (u : Option Job). IsTied (with_job u (jobs (reverse given'))) d) (sym none) (subst (λ (js : List Job). IsTied js d) (sym (jobs_push given given' errand more)) tied_none)

  -- it is kept
  pub given_none : (d : Dispatching O) (handing : Handing O) (errand : Errand O) (unsent unsent' : Option Job) (given given' : List (Errand O)) → handing ≡ handings.Errand errand → unsent ≡ None → unsent' ≡ Some errand.job → given' ≡ given → IsTied (with_handed (Ok handing) (with_job unsent (jobs (reverse given)))) d → IsTied (with_job unsent' (jobs (reverse given'))) d
  given_none d handing errand unsent unsent' given given' is none kept same tied =
      let tied_now = subst (λ (h : Handing O). IsTied (with_handed (Ok h) (with_job unsent (jobs (reverse given)))) d) is tied in
      let tied_none = subst (λ (u : Option Job). IsTied (errand.job ∷ with_job u (jobs (reverse given))) d) none tied_now in
      let tied_kept : IsTied (with_job unsent' (jobs (reverse given))) d = subst (λ (u : Option Job). IsTied (with_job u (jobs (reverse given))) d) (sym kept) tied_none in
      subst (λ (xs : List (Errand O)). IsTied (with_job unsent' (jobs (reverse xs))) d) (sym same) tied_kept

  -- what was given and isn't back is still counted as away
  pub counted : (given given' : List (Errand O)) (errand : Errand O) (away back : ℕ) → given' ≡ given ++ errand ∷ [] → length given ≤ away + back → length given' ≤ away + 1 + back
  counted given given' errand away back more few = omega (arith, few, ap length more, length_push given errand)

  -- nothing is handed on
  pub same_handed : (d : Dispatching O) (handing other : Handing O) (handed : List Job) → handing ≡ other → IsTied (with_handed (Ok handing) handed) d → IsTied (with_handed (Ok other) handed) d
  same_handed d handing other handed is tied = subst (λ (h : Handing O). IsTied (with_handed (Ok h) handed) d) is tied

  -- a desk whose dispatcher does nothing gives none, and goes on so
  pub rests : (desk : Assigning O) → GivesNone desk desk × GoesOn desk desk
  rests desk = ((refl, refl), (Ok handings.Idle, desk.dispatcher, inl refl, (refl, refl, refl, refl), refl))
