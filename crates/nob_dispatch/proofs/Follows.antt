-- What is done, and what is missed, once something is.
use Rattle.std.proofs.Common.{◌≡◌, ℕ, Bool, true, false, List, [], ◌∷◌, ◌++◌, reverse, Option, Some, None, IfSome, refl, sym, subst, ap, ◌∙◌}
use Rattle.std.proofs.lemmas.List.{reverse-append}
use Rattle.nob_model_types.specs.declared.answer.Job.{Job}
use Rattle.nob_dispatch.specs.declared.errand.Errand.{Errand}
use Rattle.nob_dispatch.specs.declared.errand.Return.{Return}
use Rattle.nob_dispatch.specs.KeeperError.{KeeperError}
use Rattle.nob_dispatch.specs.Faults.{is_memory}
use Rattle.nob_dispatch.specs.Ends.{ended, number_in, target_in}
use Rattle.nob_dispatch.specs.Working.{Working, with_errand, freed, got}
use Rattle.nob_dispatch.specs.Serving.{Serving, Follows, IsTied, Runs, gives_up, numbers, place, place_in, places, returned}

-- the next one is missed, and from then on some are
pub missed : {X : Type 0} (misses : Bool) (next : Option X) (all done : List X) → Follows misses next all done → Follows true None all done
missed false None all done follows = ([], follows)
missed false (Some number) all done follows = (number ∷ [], follows)
missed true None all done follows = follows
missed true (Some number) all done follows = (number ∷ follows.0, follows.1)

-- one more is the next
pub follows_more : {X : Type 0} (misses : Bool) (next : X) (all done : List X) → Follows misses None all done → Follows misses (Some next) (next ∷ all) done
follows_more false next all done follows = ap (λ (xs : List _). next ∷ xs) follows
follows_more true next all done follows = (follows.0, ap (λ (xs : List _). next ∷ xs) follows.1)

-- a job's number and its object's index are those that its object comes back with
pub same_place : (running : Option Job) (job index : ℕ) → number_in running ≡ Some job → target_in running ≡ Some index → place_in running ≡ Some (job, index)
same_place None job index number target = absurd cc
same_place (Some running) job index number target = cc

module _ {O : Type 0} where
  -- an object was given back
  pub sent : (heard heard' : Bool) (all : List (ℕ × ℕ)) (given given' : List (Return O)) (back : Return O) → heard ≡ false → heard' ≡ heard → given' ≡ given ++ back ∷ [] → Follows heard (Some (back.job, back.index)) all (returned (reverse given)) → Follows heard' None all (returned (reverse given'))
  sent heard heard' all given given' back none same more follows =
      let was = subst (λ (b : Bool). Follows b (Some (back.job, back.index)) all (returned (reverse given))) none follows in
      let now : Follows false None all (returned (reverse given')) = subst (λ (xs : List (Return O)). all ≡ returned xs) (sym (ap reverse more ∙ reverse-append given (back ∷ []))) was in
      subst (λ (b : Bool). Follows b None all (returned (reverse given'))) (sym (same ∙ none)) now

  -- nobody gets an object any more
  pub lost : (heard heard' : Bool) (next : Option (ℕ × ℕ)) (all : List (ℕ × ℕ)) (given given' : List (Return O)) → heard' ≡ true → given' ≡ given → Follows heard next all (returned (reverse given)) → Follows heard' None all (returned (reverse given'))
  lost heard heard' next all given given' is same follows =
      let now = subst (λ (xs : List (Return O)). Follows true None all (returned (reverse xs))) (sym same) (missed heard next all (returned (reverse given)) follows) in
      subst (λ (b : Bool). Follows b None all (returned (reverse given'))) (sym is) now

  -- an errand more is got
  pub gets_tied : (old : Serving O) (errand : Errand O) (taken : List (Errand O)) (worker : Working O) → taken ≡ old.taken ++ errand ∷ [] → worker ≡ with_errand errand old.worker → old.worker.job ≡ None → old.worker.running ≡ None → IsTied old → IsTied (record { taken = taken; given = old.given; worker = worker; fault = old.fault; is_alone = old.is_alone; stakes = old.stakes })
  gets_tied old errand taken worker more keeps free idle tied =
      let push : reverse taken ≡ errand ∷ reverse old.taken = ap reverse more ∙ reverse-append old.taken (errand ∷ []) in
      let was = subst (λ (job : Option ℕ). Follows (gives_up old.fault) job (numbers (reverse old.taken)) (ended old.worker.receipts)) free tied.0 in
      let jobs = follows_more (gives_up old.fault) errand.job.job (numbers (reverse old.taken)) (ended old.worker.receipts) was in
      let had = subst (λ (running : Option Job). Follows old.is_alone (place_in running) (places (reverse old.taken)) (returned (reverse old.given))) idle tied.1 in
      let objects = follows_more old.is_alone (place errand.job) (places (reverse old.taken)) (returned (reverse old.given)) had in
      subst (λ (x : List (Errand O) × Working O). Follows (gives_up old.fault) x.1.job (numbers x.0) (ended x.1.receipts) × Follows old.is_alone (place_in x.1.running) (places x.0) (returned (reverse old.given)) × Runs x.1.running x.0 × IfSome old.fault (λ error. is_memory error ≡ false))
      (λ i. (sym push i, sym keeps i)) (jobs, objects, refl, tied.3)

  -- a job is given up
  pub frees_tied : (old : Serving O) (error : KeeperError) (worker : Working O) (given : List (Return O)) (is_alone : Bool) → worker ≡ freed old.worker → is_memory error ≡ false → Follows is_alone None (places (reverse old.taken)) (returned (reverse given)) → IsTied old → IsTied (record { taken = old.taken; given = given; worker = worker; fault = Some error; is_alone = is_alone; stakes = old.stakes })
  frees_tied old error worker given is_alone is_freed other objects tied =
      subst (λ (w : Working O). Follows true w.job (numbers (reverse old.taken)) (ended w.receipts) × Follows is_alone (place_in w.running) (places (reverse old.taken)) (returned (reverse given)) × Runs w.running (reverse old.taken) × (is_memory error ≡ false))
      (sym is_freed) (missed (gives_up old.fault) old.worker.job (numbers (reverse old.taken)) (ended old.worker.receipts) tied.0, objects, tt, other)

  -- a turn of the worker by which no object comes back
  pub turns_tied : (old : Serving O) (worker : Working O) → old.fault ≡ None → got worker ≡ got old.worker → worker.running ≡ old.worker.running → IsTied old → IsTied (record { taken = old.taken; given = old.given; worker = worker; fault = old.fault; is_alone = old.is_alone; stakes = old.stakes })
  turns_tied old worker none same running tied =
      let was : numbers (reverse old.taken) ≡ got old.worker = subst (λ (fault : Option KeeperError). Follows (gives_up fault) old.worker.job (numbers (reverse old.taken)) (ended old.worker.receipts)) none tied.0 in
      let jobs = subst (λ (fault : Option KeeperError). Follows (gives_up fault) worker.job (numbers (reverse old.taken)) (ended worker.receipts)) (sym none) (was ∙ sym same) in
      (jobs, subst (λ (r : Option Job). Follows old.is_alone (place_in r) (places (reverse old.taken)) (returned (reverse old.given))) (sym running) tied.1, subst (λ (r : Option Job). Runs r (reverse old.taken)) (sym running) tied.2, tied.3)

  -- a turn of the worker by which its object comes back
  pub returns_tied : (old : Serving O) (worker : Working O) (given : List (Return O)) (is_alone : Bool) → old.fault ≡ None → got worker ≡ got old.worker → worker.running ≡ None → Follows is_alone None (places (reverse old.taken)) (returned (reverse given)) → IsTied old → IsTied (record { taken = old.taken; given = given; worker = worker; fault = old.fault; is_alone = is_alone; stakes = old.stakes })
  returns_tied old worker given is_alone none same idle objects tied =
      let was : numbers (reverse old.taken) ≡ got old.worker = subst (λ (fault : Option KeeperError). Follows (gives_up fault) old.worker.job (numbers (reverse old.taken)) (ended old.worker.receipts)) none tied.0 in
      let jobs = subst (λ (fault : Option KeeperError). Follows (gives_up fault) worker.job (numbers (reverse old.taken)) (ended worker.receipts)) (sym none) (was ∙ sym same) in
      (jobs, subst (λ (r : Option Job). Follows is_alone (place_in r) (places (reverse old.taken)) (returned (reverse given))) (sym idle) objects, subst (λ (r : Option Job). Runs r (reverse old.taken)) (sym idle) tt, tied.3)
