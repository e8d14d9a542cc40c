-- The second part of the bridge: each job that runs ends, and its reply goes to nobody.
use Rattle.std.proofs.Common.{◌≡◌, ℕ, zero, suc, ◌≤◌, not, Bool, true, false, cond, List, [], ◌∷◌, length, map, filter, find, Option, Some, Result, Ok, refl, sym, ap, subst, ◌∙◌, arith}
use Rattle.std.specs.Prelude.{◌==◌}
use Rattle.std.specs.List.{AllByRecursion}
use Rattle.std.proofs.lemmas.Bool.{eq-eqb, or_left}
use Rattle.nob_ids.specs.declared.limits.Limits.{Limits}
use Rattle.nob_model_types.specs.declared.event.Event.TheVariants as events
use Rattle.nob_model_types.specs.declared.event.Outcome.TheVariants as outcomes
use Rattle.nob_model_types.specs.declared.answer.Answer.{Answer}
use Rattle.nob_model_types.specs.declared.answer.Answer.TheVariants as answers
use Rattle.nob_model_types.specs.declared.refusal.Refusal.{Refusal}
use Rattle.nob_model_types.specs.declared.deed.Deed.{Deed}
use Rattle.nob_model_types.specs.declared.deed.Deed.TheVariants as did
use Rattle.nob_model_types.specs.Deeds.{deed_by}
use Rattle.nob_model_types.specs.Sessions.{is_peer, closed, number}
use Rattle.nob_model_work.specs.declared.work.Run.{Run}
use Rattle.nob_model_work.specs.Work.{is_run, work, work_after, with_loans, run_after, after_finish}
use Rattle.nob_model_history.specs.declared.history.History.{History}
use Rattle.nob_model_history.specs.Histories.{history_of}
use Rattle.nob_model.specs.Right.{right_after, right_finish, finish_of, has_ended}
use Rattle.nob_model.specs.Lists.{IsRightDeed}
use Rattle.nob_model_lives.proofs.Leads.{Leads, stays, leads_by, leads_on}
use Rattle.nob_model_lives.proofs.Peers.{all_from_peers}
use Rattle.nob_model_lives.proofs.Shown.{Shown, drop_shows}
use Rattle.nob_model_lives.proofs.Closes.{Rests}

-- a list that is mapped is as long
pub map_length : {X Y : Type 0} (f : X → Y) (xs : List X) → length (map f xs) ≡ length xs
map_length f [] = refl
map_length f (x ∷ xs) = let rest = map_length f xs in omega (arith, rest)

-- what is left of a list is no longer
pub filter_length : {X : Type 0} (test : X → Bool) (xs : List X) → length (filter test xs) ≤ length xs
filter_length test [] = omega arith
filter_length test (x ∷ xs) = let rest = filter_length test xs in elim (test x) as (λ (b : Bool). length (cond b (x ∷ filter test xs) (filter test xs)) ≤ length (x ∷ xs)) [ true ↦ omega (arith, rest) | false ↦ omega (arith, rest) ]

-- without its first element, which doesn't pass, it is shorter
pub filter_first : {X : Type 0} (test : X → Bool) (x : X) (xs : List X) → test x ≡ false → length (filter test (x ∷ xs)) ≤ length xs
filter_first test x xs not = ap_le (ap (λ (b : Bool). length (cond b (x ∷ filter test xs) (filter test xs))) not) (filter_length test xs)
  where
    ap_le : {a b c : ℕ} → a ≡ b → b ≤ c → a ≤ c
    ap_le same low = omega (arith, same, low)

-- the first element is found where it passes
pub found_first : {X : Type 0} (test : X → Bool) (x : X) (xs : List X) → test x ≡ true → find test (x ∷ xs) ≡ Some x
found_first test x xs passes = ap (λ (b : Bool). cond b (Some x) (find test xs)) passes

dropped_if : (job : ℕ) (ended : Bool) (rest : Result Answer Refusal) → ended ≡ true → deed_by (events.Finish job outcomes.NoMethod) (cond ended (Ok answers.Dropped) rest) ≡ Some (did.DropReply job)
dropped_if job true rest is = refl
dropped_if job false rest is = cc

dropped_by : (s job : ℕ) (run : Run) (found : Option Run) (h : History) → found ≡ Some run → has_ended run.message h ≡ true → deed_by (events.Finish job outcomes.NoMethod) (finish_of s outcomes.NoMethod found h) ≡ Some (did.DropReply job)
unfolding finish_of
dropped_by s job run found h is ended = subst (λ (one : Option Run). deed_by (events.Finish job outcomes.NoMethod) (finish_of s outcomes.NoMethod one h) ≡ Some (did.DropReply job)) (sym is) (dropped_if job (has_ended run.message h) _ ended)

-- a job that runs ends, and its reply is dropped, where the session of its Call has closed
pub drop_right : (s n : ℕ) (limits : Limits) (run : Run) (D : List Deed) → find (is_run run.job) (work s n D).running ≡ Some run → closed run.message.from D ≡ true → IsRightDeed s n limits (did.DropReply run.job) D
unfolding right_after right_finish
drop_right s n limits run D found shut = (events.Finish run.job outcomes.NoMethod, dropped_by s run.job run (find (is_run run.job) (work s n D).running) (history_of s n D) found (or_left (closed run.message.from D) (not (run.message.session == number run.message.from D)) shut))

module _ (s n : ℕ) (limits : Limits) (x : Shown) where
  -- no job runs either
  abbrev pub Idles : List Deed → Type 0
  Idles D = Rests s n limits x D × ((work s n D).running ≡ [])

  -- so many jobs run at most
  abbrev RunsFew : ℕ → List Deed → Type 0
  RunsFew m D = Rests s n limits x D × (length (work s n D).running ≤ m)

  left_running : (job : ℕ) (D : List Deed) → length (work s n (did.DropReply job ∷ D)).running ≡ length (filter (λ run. not (is_run job run)) (work s n D).running)
  unfolding work_after after_finish with_loans
  left_running job D = map_length (λ run. run_after s n (did.DropReply job ∷ D) run) (filter (λ run. not (is_run job run)) (work s n D).running)

  drop_first : (m : ℕ) (D : List Deed) (run : Run) (runs : List Run) → Rests s n limits x D → (work s n D).running ≡ run ∷ runs → length runs ≤ m → RunsFew m (did.DropReply run.job ∷ D)
  drop_first m D run runs its e low =
      let peers : AllByRecursion (λ (r : Run). is_peer s n r.message.from ≡ true) (run ∷ runs) = subst (AllByRecursion (λ (r : Run). is_peer s n r.message.from ≡ true)) e (all_from_peers s n limits D its.right).running in
      let found : find (is_run run.job) (work s n D).running ≡ Some run = ap (find (is_run run.job)) e ∙ found_first (is_run run.job) run runs (eq-eqb run.job run.job refl) in
      let fewer : length (filter (λ r. not (is_run run.job r)) (run ∷ runs)) ≤ length runs = filter_first (λ r. not (is_run run.job r)) run runs (ap not (eq-eqb run.job run.job refl)) in
      let left : length (work s n (did.DropReply run.job ∷ D)).running ≡ length (filter (λ r. not (is_run run.job r)) (run ∷ runs)) = left_running run.job D ∙ ap (λ (rs : List Run). length (filter (λ r. not (is_run run.job r)) rs)) e in
      (record { right = (drop_right s n limits run D found (its.shut run.message.from peers.0), its.right); shows = drop_shows s n run.job D ∙ its.shows; shut = its.shut }, omega (arith, fewer, left, low))

  finish_by : (m : ℕ) (D : List Deed) (runs : List Run) → Rests s n limits x D → (work s n D).running ≡ runs → length runs ≤ m → Leads Idles D
  finish_by m D [] its e low = stays Idles D (its, e)
  finish_by zero D (run ∷ runs) its e low = absurd (omega (arith, low))
  finish_by (suc m) D (run ∷ runs) its e low =
      leads_on (RunsFew m) Idles D (leads_by (RunsFew m) (did.DropReply run.job) D refl (drop_first m D run runs its e (omega (arith, low))))
      (λ E more. finish_by m E (work s n E).running more.0 refl more.1)

  -- each job that runs ends
  pub finish_all : (D : List Deed) → Rests s n limits x D → Leads Idles D
  finish_all D its = finish_by (length (work s n D).running) D (work s n D).running its refl (omega arith)
