-- Jobs that are moved from one list to another.
use Rattle.std.proofs.Common.{◌≡◌, ◌≤◌, ℕ, ◌+◌, ◌<◌, List, [], ◌∷◌, ◌++◌, length, take, drop, Option, Some, refl, subst, sym, ap, ◌∙◌, arith}
use Rattle.std.specs.Prelude.{None, slice_index_or}
use Rattle.std.specs.List.{remove}
use Prim.Native.Nat.{zero, suc}
use Rattle.nob_model_types.specs.declared.answer.Job.{Job}
use Rattle.nob_dispatch_lanes.specs.Balance.{times, weigh}
use Rattle.nob_dispatch.specs.Dispatching.{IsWithout}
use Rattle.nob_dispatch.specs.Ends.{numbers, with_job}

weigh_remove : (h : Job → ℕ) (i : ℕ) (jobs : List Job) (d : Job) → i < length jobs → weigh h jobs ≡ weigh h (slice_index_or jobs i d ∷ remove jobs i)
weigh_remove h i [] d low = omega (arith, low)
weigh_remove h zero (job ∷ jobs) d low = refl
weigh_remove h (suc i) (job ∷ jobs) d low = let ih = weigh_remove h i jobs d (omega (arith, low)) in omega (arith, ih)

-- a job that is taken out of others stands there once less
pub weigh_removed : (h : Job → ℕ) (i : ℕ) (old new : List Job) (job : Job) → i < length old → job ≡ slice_index_or old i job → new ≡ remove old i → weigh h old ≡ weigh h (job ∷ new)
weigh_removed h i old new job low is rest = subst (λ (j : Job). weigh h old ≡ weigh h (j ∷ new)) (sym is) (subst (λ (xs : List Job). weigh h old ≡ weigh h (slice_index_or old i job ∷ xs)) (sym rest) (weigh_remove h i old job low))

parted : (i : ℕ) (jobs : List Job) (d : Job) → i < length jobs → jobs ≡ take i jobs ++ slice_index_or jobs i d ∷ drop (suc i) jobs
parted i [] d low = absurd (omega (arith, low))
parted zero (job ∷ jobs) d low = refl
parted (suc i) (job ∷ jobs) d low = ap (λ (xs : List Job). job ∷ xs) (parted i jobs d (omega (arith, low)))

-- and the others stand as they did
pub removed : (i : ℕ) (old new : List Job) (job : Job) → i < length old → job ≡ slice_index_or old i job → new ≡ remove old i → IsWithout job old new
removed i old new job low is rest = (take i old, drop (suc i) old, parted i old job low ∙ ap (λ (j : Job). take i old ++ j ∷ drop (suc i) old) (sym is), rest)

weigh_push : (h : Job → ℕ) (jobs : List Job) (job : Job) → weigh h (jobs ++ job ∷ []) ≡ weigh h (job ∷ jobs)
weigh_push h [] job = refl
weigh_push h (first ∷ jobs) job = let ih = weigh_push h jobs job in omega (arith, ih)

-- how often a number stands among those of jobs is what they weigh
pub times_weigh : (n : ℕ) (jobs : List Job) → times n (numbers jobs) ≡ weigh (λ job. times n (job.job ∷ [])) jobs
times_weigh n [] = refl
times_weigh n (job ∷ jobs) = let ih = times_weigh n jobs in omega (arith, ih)

-- each job that was claimed was handed on, is kept, or was or is to be ended, and those handed on and kept are claimed ones
abbrev pub Parts : (claimed handed kept : List Job) (ended : List ℕ) → Type 0
Parts claimed handed kept ended =
    ((number : ℕ) → times number (numbers claimed) ≡ times number (numbers handed) + times number (numbers kept) + times number ended)
    × ((weight : Job → ℕ) → weigh weight handed + weigh weight kept ≤ weigh weight claimed)

-- where those that are kept weigh the same, all is as it was
pub same_parts : (claimed handed old new : List Job) (ended : List ℕ) → ((weight : Job → ℕ) → weigh weight old ≡ weigh weight new) → Parts claimed handed old ended → Parts claimed handed new ended
same_parts claimed handed old new ended same parts = (
  λ n. omega (arith, parts.0 n, times_weigh n old, times_weigh n new, same (λ job. times n (job.job ∷ []))),
  λ h. omega (arith, parts.1 h, same h),
)

-- a job that was to be handed on is kept behind the others
pub kept_parts : (claimed handed old new : List Job) (ended : List ℕ) (due : Option Job) (job : Job) → Some job ≡ due → new ≡ old ++ job ∷ [] → Parts claimed handed (with_job due old) ended → Parts claimed handed new ended
kept_parts claimed handed old new ended due job is_due is_new parts =
    let now = subst (λ (d : Option Job). Parts claimed handed (with_job d old) ended) (sym is_due) parts in
    subst (λ (xs : List Job). Parts claimed handed xs ended) (sym is_new)
    (same_parts claimed handed (job ∷ old) (old ++ job ∷ []) ended (λ h. sym (weigh_push h old job)) now)

-- a job that was kept is handed on
pub handed_parts : (claimed handed old new : List Job) (ended : List ℕ) (job : Job) → ((weight : Job → ℕ) → weigh weight old ≡ weigh weight (job ∷ new)) → Parts claimed handed old ended → Parts claimed (job ∷ handed) new ended
handed_parts claimed handed old new ended job same parts =
    let now = same_parts claimed handed old (job ∷ new) ended same parts in (
      λ n. omega (arith, now.0 n),
      λ h. omega (arith, now.1 h),
    )

-- a job that was kept is to be ended
pub ending_parts : (claimed handed old new : List Job) (ended : List ℕ) (job : Job) → ((weight : Job → ℕ) → weigh weight old ≡ weigh weight (job ∷ new)) → Parts claimed handed old ended → Parts claimed handed new (job.job ∷ ended)
ending_parts claimed handed old new ended job same parts =
    let now = same_parts claimed handed old (job ∷ new) ended same parts in (
      λ n. omega (arith, now.0 n),
      λ h. omega (arith, now.1 h),
    )

-- a job more is claimed, or none
pub claimed_parts : (claimed handed kept : List Job) (ended : List ℕ) (job : Option Job) → Parts claimed handed kept ended → Parts (with_job job claimed) handed (with_job job kept) ended
claimed_parts claimed handed kept ended None parts = parts
claimed_parts claimed handed kept ended (Some job) parts = (
  λ n. omega (arith, parts.0 n),
  λ h. omega (arith, parts.1 h),
)

-- a job stands in front of the others that wait, whatever is due
pub once_behind : (due : Option Job) (old new : List Job) (job : Job) → ((weight : Job → ℕ) → weigh weight old ≡ weigh weight (job ∷ new)) → (weight : Job → ℕ) → weigh weight (with_job due old) ≡ weigh weight (job ∷ with_job due new)
once_behind None old new job once h = once h
once_behind (Some other) old new job once h = let o = once h in omega (arith, o)
