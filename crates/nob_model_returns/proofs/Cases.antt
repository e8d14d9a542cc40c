-- Cases by hand: a short run of a world in which a space comes back, and what is none.
use Rattle.std.proofs.Common.{◌≡◌, ℕ, ◌+◌, ◌≤◌, List, [], ◌∷◌, ◌++◌, Result, Ok, refl, sym, ap, subst, ◌∙◌, arith, inl, inr}
use Rattle.nob_ids.specs.declared.limits.Limits.{Limits}
use Rattle.nob_model_types.specs.declared.event.Event.TheVariants as events
use Rattle.nob_model_types.specs.declared.answer.Answer.TheVariants as answers
use Rattle.nob_model_types.specs.declared.answer.Answer.{Answer}
use Rattle.nob_model_types.specs.declared.refusal.Refusal.{Refusal}
use Rattle.nob_model_types.specs.declared.entry.Entry.{Entry}
use Rattle.nob_model_work.specs.Gifts.{gifts, gifts_of}
use Rattle.nob_model_work.specs.Work.{work_after, with_loans}
use Rattle.nob_model.specs.Right.{right_after, right_export, IsRight}
use Rattle.nob_model_lives.specs.Births.{IsBorn, IsInRange}
use Rattle.nob_model_lives.specs.Bridges.{Bounds, Cover, LeaveRoom, birth_behind}
use Rattle.nob_model_lives.proofs.Unused.{first_law}
use Rattle.nob_model_births.proofs.Reached.{reached_law}
use Rattle.nob_model_returns.specs.Returns.{Happening, does, begins, ReturningRun}

-- space 1, of two, exports an object under an index
abbrev exported : ℕ → Entry
exported index = record { space = 1; event = events.Export; result = Ok (answers.Exported (record { owner = 1; index = index })) }

-- bounds of it: one index was given, no call was made, and its session with space 2 is the first
abbrev kept : Bounds
kept = record { indexes = 1; calls = 0; session = λ p. 1 }

-- it exports one, dies, comes back behind these bounds, and exports another one
abbrev came_back : List Happening
came_back = does (exported 2) ∷ begins 1 kept 0 ∷ does (exported 1) ∷ []

first_right : (limits : Limits) (L : List Entry) → L ≡ [] → IsRight 1 2 limits (exported 1) ([] ++ L)
unfolding right_after right_export gifts gifts_of work_after with_loans
first_right limits L none = subst (IsRight 1 2 limits (exported 1)) (sym none) refl

kept_covers : (L : List Entry) → L ≡ [] → Cover 1 2 kept (exported 1 ∷ L)
unfolding gifts gifts_of
kept_covers L none = subst (λ (M : List Entry). Cover 1 2 kept (exported 1 ∷ M)) (sym none) covers
  where
    covers : Cover 1 2 kept (exported 1 ∷ [])
    covers = record { indexes = omega arith; calls = omega arith; few_calls = omega arith; sessions = λ p peer. omega arith; heard = λ p peer. omega arith }

kept_room : (L : List Entry) → L ≡ [] → LeaveRoom 1 2 kept (exported 1 ∷ L)
kept_room L none = subst (λ (M : List Entry). LeaveRoom 1 2 kept (exported 1 ∷ M)) (sym none) (record { indexes = omega arith; calls = omega arith; sessions = λ p peer. omega arith; peer = inl refl })

kept_birth : IsInRange 1 2 (birth_behind kept 0)
kept_birth = inr (record { indexes = omega arith; calls = omega arith; jobs = omega arith; sessions = λ p peer. (omega arith, omega arith); earlier = inl refl })

next_right : (limits : Limits) (L : List Entry) → IsBorn 1 2 limits (birth_behind kept 0) L → IsRight 1 2 limits (exported 2) L
next_right limits L born = sym (first_law 1 2 limits (birth_behind kept 0) L born (omega arith))

-- this is a run
pub runs : (limits : ℕ → Limits) → 1 ≤ (limits 1).window → ReturningRun 2 limits came_back
runs limits window = (
  record { first = omega arith; last = omega arith; is_right = next_right (limits 1); arrives = tt; few_jobs = omega arith },
  (
    record { first = omega arith; last = omega arith; window = window; covers = kept_covers; leaves_room = kept_room; few_jobs = omega arith; in_range = kept_birth },
    (record { first = omega arith; last = omega arith; is_right = first_right (limits 1); arrives = tt; few_jobs = omega arith }, tt),
  ),
)

-- the index that a result gives
abbrev index_in : Result Answer Refusal → ℕ
index_in (Ok (answers.Exported rep)) = rep.index
index_in _ = 0

-- it is none if the same index is given again
pub never_again : (limits : ℕ → Limits) → 1 ≤ (limits 1).window → ReturningRun 2 limits (does (exported 1) ∷ begins 1 kept 0 ∷ does (exported 1) ∷ []) → ⊥
never_again limits window run =
    let from = reached_law 1 2 (limits 1) (birth_behind kept 0) window kept_birth in
    let clash : 1 ≡ 2 = ap index_in (run.0.is_right from.0 from.1 ∙ sym (next_right (limits 1) from.0 from.1)) in
    absurd (omega (arith, clash))

-- nor if the bounds don't cover the index
pub never_below : (limits : ℕ → Limits) (calls : ℕ) (session : ℕ → ℕ) → ReturningRun 2 limits (begins 1 (record { indexes = 0; calls = calls; session = session }) 0 ∷ does (exported 1) ∷ []) → ⊥
never_below limits calls session run = let low : 1 ≤ 0 = (run.0.covers [] refl).indexes in absurd (omega (arith, low))
