-- What an end stands for once its first waiting item is taken.
use Rattle.std.proofs.Common.{◌≡◌, ℕ, ◌+◌, ◌<◌, true, false, if◌then◌else◌, List, [], ◌∷◌, length, drop, IsSome, arith, refl, sym, subst}
use Rattle.std.proofs.lemmas.List.{drop-drop}
use Rattle.nob_ids.specs.declared.limits.Limits.{Limits}
use Rattle.nob_model_session.specs.declared.entry.EndEntry.{EndEntry}
use Rattle.nob_model_session.specs.declared.entry.EndEntry.TheVariants.{Take}
use Rattle.nob_model_session.specs.End.{accepted, accepted_count, is_open, takes, waiting}
use Rattle.nob_model_session.specs.Right.{IsRight, first_of}
use Rattle.nob_session.specs.Calls.{without_front}
use Rattle.nob_session.specs.Stands.{End, Stands}
use Rattle.nob_session.proofs.Kept.{places_take}

-- what waits is what waited, without the first of it
waiting_taken : (L : List EndEntry) → waiting (Take ∷ L) ≡ drop 1 (waiting L)
waiting_taken L = elim (is_open L) as (λ is. (if is then drop (takes L + 1) (accepted L) else []) ≡ drop 1 (if is then drop (takes L) (accepted L) else [])) [ true ↦ sym (drop-drop 1 (takes L) (accepted L)) | false ↦ refl ]

some_waits : (n : ℕ) (payloads : List (List ℕ)) → 0 < length payloads → IsSome (first_of n payloads)
some_waits n [] some = absurd (omega (arith, some))
some_waits n (payload ∷ payloads) some = refl

pub taken_stands : (me peer : ℕ) (limits : Limits) (L : List EndEntry) (e : End) → 0 < length e.waiting → Stands me peer limits e L → IsRight me peer limits Take L × Stands me peer limits (without_front e) (Take ∷ L)
taken_stands me peer limits L e some stands =
    subst (λ (x : End). 0 < length x.waiting → IsRight me peer limits Take L × Stands me peer limits (without_front x) (Take ∷ L)) (sym stands)
    (λ waits. (some_waits (takes L + 1) (waiting L) waits, rw (waiting_taken L, places_take (accepted_count L + 1) 64 L) refl))
    some
