-- An end stays one of its session, whether a call on it succeeds or not.
use Rattle.std.proofs.Common.{◌≡◌, ℕ, List, Result, Ok, Err, IfOk, OnErr, ◌∙◌}
use Rattle.nob_ids.specs.declared.limits.Limits.{Limits}
use Rattle.nob_model_session.specs.declared.entry.EndEntry.{EndEntry}
use Rattle.nob_session.specs.Stands.{End, Stands}
use Rattle.nob_demo_scripts.specs.Pairs.{IsEndOf}

pub kept : {A E : Type 0} (T : A → Type 0) (me peer : ℕ) (limits : Limits) (old new : End) (L K : List EndEntry) (r : Result A E) → Stands me peer limits old L
    → IfOk r (λ a. T a × Stands me peer limits new K) → OnErr r (new ≡ old) → IsEndOf me peer new
kept T me peer limits old new L K (Ok a) st ok err = (limits, K, ok.1)
kept T me peer limits old new L K (Err e) st ok err = (limits, L, err ∙ st)
