-- One space more to which is brought, or which takes its turn.
use Rattle.std.proofs.Common.{◌≡◌, ℕ, suc, List, sym, subst, ◌∙◌}
use Rattle.nob_model_types.specs.declared.entry.Entry.{Entry}
use Rattle.nob_rounds.specs.Rounds.{Brought, BroughtUpTo, TookTurn, TookTurnsUpTo}

-- it was brought to one space more
pub brought_to_one_more : (before last from to : ℕ) (old middle new : List Entry) → last ≡ suc before → to ≡ last → BroughtUpTo from before old middle → Brought from to middle new → BroughtUpTo from last old new
brought_to_one_more before last from to old middle new counted is_last up one = subst (λ (k : ℕ). BroughtUpTo from k old new) (sym counted) (middle, up, subst (λ (k : ℕ). Brought from k middle new) (is_last ∙ counted) one)

-- one space more took its turn
pub one_more_took_turn : (n m before last space : ℕ) (old middle new : List Entry) → last ≡ suc before → space ≡ last → m ≡ n → TookTurnsUpTo n before old middle → TookTurn m space middle new → TookTurnsUpTo n last old new
one_more_took_turn n m before last space old middle new counted is_last same up one = subst (λ (k : ℕ). TookTurnsUpTo n k old new) (sym counted) (middle, up, subst (λ (k : ℕ). TookTurn k (suc before) middle new) same (subst (λ (k : ℕ). TookTurn m k middle new) (is_last ∙ counted) one))
