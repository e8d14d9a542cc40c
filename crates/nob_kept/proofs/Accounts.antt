-- What one entry more leaves of a space's entries.
use Rattle.std.proofs.Common.{◌≡◌, ℕ, ◌+◌, ◌≤◌, max, List, [], ◌∷◌, ◌++◌, map, refl, sym, subst, arith}
use Rattle.std.proofs.lemmas.List.{map-append, reverse-append}
use Rattle.std.proofs.Math.Nat.{le-max_left}
use Rattle.nob_ids.specs.declared.limits.Limits.{Limits}
use Rattle.nob_model.specs.Lists.{AreRight}
use Rattle.nob_model.specs.Right.{right}
use Rattle.nob_model_traces.specs.Apart.{entry_at}
use Rattle.nob_model_traces.specs.Traces.{journal_at}
use Rattle.nob_model_chains.proofs.Passing.{journal_next}
use Rattle.nob_space.specs.Spaces.{Owner, StandsFor, SameSpace}
use Rattle.nob_trace.specs.declared.stamped.Stamped.{Stamped}
use Rattle.nob_trace.specs.Stamps.{last_stamp}
use Rattle.nob_trace.proofs.Rising.{rise_push}
use Rattle.nob_kept.specs.Accounts.{AreEntries, StandsRight, next_stamp}

-- one entry more, with the next stamp and the right result, leaves all right
pub entries_next : (id n : ℕ) (limits : Limits) (entries : List Stamped) (entry : Stamped) (seen : ℕ)
    → AreEntries id n limits entries → entry.stamp ≡ next_stamp (last_stamp 0 entries) seen → entry.result ≡ right id n limits (journal_at id entries) entry.event
    → AreEntries id n limits (entries ++ entry ∷ [])
entries_next id n limits entries entry seen before stamp result = record {
  right = subst (AreRight id n limits) (sym (journal_next id entries entry)) (result, before.right);
  rise = rise_push 0 entries entry before.rise (let above : last_stamp 0 entries ≤ max (last_stamp 0 entries) seen = le-max_left _ _ in omega (arith, above, stamp));
}

-- and the space stands for it
pub stands_next : (old new : Owner) (entries : List Stamped) (entry : Stamped) (seen : ℕ)
    → StandsRight old entries → SameSpace old new → entry.stamp ≡ next_stamp (last_stamp 0 entries) seen → entry.result ≡ right old.id old.n old.limits (journal_at old.id entries) entry.event
    → StandsFor new (entry_at old.id entry ∷ journal_at old.id entries)
    → StandsRight new (entries ++ entry ∷ [])
stands_next old new entries entry seen before same stamp result stands =
    let more : AreEntries old.id old.n old.limits (entries ++ entry ∷ []) = entries_next old.id old.n old.limits entries entry seen before.is_account stamp result in
    record {
      stands = subst (λ (s : ℕ). StandsFor new (journal_at s (entries ++ entry ∷ []))) (sym same.id) (subst (StandsFor new) (sym (journal_next old.id entries entry)) stands);
      is_account = subst (λ (s : ℕ). AreEntries s new.n new.limits (entries ++ entry ∷ [])) (sym same.id)
          (subst (λ (n : ℕ). AreEntries old.id n new.limits (entries ++ entry ∷ [])) (sym same.n) (subst (λ (limits : Limits). AreEntries old.id old.n limits (entries ++ entry ∷ [])) (sym same.limits) more));
    }

-- a space that stands for all that it stood for stands for the same entries
pub stands_on : (old new : Owner) (entries : List Stamped) → StandsRight old entries → SameSpace old new → (StandsFor old (journal_at old.id entries) → StandsFor new (journal_at old.id entries)) → StandsRight new entries
stands_on old new entries before same stands = record {
  stands = subst (λ (s : ℕ). StandsFor new (journal_at s entries)) (sym same.id) (stands before.stands);
  is_account = subst (λ (s : ℕ). AreEntries s new.n new.limits entries) (sym same.id)
      (subst (λ (n : ℕ). AreEntries old.id n new.limits entries) (sym same.n) (subst (λ (limits : Limits). AreEntries old.id old.n limits entries) (sym same.limits) before.is_account));
}
