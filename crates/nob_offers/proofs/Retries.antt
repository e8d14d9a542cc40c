-- Whenever something waits for which there is room, some thread is not at rest.
use Rattle.std.proofs.Common.{◌≡◌, ◌<◌, true, false, true≢false, ◌⊎◌, inl, inr, List, [], ◌∷◌, refl, sym, subst, ◌∙◌, arith}
use Rattle.nob_offers.specs.Retries.{Turn, Free, TriesAgain, FoundNone, Ends, State, opening, Step, comes, makes, uses, finds_clear, finds_noted, asks, begins, reads_clear, reads_noted, does, goes_on, is_refused, notes, is_refused_again, leaves, finds_none, takes_back, gives_back, IsRun, AllRest, TriedLaw}

-- a turn is asked for, or a thread has yet to ask
abbrev pub IsWanted : State → Type 0
IsWanted s = (s.asked ≡ true) ⊎ (0 < s.askers)

-- the turn has nothing more to try
abbrev pub IsOver : Turn → Type 0
IsOver Free = Unit {0}
IsOver Ends = Unit {0}
IsOver (_) = ⊥

-- the turn tries after a refusal was noted
abbrev pub IsAgain : Turn → Type 0
IsAgain TriesAgain = Unit {0}
IsAgain (_) = ⊥

-- the turn found nothing that waits
abbrev pub HasFoundNone : Turn → Type 0
HasFoundNone FoundNone = Unit {0}
HasFoundNone (_) = ⊥

-- what holds after each step: who tries again has the refusal noted; what came to wait after nothing was found has a turn wanted for it; and what waits after a turn has its refusal noted or a turn wanted, and where there is room for it a turn is wanted, or who made the room has yet to look
pub record Kept (s : State) : Type 0 where
  pub again : IsAgain s.turn → s.noted ≡ true
  pub none : HasFoundNone s.turn → s.waits ≡ true → IsWanted s
  pub over : IsOver s.turn → s.waits ≡ true → (s.noted ≡ true) ⊎ IsWanted s
  pub roomy : IsOver s.turn → s.waits ≡ true → s.room ≡ true → IsWanted s ⊎ (0 < s.makers)

-- at the opening
opens : Kept opening
opens = record {
  again = λ is. absurd is;
  none = λ is waits. absurd is;
  over = λ is waits. absurd (true≢false (sym waits));
  roomy = λ is waits room. absurd (true≢false (sym waits));
}

-- a turn that goes on owes nothing
busy : (s : State) → (IsAgain s.turn → s.noted ≡ true) → (HasFoundNone s.turn → ⊥) → (IsOver s.turn → ⊥) → Kept s
busy s again none over = record {
  again = again;
  none = λ is waits. absurd (none is);
  over = λ is waits. absurd (over is);
  roomy = λ is waits room. absurd (over is);
}

-- where a turn is wanted nothing is owed but that the note stands while it tries again
wanted : (s : State) → (IsAgain s.turn → s.noted ≡ true) → IsWanted s → Kept s
wanted s again is = record {
  again = again;
  none = λ found waits. is;
  over = λ over waits. inr is;
  roomy = λ over waits room. inl is;
}

-- where a turn is over and no refusal is noted, what waits has a turn wanted
unnoted : (s : State) → s.noted ≡ false → (s.noted ≡ true) ⊎ IsWanted s → IsWanted s
unnoted s clear (inl is) = absurd (true≢false (sym is ∙ clear))
unnoted s clear (inr is) = is

-- each step keeps it
keeps : (before after : State) → Step before after → Kept before → Kept after
keeps s after (comes is) kept = subst Kept (sym is) (wanted _ kept.again (inr (omega arith)))
keeps s after (makes is) kept = subst Kept (sym is) (record {
  again = kept.again;
  none = kept.none;
  over = kept.over;
  roomy = λ over waits room. inr (omega arith);
})
keeps s after (uses is) kept = subst Kept (sym is) (record {
  again = kept.again;
  none = kept.none;
  over = kept.over;
  roomy = λ over waits room. absurd (true≢false (sym room));
})
keeps s after (finds_clear some clear is) kept = subst Kept (sym is) (record {
  again = kept.again;
  none = kept.none;
  over = kept.over;
  roomy = λ over waits room. inl (unnoted s clear (kept.over over waits));
})
keeps s after (finds_noted some noted is) kept = subst Kept (sym is) (wanted _ kept.again (inr (omega arith)))
keeps s after (asks some is) kept = subst Kept (sym is) (wanted _ kept.again (inl refl))
keeps s after (begins free is) kept = subst Kept (sym is) (busy _ (λ is. absurd is) (λ is. is) (λ is. is))
keeps s after (reads_clear at clear is) kept = subst Kept (sym is) (busy _ (λ is. absurd is) (λ is. is) (λ is. is))
keeps s after (reads_noted at noted is) kept = subst Kept (sym is) (busy _ (λ is. noted) (λ is. is) (λ is. is))
keeps s after (does more left at is) kept = subst Kept (sym is) (busy _ (λ is. absurd is) (λ is. is) (λ is. is))
keeps s after (goes_on at is) kept = subst Kept (sym is) (busy _ (λ is. absurd is) (λ is. is) (λ is. is))
keeps s after (is_refused at full is) kept = subst Kept (sym is) (busy _ (λ is. absurd is) (λ is. is) (λ is. is))
keeps s after (notes at is) kept = subst Kept (sym is) (busy _ (λ is. refl) (λ is. is) (λ is. is))
keeps s after (is_refused_again at full is) kept = subst Kept (sym is) (record {
  again = λ is. absurd is;
  none = λ is waits. absurd is;
  over = λ over waits. inl (kept.again (subst IsAgain (sym at) tt));
  roomy = λ over waits room. absurd (true≢false (sym room ∙ full));
})
keeps s after (leaves at is) kept = subst Kept (sym is) (wanted _ (λ is. absurd is) (inr (omega arith)))
keeps s after (finds_none at nothing is) kept = subst Kept (sym is) (record {
  again = λ is. absurd is;
  none = λ found waits. absurd (true≢false (sym waits ∙ nothing));
  over = λ is waits. absurd is;
  roomy = λ is waits room. absurd is;
})
keeps s after (takes_back at is) kept = subst Kept (sym is) (record {
  again = λ is. absurd is;
  none = λ is waits. absurd is;
  over = λ over waits. inr (kept.none (subst HasFoundNone (sym at) tt) waits);
  roomy = λ over waits room. inl (kept.none (subst HasFoundNone (sym at) tt) waits);
})
keeps s after (gives_back at is) kept = subst Kept (sym is) (record {
  again = λ is. absurd is;
  none = λ is waits. absurd is;
  over = λ over waits. kept.over (subst IsOver (sym at) tt) waits;
  roomy = λ over waits room. kept.roomy (subst IsOver (sym at) tt) waits room;
})

-- it holds in every state of a run
kept_in : (s : State) (earlier : List State) → IsRun (s ∷ earlier) → Kept s
kept_in s [] run = subst Kept (sym run) opens
kept_in s (before ∷ earlier) run = keeps before s run.0 (kept_in before earlier run.1)

-- where all rest nobody wants a turn
none_wanted : (s : State) → AllRest s → IsWanted s → ⊥
none_wanted s rest (inl asked) = true≢false (sym asked ∙ rest.1)
none_wanted s rest (inr some) = absurd (omega (arith, some, rest.3))

-- where all rest, what waits has no room
without_room : (s : State) → Kept s → AllRest s → s.waits ≡ true → s.room ≡ false
without_room s kept rest waits = elim s.room as (λ b. s.room ≡ b → s.room ≡ false) [ true ↦ λ room. absurd (still (kept.roomy (subst IsOver (sym rest.0) tt) waits room)) | false ↦ λ none. none ] refl
  where
    still : IsWanted s ⊎ (0 < s.makers) → ⊥
    still (inl is) = none_wanted s rest is
    still (inr some) = absurd (omega (arith, some, rest.2))

-- where all rest, what waits has its refusal noted
noted : (s : State) → AllRest s → (s.noted ≡ true) ⊎ IsWanted s → s.noted ≡ true
noted s rest (inl is) = is
noted s rest (inr is) = absurd (none_wanted s rest is)

pub tried : TriedLaw
tried s earlier run rest waits =
    let kept = kept_in s earlier run in
    (without_room s kept rest waits, noted s rest (kept.over (subst IsOver (sym rest.0) tt) waits))
