-- How the entries of the end of a world are made up of those of its parts.
use Rattle.std.proofs.Common.{arith, ◌≡◌, ◌≢◌, ◌==◌, OnOk, ℕ, suc, Bool, true, false, List, Result, Ok, Err, refl, sym, subst, ◌∙◌}
use Rattle.std.proofs.lemmas.Bool.Decides.{nat_tests}
use Rattle.nob_model_types.specs.declared.entry.Entry.{Entry}
use Rattle.nob_rounds.specs.Notes.{news_in}
use Rattle.nob_rounds.specs.Rounds.{WentRound}
use Rattle.nob_rounds.specs.Endings.{ClosedUnopen, ClaimedAll, EndedCalls, ReleasedAll, WithdrewAll, WentEndRound, UnlessQuiet, WentEndRounds, most_rounds, Ended}

-- where it is quiet it ends
when_quiet : (is_quiet : Bool) (quiet goes_on : Type 0) → is_quiet ≡ true → quiet → UnlessQuiet is_quiet quiet goes_on
when_quiet true quiet goes_on is given = given
when_quiet false quiet goes_on is given = (let clash : false ≡ true = is in absurd (cc))

-- where it isn't it goes on
when_not_quiet : (is_quiet : Bool) (quiet goes_on : Type 0) → is_quiet ≡ false → goes_on → UnlessQuiet is_quiet quiet goes_on
when_not_quiet true quiet goes_on isnt given = (let clash : true ≡ false = isnt in absurd (cc))
when_not_quiet false quiet goes_on isnt given = given

-- two equal numbers, as a test
same_is : (k m : ℕ) → k ≡ m → (k == m) ≡ true
same_is k m same = grind (arith, nat_tests)

-- two other numbers, as a test
other_is : (k m : ℕ) → k ≢ m → (k == m) ≡ false
other_is k m other = grind (arith, nat_tests)

-- one round, which brought nothing new
pub was_quiet : (less most n before after : ℕ) (old new : List Entry) → most ≡ suc less → before ≡ news_in old → after ≡ news_in new → after ≡ before → WentEndRound n old new → WentEndRounds most n old new
was_quiet less most n before after old new counted before_is after_is same went = subst (λ (k : ℕ). WentEndRounds k n old new) (sym counted) (new, went, when_quiet (news_in new == news_in old) (new ≡ new) (WentEndRounds less n new new) (subst (λ (k : ℕ). (news_in new == k) ≡ true) before_is (subst (λ (k : ℕ). (k == before) ≡ true) after_is (same_is after before same))) refl)

-- one round, which brought something new, and then others
pub went_on : {E : Type 0} (r : Result (Unit {0}) E) (less most n m before after : ℕ) (old middle new : List Entry) → most ≡ suc less → before ≡ news_in old → after ≡ news_in middle → after ≢ before → m ≡ n → WentEndRound n old middle → OnOk r (WentEndRounds less m middle new) → OnOk r (WentEndRounds most n old new)
went_on (Ok _) less most n m before after old middle new counted before_is after_is other same went rest = subst (λ (k : ℕ). WentEndRounds k n old new) (sym counted) (middle, went, when_not_quiet (news_in middle == news_in old) (new ≡ middle) (WentEndRounds less n middle new) (subst (λ (k : ℕ). (news_in middle == k) ≡ false) before_is (subst (λ (k : ℕ). (k == before) ≡ false) after_is (other_is after before other))) (subst (λ (k : ℕ). WentEndRounds less k middle new) same rest))
went_on (Err error) less most n m before after old middle new counted before_is after_is other same went rest = rest

-- the parts of a round
pub went_round : {E : Type 0} (r : Result (Unit {0}) E) (n n1 n2 n3 n4 : ℕ) (old closed claimed ended released new : List Entry) → n1 ≡ n → n2 ≡ n1 → n3 ≡ n2 → n4 ≡ n3 → ClosedUnopen n old closed → ClaimedAll n1 closed claimed → EndedCalls n2 claimed ended → ReleasedAll n3 ended released → OnOk r (WentRound n4 released new) → OnOk r (WentEndRound n old new)
went_round (Ok _) n n1 n2 n3 n4 old closed claimed ended released new e1 e2 e3 e4 closes claims ends releases brings = record {
  closed = closed;
  closes = closes;
  claimed = claimed;
  claims = subst (λ (k : ℕ). ClaimedAll k closed claimed) e1 claims;
  ended = ended;
  ends = subst (λ (k : ℕ). EndedCalls k claimed ended) (e2 ∙ e1) ends;
  released = released;
  releases = subst (λ (k : ℕ). ReleasedAll k ended released) (e3 ∙ e2 ∙ e1) releases;
  brings = subst (λ (k : ℕ). WentRound k released new) (e4 ∙ e3 ∙ e2 ∙ e1) brings;
}
went_round (Err error) n n1 n2 n3 n4 old closed claimed ended released new e1 e2 e3 e4 closes claims ends releases brings = brings

-- the rounds and the withdrawals
pub went_to_the_end : {E : Type 0} (r : Result (Unit {0}) E) (n m : ℕ) (old quiet new : List Entry) → m ≡ n → WentEndRounds most_rounds n old quiet → OnOk r (WithdrewAll m quiet new) → OnOk r (Ended n old new)
went_to_the_end (Ok _) n m old quiet new same went withdrew = (quiet, went, subst (λ (k : ℕ). WithdrewAll k quiet new) same withdrew)
went_to_the_end (Err error) n m old quiet new same went withdrew = withdrew
