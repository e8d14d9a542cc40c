-- What a journal that is joined to what happened has of each space: the entries of its present life, with raised job numbers, behind a birth.
use Rattle.std.proofs.Common.{◌≡◌, ℕ, ◌+◌, ◌-◌, ◌≤◌, Bool, true, false, cond, List, [], ◌∷◌, ◌++◌, map, Option, Some, refl, sym, ap, subst, ◌∙◌, arith}
use Rattle.std.specs.Prelude.{◌==◌}
use Rattle.std.proofs.lemmas.Bool.{eqb-true, eq-eqb}
use Rattle.nob_ids.specs.declared.limits.Limits.{Limits}
use Rattle.nob_model_types.specs.declared.entry.Entry.{Entry}
use Rattle.nob_model_types.specs.Deeds.{deeds}
use Rattle.nob_model.specs.Right.{last_number, jobs_made}
use Rattle.nob_model.specs.Lists.{AreRight}
use Rattle.nob_model_lives.specs.Births.{Birth, new_birth, IsBorn}
use Rattle.nob_model_lives.specs.Bridges.{Bounds, birth_behind}
use Rattle.nob_model_lives.proofs.Begin.{new_law}
use Rattle.nob_model_births.proofs.Reached.{reached_law}
use Rattle.nob_model_jobs.specs.Raised.{raised_entry}
use Rattle.nob_model_jobs.specs.Alike.{with_more_jobs}
use Rattle.nob_model_jobs.proofs.Life.{life_law}
use Rattle.nob_model_lives.specs.Alone.{AreOfBridge}
use Rattle.nob_model_journal.specs.Journals.{at, deeds_at}
use Rattle.nob_model_returns.specs.Returns.{Happening, does, begins, entries, life, birth_of, jobs_claimed, jobs_uncounted, GoesOnFrom, IsOfLife, BeginsBehind, ReturningRun}
use Rattle.nob_model_returns.specs.Joined.{Joined}
use Rattle.nob_model_returns.proofs.Raising.{claims_raised}
use Rattle.nob_model_returns.proofs.Across.{at_own, at_other, bridge_elsewhere}

-- of space s: a list behind which its present life is right by itself, and one of the journal behind which it stands there, of births that differ in jobs alone
pub record Continues (n : ℕ) (limits : ℕ → Limits) (s : ℕ) (H : List Happening) (J : List Entry) : Type 0 where
  pub behind : List Entry
  pub before : List Entry
  pub birth : Birth
  pub goes_on : GoesOnFrom s n (limits s) (birth_of s H) behind
  pub born : IsBorn s n (limits s) birth behind
  pub born_there : IsBorn s n (limits s) (with_more_jobs (jobs_uncounted s H) birth) before
  pub stands : at s J ≡ map (raised_entry (jobs_uncounted s H)) (life s H) ++ before
  pub right : AreRight s n (limits s) (life s H ++ behind)
  pub claimed : jobs_made (deeds_at s J) ≡ jobs_claimed s H
  pub low : jobs_claimed s H ≤ last_number

-- at first nothing was done
at_first : (n : ℕ) (limits : ℕ → Limits) (s : ℕ) → Continues n limits s [] []
at_first n limits s = record {
  behind = [];
  before = [];
  birth = new_birth;
  goes_on = refl;
  born = new_law s n (limits s);
  born_there = new_law s n (limits s);
  stands = refl;
  right = tt;
  claimed = refl;
  low = omega arith;
}

-- ---- an entry

life_own : (s : ℕ) (entry : Entry) (H : List Happening) (b : Bool) → (entry.space == s) ≡ b → life s (does entry ∷ H) ≡ cond b (entry ∷ life s H) (life s H)
life_own s entry H b is = ap (λ (c : Bool). cond c (entry ∷ life s H) (life s H)) is

does_elsewhere : (n : ℕ) (limits : ℕ → Limits) (s : ℕ) (entry : Entry) (H : List Happening) (K : List Entry) → (entry.space == s) ≡ false → Continues n limits s H K → Continues n limits s (does entry ∷ H) (raised_entry (jobs_uncounted entry.space H) entry ∷ K)
does_elsewhere n limits s entry H K other its =
    let same : life s (does entry ∷ H) ≡ life s H = life_own s entry H false other in
    let claims : jobs_claimed s (does entry ∷ H) ≡ jobs_claimed s H = ap (λ (L : List Entry). jobs_made (deeds L)) (at_other s entry (entries H) other) in
    let there : at s (raised_entry (jobs_uncounted entry.space H) entry ∷ K) ≡ at s K = at_other s (raised_entry (jobs_uncounted entry.space H) entry) K other in
    record {
      behind = its.behind;
      before = its.before;
      birth = its.birth;
      goes_on = its.goes_on;
      born = its.born;
      born_there = its.born_there;
      stands = there ∙ its.stands ∙ ap (λ (L : List Entry). map (raised_entry (jobs_uncounted s H)) L ++ its.before) (sym same);
      right = subst (λ (L : List Entry). AreRight s n (limits s) (L ++ its.behind)) (sym same) its.right;
      claimed = ap (λ (L : List Entry). jobs_made (deeds L)) there ∙ its.claimed ∙ sym claims;
      low = subst (λ (k : ℕ). k ≤ last_number) (sym claims) its.low;
    }

does_here : (n : ℕ) (limits : ℕ → Limits) (entry : Entry) (H : List Happening) (K : List Entry) → IsOfLife n limits entry H → Continues n limits entry.space H K → Continues n limits entry.space (does entry ∷ H) (raised_entry (jobs_uncounted entry.space H) entry ∷ K)
does_here n limits entry H K of_life its =
    let s : ℕ = entry.space in
    let own : (s == s) ≡ true = eq-eqb s s refl in
    let one : Entry = raised_entry (jobs_uncounted s H) entry in
    let more : life s (does entry ∷ H) ≡ entry ∷ life s H = life_own s entry H true own in
    let there : at s (one ∷ K) ≡ one ∷ at s K = at_own s one K own in
    record {
      behind = its.behind;
      before = its.before;
      birth = its.birth;
      goes_on = its.goes_on;
      born = its.born;
      born_there = its.born_there;
      stands = there ∙ ap (λ (L : List Entry). one ∷ L) its.stands ∙ ap (λ (L : List Entry). map (raised_entry (jobs_uncounted s H)) L ++ its.before) (sym more);
      right = subst (λ (L : List Entry). AreRight s n (limits s) (L ++ its.behind)) (sym more) (of_life.is_right its.behind its.goes_on, its.right);
      claimed = ap (λ (L : List Entry). jobs_made (deeds L)) there
          ∙ claims_raised (jobs_uncounted s H) entry (deeds_at s K) (deeds_at s (entries H)) its.claimed
          ∙ ap (λ (L : List Entry). jobs_made (deeds L)) (sym (at_own s entry (entries H) own));
      low = of_life.few_jobs;
    }

does_on : (n : ℕ) (limits : ℕ → Limits) (s : ℕ) (entry : Entry) (H : List Happening) (K : List Entry) → IsOfLife n limits entry H → ((q : ℕ) → Continues n limits q H K) → (own : Bool) → (entry.space == s) ≡ own → Continues n limits s (does entry ∷ H) (raised_entry (jobs_uncounted entry.space H) entry ∷ K)
does_on n limits s entry H K of_life all true own = subst (λ (q : ℕ). Continues n limits q (does entry ∷ H) (raised_entry (jobs_uncounted entry.space H) entry ∷ K)) (eqb-true entry.space s own) (does_here n limits entry H K of_life (all entry.space))
does_on n limits s entry H K of_life all false other = does_elsewhere n limits s entry H K other (all s)

-- ---- a life that begins

-- the jobs of a birth and those not counted are all
all_jobs : (bounds : Bounds) (jobs claimed : ℕ) → jobs ≤ claimed → birth_behind bounds claimed ≡ with_more_jobs (claimed - jobs) (birth_behind bounds jobs)
all_jobs bounds jobs claimed low = ap (birth_behind bounds) sum
  where
    sum : claimed ≡ jobs + (claimed - jobs)
    sum = omega (arith, low)

begins_here : (n : ℕ) (limits : ℕ → Limits) (s : ℕ) (bounds : Bounds) (jobs : ℕ) (H : List Happening) (J : List Entry) → BeginsBehind n limits s bounds jobs H → IsBorn s n (limits s) (birth_behind bounds (jobs_claimed s H)) (at s J) → jobs_claimed s H ≤ last_number → Continues n limits s (begins s bounds jobs ∷ H) J
begins_here n limits s bounds jobs H J begun there low =
    let own : (s == s) ≡ true = eq-eqb s s refl in
    let here = reached_law s n (limits s) (birth_behind bounds jobs) begun.window begun.in_range in
    let none : life s (begins s bounds jobs ∷ H) ≡ [] = ap (λ (b : Bool). cond b [] (life s H)) own in
    let birth_is : birth_of s (begins s bounds jobs ∷ H) ≡ Some (birth_behind bounds jobs) = ap (λ (b : Bool). cond b (Some (birth_behind bounds jobs)) (birth_of s H)) own in
    let uncounted : jobs_uncounted s (begins s bounds jobs ∷ H) ≡ jobs_claimed s H - jobs = ap (λ (b : Bool). cond b (jobs_claimed s H - jobs) (jobs_uncounted s H)) own in
    record {
      behind = here.0;
      before = at s J;
      birth = birth_behind bounds jobs;
      goes_on = subst (λ (birth : Option Birth). GoesOnFrom s n (limits s) birth here.0) (sym birth_is) here.1;
      born = here.1;
      born_there = subst (λ (k : ℕ). IsBorn s n (limits s) (with_more_jobs k (birth_behind bounds jobs)) (at s J)) (sym uncounted) (subst (λ (birth : Birth). IsBorn s n (limits s) birth (at s J)) (all_jobs bounds jobs (jobs_claimed s H) begun.few_jobs) there);
      stands = ap (λ (L : List Entry). map (raised_entry (jobs_uncounted s (begins s bounds jobs ∷ H))) L ++ at s J) (sym none);
      right = subst (λ (L : List Entry). AreRight s n (limits s) (L ++ here.0)) (sym none) here.1.right;
      claimed = there.jobs;
      low = low;
    }

begins_elsewhere : (n : ℕ) (limits : ℕ → Limits) (s q : ℕ) (bounds : Bounds) (jobs : ℕ) (H : List Happening) (J K : List Entry) → (q == s) ≡ false → at s J ≡ at s K → Continues n limits s H K → Continues n limits s (begins q bounds jobs ∷ H) J
begins_elsewhere n limits s q bounds jobs H J K other there its =
    let same : life s (begins q bounds jobs ∷ H) ≡ life s H = ap (λ (b : Bool). cond b [] (life s H)) other in
    let birth_is : birth_of s (begins q bounds jobs ∷ H) ≡ birth_of s H = ap (λ (b : Bool). cond b (Some (birth_behind bounds jobs)) (birth_of s H)) other in
    let uncounted : jobs_uncounted s (begins q bounds jobs ∷ H) ≡ jobs_uncounted s H = ap (λ (b : Bool). cond b (jobs_claimed s H - jobs) (jobs_uncounted s H)) other in
    record {
      behind = its.behind;
      before = its.before;
      birth = its.birth;
      goes_on = subst (λ (birth : Option Birth). GoesOnFrom s n (limits s) birth its.behind) (sym birth_is) its.goes_on;
      born = its.born;
      born_there = subst (λ (k : ℕ). IsBorn s n (limits s) (with_more_jobs k its.birth) its.before) (sym uncounted) its.born_there;
      stands = there ∙ its.stands ∙ (λ i. map (raised_entry (sym uncounted i)) (sym same i) ++ its.before);
      right = subst (λ (L : List Entry). AreRight s n (limits s) (L ++ its.behind)) (sym same) its.right;
      claimed = ap (λ (L : List Entry). jobs_made (deeds L)) there ∙ its.claimed;
      low = its.low;
    }

begins_on : (n : ℕ) (limits : ℕ → Limits) (s q : ℕ) (bounds : Bounds) (jobs : ℕ) (H : List Happening) (J K bridge : List Entry) → BeginsBehind n limits q bounds jobs H → J ≡ bridge ++ K → AreOfBridge q bridge → IsBorn q n (limits q) (birth_behind bounds (jobs_claimed q H)) (at q J) → ((r : ℕ) → Continues n limits r H K) → (own : Bool) → (q == s) ≡ own → Continues n limits s (begins q bounds jobs ∷ H) J
begins_on n limits s q bounds jobs H J K bridge begun is are there all true own = subst (λ (r : ℕ). Continues n limits r (begins q bounds jobs ∷ H) J) (eqb-true q s own) (begins_here n limits q bounds jobs H J begun there (all q).low)
begins_on n limits s q bounds jobs H J K bridge begun is are there all false other = begins_elsewhere n limits s q bounds jobs H J K other (ap (at s) is ∙ bridge_elsewhere q s bridge K are other) (all s)

-- ---- all that happened

-- a journal that is joined to a run goes on each life
pub continues : (n : ℕ) (limits : ℕ → Limits) (H : List Happening) (J : List Entry) → ReturningRun n limits H → Joined n limits H J → (s : ℕ) → Continues n limits s H J
continues n limits [] J run joined s = subst (Continues n limits s []) (sym joined) (at_first n limits s)
continues n limits (does entry ∷ H) J run joined s = subst (Continues n limits s (does entry ∷ H)) (sym joined.1) (does_on n limits s entry H joined.0 run.0 (continues n limits H joined.0 run.1 joined.2) (entry.space == s) refl)
continues n limits (begins q bounds jobs ∷ H) J run joined s = begins_on n limits s q bounds jobs H J joined.0 joined.1 run.0 joined.2 joined.3 joined.4 (continues n limits H joined.0 run.1 joined.5) (q == s) refl

-- no job number is too high in the journal
pub low_there : (n : ℕ) (limits : ℕ → Limits) (s : ℕ) (H : List Happening) (J : List Entry) (its : Continues n limits s H J) → jobs_made (deeds (map (raised_entry (jobs_uncounted s H)) (life s H) ++ its.before)) ≤ last_number
low_there n limits s H J its = subst (λ (L : List Entry). jobs_made (deeds L) ≤ last_number) its.stands (subst (λ (k : ℕ). k ≤ last_number) (sym its.claimed) its.low)

-- what a life did is right in the journal
pub right_there : (n : ℕ) (limits : ℕ → Limits) (s : ℕ) (H : List Happening) (J : List Entry) → Continues n limits s H J → AreRight s n (limits s) (at s J)
right_there n limits s H J its =
    subst (AreRight s n (limits s)) (sym its.stands)
    (life_law s n (limits s) (jobs_uncounted s H) its.birth its.behind its.before (life s H) its.born its.born_there its.right (low_there n limits s H J its))
