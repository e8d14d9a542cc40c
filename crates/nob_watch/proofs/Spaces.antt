-- The spaces of a world, and what asking one of them leaves of the others.
use Rattle.std.proofs.Common.{◌≡◌, ◌↔◌, ℕ, ◌+◌, ◌-◌, ◌≤◌, ◌<◌, Bool, true, false, cond, ◌==◌, List, [], ◌∷◌, ◌++◌, length, replicate, get_or, slice_get, Some, refl, sym, ap, subst, ◌∙◌, arith}
use Prim.Native.Nat.{zero, suc}
use Rattle.std.specs.Prelude.{Result, Ok, Err, IfOk, OnErr}
use Rattle.std.proofs.lemmas.Option.{slice_get_read}
use lib.ListN.{set}
use Rattle.std.proofs.lemmas.List.{length-set, length-replicate}
use Rattle.std.proofs.lemmas.Cmp.{nat_eq_equiv}
use Rattle.std.proofs.lemmas.Bool.Decides.{nat_tests, Decides-eqb}
use Rattle.nob_ids.specs.declared.limits.Limits.{Limits}
use Rattle.nob_rows.proofs.Flat.{get_set_same, get_set_other}
use Rattle.nob_model_types.specs.declared.entry.Entry.{Entry}
use Rattle.nob_model.specs.Right.{IsRight}
use Rattle.nob_model_journal.specs.Journals.{at}
use Rattle.nob_model_invariant.specs.Typed.{IsOfTypes}
use Rattle.nob_space.specs.Spaces.{Owner, StandsFor, SameSpace, entry_of}
use Rattle.nob_watch.specs.Members.{IsMember, AreMembers, ArePlaces, IsAnswered, IsAsked}

-- an entry more of a space stands in its own list
pub at_own : (entry : Entry) (J : List Entry) → at entry.space (entry ∷ J) ≡ entry ∷ at entry.space J
at_own entry J = ap (λ (b : Bool). cond b (entry ∷ at entry.space J) (at entry.space J)) (nat_eq_equiv.refl entry.space)

-- and in no other
pub at_other : (entry : Entry) (q : ℕ) (J : List Entry) → (entry.space == q) ≡ false → at q (entry ∷ J) ≡ at q J
at_other entry q J differs = ap (λ (b : Bool). cond b (entry ∷ at q J) (at q J)) differs

-- ---- reading

-- an element that was read stands at its place
pub read_there : {X : Type 0} (xs : List X) (p k : ℕ) (x : X) → k ≡ p - 1 → 1 ≤ p → p ≤ length xs → x ≡ get_or xs k x → slice_get xs (p - 1) ≡ Some x
read_there xs p k x same low high is = slice_get_read xs (length xs) (p - 1) x refl (omega (arith, low, high)) (subst (λ (j : ℕ). x ≡ get_or xs j x) same is)

-- and so does what is read with a default
pub list_got : {X : Type 0} (xs : List X) (j : ℕ) (x : X) → j < length xs → slice_get xs j ≡ Some (get_or xs j x)
list_got [] j x less = absurd (omega (arith, less))
list_got (y ∷ ys) zero x less = refl
list_got (y ∷ ys) (suc j) x less = list_got ys j x (omega (arith, less))

-- ---- the spaces

-- with one changed that stands for another list, where no other space has another entry
members_changed : (n : ℕ) (list : List Limits) (spaces : List Owner) (J J' : List Entry) (p : ℕ) (old new : Owner)
    → AreMembers n list J spaces → 1 ≤ p → slice_get spaces (p - 1) ≡ Some old → SameSpace old new → StandsFor new (at p J') → ((q : ℕ) → (p == q) ≡ false → at q J' ≡ at q J)
    → AreMembers n list J' (set spaces (p - 1) new)
members_changed n list spaces J J' p old new members low there same stands others = record {
  each = length-set spaces (p - 1) new ∙ members.each;
  stand = λ place space got. by place space got (place == p - 1) refl;
}
  where
    number : p - 1 + 1 ≡ p
    number = omega (arith, low)

    before : IsMember n list J p old
    before = subst (λ (q : ℕ). IsMember n list J q old) number (members.stand (p - 1) old there)

    its : IsMember n list J' p new
    its = record {
      id = same.id ∙ before.id;
      count = same.n ∙ before.count;
      its_limits = before.its_limits ∙ ap Some (sym same.limits);
      stands = stands;
    }

    by : (place : ℕ) (space : Owner) → slice_get (set spaces (p - 1) new) place ≡ Some space → (t : Bool) → (place == p - 1) ≡ t → IsMember n list J' (place + 1) space
    by place space got true here =
        let here_is : place ≡ p - 1 = (Decides-eqb place (p - 1)).0 here in
        let is : space ≡ new = let both : Some space ≡ Some new = sym got ∙ ap (slice_get (set spaces (p - 1) new)) here_is ∙ get_set_same spaces (p - 1) old new there in cc in
        let next : p ≡ place + 1 = omega (arith, here_is, low) in
        subst (λ (q : ℕ). IsMember n list J' q space) next (subst (IsMember n list J' p) (sym is) its)
    by place space got false elsewhere =
        let apart : place ≡ p - 1 → ⊥ = λ e. let holds : true ≡ false = sym ((Decides-eqb place (p - 1)).1 e) ∙ elsewhere in absurd cc in
        let own = members.stand place space (sym (get_set_other spaces (p - 1) place new apart) ∙ got) in
        let differs : (p == place + 1) ≡ false = grind (arith, nat_tests, elsewhere, low) in
        record {
          id = own.id;
          count = own.count;
          its_limits = own.its_limits;
          stands = subst (StandsFor space) (sym (others (place + 1) differs)) own.stands;
        }

-- what was asked of a space
pub record Asked (n : ℕ) (list : List Limits) (J : List Entry) (spaces : List Owner) (entry : Entry) (k : ℕ) (old new : Owner) : Type 0 where
  pub members : AreMembers n list J spaces
  pub number : k ≡ entry.space - 1
  pub low : 1 ≤ entry.space
  pub high : entry.space ≤ length spaces
  pub old_is : old ≡ get_or spaces k old
  pub same : SameSpace old new

module _ {n : ℕ} {list : List Limits} {J : List Entry} {spaces : List Owner} {entry : Entry} {k : ℕ} {old new : Owner} (asked : Asked n list J spaces entry k old new) where
  old_there : slice_get spaces (entry.space - 1) ≡ Some old
  old_there = read_there spaces entry.space k old asked.number asked.low asked.high asked.old_is

  member_of : IsMember n list J entry.space old
  member_of = subst (λ (q : ℕ). IsMember n list J q old) (let number : entry.space - 1 + 1 ≡ entry.space = let low = asked.low in omega (arith, low) in number) (asked.members.stand (entry.space - 1) old old_there)

  -- where memory was wanted the spaces stand for what they stood for
  pub members_kept : ((L : List Entry) → StandsFor old L → StandsFor new L) → AreMembers n list J (set spaces k new)
  members_kept stands =
      subst (λ (j : ℕ). AreMembers n list J (set spaces j new)) (sym asked.number)
      (members_changed n list spaces J J entry.space old new asked.members asked.low old_there asked.same (stands (at entry.space J) member_of.stands) (λ q other. refl))

  -- else they stand for the entry too
  pub members_more : ((L : List Entry) → StandsFor old L → StandsFor new (entry_of old.id entry.event entry.result ∷ L)) → AreMembers n list (entry ∷ J) (set spaces k new)
  members_more stands =
      subst (λ (j : ℕ). AreMembers n list (entry ∷ J) (set spaces j new)) (sym asked.number)
      (members_changed n list spaces J (entry ∷ J) entry.space old new asked.members asked.low old_there asked.same
      (subst (StandsFor new) (sym (at_own entry J)) (subst (λ (q : ℕ). StandsFor new (entry_of q entry.event entry.result ∷ at entry.space J)) member_of.id (stands (at entry.space J) member_of.stands)))
      (λ q other. at_other entry q J other))

  -- what is right by the space's own numbers is by those of the world
  by_world : (its : Limits) → slice_get list (entry.space - 1) ≡ Some its → IsRight old.id old.n old.limits (entry_of old.id entry.event entry.result) (at entry.space J) → IsRight entry.space n its entry (at entry.space J)
  by_world its there right =
      let same : old.limits ≡ its = (let both : Some old.limits ≡ Some its = sym member_of.its_limits ∙ there in cc) in
      subst (λ (l : Limits). IsRight entry.space n l entry (at entry.space J)) same
      (subst (λ (m : ℕ). IsRight entry.space m old.limits entry (at entry.space J)) member_of.count
      (subst (λ (s : ℕ). IsRight s old.n old.limits (entry_of s entry.event entry.result) (at entry.space J)) member_of.id right))

  by_space : (its : Limits) → slice_get list (entry.space - 1) ≡ Some its → IsRight entry.space n its entry (at entry.space J) → IsRight old.id old.n old.limits (entry_of old.id entry.event entry.result) (at entry.space J)
  by_space its there right =
      let same : its ≡ old.limits = (let both : Some its ≡ Some old.limits = sym there ∙ member_of.its_limits in cc) in
      subst (λ (s : ℕ). IsRight s old.n old.limits (entry_of s entry.event entry.result) (at entry.space J)) (sym member_of.id)
      (subst (λ (m : ℕ). IsRight entry.space m old.limits entry (at entry.space J)) (sym member_of.count)
      (subst (λ (l : Limits). IsRight entry.space n l entry (at entry.space J)) same right))

  typed_of : IsOfTypes (entry_of old.id entry.event entry.result) → IsOfTypes entry
  typed_of typed = subst (λ (s : ℕ). IsOfTypes (entry_of s entry.event entry.result)) member_of.id typed

  -- what the space answered
  pub asked_of : (same : Bool)
      → ((L : List Entry) → StandsFor old L → (same ≡ true) ↔ IsRight old.id old.n old.limits (entry_of old.id entry.event entry.result) L)
      → (same ≡ true → (L : List Entry) → StandsFor old L → StandsFor new (entry_of old.id entry.event entry.result ∷ L))
      → (same ≡ true → IsOfTypes (entry_of old.id entry.event entry.result))
      → IsAnswered n list J (set spaces k new) entry same
  asked_of true right stands typed = (members_more (stands refl), typed_of (typed refl), λ its there. by_world its there ((right (at entry.space J) member_of.stands).0 refl))
  asked_of false right stands typed = λ its there is. (let holds : false ≡ true = (right (at entry.space J) member_of.stands).1 (by_space its there is) in absurd cc)

  -- the same, whatever came of it
  pub asked_by : {E : Type 0} (result : Result Bool E)
      → IfOk result (λ same. (L : List Entry) → StandsFor old L → (same ≡ true) ↔ IsRight old.id old.n old.limits (entry_of old.id entry.event entry.result) L)
      → IfOk result (λ same. same ≡ true → (L : List Entry) → StandsFor old L → StandsFor new (entry_of old.id entry.event entry.result ∷ L))
      → IfOk result (λ same. same ≡ true → IsOfTypes (entry_of old.id entry.event entry.result))
      → OnErr result ((L : List Entry) → StandsFor old L → StandsFor new L)
      → IsAsked n list J (set spaces k new) entry result
  asked_by (Ok same) right stands typed err = asked_of same right stands typed
  asked_by (Err error) right stands typed err = members_kept err

-- ---- places

pub places_more : (n : ℕ) (J : List Entry) (places : List ℕ) (entry : Entry) (k value : ℕ) → ArePlaces n J places → k ≡ entry.space - 1 → 1 ≤ entry.space → entry.space ≤ n → slice_get places (entry.space - 1) ≡ Some value → ArePlaces n (entry ∷ J) (set places k (value + 1))
places_more n J places entry k value are number low high there = record {
  each = length-set places k (value + 1) ∙ are.each;
  next = λ p first last. by p first last (entry.space == p) refl;
}
  where
    value_is : value ≡ length (at entry.space J) + 1
    value_is = let both : Some value ≡ Some (length (at entry.space J) + 1) = sym there ∙ are.next entry.space low high in cc

    own : slice_get (set places k (value + 1)) (entry.space - 1) ≡ Some (length (at entry.space (entry ∷ J)) + 1)
    own = subst (λ (j : ℕ). slice_get (set places j (value + 1)) (entry.space - 1) ≡ Some (length (at entry.space (entry ∷ J)) + 1)) (sym number)
        (get_set_same places (entry.space - 1) value (value + 1) there ∙ ap Some (ap (λ (v : ℕ). v + 1) value_is ∙ further ∙ ap (λ (L : List Entry). length L + 1) (sym (at_own entry J))))
      where
        further : length (at entry.space J) + 1 + 1 ≡ suc (length (at entry.space J)) + 1
        further = omega arith

    by : (p : ℕ) → 1 ≤ p → p ≤ n → (t : Bool) → (entry.space == p) ≡ t → slice_get (set places k (value + 1)) (p - 1) ≡ Some (length (at p (entry ∷ J)) + 1)
    by p first last true here = subst (λ (q : ℕ). slice_get (set places k (value + 1)) (q - 1) ≡ Some (length (at q (entry ∷ J)) + 1)) ((Decides-eqb entry.space p).0 here) own
    by p first last false elsewhere =
        let apart : p - 1 ≡ k → ⊥ = λ e. let two : p - 1 ≡ entry.space - 1 = e ∙ number in let one : entry.space ≡ p = omega (arith, two, low, first) in let holds : true ≡ false = sym ((Decides-eqb entry.space p).1 one) ∙ elsewhere in absurd cc in
        get_set_other places k (p - 1) (value + 1) apart ∙ are.next p first last ∙ ap (λ (L : List Entry). Some (length L + 1)) (sym (at_other entry p J elsewhere))

-- ---- spaces that did nothing

pub placed_push : {X : Type 0} (holds : ℕ → X → Type 0) (xs : List X) (x : X) → ((i : ℕ) (y : X) → slice_get xs i ≡ Some y → holds i y) → holds (length xs) x → (i : ℕ) (y : X) → slice_get (xs ++ x ∷ []) i ≡ Some y → holds i y
placed_push holds [] x all last zero y got = subst (holds zero) (let same : x ≡ y = cc in same) last
placed_push holds [] x all last (suc i) y got = absurd cc
placed_push holds (z ∷ xs) x all last zero y got = all zero y got
placed_push holds (z ∷ xs) x all last (suc i) y got = placed_push (λ j. holds (suc j)) xs x (λ j w there. all (suc j) w there) last i y got

-- a space that did nothing
pub member_new : (n : ℕ) (list : List Limits) (id k : ℕ) (own : Limits) (space : Owner) → k ≡ id - 1 → 1 ≤ id → id ≤ length list → own ≡ get_or list k own → space.id ≡ id → space.n ≡ n → space.limits ≡ own → StandsFor space [] → IsMember n list [] id space
member_new n list id k own space number low high is its_id its_n its_limits stands = record {
  id = its_id;
  count = its_n;
  its_limits = read_there list id k own number low high is ∙ ap Some (sym its_limits);
  stands = stands;
}

-- one more behind the others
pub members_push : (n : ℕ) (list : List Limits) (spaces : List Owner) (space : Owner) → ((place : ℕ) (own : Owner) → slice_get spaces place ≡ Some own → IsMember n list [] (place + 1) own) → IsMember n list [] (length spaces + 1) space → (place : ℕ) (own : Owner) → slice_get (spaces ++ space ∷ []) place ≡ Some own → IsMember n list [] (place + 1) own
members_push n list spaces space all last = placed_push (λ place own. IsMember n list [] (place + 1) own) spaces space all last

-- the next place of each space is the first one
pub places_none : (n : ℕ) → ArePlaces n [] (replicate n 1)
places_none n = record { each = length-replicate n 1; next = λ p first last. at n (p - 1) (omega (arith, first, last)) }
  where
    at : (n k : ℕ) → k < n → slice_get (replicate n 1) k ≡ Some (0 + 1)
    at zero k less = absurd (omega (arith, less))
    at (suc n) zero less = refl
    at (suc n) (suc k) less = at n k (omega (arith, less))
