-- It is enough to look at the spaces, sessions and references that a journal speaks of.
use Rattle.std.proofs.Common.{◌≡◌, ◌&&◌, ◌||◌, ℕ, Bool, true, false, cond, List, [], ◌∷◌, ◌++◌, refl, sym, ap, true≢false, ◌∙◌}
use Rattle.std.specs.Prelude.{◌==◌}
use Rattle.std.specs.Bool.{Decides}
use Rattle.std.specs.List.{list_any, list_all, AllByRecursion}
use Rattle.std.proofs.lemmas.Bool.{and_parts, and_from, eqb-true}
use Rattle.std.proofs.lemmas.Bool.Decides.{Decides-and}
use Rattle.nob_ids.specs.Names.{is_same}
use Rattle.nob_ids.specs.declared.wire_rep.WireRep.{WireRep}
use Rattle.nob_model_types.specs.declared.entry.Entry.{Entry}
use Rattle.nob_model_types.specs.Deeds.{deeds}
use Rattle.nob_model_types.specs.Sessions.{number, item_at}
use Rattle.nob_model_types.specs.declared.deed.Deed.{Deed}
use Rattle.nob_model_types.specs.declared.deed.Deed.TheVariants.{Act}
use Rattle.nob_model_history.proofs.Turning.{same_ref}
use Rattle.nob_model_journal.specs.Journals.{at, deeds_at, acted_during, Each}
use Rattle.nob_model_journal.specs.Tests.{spaces_in, sessions_in, each}

-- whether a number is one of these
abbrev pub is_in : ℕ → List ℕ → Bool
is_in s xs = list_any (λ other. other == s) xs

-- whether a session, a peer with a number, is one of these
abbrev pub is_session_in : (p k : ℕ) → List (ℕ × ℕ) → Bool
is_session_in p k xs = list_any (λ (other : ℕ × ℕ). other.0 == p && other.1 == k) xs

-- ---- all of a list

-- what holds of everything holds of each
pub all_of : {A : Type 0} (test : A → Bool) (xs : List A) → ((x : A) → test x ≡ true) → list_all test xs ≡ true
all_of test [] holds = refl
all_of test (x ∷ xs) holds = and_from (test x) (list_all test xs) (holds x) (all_of test xs holds)

either_way : (a b : Bool) (P : Type 0) → (a || b) ≡ true → (a ≡ true → P) → (b ≡ true → P) → P
either_way true b P h left right = left refl
either_way false b P h left right = right h

-- what holds of each holds of what is found among them by a test that finds nothing else
pub one_of : {A : Type 0} (test found : A → Bool) (wanted : A) (xs : List A) → ((x : A) → found x ≡ true → x ≡ wanted) → list_all test xs ≡ true → list_any found xs ≡ true → test wanted ≡ true
one_of test found wanted [] same all some = absurd (true≢false (sym some))
one_of test found wanted (x ∷ xs) same all some =
    let parts = and_parts (test x) (list_all test xs) all in
    either_way (found x) (list_any found xs) _ some (λ here. ap test (sym (same x here)) ∙ parts.0) (one_of test found wanted xs same parts.1)

-- of a space
pub of_space : (test : ℕ → Bool) (s : ℕ) (xs : List ℕ) → list_all test xs ≡ true → is_in s xs ≡ true → test s ≡ true
of_space test s xs all some = one_of test (λ other. other == s) s xs (λ x h. eqb-true x s h) all some

-- a session that is found to be one is that one
same_session : (p k : ℕ) (x : ℕ × ℕ) → (x.0 == p && x.1 == k) ≡ true → x ≡ (p, k)
same_session p k x h =
    let parts = and_parts (x.0 == p) (x.1 == k) h in
    let peer : x.0 ≡ p = eqb-true x.0 p parts.0 in
    let session : x.1 ≡ k = eqb-true x.1 k parts.1 in
    λ i. (peer i, session i)

-- of a session
pub of_session : (test : ℕ × ℕ → Bool) (p k : ℕ) (xs : List (ℕ × ℕ)) → list_all test xs ≡ true → is_session_in p k xs ≡ true → test (p, k) ≡ true
of_session test p k xs all some = one_of test (λ (other : ℕ × ℕ). other.0 == p && other.1 == k) (p, k) xs (same_session p k) all some

-- of a reference
pub of_rep : (test : WireRep → Bool) (rep : WireRep) (xs : List WireRep) → list_all test xs ≡ true → list_any (is_same rep) xs ≡ true → test rep ≡ true
of_rep test rep xs all some = one_of test (is_same rep) rep xs (λ x h. sym (same_ref rep x h)) all some

-- a test of each decides what it decides of one
pub all_decides : {A : Type 0} (test : A → Bool) (P : A → Type 0) → ((x : A) → Decides (test x) (P x)) → (xs : List A) → Decides (list_all test xs) (AllByRecursion P xs)
all_decides test P one [] = (λ _. tt, λ _. refl)
all_decides test P one (x ∷ xs) = Decides-and (test x) (list_all test xs) (one x) (all_decides test P one xs)

-- and of each entry with those before it
pub each_decides : (test : Entry → List Entry → Bool) (P : Entry → List Entry → Type 0) → ((entry : Entry) (J : List Entry) → Decides (test entry J) (P entry J)) → (J : List Entry) → Decides (each test J) (Each P J)
each_decides test P one [] = (λ _. tt, λ _. refl)
each_decides test P one (entry ∷ J) = Decides-and (test entry J) (each test J) (one entry J) (each_decides test P one J)

-- ---- who isn't spoken of

not_either : (a b : Bool) → (a || b) ≡ false → (a ≡ false) × (b ≡ false)
not_either true b h = absurd (true≢false h)
not_either false b h = (refl, h)

-- who isn't among some and one more is neither
apart : (s t : ℕ) (xs : List ℕ) (b : Bool) → is_in t xs ≡ b → is_in s (cond b xs (t ∷ xs)) ≡ false → (t == s ≡ false) × (is_in s xs ≡ false)
apart s t xs false new none = not_either (t == s) (is_in s xs) none
apart s t xs true there none = by (t == s) refl
  where
    by : (b : Bool) → t == s ≡ b → (t == s ≡ false) × (is_in s xs ≡ false)
    by true same = absurd (true≢false (sym there ∙ ap (λ k. is_in k xs) (eqb-true t s same) ∙ none))
    by false other = (other, none)

-- a space that isn't spoken of has no entry
no_entry : (s : ℕ) (J : List Entry) → is_in s (spaces_in J) ≡ false → at s J ≡ []
no_entry s [] none = refl
no_entry s (entry ∷ J) none =
    let parts = apart s entry.space (spaces_in J) (is_in entry.space (spaces_in J)) refl none in
    ap (λ (b : Bool). cond b (entry ∷ at s J) (at s J)) parts.0 ∙ no_entry s J parts.1

-- and did nothing
pub no_deed : (s : ℕ) (J : List Entry) → is_in s (spaces_in J) ≡ false → deeds_at s J ≡ []
no_deed s J none = ap deeds (no_entry s J none)

-- a session that isn't among some and one more is neither
session_apart : (p k q m : ℕ) (xs : List (ℕ × ℕ)) (b : Bool) → is_session_in q m xs ≡ b → is_session_in p k (cond b xs ((q, m) ∷ xs)) ≡ false → ((q == p && m == k) ≡ false) × (is_session_in p k xs ≡ false)
session_apart p k q m xs false new none = not_either (q == p && m == k) (is_session_in p k xs) none
session_apart p k q m xs true there none = by (q == p && m == k) refl
  where
    by : (b : Bool) → (q == p && m == k) ≡ b → ((q == p && m == k) ≡ false) × (is_session_in p k xs ≡ false)
    by true same =
        let parts = and_parts (q == p) (m == k) same in
        let peer : q ≡ p = eqb-true q p parts.0 in
        let session : m ≡ k = eqb-true m k parts.1 in
        let found : is_session_in q m xs ≡ is_session_in p k xs = λ i. is_session_in (peer i) (session i) xs in
        absurd (true≢false (sym there ∙ found ∙ none))
    by false other = (other, none)

-- the number of the session with p is asked for where the item is from p
of_peer : (p k q : ℕ) (D : List Deed) → (q == p && number p D == k) ≡ (q == p && number q D == k)
of_peer p k q D = by (q == p) refl
  where
    by : (b : Bool) → (q == p) ≡ b → (b && number p D == k) ≡ (b && number q D == k)
    by true same = ap (λ (r : ℕ). number r D == k) (sym (eqb-true q p same))
    by false other = refl

-- nothing was acted on in a session that isn't among those in which items were
pub no_item : (p k : ℕ) (D : List Deed) → is_session_in p k (sessions_in D) ≡ false → acted_during p k D ≡ []
no_item p k [] none = refl
no_item p k (Act q j ∷ D) none =
    let parts = session_apart p k q (number q D) (sessions_in D) (is_session_in q (number q D) (sessions_in D)) refl none in
    ap (λ (b : Bool). cond b (acted_during p k D ++ (j, item_at p j D) ∷ []) (acted_during p k D)) (of_peer p k q D ∙ parts.0) ∙ no_item p k D parts.1
no_item p k (_ ∷ D) none = no_item p k D none
