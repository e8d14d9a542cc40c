-- What giving back loans makes of the table, one after another, and of all that is lent.
use Rattle.std.proofs.Common.{◌≡◌, ℕ, ◌+◌, ◌-◌, ◌<◌, Bool, true, false, cond, ◌==◌, List, [], ◌∷◌, ◌++◌, map, filter, flat_map, length, take, drop, get_or, None, if◌then◌else◌, refl, sym, ap, subst, ◌∙◌, arith}
use Prim.Native.Nat.{suc}
use Rattle.std.proofs.Math.Seq.{drop-cons}
use Rattle.std.proofs.lemmas.Grind.{flat_map-append}
use Rattle.std.specs.Borrow.{Bor}
use Rattle.std.proofs.lemmas.List.{append_assoc, append-nil, map-append, take_more, take-append-drop}
use Rattle.std.proofs.lemmas.List.Elements.{filter-append}
use Rattle.std.proofs.lemmas.Bool.Decides.{nat_tests}
use Rattle.nob_ids.specs.Names.{is_same}
use Rattle.nob_ids.specs.declared.wire_rep.WireRep.{WireRep}
use Rattle.nob_table_rows.specs.declared.counts.Counts.{Counts}
use Rattle.nob_table_rows.specs.declared.counts.Part.TheVariants.{Lent}
use Rattle.nob_table_rows.specs.declared.standing.Standing.{Standing}
use Rattle.nob_table_rows.specs.Counts.{is_held, fewer}
use Rattle.nob_rows.specs.Rows.{row_at}
use Rattle.nob_table_rows.specs.Standings.{is_known, after_release}
use Rattle.nob_table.specs.Table.{Table, standing, was_given, Becomes, ChangeLeaves, release_fault}
use Rattle.nob_table_rows.proofs.Same.{same_laws}
use Rattle.nob_pickle.specs.declared.value.Value.{Value}
use Rattle.nob_item.specs.declared.item.Item.{Item}
use Rattle.nob_item.specs.declared.item.Item.TheVariants as items
use Rattle.nob_model_types.specs.declared.message.Message.{Message}
use Rattle.nob_model_types.specs.declared.message.RefCopy.{RefCopy}
use Rattle.nob_model_work.specs.declared.work.Run.{Run}
use Rattle.nob_model_work.specs.Work.{is_run}
use Rattle.nob_model_history.specs.Holds.{times, is_lent, copies_lent, target_lent, loans_of}
use Rattle.nob_space_state.specs.Holds.{one_fewer}
use Rattle.nob_space_state.specs.Returns.{HasLent, GivesBack}
use Rattle.nob_space_state.specs.Shows.{TableShows}
use Rattle.nob_space_state.proofs.Counted.{held_known}
use Rattle.nob_space_state.proofs.Counted.{times_both}
use Rattle.nob_space_state.proofs.Shows.{one_row, forgets_counts, shows_lent_fewer}

-- how often a reference stands in a list of one
pub times_one : (rep other : WireRep) → times other (rep ∷ []) ≡ (if is_same rep other then 1 else 0)
times_one rep other = rw (same_laws.symm rep other) (elim (is_same other rep) as (λ b. length (cond b (rep ∷ []) []) ≡ (if b then 1 else 0)) [ true ↦ refl | false ↦ refl ])

-- one fewer is less by how often it stands in the list of one
fewer_by_one : (rep : WireRep) (holds : WireRep → ℕ) (other : WireRep) → one_fewer rep holds other ≡ holds other - times other (rep ∷ [])
fewer_by_one rep holds other = rw (times_one rep other) (elim (is_same rep other) as (λ b. (if b then holds other - 1 else holds other) ≡ holds other - (if b then 1 else 0)) [ true ↦ refl | false ↦ omega arith ])

-- a reference that is lent may be given back
pub lent_known : (t : Table) (rep : WireRep) → 0 < (standing t rep).counts.lent → release_fault t rep Lent ≡ None
lent_known t rep some =
    let held : is_held (standing t rep).counts ≡ true = grind (arith, nat_tests, some) in
    let count : (standing t rep).counts.lent == 0 ≡ false = grind (arith, nat_tests, some) in
    let known : is_known (standing t rep).state ≡ true = held_known (rep.owner == t.me) (was_given t.exported rep.index) (row_at t.objects rep) (row_at t.surrogates rep) (row_at t.counted rep) held in
    rw (known, count) refl

-- one loan that is given back
pub back_one : (t u : Table) (rep : WireRep) → release_fault t rep Lent ≡ None → Becomes t u rep (after_release Lent (standing t rep)) → ChangeLeaves t u → GivesBack t u (rep ∷ [])
back_one t u rep free becomes leaves =
    let it : Standing = standing t rep in
    record {
      counts = λ other. one_row (λ w after. after.counts.lent ≡ one_fewer rep (λ x. (standing t x).counts.lent) w) rep (standing t) (standing u) (after_release Lent it) becomes
          (ap (λ (c : Counts). c.lent) (forgets_counts it.state (fewer Lent it.counts)) ∙ rw (same_laws.refl rep) refl)
          (λ w differs. rw differs refl) other
          ∙ fewer_by_one rep (λ x. (standing t x).counts.lent) other;
      shows = λ s n h hand_of on_loan shows. subst (λ (loans : WireRep → ℕ). TableShows s n u h hand_of loans) (λ i other. fewer_by_one rep on_loan other i)
          (shows_lent_fewer s n h hand_of on_loan t u rep shows leaves free becomes);
    }

-- nothing that is given back
pub back_none : (t : Table) → GivesBack t t []
back_none t = record {
  counts = λ rep. omega arith;
  shows = λ s n h hand_of on_loan shows. subst (λ (loans : WireRep → ℕ). TableShows s n t h hand_of loans) (λ i other. same (on_loan other) i) shows;
}
  where
    same : (a : ℕ) → a ≡ a - 0
    same a = omega arith

less_twice : (a b c d : ℕ) → d ≡ b + c → (a - b) - c ≡ a - d
less_twice a b c d sum = omega (arith, sum)

-- some that are given back, and then others
pub back_then : (t u v : Table) (first last : List WireRep) → GivesBack t u first → GivesBack u v last → GivesBack t v (first ++ last)
back_then t u v first last one two = record {
  counts = λ rep. two.counts rep ∙ ap (λ k. k - times rep last) (one.counts rep) ∙ less_twice (standing t rep).counts.lent (times rep first) (times rep last) (times rep (first ++ last)) (times_both rep first last);
  shows = λ s n h hand_of on_loan shows. subst (λ (loans : WireRep → ℕ). TableShows s n v h hand_of loans) (λ i other. less_twice (on_loan other) (times other first) (times other last) (times other (first ++ last)) (times_both other first last) i)
      (two.shows s n h hand_of (λ other. on_loan other - times other first) (one.shows s n h hand_of on_loan shows));
}

-- what is lent besides those that were given back
pub lent_then : (t u : Table) (first last : List WireRep) → HasLent t (first ++ last) → GivesBack t u first → HasLent u last
lent_then t u first last lent back = λ rep.
    let all = lent rep in
    let both = times_both rep first last in
    let left = back.counts rep in
    omega (arith, all, both, left)

-- what is lent in front is lent
pub first_lent : (t : Table) (first last : List WireRep) → HasLent t (first ++ last) → HasLent t first
first_lent t first last lent = λ rep.
    let all = lent rep in
    let both = times_both rep first last in
    omega (arith, all, both)

-- ---- a walk over elements, each of which gives back what it has lent

module _ {X : Type 0} (lends : List X → List WireRep) (both : (xs ys : List X) → lends (xs ++ ys) ≡ lends xs ++ lends ys) (xs : List X) (i : ℕ) (x : X) (lt : i < length xs) (is : x ≡ get_or xs i x) where
  -- what the elements up to one have lent, and that one
  lends_more : lends (take (i + 1) xs) ≡ lends (take i xs) ++ lends (x ∷ [])
  lends_more = ap lends (take_more xs i x lt ∙ ap (λ y. take i xs ++ y ∷ []) (sym is)) ∙ both (take i xs) (x ∷ [])

  -- what all have lent, around one
  lends_all : lends xs ≡ lends (take i xs) ++ (lends (x ∷ []) ++ lends (drop (suc i) xs))
  lends_all =
      ap lends (sym (take-append-drop i xs) ∙ ap (λ ys. take i xs ++ ys) (drop-cons xs i x lt ∙ ap (λ y. y ∷ drop (suc i) xs) (sym is)))
      ∙ both (take i xs) (x ∷ drop (suc i) xs)
      ∙ ap (λ ys. lends (take i xs) ++ ys) (both (x ∷ []) (drop (suc i) xs))

  -- what the one has lent still is, where those before gave back theirs
  pub here_lent : (t u : Table) → HasLent t (lends xs) → GivesBack t u (lends (take i xs)) → HasLent u (lends (x ∷ []))
  here_lent t u lent back = first_lent u (lends (x ∷ [])) (lends (drop (suc i) xs)) (lent_then t u (lends (take i xs)) (lends (x ∷ []) ++ lends (drop (suc i) xs)) (subst (HasLent t) lends_all lent) back)

  -- once it gave back its own
  pub walk_more : (t u v : Table) → GivesBack t u (lends (take i xs)) → GivesBack u v (lends (x ∷ [])) → GivesBack t v (lends (take (i + 1) xs))
  walk_more t u v before here = subst (GivesBack t v) (sym lends_more) (back_then t u v (lends (take i xs)) (lends (x ∷ [])) before here)

-- ---- copies

pub copies_both : (xs ys : List RefCopy) → copies_lent (xs ++ ys) ≡ copies_lent xs ++ copies_lent ys
copies_both xs ys = ap (map (λ (copy : RefCopy). copy.rep)) (filter-append (λ (copy : RefCopy). is_lent copy.loan) xs ys) ∙ map-append (λ (copy : RefCopy). copy.rep) (filter (λ (copy : RefCopy). is_lent copy.loan) xs) (filter (λ (copy : RefCopy). is_lent copy.loan) ys)

-- a copy that is lent lends its reference, and another nothing
pub copy_lends : (copy : RefCopy) (b : Bool) → is_lent copy.loan ≡ b → copies_lent (copy ∷ []) ≡ (if b then copy.rep ∷ [] else [])
copy_lends copy true is = ap (λ (b : Bool). map (λ (one : RefCopy). one.rep) (cond b (copy ∷ []) [])) is
copy_lends copy false is = ap (λ (b : Bool). map (λ (one : RefCopy). one.rep) (cond b (copy ∷ []) [])) is

-- a reference that has a loan in a list is lent
pub one_lent : (t : Table) (rep : WireRep) → HasLent t (rep ∷ []) → 0 < (standing t rep).counts.lent
one_lent t rep lent =
    let here = lent rep in
    let once : times rep (rep ∷ []) ≡ 1 = times_one rep rep ∙ rw (same_laws.refl rep) refl in
    omega (arith, here, once)

-- ---- jobs

-- the one job of a number lends what its message lends
pub run_lends : (s j : ℕ) (runs : List Run) (run : Run) → filter (is_run j) runs ≡ run ∷ [] → flat_map (λ (one : Run). loans_of s one.message) (filter (is_run j) runs) ≡ loans_of s run.message
run_lends s j runs run alone = ap (flat_map (λ (one : Run). loans_of s one.message)) alone ∙ append-nil (loans_of s run.message)

-- what is no Call has lent no target
pub no_target : (s : ℕ) (item : Item) → ((call : ℕ) (target method : ℕ) (value : Value) → item ≡ items.Call call target method value → ⊥) → target_lent s item ≡ []
no_target s (items.Call call target method value) other = absurd (other call target method value refl)
no_target s (items.Reply call status value) other = refl
no_target s (items.Settle item) other = refl
no_target s (items.Dirty index) other = refl
no_target s (items.DirtyOk index) other = refl
no_target s (items.DirtyNo index) other = refl
no_target s (items.Clean index) other = refl

-- ---- what messages from a space have lent

-- messages that are passed one after the other
module _ (s : ℕ) where
  -- what the next message has lent still is, where those before gave back theirs
  pub next_lent : (t u : Table) (all before rest : List Message) (message : Message) → all ≡ before ++ message ∷ rest → HasLent t (flat_map (loans_of s) all) → GivesBack t u (flat_map (loans_of s) before) → HasLent u (loans_of s message)
  next_lent t u all before rest message is lent back =
      let apart : flat_map (loans_of s) all ≡ flat_map (loans_of s) before ++ (loans_of s message ++ flat_map (loans_of s) rest) = ap (flat_map (loans_of s)) is ∙ flat_map-append (loans_of s) before (message ∷ rest) in
      first_lent u (loans_of s message) (flat_map (loans_of s) rest) (lent_then t u (flat_map (loans_of s) before) (loans_of s message ++ flat_map (loans_of s) rest) (subst (HasLent t) apart lent) back)

  -- once it gave back its own
  pub next_back : (t u v : Table) (seen : List (Bor Message)) (message : Bor Message) → GivesBack t u (flat_map (loans_of s) (map (λ m. m.now) seen)) → GivesBack u v (loans_of s message.now) → GivesBack t v (flat_map (loans_of s) (map (λ m. m.now) (seen ++ message ∷ [])))
  next_back t u v seen message before here =
      subst (GivesBack t v)
      (sym (ap (flat_map (loans_of s)) (map-append (λ m. m.now) seen (message ∷ [])) ∙ flat_map-append (loans_of s) (map (λ m. m.now) seen) (message.now ∷ []) ∙ ap (λ reps. flat_map (loans_of s) (map (λ m. m.now) seen) ++ reps) (append-nil (loans_of s message.now))))
      (back_then t u v (flat_map (loans_of s) (map (λ m. m.now) seen)) (loans_of s message.now) before here)

-- the messages seen and those left are all, one step further
pub seen_more : (all left rest : List Message) (seen : List (Bor Message)) (message : Bor Message) → all ≡ map (λ m. m.now) seen ++ left → left ≡ message.now ∷ rest → all ≡ map (λ m. m.now) (seen ++ message ∷ []) ++ rest
seen_more all left rest seen message is steps =
    is ∙ ap (λ ms. map (λ m. m.now) seen ++ ms) steps ∙ sym (append_assoc (map (λ m. m.now) seen) (message.now ∷ []) rest) ∙ ap (λ ms. ms ++ rest) (sym (map-append (λ m. m.now) seen (message ∷ [])))
