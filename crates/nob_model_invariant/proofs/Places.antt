-- Notes of the collector come in their place: a Dirty and a Clean are of an object that was exported, and an answer is to a
-- Dirty that waits for it.
use Rattle.std.proofs.Common.{◌≡◌, ℕ, ◌+◌, ◌≤◌, not, Bool, true, false, cond, List, ◌∷◌, ◌++◌, length, Option, Some, None, refl, sym, ap, subst, ◌∙◌, arith, ◌⊎◌, inl, inr}
use Rattle.std.specs.Prelude.{◌==◌}
use Rattle.std.specs.List.{slice_get, cons_option}
use Rattle.std.proofs.lemmas.Bool.{and_parts, and_from, or_from, eq-eqb, ne_eqb, leb-true, not_from_true}
use Rattle.std.proofs.lemmas.List.{length-append}
use Rattle.std.proofs.lemmas.List.Elements.{filter_map-append}
use Rattle.nob_ids.specs.declared.reason.Reason.TheVariants.{BadReference, OutOfPlace}
use Rattle.nob_ids.specs.declared.reason.Reason.{Reason}
use Rattle.nob_ids.specs.declared.limits.Limits.{Limits}
use Rattle.nob_ids.specs.declared.wire_rep.WireRep.{WireRep}
use Rattle.nob_item.specs.declared.item.Item.{Item}
use Rattle.nob_item.specs.declared.item.Item.TheVariants as items
use Rattle.nob_model_types.specs.declared.entry.Entry.{Entry}
use Rattle.nob_model_types.specs.Objects.{is_exported}
use Rattle.nob_model_types.specs.Turns.{is_pending}
use Rattle.nob_model_acting.specs.Acting.{fault_if, fault_of, is_unknown, awaits_answer}
use Rattle.nob_model.proofs.Orderly.{exported}
use Rattle.nob_model_journal.specs.Journals.{deeds_at, history_at, number_at, sent_in, sent_now, sent_to, acted_from}
use Rattle.nob_model_journal.specs.Runs.{WorldRun}
use Rattle.nob_model_invariant.specs.Typed.{AreOfTypes}
use Rattle.nob_model_invariant.specs.Asking.{ask_in, answer_in, asks_among, answers_among, items_among, dirties_in, last_or, turns_by, AskedInTurn, asked, heard, was_asked}
use Rattle.nob_model_invariant.specs.Naming.{NamesExported}
use Rattle.nob_model_holdings.proofs.Lists.{all_at, next_of_rest}
use Rattle.nob_model_invariant.proofs.Numbered.{numbered_at}
use Rattle.nob_model_invariant.proofs.Entries.{right_deeds_at}
use Rattle.nob_model_invariant.proofs.BySession.{bounded_in}
use Rattle.nob_model_invariant.proofs.Order.{ActsNow, in_order_now}
use Rattle.nob_model_invariant.proofs.Naming.{names}
use Rattle.nob_model_invariant.proofs.SafetyPoints.{clients, owners}
use Rattle.nob_model_invariant.proofs.Listings.{items_split, items_begin, asks_begin, dirties_append}

-- an item is the next that b acts on from a
abbrev pub IsNext : (n a b : ℕ) → Item → List Entry → Type 0
IsNext n a b item J = slice_get (sent_to n a b J) (length (acted_from a b J)) ≡ Some item

-- ---- objects that were exported

-- what was exported isn't unknown
known_index : (s n x : ℕ) (limits : ℕ → Limits) (J : List Entry) → WorldRun n limits J → is_exported s x (deeds_at s J) ≡ true → is_unknown s x (history_at s n J) ≡ false
known_index s n x limits J run known =
    let low = leb-true 1 x (and_parts _ _ (sym (exported s n (limits s) (deeds_at s J) (right_deeds_at n limits J run s) x) ∙ known)).0 in
    or_from (x == 0) (not (is_exported s x (deeds_at s J))) (ne_eqb x 0 (λ none. omega (arith, low, none))) (not_from_true _ known)

-- the next item names what was exported
next_names : (n a b : ℕ) (limits : ℕ → Limits) (item : Item) (J : List Entry) → WorldRun n limits J → AreOfTypes J → IsNext n a b item J → NamesExported J b item
next_names n a b limits item J run typed next = all_at (NamesExported J b) (sent_to n a b J) (length (acted_from a b J)) item ((names n limits J run typed).exported a b (number_at b a J)) next

-- ---- answers

-- what stands behind what was acted on begins with the next item
pub rest_next : (n a b : ℕ) (item : Item) (J : List Entry) → (begins : ActsNow n a b J) → IsNext n a b item J → (more : List (ℕ × Option Item)) × (begins.0 ≡ (1 + length (acted_from a b J), Some item) ∷ more)
rest_next n a b item J begins next =
    next_of_rest (acted_from a b J) begins.0 (1 + length (acted_from a b J), Some item)
    (subst (λ pairs. slice_get pairs (length (acted_from a b J)) ≡ Some (1 + length (acted_from a b J), Some item)) (sym begins.1) (numbered_at 1 (sent_to n a b J) (length (acted_from a b J)) item next))

one_first : (x : ℕ) (item : Item) (w : Bool) (rest : List Item) → answer_in x item ≡ Some w → 1 ≤ length (answers_among x (item ∷ rest))
one_first x item w rest is = subst (λ one. 1 ≤ length (cons_option one (answers_among x rest))) (sym is) (omega arith)

-- an answer that comes next wasn't heard yet
fewer_heard : (n o c x : ℕ) (item : Item) (w : Bool) (J : List Entry) → ActsNow n o c J → IsNext n o c item J → answer_in x item ≡ Some w → length (answers_among x (items_among (acted_from o c J))) + 1 ≤ length (answers_among x (sent_to n o c J))
fewer_heard n o c x item w J begins next is =
    let rest = rest_next n o c item J begins next in
    let acted : List Item = items_among (acted_from o c J) in
    let behind : List Item = items_among begins.0 in
    let some : 1 ≤ length (answers_among x behind) = subst (λ pairs. 1 ≤ length (answers_among x (items_among pairs))) (sym rest.1) (one_first x item w (items_among rest.0) is) in
    let whole : answers_among x acted ++ answers_among x behind ≡ answers_among x (sent_to n o c J) = sym (filter_map-append (answer_in x) acted behind) ∙ ap (answers_among x) (items_split n o c J begins) in
    let size = ap length (sym whole) ∙ length-append (answers_among x acted) (answers_among x behind) in
    omega (arith, some, size)

more_answers : (x : ℕ) (xs ys : List Item) → dirties_in (asks_among x xs) ≤ dirties_in (asks_among x (xs ++ ys))
more_answers x xs ys = let whole = ap dirties_in (filter_map-append (ask_in x) xs ys) ∙ dirties_append (asks_among x xs) (asks_among x ys) in omega (arith, whole)

-- in each session an owner answered no more Dirties than the client sent
fewer_answers : (n o c x k : ℕ) (limits : ℕ → Limits) (J : List Entry) → WorldRun n limits J → AreOfTypes J → length (answers_among x (sent_in n o c k J)) ≤ dirties_in (asks_among x (sent_in n c o k J))
fewer_answers n o c x k limits J run typed = bounded_in n o c k limits (λ all. length (answers_among x all)) (λ all. dirties_in (asks_among x all)) refl (more_answers x) present J run typed
  where
    present : (J : List Entry) → WorldRun n limits J → AreOfTypes J → length (answers_among x (sent_now n o c J)) ≤ dirties_in (asks_among x (sent_to n c o J))
    present J run typed =
        let each = ((owners n limits J run).answered o c x).each in
        let asks = asks_begin x (items_among (acted_from c o J)) (sent_to n c o J) (items_begin n c o J (in_order_now n limits J run typed c o)) in
        let sent = ap dirties_in (sym asks.1) ∙ dirties_append (was_asked o c x J) asks.0 in
        omega (arith, each, sent)

pending_by : (asks answers : List Bool) → AskedInTurn asks answers → length answers + 1 ≤ dirties_in asks → is_pending (turns_by asks answers) ≡ true
pending_by asks answers turn fewer = by turn.counts
  where
    by : (length answers ≡ dirties_in asks) ⊎ ((length answers + 1 ≡ dirties_in asks) × (last_or false asks ≡ true)) → is_pending (turns_by asks answers) ≡ true
    by (inl same) = absurd (omega (arith, same, fewer))
    by (inr waits) = and_from _ _ waits.1 (eq-eqb _ _ waits.0)

-- an answer that comes next is to a Dirty that waits for it
answer_waited : (n o c x : ℕ) (limits : ℕ → Limits) (item : Item) (w : Bool) (J : List Entry) → WorldRun n limits J → AreOfTypes J → IsNext n o c item J → answer_in x item ≡ Some w → awaits_answer c n o x (history_at c n J) ≡ true
answer_waited n o c x limits item w J run typed next is =
    let rep : WireRep = record { owner = o; index = x } in
    let less = fewer_heard n o c x item w J (in_order_now n limits J run typed o c) next is in
    let most = fewer_answers n o c x (number_at c o J) limits J run typed in
    let fewer : length (heard c rep J) + 1 ≤ dirties_in (asked n c rep J) = omega (arith, less, most) in
    ap is_pending ((clients n limits J run).turns_are c rep) ∙ pending_by (asked n c rep J) (heard c rep J) ((clients n limits J run).taken c rep) fewer

-- ---- faults

no_fault : (test : Bool) (reason : Reason) → test ≡ false → fault_if test reason ≡ None
no_fault true reason e = cc
no_fault false reason e = refl

own_answer : (x : ℕ) (w : Bool) → cond (x == x) (Some w) None ≡ Some w
own_answer x w = ap (λ (b : Bool). cond b (Some w) None) (eq-eqb x x refl)

-- a Dirty, a Clean and an answer that come next have no fault
pub note_in_place : (n a b : ℕ) (limits : ℕ → Limits) (J : List Entry) (index : ℕ) → WorldRun n limits J → AreOfTypes J
    → (IsNext n a b (items.Dirty index) J → fault_of b n a (items.Dirty index) (history_at b n J) ≡ None) × (IsNext n a b (items.Clean index) J → fault_of b n a (items.Clean index) (history_at b n J) ≡ None)
    × (IsNext n a b (items.DirtyOk index) J → fault_of b n a (items.DirtyOk index) (history_at b n J) ≡ None) × (IsNext n a b (items.DirtyNo index) J → fault_of b n a (items.DirtyNo index) (history_at b n J) ≡ None)
unfolding fault_of
note_in_place n a b limits J index run typed = (
  λ next. no_fault _ BadReference (known_index b n index limits J run (next_names n a b limits (items.Dirty index) J run typed next).0),
  λ next. no_fault _ BadReference (known_index b n index limits J run (next_names n a b limits (items.Clean index) J run typed next).0),
  λ next. no_fault _ OutOfPlace (not_from_true _ (answer_waited n a b index limits (items.DirtyOk index) true J run typed next (own_answer index true))),
  λ next. no_fault _ OutOfPlace (not_from_true _ (answer_waited n a b index limits (items.DirtyNo index) false J run typed next (own_answer index false))),
)
