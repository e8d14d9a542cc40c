-- A client that is granted a reference is listed for it: the owner acted on its last Dirty and answered it by DirtyOk, and
-- no Clean follows.
use Rattle.std.proofs.Common.{◌≡◌, ℕ, ◌+◌, ◌≤◌, ◌&&◌, not, Bool, true, false, List, [], ◌∷◌, ◌++◌, length, filter, Option, refl, sym, ap, subst, ◌∙◌, arith}
use Rattle.std.specs.Prelude.{◌<◌, nat_le}
use Rattle.std.proofs.lemmas.Bool.{and_parts, and_from, eqb-true, leb-true, leb-false}
use Rattle.std.proofs.lemmas.List.{append-nil, length-append, nil_from_length}
use Rattle.std.proofs.lemmas.List.Elements.{filter-append, filter_map-append}
use Rattle.nob_ids.specs.declared.limits.Limits.{Limits}
use Rattle.nob_ids.specs.declared.wire_rep.WireRep.{WireRep}
use Rattle.nob_item.specs.declared.item.Item.{Item}
use Rattle.nob_model_session.specs.Pair.{IsBeginning}
use Rattle.nob_model_types.specs.declared.entry.Entry.{Entry}
use Rattle.nob_model_types.specs.declared.turns.OwnerAnswer.TheVariants as said
use Rattle.nob_model_types.specs.declared.turns.Turns.{Turns}
use Rattle.nob_model_types.specs.Turns.{turns, is_granted, is_yes}
use Rattle.nob_model_journal.specs.Journals.{deeds_at, number_at, are_in_one, sent_in, sent_now, sent_to, acted_in, acted_from}
use Rattle.nob_model_journal.specs.Runs.{WorldRun}
use Rattle.nob_model_journal.specs.Fronts.{with_numbers, ActsInOrder}
use Rattle.nob_model_invariant.specs.Typed.{AreOfTypes}
use Rattle.nob_model_invariant.specs.Asking.{ask_in, answer_in, asks_among, answers_among, items_among, dirties_in, last_or, last_word, turns_by, asked, heard, was_asked, gave}
use Rattle.nob_model_invariant.specs.SafetyLaws.{ListingsLaw}
use Rattle.nob_model_invariant.proofs.Entries.{right_deeds_at}
use Rattle.nob_model_invariant.proofs.BySession.{sent_one, sent_back}
use Rattle.nob_model_invariant.proofs.EachSession.{none_sent_above}
use Rattle.nob_model_invariant.proofs.Order.{ActsNow, in_order_now}
use Rattle.nob_model_invariant.proofs.SafetyPoints.{clients, owners}

-- ---- what is acted on is a beginning of what is sent

items_numbered : (k : ℕ) (items : List Item) → items_among (with_numbers k items) ≡ items
items_numbered k [] = refl
items_numbered k (item ∷ items) = ap (λ more. item ∷ more) (items_numbered (k + 1) items)

-- what was acted on in a session and what stands behind it is what was sent in it
pub split_in : (n a b k : ℕ) (J : List Entry) → (begins : ActsInOrder n a b k J) → items_among (acted_in a b k J) ++ items_among begins.0 ≡ sent_in n a b k J
split_in n a b k J begins = sym (filter_map-append (λ (pair : ℕ × Option Item). pair.1) (acted_in a b k J) begins.0) ∙ ap items_among begins.1 ∙ items_numbered 1 (sent_in n a b k J)

-- so it is in the one in which the space is that acts
pub items_split : (n a b : ℕ) (J : List Entry) → (begins : ActsNow n a b J) → items_among (acted_from a b J) ++ items_among begins.0 ≡ sent_to n a b J
items_split n a b J begins = sym (filter_map-append (λ (pair : ℕ × Option Item). pair.1) (acted_from a b J) begins.0) ∙ ap items_among begins.1 ∙ items_numbered 1 (sent_to n a b J)

-- the items that were acted on are a beginning of those that were sent
pub items_begin : (n a b : ℕ) (J : List Entry) → ActsNow n a b J → IsBeginning (items_among (acted_from a b J)) (sent_to n a b J)
items_begin n a b J begins =
    (items_among begins.0, items_split n a b J begins)

-- and so is what they ask and answer
pub asks_begin : (x : ℕ) (acted sent : List Item) → IsBeginning acted sent → IsBeginning (asks_among x acted) (asks_among x sent)
asks_begin x acted sent begins = (asks_among x begins.0, sym (filter_map-append (ask_in x) acted begins.0) ∙ ap (asks_among x) begins.1)

pub answers_begin : (x : ℕ) (acted sent : List Item) → IsBeginning acted sent → IsBeginning (answers_among x acted) (answers_among x sent)
answers_begin x acted sent begins = (answers_among x begins.0, sym (filter_map-append (answer_in x) acted begins.0) ∙ ap (answers_among x) begins.1)

-- ---- counts

pub dirties_append : (asks more : List Bool) → dirties_in (asks ++ more) ≡ dirties_in asks + dirties_in more
dirties_append asks more = ap length (filter-append (λ (b : Bool). b) asks more) ∙ length-append (filter (λ (b : Bool). b) asks) (filter (λ (b : Bool). b) more)

last_append : (before : Bool) (asks more : List Bool) → last_or before (asks ++ more) ≡ last_or (last_or before asks) more
last_append before [] more = refl
last_append before (ask ∷ asks) more = last_append ask asks more

-- where the last is a Dirty and no Dirty is among some, what stands before them is one
last_before : (before : Bool) (more : List Bool) → dirties_in more ≡ 0 → last_or before more ≡ true → before ≡ true
last_before before [] none is = is
last_before before (true ∷ more) none is = absurd (omega (arith, none))
last_before before (false ∷ more) none is = absurd (let clash = last_before false more none is in cc)

-- ---- plain values

-- where as many answers were heard as Dirties were sent, the owner acted on all of these and all of its answers were heard
granted_ends : (asked was_asked heard gave : List Bool) → IsBeginning was_asked asked → IsBeginning heard gave → length heard ≡ dirties_in asked → length gave ≡ dirties_in was_asked → last_or false asked ≡ true → (last_or false was_asked ≡ true) × (gave ≡ heard)
granted_ends asked was_asked heard gave asks answers heard_all gave_all last =
    let sent = ap dirties_in (sym asks.1) ∙ dirties_append was_asked asks.0 in
    let told = ap length (sym answers.1) ∙ length-append heard answers.0 in
    let no_more : dirties_in asks.0 ≡ 0 = omega (arith, sent, told, heard_all, gave_all) in
    let no_answer : length answers.0 ≡ 0 = omega (arith, sent, told, heard_all, gave_all) in
    (last_before (last_or false was_asked) asks.0 no_more (sym (last_append false was_asked asks.0) ∙ ap (last_or false) asks.1 ∙ last), sym answers.1 ∙ ap (λ more. heard ++ more) (nil_from_length answers.0 no_answer) ∙ append-nil heard)

-- what is granted: a Dirty is the last, each is answered, and the last answer is DirtyOk
granted_parts : (t : Turns) → is_granted t ≡ true → (t.asks ≡ true) × (t.answers ≡ t.dirties) × (is_yes t.last ≡ true)
granted_parts t granted =
    let parts = and_parts _ _ granted in
    let asks = and_parts _ _ parts.0 in
    (asks.0, eqb-true _ _ asks.1, parts.1)

-- ---- in a run

-- in a session in which both are, what the owner acted on of what it is asked is a beginning of what the client asked
pub asks_now : (n : ℕ) (J : List Entry) (c o x : ℕ) → are_in_one c o J ≡ true → ActsNow n c o J → IsBeginning (was_asked o c x J) (asks_among x (sent_now n c o J))
asks_now n J c o x one there = subst (λ all. IsBeginning (was_asked o c x J) (asks_among x all)) (sent_one n c o J one) (asks_begin x (items_among (acted_from c o J)) (sent_to n c o J) (items_begin n c o J there))

-- and what the client heard is a beginning of what the owner answered
pub answers_now : (n : ℕ) (J : List Entry) (c o x : ℕ) → are_in_one c o J ≡ true → ActsNow n o c J → IsBeginning (answers_among x (items_among (acted_from o c J))) (gave n o c x J)
answers_now n J c o x one back = subst (λ all. IsBeginning (answers_among x (items_among (acted_from o c J))) (answers_among x all)) (sent_back n c o J one) (answers_begin x (items_among (acted_from o c J)) (sent_to n o c J) (items_begin n o c J back))

-- whoever is granted a reference is entered for it
pub granted_entered : (n : ℕ) (J : List Entry) (c : ℕ) (rep : WireRep) → are_in_one c rep.owner J ≡ true → ActsNow n c rep.owner J → ActsNow n rep.owner c J → turns c n rep (deeds_at c J) ≡ turns_by (asked n c rep J) (heard c rep J) → length (gave n rep.owner c rep.index J) ≡ dirties_in (was_asked rep.owner c rep.index J) → is_granted (turns c n rep (deeds_at c J)) ≡ true → (last_or false (was_asked rep.owner c rep.index J) && is_yes (last_word said.Pending (gave n rep.owner c rep.index J))) ≡ true
granted_entered n J c rep one there back are each granted =
    let parts = granted_parts (turns_by (asked n c rep J) (heard c rep J)) (ap is_granted (sym are) ∙ granted) in
    let ends = granted_ends (asked n c rep J) (was_asked rep.owner c rep.index J) (heard c rep J) (gave n rep.owner c rep.index J) (asks_now n J c rep.owner rep.index one there) (answers_now n J c rep.owner rep.index one back) parts.1 each parts.0 in
    and_from _ _ ends.0 (ap (λ bs. is_yes (last_word said.Pending bs)) ends.1 ∙ parts.2)

-- what is granted was granted in a session to which its owner came
pub granted_reached : (n c : ℕ) (limits : ℕ → Limits) (J : List Entry) (rep : WireRep) → WorldRun n limits J → AreOfTypes J → is_granted (turns c n rep (deeds_at c J)) ≡ true → number_at c rep.owner J ≤ number_at rep.owner c J
granted_reached n c limits J rep run typed granted = by (nat_le (number_at c rep.owner J) (number_at rep.owner c J)) refl
  where
    o : ℕ
    o = rep.owner

    -- an owner that hasn't come to it answered nothing in it
    never : number_at o c J < number_at c o J → ⊥
    never above =
        let begins = answers_begin rep.index (items_among (acted_from o c J)) (sent_to n o c J) (items_begin n o c J (in_order_now n limits J run typed o c)) in
        let none : sent_to n o c J ≡ [] = none_sent_above o n c (number_at c o J) (limits o) (deeds_at o J) (right_deeds_at n limits J run o) above in
        let size = sym (length-append (heard c rep J) begins.0) ∙ ap length begins.1 ∙ ap (λ all. length (answers_among rep.index all)) none in
        let parts = granted_parts (turns_by (asked n c rep J) (heard c rep J)) (ap is_granted (sym ((clients n limits J run).turns_are c rep)) ∙ granted) in
        let each = parts.1 in
        let clash : false ≡ true = last_before false (asked n c rep J) (omega (arith, size, each)) parts.0 in
        cc

    by : (b : Bool) → nat_le (number_at c o J) (number_at o c J) ≡ b → number_at c o J ≤ number_at o c J
    by true is = leb-true (number_at c o J) (number_at o c J) is
    by false is = absurd (never (let above = leb-false (number_at c o J) (number_at o c J) is in omega (arith, above)))

pub listings : ListingsLaw
listings n limits J run typed = record {
  granted_listed = λ c rep granted one up.
      let entered = (owners n limits J run).entered rep.owner c rep.index ∙ granted_entered n J c rep one (in_order_now n limits J run typed c rep.owner) (in_order_now n limits J run typed rep.owner c) ((clients n limits J run).turns_are c rep) ((owners n limits J run).answered rep.owner c rep.index).each granted in
      and_from _ _ (ap not up) entered;
}
