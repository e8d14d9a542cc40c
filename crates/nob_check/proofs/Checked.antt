-- What is tested by the ledgers of a journal is what the journal's own tests say.
use Rattle.std.proofs.Common.{◌≡◌, ◌&&◌, ℕ, Bool, true, false, cond, List, [], ◌∷◌, ◌++◌, Option, Some, None, map, filter, find, ◌||◌, refl, sym, ap, ◌∙◌}
use Rattle.std.specs.Prelude.{◌==◌, not}
use Rattle.std.specs.List.{list_all}
use Rattle.std.proofs.lemmas.Bool.{eqb-true}
use Rattle.std.proofs.lemmas.List.{map-append, append-nil}
use Rattle.std.proofs.lemmas.List.Elements.{filter-append}
use Rattle.std.proofs.lemmas.List.Folds.{list_all-map}
use Rattle.nob_ids.specs.declared.wire_rep.WireRep.{WireRep}
use Rattle.nob_item.specs.declared.item.Item.{Item}
use Rattle.nob_model_types.specs.declared.entry.Entry.{Entry}
use Rattle.nob_model_types.specs.Sessions.{number, item_at}
use Rattle.nob_model_types.specs.Turns.{is_own}
use Rattle.nob_model_types.specs.declared.deed.Deed.{Deed}
use Rattle.nob_model_types.specs.declared.deed.Deed.TheVariants.{Act, Withdraw}
use Rattle.nob_model_work.specs.Gifts.{all_gifts}
use Rattle.nob_model_history.specs.Transit.{sent}
use Rattle.nob_model_history.specs.declared.transit.SentItem.{SentItem}
use Rattle.nob_model.specs.Right.{own_ref}
use Rattle.nob_model_journal.specs.Journals.{deeds_at, history_at, number_at, both_open, acted_during, acted_in, sent_in}
use Rattle.nob_model_journal.specs.Losses.{is_loss, is_source, was_with_owner, is_excuse, sources}
use Rattle.nob_model_journal.specs.declared.losses.Source.{Source}
use Rattle.nob_model_journal.specs.Tests.{spaces_in, sessions_in, is_front, is_unneeded, reps_at_risk, is_excused, is_lossless, acts_while_open, sends_while_open, has_fronts, keeps_fronts}
use Rattle.nob_check_ledgers.specs.Ledgers.{acted_items}
use Rattle.nob_check_ledgers.specs.declared.lists.ActedItem.{ActedItem}
use Rattle.nob_check_ledgers.specs.declared.ledger.Ledger.{Ledger}
use Rattle.nob_check.specs.Books.{books_of, find_ledger, did_by, sent_by}
use Rattle.nob_check.specs.Checks.{needs_by, is_unneeded_by, was_with_owner_by, is_excuse_by, is_act_excused_by, is_lossless_in, is_lossless_by, is_acted_in, acted_from_by, items_to, is_in_order_by, has_fronts_by, keeps_fronts_by}
use Rattle.nob_model_journal.proofs.Looking.{is_in, no_deed}
use Rattle.nob_check.proofs.Ledgers.{ledger_at, found_at, did_same, sent_is, sent_same}

-- whether a deed isn't the withdrawal of what a space needs
pub unneeded_is : (n s : ℕ) (deed : Option Deed) (J : List Entry) → is_unneeded_by s deed (books_of n J) ≡ is_unneeded n s deed J
unneeded_is n s None J = refl
unneeded_is n s (Some (Withdraw index)) J =
    list_all-map (λ (ledger : Ledger). not (needs_by (did_by (books_of n J)) (own_ref s index) ledger)) (ledger_at n J) (spaces_in J)
    ∙ ap (λ (did : ℕ → List Deed). list_all (λ x. not (needs_by did (own_ref s index) (ledger_at n J x))) (spaces_in J)) (did_same n J)
unneeded_is n s (Some _) J = refl

-- whether the sender of a copy is still in the session with the owner in which it sent it
was_is : (J : List Entry) (a : ℕ) (rep : WireRep) (found : Option SentItem) → was_with_owner_by (λ x. deeds_at x J) a rep found ≡ was_with_owner a rep J found
was_is J a rep None = refl
was_is J a rep (Some sent_item) = refl

-- whether a copy excuses a loss
excuse_is : (n s : ℕ) (J : List Entry) (rep : WireRep) (source : Source) → is_excuse_by (λ x. deeds_at x J) (λ x. sent (history_at x n J)) s rep source ≡ is_excuse n s rep J source
excuse_is n s J rep source =
    ap (λ (b : Bool). not (is_own source.from rep) && not ((source.session == number_at source.from s J && both_open source.from s J) && (b && both_open source.from rep.owner J)))
    (was_is J source.from rep (find (is_source s source) (sent (history_at source.from n J))))

-- whether each reference that is lost is excused
act_excused : (n s p k : ℕ) (J : List Entry) → is_act_excused_by (λ x. deeds_at x J) (λ x. sent (history_at x n J)) n s p k (deeds_at s J) ≡ is_lossless n s (Some (Act p k)) J
act_excused n s p k J = λ i. list_all (λ rep. not (is_loss s n p rep (item_at p k (deeds_at s J)) (deeds_at s J)) || list_all (λ source. excuse_is n s J rep source i) (sources s n rep (Act p k ∷ deeds_at s J))) (reps_at_risk p (item_at p k (deeds_at s J)))

-- whether what an Act loses is excused
act_lossless : (n s p k : ℕ) (J : List Entry) (t : Bool) → is_in s (spaces_in J) ≡ t → is_lossless_in (did_by (books_of n J)) (sent_by (books_of n J)) p k (find_ledger s (books_of n J)) ≡ is_lossless n s (Some (Act p k)) J
act_lossless n s p k J true there =
    ap (λ (found : Option Ledger). is_lossless_in (did_by (books_of n J)) (sent_by (books_of n J)) p k found) (found_at n J s (spaces_in J))
    ∙ ap (λ (b : Bool). is_lossless_in (did_by (books_of n J)) (sent_by (books_of n J)) p k (cond b (Some (ledger_at n J s)) None)) there
    ∙ (λ i. is_act_excused_by (did_same n J i) (sent_same n J i) n s p k (deeds_at s J))
    ∙ act_excused n s p k J
act_lossless n s p k J false none =
    ap (λ (found : Option Ledger). is_lossless_in (did_by (books_of n J)) (sent_by (books_of n J)) p k found) (found_at n J s (spaces_in J))
    ∙ ap (λ (b : Bool). is_lossless_in (did_by (books_of n J)) (sent_by (books_of n J)) p k (cond b (Some (ledger_at n J s)) None)) none
    ∙ sym (ap (λ (D : List Deed). list_all (is_excused n s p k J) (reps_at_risk p (item_at p k D))) (no_deed s J none))

-- whether what a deed loses is excused
pub lossless_is : (n s : ℕ) (deed : Option Deed) (J : List Entry) → is_lossless_by s deed (books_of n J) ≡ is_lossless n s deed J
lossless_is n s None J = refl
lossless_is n s (Some (Act p k)) J = act_lossless n s p k J (is_in s (spaces_in J)) refl
lossless_is n s (Some _) J = refl

-- ---- fronts

-- what was acted on from a space in a session
acted_is : (a k : ℕ) (D : List Deed) → acted_from_by a k (acted_items D) ≡ acted_during a k D
acted_is a k [] = refl
acted_is a k (Act q j ∷ D) = parted ∙ by (acted_is a k D) (q == a) (number a D == k) refl refl
  where
    one : ActedItem
    one = record { from = q; session = number q D; number = j; item = item_at q j D }

    pair : ActedItem → ℕ × Option Item
    pair x = (x.number, x.item)

    before : List (ℕ × Option Item)
    before = acted_from_by a k (acted_items D)

    parted : acted_from_by a k (acted_items D ++ one ∷ []) ≡ before ++ acted_from_by a k (one ∷ [])
    parted =
        ap (map pair) (filter-append (is_acted_in a k) (acted_items D) (one ∷ []))
        ∙ map-append pair (filter (is_acted_in a k) (acted_items D)) (filter (is_acted_in a k) (one ∷ []))

    more : Bool → List (ℕ × Option Item)
    more b = cond b (acted_during a k D ++ (j, item_at a j D) ∷ []) (acted_during a k D)

    by : before ≡ acted_during a k D → (t u : Bool) → q == a ≡ t → number a D == k ≡ u → before ++ map pair (cond (q == a && number q D == k) (one ∷ []) []) ≡ more (q == a && number a D == k)
    by rest true true same here =
        ap (λ (b : Bool). before ++ map pair (cond (b && number q D == k) (one ∷ []) [])) same
        ∙ ap (λ (x : ℕ). before ++ map pair (cond (number x D == k) (record { from = x; session = number x D; number = j; item = item_at x j D } ∷ []) [])) (eqb-true q a same)
        ∙ ap (λ (b : Bool). before ++ map pair (cond b (record { from = a; session = number a D; number = j; item = item_at a j D } ∷ []) [])) here
        ∙ ap (λ (xs : List (ℕ × Option Item)). xs ++ (j, item_at a j D) ∷ []) rest
        ∙ sym (λ i. more (same i && here i))
    by rest true false same other =
        ap (λ (b : Bool). before ++ map pair (cond (b && number q D == k) (one ∷ []) [])) same
        ∙ ap (λ (x : ℕ). before ++ map pair (cond (number x D == k) (one ∷ []) [])) (eqb-true q a same)
        ∙ ap (λ (b : Bool). before ++ map pair (cond b (one ∷ []) [])) other
        ∙ append-nil before
        ∙ rest
        ∙ sym (λ i. more (same i && other i))
    by rest false u apart is =
        ap (λ (b : Bool). before ++ map pair (cond (b && number q D == k) (one ∷ []) [])) apart
        ∙ append-nil before
        ∙ rest
        ∙ sym (ap (λ (b : Bool). more (b && number a D == k)) apart)
acted_is a k (_ ∷ D) = acted_is a k D

-- whether what b acted on in a session is a front
in_order : (n : ℕ) (J : List Entry) (b : ℕ) (session : ℕ × ℕ) → is_in_order_by (sent_by (books_of n J)) (ledger_at n J b) session ≡ is_front 1 (acted_in session.0 b session.1 J) (sent_in n session.0 b session.1 J)
in_order n J b session = λ i. is_front 1 (acted_is session.0 session.1 (deeds_at b J) i) (items_to b session.1 (sent_is n J session.0 i))

-- the fronts of a space
fronts_at : (n : ℕ) (J : List Entry) (b : ℕ) → has_fronts_by (sent_by (books_of n J)) (ledger_at n J b) ≡ has_fronts n J b
fronts_at n J b = λ i. list_all (λ session. in_order n J b session i) (sessions_in (deeds_at b J)) && acts_while_open (deeds_at b J) && sends_while_open (deeds_at b J) (all_gifts b n (deeds_at b J))

-- all fronts
pub fronts_are : (n : ℕ) (J : List Entry) → keeps_fronts_by (books_of n J) ≡ keeps_fronts n J
fronts_are n J =
    list_all-map (has_fronts_by (sent_by (books_of n J))) (ledger_at n J) (spaces_in J)
    ∙ (λ i. list_all (λ b. fronts_at n J b i) (spaces_in J))
