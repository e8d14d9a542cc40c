-- No space gives a reference twice, in all its lives: what its lives gave is among what was given in a journal to which all is joined.
use Rattle.std.proofs.Common.{◌≡◌, ℕ, ◌+◌, ◌&&◌, ◌||◌, Bool, true, false, List, [], ◌∷◌, ◌++◌, length, Option, Some, None, refl, sym, ap, subst, ◌∙◌, arith}
use Rattle.std.specs.Prelude.{◌==◌, nat_le}
use Rattle.std.specs.Cmp.{IsEquivalence}
use Rattle.std.specs.List.{IsDistinct, cons_option, list_any}
use Rattle.std.proofs.lemmas.List.Folds.{list_any-append}
use Rattle.std.proofs.lemmas.Map.Keys.{IsDistinct-push}
use Rattle.std.proofs.lemmas.Bool.{eqb-true, or_left, or_right, both_ways, false_from_ne_true}
use Rattle.std.proofs.lemmas.Bool.Decides.{nat_tests}
use Rattle.nob_ids.specs.Names.{is_same}
use Rattle.nob_ids.specs.declared.limits.Limits.{Limits}
use Rattle.nob_ids.specs.declared.wire_rep.WireRep.{WireRep}
use Rattle.nob_model_types.specs.declared.entry.Entry.{Entry}
use Rattle.nob_model_types.specs.declared.deed.Deed.{Deed}
use Rattle.nob_model_types.specs.declared.deed.Deed.TheVariants as did
use Rattle.nob_model_types.specs.Deeds.{deed_in, deeds}
use Rattle.nob_model_types.specs.Objects.{exports}
use Rattle.nob_model_history.proofs.Dirtying.{same_flip, same_self}
use Rattle.nob_model_history.proofs.Living.{exported_are}
use Rattle.nob_model_history.proofs.Turning.{same_ref}
use Rattle.nob_model.specs.Lists.{AreRightDeeds}
use Rattle.nob_model.proofs.Doing.{right_deeds}
use Rattle.nob_model.proofs.Premises.{objects_in_turn}
use Rattle.nob_model_jobs.specs.Raised.{raised_entry}
use Rattle.nob_model_lives.specs.Alone.{AreOfBridge}
use Rattle.nob_model_journal.specs.Journals.{at, deeds_at}
use Rattle.nob_model_returns.specs.Returns.{Happening, does, begins, entries, jobs_uncounted, ReturningRun}
use Rattle.nob_model_returns.specs.Joined.{Joined}
use Rattle.nob_model_returns.specs.Laws.{FreshLaw}
use Rattle.nob_model_returns.proofs.Raising.{raised_did, raised_in}
use Rattle.nob_model_returns.proofs.Across.{at_own, at_other, bridge_at, bridge_elsewhere}
use Rattle.nob_model_returns.proofs.Lives.{continues, right_there}
use Rattle.nob_model_returns.proofs.Runs.{joined_law}

-- whether a reference was given
abbrev was_given : WireRep → List Deed → Bool
was_given rep D = list_any (is_same rep) (exports D)

-- no reference was given twice by deeds, and each was given by others too
record AreFresh (D E : List Deed) : Type 0 where
  distinct : IsDistinct is_same (exports D)
  among : (rep : WireRep) → was_given rep D ≡ true → was_given rep E ≡ true

same_laws : IsEquivalence is_same
same_laws = record {
  refl = same_self;
  symm = same_flip;
  congr = λ x y z same. ap (λ (rep : WireRep). is_same rep z) (same_ref x y same);
}

past_last : (k : ℕ) → (nat_le 1 (k + 1) && nat_le (k + 1) k) ≡ false
past_last k = grind (arith, nat_tests)

-- what a right Export gives wasn't given before
gives_new : (s n : ℕ) (limits : Limits) (rep : WireRep) (E : List Deed) → AreRightDeeds s n limits (did.Export rep ∷ E) → was_given rep E ≡ false
gives_new s n limits rep E right =
    let turn = objects_in_turn s n limits (did.Export rep ∷ E) right in
    ap (λ (r : WireRep). list_any (is_same r) (exports E)) turn.0 ∙ exported_are s (length (exports E) + 1) E turn.1 ∙ past_last (length (exports E))

among_push : (one : WireRep) (xs ys : List WireRep) → ((rep : WireRep) → list_any (is_same rep) xs ≡ true → list_any (is_same rep) ys ≡ true) → (rep : WireRep) → list_any (is_same rep) (xs ++ one ∷ []) ≡ true → list_any (is_same rep) (ys ++ one ∷ []) ≡ true
among_push one xs ys among rep given =
    list_any-append (is_same rep) ys (one ∷ [])
    ∙ either (list_any (is_same rep) xs) (list_any (is_same rep) ys) (is_same rep one || false) (among rep) (sym (list_any-append (is_same rep) xs (one ∷ [])) ∙ given)
  where
    either : (a b c : Bool) → (a ≡ true → b ≡ true) → (a || c) ≡ true → (b || c) ≡ true
    either true b c step some = or_left b c (step refl)
    either false b c step some = or_right b c some

-- one deed more, once raised
fresh_did : (s n : ℕ) (limits : Limits) (more : ℕ) (found : Option Deed) (D E : List Deed) → AreFresh D E → AreRightDeeds s n limits (cons_option (raised_did more found) E) → AreFresh (cons_option found D) (cons_option (raised_did more found) E)
unfolding IsDistinct
fresh_did s n limits more None D E its right = its
fresh_did s n limits more (Some (did.Export rep)) D E its right = record {
  distinct = IsDistinct-push same_laws (exports D) rep its.distinct (false_from_ne_true (was_given rep D) (λ given. both_ways (was_given rep E) (gives_new s n limits rep E right) (its.among rep given)));
  among = among_push rep (exports D) (exports E) its.among;
}
fresh_did s n limits more (Some (did.Claim job)) D E its right = record { distinct = its.distinct; among = its.among }
fresh_did s n limits more (Some (did.Finish job outcome)) D E its right = record { distinct = its.distinct; among = its.among }
fresh_did s n limits more (Some (did.DropReply job)) D E its right = record { distinct = its.distinct; among = its.among }
fresh_did s n limits more (Some deed) D E its right = record { distinct = its.distinct; among = its.among }

-- what was given stays so
given_on : (rep : WireRep) (found : Option Deed) (E : List Deed) → was_given rep E ≡ true → was_given rep (cons_option found E) ≡ true
given_on rep None E given = given
given_on rep (Some (did.Export one)) E given = list_any-append (is_same rep) (exports E) (one ∷ []) ∙ or_left (was_given rep E) (is_same rep one || false) given
given_on rep (Some deed) E given = given

given_behind : (rep : WireRep) (bridge L : List Entry) → was_given rep (deeds L) ≡ true → was_given rep (deeds (bridge ++ L)) ≡ true
given_behind rep [] L given = given
given_behind rep (entry ∷ bridge) L given = given_on rep (deed_in entry) (deeds (bridge ++ L)) (given_behind rep bridge L given)

-- an entry more
fresh_does : (n : ℕ) (limits : ℕ → Limits) (s more : ℕ) (entry : Entry) (L K : List Entry) → AreRightDeeds s n (limits s) (deeds_at s (raised_entry more entry ∷ K)) → AreFresh (deeds_at s L) (deeds_at s K) → (own : Bool) → (entry.space == s) ≡ own → AreFresh (deeds_at s (entry ∷ L)) (deeds_at s (raised_entry more entry ∷ K))
fresh_does n limits s more entry L K right its true own =
    let there : deeds_at s (raised_entry more entry ∷ K) ≡ cons_option (raised_did more (deed_in entry)) (deeds_at s K) = ap deeds (at_own s (raised_entry more entry) K own) ∙ ap (λ (found : Option Deed). cons_option found (deeds_at s K)) (raised_in more entry) in
    subst (λ (M : List Entry). AreFresh (deeds M) (deeds_at s (raised_entry more entry ∷ K))) (sym (at_own s entry L own))
    (subst (AreFresh (cons_option (deed_in entry) (deeds_at s L))) (sym there) (fresh_did s n (limits s) more (deed_in entry) (deeds_at s L) (deeds_at s K) its (subst (AreRightDeeds s n (limits s)) there right)))
fresh_does n limits s more entry L K right its false other =
    subst (λ (M : List Entry). AreFresh (deeds M) (deeds_at s (raised_entry more entry ∷ K))) (sym (at_other s entry L other)) (subst (λ (M : List Entry). AreFresh (deeds_at s L) (deeds M)) (sym (at_other s (raised_entry more entry) K other)) its)

-- a bridge more
given_across : (s q : ℕ) (rep : WireRep) (bridge K : List Entry) → AreOfBridge q bridge → was_given rep (deeds_at s K) ≡ true → (own : Bool) → (q == s) ≡ own → was_given rep (deeds_at s (bridge ++ K)) ≡ true
given_across s q rep bridge K are given true own =
    let here : AreOfBridge s bridge = subst (λ (r : ℕ). AreOfBridge r bridge) (eqb-true q s own) are in
    subst (λ (M : List Entry). was_given rep (deeds M) ≡ true) (sym (bridge_at s bridge K here)) (given_behind rep bridge (at s K) given)
given_across s q rep bridge K are given false other = subst (λ (M : List Entry). was_given rep (deeds M) ≡ true) (sym (bridge_elsewhere q s bridge K are other)) given

-- the references that a space's lives gave are fresh, and among those of the journal
fresh_joined : (n : ℕ) (limits : ℕ → Limits) (H : List Happening) (J : List Entry) → ReturningRun n limits H → Joined n limits H J → (s : ℕ) → AreFresh (deeds_at s (entries H)) (deeds_at s J)
unfolding IsDistinct
fresh_joined n limits [] J run joined s = record { distinct = tt; among = λ rep given. cc }
fresh_joined n limits (does entry ∷ H) J run joined s =
    let right : AreRightDeeds s n (limits s) (deeds_at s J) = right_deeds s n (limits s) (at s J) (right_there n limits s (does entry ∷ H) J (continues n limits (does entry ∷ H) J run joined s)) in
    subst (λ (M : List Entry). AreFresh (deeds_at s (entry ∷ entries H)) (deeds_at s M)) (sym joined.1) (fresh_does n limits s (jobs_uncounted entry.space H) entry (entries H) joined.0 (subst (λ (M : List Entry). AreRightDeeds s n (limits s) (deeds_at s M)) joined.1 right) (fresh_joined n limits H joined.0 run.1 joined.2 s) (entry.space == s) refl)
fresh_joined n limits (begins q bounds jobs ∷ H) J run joined s =
    let its = fresh_joined n limits H joined.0 run.1 joined.5 s in
    record {
      distinct = its.distinct;
      among = λ rep given. subst (λ (M : List Entry). was_given rep (deeds_at s M) ≡ true) (sym joined.2) (given_across s q rep joined.1 joined.0 joined.3 (its.among rep given) (q == s) refl);
    }

-- no space gives a reference twice
pub fresh_law : FreshLaw
fresh_law n limits H run s = let all = joined_law n limits H run in (fresh_joined n limits H all.0 run all.1 s).distinct
