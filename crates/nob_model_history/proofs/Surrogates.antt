-- The surrogates on open sessions, by one deed more.
use Rattle.std.proofs.Common.{◌≡◌, ℕ, ◌&&◌, ◌||◌, not, Bool, true, false, cond, List, [], ◌∷◌, ◌++◌, filter, refl, sym, ap, subst, ◌∙◌}
use Rattle.std.specs.Prelude.{◌==◌}
use Rattle.std.proofs.lemmas.List.{append-nil}
use Rattle.std.proofs.lemmas.Bool.{eqb-true, and_left, and_right, or_from}
use Rattle.nob_ids.specs.Names.{is_same}
use Rattle.nob_ids.specs.declared.reason.Reason.{Reason}
use Rattle.nob_ids.specs.declared.wire_rep.WireRep.{WireRep}
use Rattle.nob_model_types.specs.declared.deed.Deed.{Deed}
use Rattle.nob_model_types.specs.declared.deed.Deed.TheVariants as did
use Rattle.nob_model_types.specs.declared.deed.Cause.{Cause}
use Rattle.nob_item.specs.declared.item.Item.TheVariants as items
use Rattle.nob_model_types.specs.declared.turns.Turns.{Turns}
use Rattle.nob_model_types.specs.Sessions.{closed, is_peer}
use Rattle.nob_model_types.specs.Turns.{no_turns, turns, is_standing, is_granted, with_clean}
use Rattle.nob_model_work.specs.declared.gifts.Gift.{Gift}
use Rattle.nob_model_work.specs.Work.{work}
use Rattle.nob_model_work.specs.Gifts.{gifts, gifts_of}
use Rattle.nob_model_history.specs.Histories.{history_of}
use Rattle.nob_model_history.specs.Transit.{dirties, once_last, by_last_dirty, surrogates}
use Rattle.nob_model_history.proofs.Pinning.{filter_and, filter_same}
use Rattle.nob_model_history.proofs.Dirtying.{asked_in, dirties_more}
use Rattle.nob_model_history.proofs.Turning.{same_ref, after_clean}

-- whether a reference has a surrogate on a session that is open here
abbrev pub has_surrogate : (s n : ℕ) → List Deed → WireRep → Bool
has_surrogate s n D rep = is_standing (turns s n rep D) && not (closed rep.owner D)

-- a deed that asks for nothing leaves the order of last Dirties
pub same_order : (s n : ℕ) (deed : Deed) (D : List Deed) → asked_in (gifts s n deed D (work s n D)) ≡ [] → by_last_dirty (history_of s n (deed ∷ D)) ≡ by_last_dirty (history_of s n D)
same_order s n deed D none = ap once_last (dirties_more s n deed D ∙ ap (λ (reps : List WireRep). dirties (history_of s n D) ++ reps) none ∙ append-nil (dirties (history_of s n D)))

-- a deed that asks for nothing leaves the surrogates that it leaves as they stand
pub surrogates_kept : (s n : ℕ) (deed : Deed) (D : List Deed) → asked_in (gifts s n deed D (work s n D)) ≡ [] → ((rep : WireRep) → has_surrogate s n (deed ∷ D) rep ≡ has_surrogate s n D rep) → surrogates s n (history_of s n (deed ∷ D)) ≡ surrogates s n (history_of s n D)
surrogates_kept s n deed D none same =
    ap (filter (has_surrogate s n (deed ∷ D))) (same_order s n deed D none)
    ∙ filter_same (has_surrogate s n (deed ∷ D)) (has_surrogate s n D) same (by_last_dirty (history_of s n D))

-- a deed that asks for nothing takes those out whose surrogates it ends
pub surrogates_less : (s n : ℕ) (deed : Deed) (D : List Deed) (test : WireRep → Bool) → asked_in (gifts s n deed D (work s n D)) ≡ [] → ((rep : WireRep) → has_surrogate s n (deed ∷ D) rep ≡ (has_surrogate s n D rep && not (test rep))) → surrogates s n (history_of s n (deed ∷ D)) ≡ filter (λ (rep : WireRep). not (test rep)) (surrogates s n (history_of s n D))
surrogates_less s n deed D test none less =
    ap (filter (has_surrogate s n (deed ∷ D))) (same_order s n deed D none)
    ∙ filter_same (has_surrogate s n (deed ∷ D)) (λ (rep : WireRep). has_surrogate s n D rep && not (test rep)) less (by_last_dirty (history_of s n D))
    ∙ filter_and (has_surrogate s n D) (λ (rep : WireRep). not (test rep)) (by_last_dirty (history_of s n D))

-- ---- a Clean

clean_gift : (s n : ℕ) (rep : WireRep) (asks peer : Bool) → is_peer s n rep.owner ≡ peer → asked_in (filter (λ (gift : Gift). is_peer s n gift.to) (cond asks (record { to = rep.owner; item = items.Clean rep.index } ∷ []) [])) ≡ []
clean_gift s n rep false peer is = refl
clean_gift s n rep true true is = ap (λ (b : Bool). asked_in (cond b (record { to = rep.owner; item = items.Clean rep.index } ∷ []) [])) is
clean_gift s n rep true false is = ap (λ (b : Bool). asked_in (cond b (record { to = rep.owner; item = items.Clean rep.index } ∷ []) [])) is

clean_asks_nothing : (s n : ℕ) (rep : WireRep) (D : List Deed) → asked_in (gifts s n (did.Clean rep) D (work s n D)) ≡ []
unfolding gifts gifts_of
clean_asks_nothing s n rep D = clean_gift s n rep (turns s n rep D).asks (is_peer s n rep.owner) refl

and_true : (b : Bool) → (b && true) ≡ b
and_true true = refl
and_true false = refl

cleaned : (s n : ℕ) (rep other : WireRep) (D : List Deed) → is_granted (turns s n rep D) ≡ true → (b : Bool) → is_same other rep ≡ b → (is_standing (cond b (with_clean (turns s n other D)) (turns s n other D)) && not (closed other.owner D)) ≡ (has_surrogate s n D other && not b)
cleaned s n rep other D granted true same =
    let own : is_granted (turns s n other D) ≡ true = subst (λ (r : WireRep). is_granted (turns s n r D) ≡ true) (sym (same_ref other rep same)) granted in
    let none = (after_clean (turns s n other D) own).1 in
    and_left (is_standing (with_clean (turns s n other D))) (not (closed other.owner D)) (or_from _ _ (or_from _ _ none.0 none.1) none.2) ∙ sym (and_right (has_surrogate s n D other) false refl)
cleaned s n rep other D granted false same = sym (and_true (has_surrogate s n D other))

-- the Clean of a granted reference takes it out, and no other
pub surrogates_cleaned : (s n : ℕ) (rep : WireRep) (D : List Deed) → is_granted (turns s n rep D) ≡ true → surrogates s n (history_of s n (did.Clean rep ∷ D)) ≡ filter (λ (other : WireRep). not (is_same other rep)) (surrogates s n (history_of s n D))
surrogates_cleaned s n rep D granted = surrogates_less s n (did.Clean rep) D (λ (other : WireRep). is_same other rep) (clean_asks_nothing s n rep D) (λ other. cleaned s n rep other D granted (is_same other rep) refl)

-- ---- a closing

closing_asks_nothing : (s n p : ℕ) (reason : Reason) (cause : Cause) (D : List Deed) → asked_in (gifts s n (did.Closing p reason cause) D (work s n D)) ≡ []
unfolding gifts gifts_of
closing_asks_nothing s n p reason cause D = refl

without_owner : (a e c : Bool) → (a && not (e || c)) ≡ ((a && not c) && not e)
without_owner false e c = refl
without_owner true true true = refl
without_owner true true false = refl
without_owner true false true = refl
without_owner true false false = refl

-- the closing of the session with an owner takes its surrogates out, and no other
pub surrogates_closed : (s n p : ℕ) (reason : Reason) (cause : Cause) (D : List Deed) → surrogates s n (history_of s n (did.Closing p reason cause ∷ D)) ≡ filter (λ (rep : WireRep). not (p == rep.owner)) (surrogates s n (history_of s n D))
surrogates_closed s n p reason cause D = surrogates_less s n (did.Closing p reason cause) D (λ (rep : WireRep). p == rep.owner) (closing_asks_nothing s n p reason cause D) (λ rep. without_owner (is_standing (turns s n rep D)) (p == rep.owner) (closed rep.owner D))

-- ---- an Open

opening_asks_nothing : (s n p k : ℕ) (D : List Deed) → asked_in (gifts s n (did.Open p k) D (work s n D)) ≡ []
unfolding gifts gifts_of
opening_asks_nothing s n p k D = refl

-- turns that begin anew are no surrogate's, nor were those on a session that had closed
pub anew_none : (b : Bool) (t : Turns) (ended : Bool) → (b ≡ true → ended ≡ true) → (is_standing (cond b no_turns t) && not (cond b false ended)) ≡ (is_standing t && not ended)
anew_none true t ended gone = sym (and_right (is_standing t) (not ended) (ap not (gone refl)))
anew_none false t ended gone = refl

-- an Open of a session that has closed leaves the surrogates
pub surrogates_opened : (s n p k : ℕ) (D : List Deed) → closed p D ≡ true → surrogates s n (history_of s n (did.Open p k ∷ D)) ≡ surrogates s n (history_of s n D)
surrogates_opened s n p k D ended = surrogates_kept s n (did.Open p k) D (opening_asks_nothing s n p k D) (λ rep. anew_none (p == rep.owner) (turns s n rep D) (closed rep.owner D) (λ own. subst (λ (q : ℕ). closed q D ≡ true) (eqb-true p rep.owner own) ended))
