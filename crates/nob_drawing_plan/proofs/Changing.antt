-- What one deed changes of the marks of its space.
use Rattle.std.proofs.Common.{◌≡◌, ℕ, Bool, true, false, true≢false, cond, ◌&&◌, ◌||◌, ◌⊎◌, inl, inr, List, [], ◌∷◌, ◌++◌, Option, Some, None, refl, sym, ap, subst, ◌∙◌}
use Rattle.std.specs.Prelude.{◌==◌, not, flat_map, if◌then◌else◌}
use Rattle.std.specs.List.{list_any, list_all}
use Rattle.std.proofs.lemmas.Bool.{and_parts, and_from, or_cases, or_left, or_right, eqb-true, eq-eqb}
use Rattle.std.proofs.lemmas.Grind.{flat_map-append}
use Rattle.std.proofs.lemmas.List.Folds.{list_any-append}
use Rattle.nob_ids.specs.Names.{is_same}
use Rattle.nob_ids.specs.declared.wire_rep.WireRep.{WireRep}
use Rattle.nob_item.specs.declared.item.Item.{Item}
use Rattle.nob_item.specs.declared.item.Item.TheVariants as items
use Rattle.nob_model_types.specs.Sessions.{closed, number, item_at}
use Rattle.nob_model_types.specs.Objects.{exports, is_exported, is_withdrawn, is_live}
use Rattle.nob_model_types.specs.declared.deed.Deed.{Deed}
use Rattle.nob_model_types.specs.declared.deed.Deed.TheVariants as did
use Rattle.nob_model_history.specs.Listing.{is_entered, is_entered_after, is_listed}
use Rattle.nob_model_history.specs.Transit.{is_settled, is_settle_of}
use Rattle.nob_model_history.specs.declared.transit.SentItem.{SentItem}
use Rattle.nob_model_history.proofs.Turning.{same_ref}
use Rattle.nob_model_history.proofs.Dirtying.{same_self}
use Rattle.nob_drawing_plan.specs.declared.mark.Mark.{Mark}
use Rattle.nob_drawing_plan.specs.declared.mark.Mark.TheVariants.{Live, Listed, Pinned}
use Rattle.nob_drawing_plan.specs.declared.steps.Change.TheVariants as changes
use Rattle.nob_drawing_plan.specs.Marks.{same_mark, pins_of}
use Rattle.nob_drawing_plan.specs.Steps.{change_by, change_of, is_entered_still, holds_still, first_new}
use Rattle.nob_drawing_plan.proofs.Held.{is_open, held}

-- the reference to the object of an index of space s
abbrev own : (s i : ℕ) → WireRep
own s i = record { owner = s; index = i }

-- each of these references is to an object of space s
abbrev pub AreOwn : ℕ → List WireRep → Type 0
AreOwn s E = list_all (λ rep. rep.owner == s) E ≡ true

own_is : (s : ℕ) (rep : WireRep) → (rep.owner == s) ≡ true → rep ≡ own s rep.index
own_is s rep h = ap (λ (x : ℕ). own x rep.index) (eqb-true rep.owner s h)

own_of : (s : ℕ) (rep : WireRep) (E : List WireRep) → AreOwn s E → list_any (is_same rep) E ≡ true → (rep.owner == s) ≡ true
own_of s rep [] all h = absurd (true≢false (sym h))
own_of s rep (x ∷ E) all h = by (own_of s rep E) (and_parts (x.owner == s) (list_all (λ (r : WireRep). r.owner == s) E) all) (or_cases (is_same rep x) (list_any (is_same rep) E) h)
  where
    by : (AreOwn s E → list_any (is_same rep) E ≡ true → (rep.owner == s) ≡ true) → ((x.owner == s) ≡ true) × (list_all (λ (r : WireRep). r.owner == s) E ≡ true) → (is_same rep x ≡ true) ⊎ (list_any (is_same rep) E ≡ true) → (rep.owner == s) ≡ true
    by before (first, rest) (inl here) = subst (λ (r : WireRep). (r.owner == s) ≡ true) (sym (same_ref rep x here)) first
    by before (first, rest) (inr behind) = before rest behind

-- ---- what was so before

not_first : (a b : Bool) → not (a || b) ≡ true → not b ≡ true
not_first true b h = absurd (true≢false (sym h))
not_first false b h = h

exported_on : (rep : WireRep) (deed : Deed) (D : List Deed) → list_any (is_same rep) (exports D) ≡ true → list_any (is_same rep) (exports (deed ∷ D)) ≡ true
exported_on rep (did.Export other) D h = list_any-append (is_same rep) (exports D) (other ∷ []) ∙ or_left (list_any (is_same rep) (exports D)) _ h
exported_on rep _ D h = h

withdrawn_before : (i : ℕ) (deed : Deed) (D : List Deed) → not (is_withdrawn i (deed ∷ D)) ≡ true → not (is_withdrawn i D) ≡ true
withdrawn_before i (did.Withdraw x) D h = not_first (x == i) (is_withdrawn i D) h
withdrawn_before i _ D h = h

-- whether a deed opens a session anew
abbrev pub opens : Deed → Bool
opens (did.Open q k) = true
opens _ = false

-- what was sent before a deed and has the pins that it had
abbrev pub kept_of : Deed → List SentItem → List SentItem
kept_of deed S = if opens deed then [] else S

-- what may have others
abbrev pub anew_of : Deed → (S N : List SentItem) → List SentItem
anew_of deed S N = if opens deed then S ++ N else N

closed_before : (p : ℕ) (deed : Deed) (D : List Deed) → opens deed ≡ false → not (closed p (deed ∷ D)) ≡ true → not (closed p D) ≡ true
closed_before p (did.Closing q reason cause) D none h = not_first (q == p) (closed p D) h
closed_before p (did.Open q k) D none h = absurd (true≢false none)
closed_before p _ D none h = h

settled_before : (p k : ℕ) (deed : Deed) (D : List Deed) → opens deed ≡ false → not (is_settled p k (deed ∷ D)) ≡ true → not (is_settled p k D) ≡ true
settled_before p k (did.Act q j) D none h = not_first (q == p && is_settle_of k (item_at q j D)) (is_settled p k D) h
settled_before p k (did.Open q j) D none h = absurd (true≢false none)
settled_before p k _ D none h = h

numbered_before : (p j : ℕ) (deed : Deed) (D : List Deed) → opens deed ≡ false → (j == number p (deed ∷ D)) ≡ true → (j == number p D) ≡ true
numbered_before p j (did.Open q k) D none h = absurd (true≢false none)
numbered_before p j _ D none h = h

-- ---- which marks hold still

act_still : (s i c p k : ℕ) (D : List Deed) (item : Option Item) → cond (p == c) (is_entered_after s i item D true) true ≡ is_entered_still s i c (change_by p item) (did.Act p k ∷ D)
act_still s i c p k D (Some (items.Dirty x)) = by (p == c) (x == i)
  where
    by : (a b : Bool) → cond a (cond b (is_live s x D) true) true ≡ cond (a && b) (is_live s x D) true
    by true b = refl
    by false b = refl
act_still s i c p k D (Some (items.Clean x)) = by (p == c) (x == i)
  where
    by : (a b : Bool) → cond a (cond b false true) true ≡ not (a && b)
    by true true = refl
    by true false = refl
    by false b = refl
act_still s i c p k D None = either (p == c)
  where
    either : (a : Bool) → cond a true true ≡ true
    either true = refl
    either false = refl
act_still s i c p k D (Some (_)) = either (p == c)
  where
    either : (a : Bool) → cond a true true ≡ true
    either true = refl
    either false = refl

entered_still : (s i c : ℕ) (deed : Deed) (D : List Deed) → is_entered s i c D ≡ true → is_entered s i c (deed ∷ D) ≡ is_entered_still s i c (change_of deed D) (deed ∷ D)
entered_still s i c (did.Act p k) D h =
    ap (λ (b : Bool). cond (p == c) (is_entered_after s i (item_at p k D) D b) b) h
    ∙ act_still s i c p k D (item_at p k D)
entered_still s i c (did.Export rep) D h = h
entered_still s i c (did.Open q k) D h = ap (λ (b : Bool). cond (q == c) false b) h ∙ by (q == c)
  where
    by : (b : Bool) → cond b false true ≡ not b
    by true = refl
    by false = refl
entered_still s i c _ D h = h

pub still : (s : ℕ) (deed : Deed) (D : List Deed) (S N : List SentItem) (m : Mark) → held s D S m ≡ true → holds_still s (change_of deed D) (deed ∷ D) m ≡ held s (deed ∷ D) (S ++ N) m
still s deed D S N (Live rep) h =
    ap (λ (r : WireRep). list_any (is_same r) (exports (deed ∷ D)) && not (is_withdrawn rep.index (deed ∷ D))) (sym (own_is s rep mine))
    ∙ turned (list_any (is_same rep) (exports (deed ∷ D))) (rep.owner == s) (not (is_withdrawn rep.index (deed ∷ D))) there mine
  where
    parts : (rep.owner == s && not (is_withdrawn rep.index D) ≡ true) × (list_any (is_same rep) (exports D) ≡ true)
    parts = and_parts (rep.owner == s && not (is_withdrawn rep.index D)) (list_any (is_same rep) (exports D)) h

    mine : (rep.owner == s) ≡ true
    mine = (and_parts (rep.owner == s) (not (is_withdrawn rep.index D)) parts.0).0

    there : list_any (is_same rep) (exports (deed ∷ D)) ≡ true
    there = exported_on rep deed D parts.1

    turned : (e o w : Bool) → e ≡ true → o ≡ true → e && w ≡ (o && w) && e
    turned true true true a b = refl
    turned true true false a b = refl
    turned true false w a b = absurd (true≢false (sym b))
    turned false o w a b = absurd (true≢false (sym a))
still s deed D S N (Listed rep c) h =
    ap (λ (b : Bool). not (closed c (deed ∷ D)) && b) (sym (entered_still s rep.index c deed D entered))
    ∙ last (is_listed s rep.index c (deed ∷ D)) (list_any (is_same rep) (exports (deed ∷ D))) (exported_on rep deed D parts.1)
  where
    parts : (is_listed s rep.index c D ≡ true) × (list_any (is_same rep) (exports D) ≡ true)
    parts = and_parts (is_listed s rep.index c D) (list_any (is_same rep) (exports D)) h

    entered : is_entered s rep.index c D ≡ true
    entered = (and_parts (not (closed c D)) (is_entered s rep.index c D) parts.0).1

    last : (a e : Bool) → e ≡ true → a ≡ a && e
    last true true is = refl
    last true false is = sym is
    last false e is = refl
still s deed D S N (Pinned rep p j k) h = last (is_open p j k (deed ∷ D)) (list_any test (flat_map pins_of (S ++ N))) sent
  where
    test : Mark → Bool
    test = same_mark (Pinned rep p j k)

    sent : list_any test (flat_map pins_of (S ++ N)) ≡ true
    sent =
        ap (list_any test) (flat_map-append pins_of S N)
        ∙ list_any-append test (flat_map pins_of S) (flat_map pins_of N)
        ∙ or_left (list_any test (flat_map pins_of S)) _ (and_parts (is_open p j k D) (list_any test (flat_map pins_of S)) h).1

    last : (a e : Bool) → e ≡ true → a ≡ a && e
    last true true is = refl
    last true false is = sym is
    last false e is = refl

-- ---- which marks are new

asked_exported : (s i x : ℕ) (before : Bool) (D : List Deed) → (before ≡ true → is_exported s i D ≡ true) → (b : Bool) → (x == i) ≡ b → cond b (is_live s x D) before ≡ true → is_exported s i D ≡ true
asked_exported s i x before D rest true same live = subst (λ (y : ℕ). is_exported s y D ≡ true) (eqb-true x i same) (and_parts (is_exported s x D) (not (is_withdrawn x D)) live).0
asked_exported s i x before D rest false other was = rest was

left_exported : (s i : ℕ) (before : Bool) (D : List Deed) → (before ≡ true → is_exported s i D ≡ true) → (b : Bool) → cond b false before ≡ true → is_exported s i D ≡ true
left_exported s i before D rest true never = absurd (true≢false (sym never))
left_exported s i before D rest false was = rest was

acted_exported : (s i : ℕ) (before : Bool) (D : List Deed) (item : Option Item) → (before ≡ true → is_exported s i D ≡ true) → is_entered_after s i item D before ≡ true → is_exported s i D ≡ true
acted_exported s i before D (Some (items.Dirty x)) rest entered = asked_exported s i x before D rest (x == i) refl entered
acted_exported s i before D (Some (items.Clean x)) rest entered = left_exported s i before D rest (x == i) entered
acted_exported s i before D None rest entered = rest entered
acted_exported s i before D (Some (_)) rest entered = rest entered

-- who is entered asked for an object that was exported
entered_exported : (s i c : ℕ) (D : List Deed) → is_entered s i c D ≡ true → is_exported s i D ≡ true
entered_exported s i c [] h = absurd (true≢false (sym h))
entered_exported s i c (did.Act p k ∷ D) h = by (entered_exported s i c D) (p == c) h
  where
    by : (is_entered s i c D ≡ true → is_exported s i D ≡ true) → (b : Bool) → cond b (is_entered_after s i (item_at p k D) D (is_entered s i c D)) (is_entered s i c D) ≡ true → is_exported s i D ≡ true
    by rest true entered = acted_exported s i (is_entered s i c D) D (item_at p k D) rest entered
    by rest false before = rest before
entered_exported s i c (did.Export rep ∷ D) h = exported_on (own s i) (did.Export rep) D (entered_exported s i c D h)
entered_exported s i c (did.Open q k ∷ D) h = by (entered_exported s i c D) (q == c) h
  where
    by : (is_entered s i c D ≡ true → is_exported s i D ≡ true) → (b : Bool) → cond b false (is_entered s i c D) ≡ true → is_exported s i D ≡ true
    by rest true never = absurd (true≢false (sym never))
    by rest false before = rest before
entered_exported s i c (deed ∷ D) h = entered_exported s i c D h

-- a mark held before, or it is the new one
abbrev pub IsOld : ℕ → Deed → List Deed → List SentItem → Mark → Type 0
IsOld s deed D S m = (held s D S m ≡ true) ⊎ (first_new s (change_of deed D) (deed ∷ D) ≡ Some m)

-- the last of these, where it isn't one of the others
at_last : (rep other : WireRep) (E : List WireRep) → list_any (is_same rep) (E ++ other ∷ []) ≡ true → (list_any (is_same rep) E ≡ true) ⊎ (rep ≡ other)
at_last rep other E h = by (or_cases (list_any (is_same rep) E) (is_same rep other || false) (sym (list_any-append (is_same rep) E (other ∷ [])) ∙ h))
  where
    lone : (is_same rep other ≡ true) ⊎ (false ≡ true) → rep ≡ other
    lone (inl same) = same_ref rep other same
    lone (inr never) = absurd (true≢false (sym never))

    by : (list_any (is_same rep) E ≡ true) ⊎ (is_same rep other || false ≡ true) → (list_any (is_same rep) E ≡ true) ⊎ (rep ≡ other)
    by (inl before) = inl before
    by (inr last) = inr (lone (or_cases (is_same rep other) false last))

live_old : (s : ℕ) (deed : Deed) (D : List Deed) (S : List SentItem) (rep : WireRep) → (rep.owner == s) ≡ true → not (is_withdrawn rep.index (deed ∷ D)) ≡ true → list_any (is_same rep) (exports (deed ∷ D)) ≡ true → IsOld s deed D S (Live rep)
live_old s (did.Export other) D S rep mine unwithdrawn there = by (at_last rep other (exports D) there)
  where
    lives : is_live s rep.index (did.Export other ∷ D) ≡ true
    lives = and_from (is_exported s rep.index (did.Export other ∷ D)) _ (subst (λ (r : WireRep). list_any (is_same r) (exports (did.Export other ∷ D)) ≡ true) (own_is s rep mine) there) unwithdrawn

    by : (list_any (is_same rep) (exports D) ≡ true) ⊎ (rep ≡ other) → IsOld s (did.Export other) D S (Live rep)
    by (inl before) = inl (and_from (rep.owner == s && not (is_withdrawn rep.index D)) _ (and_from (rep.owner == s) _ mine unwithdrawn) before)
    by (inr same) = inr (subst (λ (r : WireRep). cond (is_live s r.index (did.Export other ∷ D)) (Some (Live r)) None ≡ Some (Live rep)) same (ap (λ (b : Bool). cond b (Some (Live rep)) None) lives))
live_old s (did.Withdraw x) D S rep mine unwithdrawn there = inl (and_from (rep.owner == s && not (is_withdrawn rep.index D)) _ (and_from (rep.owner == s) _ mine (withdrawn_before rep.index (did.Withdraw x) D unwithdrawn)) there)
live_old s _ D S rep mine unwithdrawn there = inl (and_from (rep.owner == s && not (is_withdrawn rep.index D)) _ (and_from (rep.owner == s) _ mine unwithdrawn) there)

-- a client that is listed after an item from p was acted on
act_old : (s p k : ℕ) (D : List Deed) (S : List SentItem) (rep : WireRep) (c : ℕ) (item : Option Item) → rep ≡ own s rep.index → (p == c) ≡ true → not (closed c D) ≡ true → list_any (is_same rep) (exports D) ≡ true → is_entered_after s rep.index item D (is_entered s rep.index c D) ≡ true → (held s D S (Listed rep c) ≡ true) ⊎ (first_new s (change_by p item) (did.Act p k ∷ D) ≡ Some (Listed rep c))
act_old s p k D S rep c item mine from still_open there entered = by item entered
  where
    old : is_entered s rep.index c D ≡ true → held s D S (Listed rep c) ≡ true
    old before = and_from (is_listed s rep.index c D) _ (and_from (not (closed c D)) _ still_open before) there

    asked : (x : ℕ) (b : Bool) → (x == rep.index) ≡ b → cond b (is_live s x D) (is_entered s rep.index c D) ≡ true → (held s D S (Listed rep c) ≡ true) ⊎ (first_new s (changes.Asked p x) (did.Act p k ∷ D) ≡ Some (Listed rep c))
    asked x true same live =
        let client : p ≡ c = eqb-true p c from in
        let index : x ≡ rep.index = eqb-true x rep.index same in
        let opens : not (closed p D) ≡ true = subst (λ (q : ℕ). not (closed q D) ≡ true) (sym client) still_open in
        inr (ap (λ (b : Bool). cond b (Some (Listed (own s x) p)) None) (and_from (is_live s x D) _ live opens)
        ∙ ap (λ (y : ℕ). Some (Listed (own s y) p)) index
        ∙ ap (λ (r : WireRep). Some (Listed r p)) (sym mine)
        ∙ ap (λ (q : ℕ). Some (Listed rep q)) client)
    asked x false other before = inl (old before)

    left : (x : ℕ) (b : Bool) → cond b false (is_entered s rep.index c D) ≡ true → held s D S (Listed rep c) ≡ true
    left x true never = absurd (true≢false (sym never))
    left x false before = old before

    by : (item : Option Item) → is_entered_after s rep.index item D (is_entered s rep.index c D) ≡ true → (held s D S (Listed rep c) ≡ true) ⊎ (first_new s (change_by p item) (did.Act p k ∷ D) ≡ Some (Listed rep c))
    by (Some (items.Dirty x)) after = asked x (x == rep.index) refl after
    by (Some (items.Clean x)) after = inl (left x (x == rep.index) after)
    by None after = inl (old after)
    by (Some (_)) after = inl (old after)

listed_old : (s : ℕ) (deed : Deed) (D : List Deed) (S : List SentItem) (rep : WireRep) (c : ℕ) → (rep.owner == s) ≡ true → not (closed c (deed ∷ D)) ≡ true → is_entered s rep.index c (deed ∷ D) ≡ true → list_any (is_same rep) (exports (deed ∷ D)) ≡ true → IsOld s deed D S (Listed rep c)
listed_old s (did.Export other) D S rep c mine still_open entered there =
    inl (and_from (is_listed s rep.index c D) _ (and_from (not (closed c D)) _ still_open entered)
    (subst (λ (r : WireRep). list_any (is_same r) (exports D) ≡ true) (sym (own_is s rep mine)) (entered_exported s rep.index c D entered)))
listed_old s (did.Act p k) D S rep c mine still_open entered there = by (p == c) refl entered
  where
    by : (b : Bool) → (p == c) ≡ b → cond b (is_entered_after s rep.index (item_at p k D) D (is_entered s rep.index c D)) (is_entered s rep.index c D) ≡ true → IsOld s (did.Act p k) D S (Listed rep c)
    by true same after = act_old s p k D S rep c (item_at p k D) (own_is s rep mine) same still_open there after
    by false other before = inl (and_from (is_listed s rep.index c D) _ (and_from (not (closed c D)) _ still_open before) there)
listed_old s (did.Closing p reason cause) D S rep c mine still_open entered there =
    inl (and_from (is_listed s rep.index c D) _ (and_from (not (closed c D)) _ (closed_before c (did.Closing p reason cause) D refl still_open) entered) there)
listed_old s (did.Open q k) D S rep c mine still_open entered there = by (q == c) still_open entered
  where
    by : (b : Bool) → not (cond b false (closed c D)) ≡ true → cond b false (is_entered s rep.index c D) ≡ true → IsOld s (did.Open q k) D S (Listed rep c)
    by true opened never = absurd (true≢false (sym never))
    by false opened before = inl (and_from (is_listed s rep.index c D) _ (and_from (not (closed c D)) _ opened before) there)
listed_old s _ D S rep c mine still_open entered there = inl (and_from (is_listed s rep.index c D) _ (and_from (not (closed c D)) _ still_open entered) there)

-- a pin of what was sent before
pinned_old : (s : ℕ) (deed : Deed) (D : List Deed) (S : List SentItem) (rep : WireRep) (p j k : ℕ) → (opening : Bool) → opens deed ≡ opening → held s (deed ∷ D) (if opening then [] else S) (Pinned rep p j k) ≡ true → IsOld s deed D S (Pinned rep p j k)
pinned_old s deed D S rep p j k true is h = absurd (true≢false (sym (and_parts (is_open p j k (deed ∷ D)) false h).1))
pinned_old s deed D S rep p j k false none h =
    let parts = and_parts (is_open p j k (deed ∷ D)) (list_any (same_mark (Pinned rep p j k)) (flat_map pins_of S)) h in
    let more = and_parts (j == number p (deed ∷ D) && not (is_settled p k (deed ∷ D))) (not (closed p (deed ∷ D))) parts.0 in
    let first = and_parts (j == number p (deed ∷ D)) (not (is_settled p k (deed ∷ D))) more.0 in
    inl (and_from (is_open p j k D) _ (and_from (j == number p D && not (is_settled p k D)) _ (and_from (j == number p D) _ (numbered_before p j deed D none first.0) (settled_before p k deed D none first.1)) (closed_before p deed D none more.1)) parts.1)

pub old_or_new : (s : ℕ) (deed : Deed) (D : List Deed) (S : List SentItem) → AreOwn s (exports (deed ∷ D)) → (m : Mark) → held s (deed ∷ D) (kept_of deed S) m ≡ true → IsOld s deed D S m
old_or_new s deed D S all (Live rep) h =
    let parts = and_parts (rep.owner == s && not (is_withdrawn rep.index (deed ∷ D))) (list_any (is_same rep) (exports (deed ∷ D))) h in
    let more = and_parts (rep.owner == s) (not (is_withdrawn rep.index (deed ∷ D))) parts.0 in
    live_old s deed D S rep more.0 more.1 parts.1
old_or_new s deed D S all (Listed rep c) h =
    let parts = and_parts (is_listed s rep.index c (deed ∷ D)) (list_any (is_same rep) (exports (deed ∷ D))) h in
    let more = and_parts (not (closed c (deed ∷ D))) (is_entered s rep.index c (deed ∷ D)) parts.0 in
    listed_old s deed D S rep c (own_of s rep (exports (deed ∷ D)) all parts.1) more.0 more.1 parts.1
old_or_new s deed D S all (Pinned rep p j k) h = pinned_old s deed D S rep p j k (opens deed) refl h

-- ---- the new one holds

some_is : {A : Type 0} (a b : A) → Some a ≡ Some b → a ≡ b
some_is a b h = cc

exported_new : (s : ℕ) (rep : WireRep) (D : List Deed) (S : List SentItem) → AreOwn s (exports D ++ rep ∷ []) → (b : Bool) → is_live s rep.index (did.Export rep ∷ D) ≡ b → (m : Mark) → cond b (Some (Live rep)) None ≡ Some m → held s (did.Export rep ∷ D) S m ≡ true
exported_new s rep D S all true lives m is =
    subst (λ (x : Mark). held s (did.Export rep ∷ D) S x ≡ true) (some_is (Live rep) m is)
    (and_from (rep.owner == s && not (is_withdrawn rep.index D)) _
    (and_from (rep.owner == s) _ (own_of s rep (exports D ++ rep ∷ []) all there) (and_parts (is_exported s rep.index (did.Export rep ∷ D)) (not (is_withdrawn rep.index D)) lives).1)
    there)
  where
    there : list_any (is_same rep) (exports D ++ rep ∷ []) ≡ true
    there = list_any-append (is_same rep) (exports D) (rep ∷ []) ∙ or_right (list_any (is_same rep) (exports D)) _ (or_left (is_same rep rep) false (same_self rep))
exported_new s rep D S all false lives m is = absurd cc

asked_new : (s p k x : ℕ) (D : List Deed) (S : List SentItem) → item_at p k D ≡ Some (items.Dirty x) → (b : Bool) → is_live s x D && not (closed p D) ≡ b → (m : Mark) → cond b (Some (Listed (own s x) p)) None ≡ Some m → held s (did.Act p k ∷ D) S m ≡ true
asked_new s p k x D S item true can m is =
    subst (λ (y : Mark). held s (did.Act p k ∷ D) S y ≡ true) (some_is (Listed (own s x) p) m is)
    (and_from (is_listed s x p (did.Act p k ∷ D)) _ (and_from (not (closed p D)) _ parts.1 entered) (and_parts (is_exported s x D) (not (is_withdrawn x D)) parts.0).0)
  where
    parts : (is_live s x D ≡ true) × (not (closed p D) ≡ true)
    parts = and_parts (is_live s x D) (not (closed p D)) can

    entered : is_entered s x p (did.Act p k ∷ D) ≡ true
    entered =
        ap (λ (b : Bool). cond b (is_entered_after s x (item_at p k D) D (is_entered s x p D)) (is_entered s x p D)) (eq-eqb p p refl)
        ∙ ap (λ (found : Option Item). is_entered_after s x found D (is_entered s x p D)) item
        ∙ ap (λ (b : Bool). cond b (is_live s x D) (is_entered s x p D)) (eq-eqb x x refl)
        ∙ parts.0
asked_new s p k x D S item false can m is = absurd cc

act_new : (s p k : ℕ) (D : List Deed) (S : List SentItem) (item : Option Item) → item_at p k D ≡ item → (m : Mark) → first_new s (change_by p item) (did.Act p k ∷ D) ≡ Some m → held s (did.Act p k ∷ D) S m ≡ true
act_new s p k D S (Some (items.Dirty x)) item m is = asked_new s p k x D S item (is_live s x D && not (closed p D)) refl m is
act_new s p k D S (Some (items.Clean x)) item m is = absurd cc
act_new s p k D S None item m is = absurd cc
act_new s p k D S (Some (_)) item m is = absurd cc

pub new_holds : (s : ℕ) (deed : Deed) (D : List Deed) (S : List SentItem) → AreOwn s (exports (deed ∷ D)) → (m : Mark) → first_new s (change_of deed D) (deed ∷ D) ≡ Some m → held s (deed ∷ D) S m ≡ true
new_holds s (did.Export rep) D S all m is = exported_new s rep D S all (is_live s rep.index (did.Export rep ∷ D)) refl m is
new_holds s (did.Act p k) D S all m is = act_new s p k D S (item_at p k D) refl m is
new_holds s _ D S all m is = absurd cc
