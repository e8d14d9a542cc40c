-- After each entry exactly the marks that hold have a bar that goes on.
use Rattle.std.proofs.Common.{◌≡◌, ℕ, Bool, true, false, true≢false, cond, ◌&&◌, ◌||◌, List, [], ◌∷◌, ◌++◌, map, Some, refl, sym, ap, subst, ◌∙◌}
use Rattle.std.specs.Prelude.{◌==◌, not}
use Rattle.std.specs.List.{list_any}
use Rattle.std.proofs.lemmas.Bool.{and_parts, and_from, eqb-true, eq-eqb}
use Rattle.std.proofs.lemmas.List.Folds.{list_any-append}
use Rattle.nob_ids.specs.Names.{is_same}
use Rattle.nob_model_types.specs.declared.entry.Entry.{Entry}
use Rattle.nob_model_types.specs.Deeds.{deeds}
use Rattle.nob_model_history.specs.Histories.{history_of}
use Rattle.nob_model_history.proofs.Turning.{same_ref}
use Rattle.nob_model_history.proofs.Dirtying.{same_self}
use Rattle.nob_model_journal.specs.Journals.{at}
use Rattle.nob_drawing_plan.specs.declared.mark.Mark.{Mark}
use Rattle.nob_drawing_plan.specs.declared.mark.Mark.TheVariants.{Live, Listed, Pinned}
use Rattle.nob_drawing_plan.specs.declared.bar.Bar.{Bar}
use Rattle.nob_drawing_plan.specs.Marks.{same_mark, marks_of, marks_at}
use Rattle.nob_drawing_plan.specs.Bars.{row_after, is_endless, goes_on, is_bar_of, has_bar, new_bar, ended, with_begun, bars_after, bars}

-- ---- marks

pub mark_is : (a b : Mark) → same_mark a b ≡ true → a ≡ b
mark_is (Live rep) (Live other) h = ap Live (same_ref rep other h)
mark_is (Listed rep client) (Listed other twin) h =
    let parts = and_parts (is_same rep other) (client == twin) h in
    let one : rep ≡ other = same_ref rep other parts.0 in
    let two : client ≡ twin = eqb-true client twin parts.1 in
    cc
mark_is (Pinned rep peer session item) (Pinned other twin number place) h =
    let parts = and_parts (is_same rep other && peer == twin && session == number) (item == place) h in
    let more = and_parts (is_same rep other && peer == twin) (session == number) parts.0 in
    let first = and_parts (is_same rep other) (peer == twin) more.0 in
    let one : rep ≡ other = same_ref rep other first.0 in
    let two : peer ≡ twin = eqb-true peer twin first.1 in
    let three : session ≡ number = eqb-true session number more.1 in
    let four : item ≡ place = eqb-true item place parts.1 in
    cc
mark_is _ _ h = absurd (true≢false (sym h))

pub mark_self : (a : Mark) → same_mark a a ≡ true
mark_self (Live rep) = same_self rep
mark_self (Listed rep client) = and_from (is_same rep rep) (client == client) (same_self rep) (eq-eqb client client refl)
mark_self (Pinned rep peer session item) =
    and_from (is_same rep rep && peer == peer && session == session) (item == item)
    (and_from (is_same rep rep && peer == peer) (session == session) (and_from (is_same rep rep) (peer == peer) (same_self rep) (eq-eqb peer peer refl)) (eq-eqb session session refl))
    (eq-eqb item item refl)

bool_same : (a b : Bool) → (a ≡ true → b ≡ true) → (b ≡ true → a ≡ true) → a ≡ b
bool_same true true f g = refl
bool_same true false f g = sym (f refl)
bool_same false true f g = g refl
bool_same false false f g = refl

flip : (a b : Mark) → same_mark a b ≡ same_mark b a
flip a b = bool_same (same_mark a b) (same_mark b a)
    (λ h. subst (λ (x : Mark). same_mark x a ≡ true) (mark_is a b h) (mark_self a))
    (λ h. subst (λ (x : Mark). same_mark x b ≡ true) (mark_is b a h) (mark_self b))

flips : (m : Mark) (ms : List Mark) → list_any (λ x. same_mark x m) ms ≡ list_any (same_mark m) ms
flips m [] = refl
flips m (x ∷ ms) = ap (λ (b : Bool). b || list_any (λ y. same_mark y m) ms) (flip x m) ∙ ap (λ (b : Bool). same_mark m x || b) (flips m ms)

-- ---- tests

or_none : (a : Bool) → a || false ≡ a
or_none true = refl
or_none false = refl

or_three : (a b c : Bool) → (a || (b || false)) || c ≡ a || (b || c)
or_three true b c = refl
or_three false true c = refl
or_three false false c = refl

or_held : (a b c : Bool) → (b ≡ true → a ≡ true) → a || c ≡ a || (b || c)
or_held true b c f = refl
or_held false true c f = absurd (true≢false (sym (f refl)))
or_held false false c f = refl

and_false : (a : Bool) → a && false ≡ false
and_false true = refl
and_false false = refl

and_swapped : (g k same h : Bool) → (same ≡ true → k ≡ h) → (g && k) && same ≡ (g && same) && h
and_swapped false k same h f = refl
and_swapped true true true h f = f refl
and_swapped true false true h f = f refl
and_swapped true true false h f = refl
and_swapped true false false h f = refl

absorbs : (x h : Bool) → (x && h) || h ≡ h
absorbs true true = refl
absorbs true false = refl
absorbs false h = refl

-- ---- bars that end

ended_mark : (s row : ℕ) (held : List Mark) (bar : Bar) → (ended s row held bar).mark ≡ bar.mark
ended_mark s row held bar = by (goes_on s bar && not (list_any (same_mark bar.mark) held))
  where
    by : (b : Bool) → (cond b (record { space = bar.space; mark = bar.mark; lane = bar.lane; start = bar.start; end = Some row }) bar).mark ≡ bar.mark
    by true = refl
    by false = refl

ended_goes : (s row : ℕ) (held : List Mark) (bar : Bar) → goes_on s (ended s row held bar) ≡ (goes_on s bar && list_any (same_mark bar.mark) held)
ended_goes s row held bar = by (goes_on s bar) (list_any (same_mark bar.mark) held) refl
  where
    over : Bar
    over = record { space = bar.space; mark = bar.mark; lane = bar.lane; start = bar.start; end = Some row }

    by : (g k : Bool) → goes_on s bar ≡ g → goes_on s (cond (g && not k) over bar) ≡ (g && k)
    by true true is = is
    by true false is = and_false (bar.space == s)
    by false k is = is

end_own : (s row : ℕ) (held : List Mark) (m : Mark) (bar : Bar) → is_bar_of s m (ended s row held bar) ≡ (is_bar_of s m bar && list_any (same_mark m) held)
end_own s row held m bar =
    ap (λ (b : Bool). b && same_mark (ended s row held bar).mark m) (ended_goes s row held bar)
    ∙ ap (λ (x : Mark). (goes_on s bar && list_any (same_mark bar.mark) held) && same_mark x m) (ended_mark s row held bar)
    ∙ and_swapped (goes_on s bar) (list_any (same_mark bar.mark) held) (same_mark bar.mark m) (list_any (same_mark m) held)
    (λ same. ap (λ (x : Mark). list_any (same_mark x) held) (mark_is bar.mark m same))

pub ends_own : (s row : ℕ) (held : List Mark) (m : Mark) (B : List Bar) → has_bar s m (map (ended s row held) B) ≡ (has_bar s m B && list_any (same_mark m) held)
ends_own s row held m [] = refl
ends_own s row held m (bar ∷ B) =
    ap (λ (b : Bool). b || has_bar s m (map (ended s row held) B)) (end_own s row held m bar)
    ∙ ap (λ (b : Bool). (is_bar_of s m bar && list_any (same_mark m) held) || b) (ends_own s row held m B)
    ∙ parted (is_bar_of s m bar) (has_bar s m B) (list_any (same_mark m) held)
  where
    parted : (a b h : Bool) → (a && h) || (b && h) ≡ (a || b) && h
    parted true true true = refl
    parted true true false = refl
    parted true false true = refl
    parted true false false = refl
    parted false b h = refl

-- another space is other than this
end_other : (s other row : ℕ) (held : List Mark) (m : Mark) (bar : Bar) → (other == s) ≡ false → is_bar_of s m (ended other row held bar) ≡ is_bar_of s m bar
end_other s other row held m bar apart = by (goes_on other bar && not (list_any (same_mark bar.mark) held)) refl
  where
    over : Bar
    over = record { space = bar.space; mark = bar.mark; lane = bar.lane; start = bar.start; end = Some row }

    not_here : goes_on other bar && not (list_any (same_mark bar.mark) held) ≡ true → (bar.space == s) ≡ false
    not_here h =
        let goes = and_parts (goes_on other bar) (not (list_any (same_mark bar.mark) held)) h in
        let there = and_parts (bar.space == other) (is_endless bar.end) goes.0 in
        ap (λ (x : ℕ). x == s) (eqb-true bar.space other there.0) ∙ apart

    by : (b : Bool) → goes_on other bar && not (list_any (same_mark bar.mark) held) ≡ b → is_bar_of s m (cond b over bar) ≡ is_bar_of s m bar
    by true h =
        ap (λ (b : Bool). (b && is_endless (Some row)) && same_mark bar.mark m) (not_here h)
        ∙ sym (ap (λ (b : Bool). (b && is_endless bar.end) && same_mark bar.mark m) (not_here h))
    by false h = refl

ends_other : (s other row : ℕ) (held : List Mark) (m : Mark) (B : List Bar) → (other == s) ≡ false → has_bar s m (map (ended other row held) B) ≡ has_bar s m B
ends_other s other row held m [] apart = refl
ends_other s other row held m (bar ∷ B) apart =
    ap (λ (b : Bool). b || has_bar s m (map (ended other row held) B)) (end_other s other row held m bar apart)
    ∙ ap (λ (b : Bool). is_bar_of s m bar || b) (ends_other s other row held m B apart)

-- ---- bars that begin

pub new_own : (s row : ℕ) (x m : Mark) (B : List Bar) → is_bar_of s m (new_bar s row x B) ≡ same_mark x m
new_own s row x m B = ap (λ (b : Bool). (b && true) && same_mark x m) (eq-eqb s s refl)

new_other : (s other row : ℕ) (x m : Mark) (B : List Bar) → (other == s) ≡ false → is_bar_of s m (new_bar other row x B) ≡ false
new_other s other row x m B apart = ap (λ (b : Bool). (b && true) && same_mark x m) apart

begun_own : (s row : ℕ) (m : Mark) (ms : List Mark) (B : List Bar) → has_bar s m (with_begun s row ms B) ≡ (has_bar s m B || list_any (λ x. same_mark x m) ms)
begun_own s row m [] B = sym (or_none (has_bar s m B))
begun_own s row m (x ∷ ms) B = by (begun_own s row m ms B) (begun_own s row m ms (B ++ new_bar s row x B ∷ [])) (has_bar s x B) refl
  where
    rest : Bool
    rest = list_any (λ y. same_mark y m) ms

    more : List Bar
    more = B ++ new_bar s row x B ∷ []

    has_it : has_bar s x B ≡ true → same_mark x m ≡ true → has_bar s m B ≡ true
    has_it h same = subst (λ (y : Mark). has_bar s y B ≡ true) (mark_is x m same) h

    by : has_bar s m (with_begun s row ms B) ≡ (has_bar s m B || list_any (λ y. same_mark y m) ms) → has_bar s m (with_begun s row ms (B ++ new_bar s row x B ∷ [])) ≡ (has_bar s m (B ++ new_bar s row x B ∷ []) || list_any (λ y. same_mark y m) ms)
        → (b : Bool) → has_bar s x B ≡ b → has_bar s m (cond b (with_begun s row ms B) (with_begun s row ms (B ++ new_bar s row x B ∷ []))) ≡ (has_bar s m B || (same_mark x m || list_any (λ y. same_mark y m) ms))
    by same next true h = same ∙ or_held (has_bar s m B) (same_mark x m) (list_any (λ y. same_mark y m) ms) (has_it h)
    by same next false h =
        next
        ∙ ap (λ (b : Bool). b || list_any (λ y. same_mark y m) ms) (list_any-append (is_bar_of s m) B (new_bar s row x B ∷ []))
        ∙ ap (λ (b : Bool). (has_bar s m B || (b || false)) || list_any (λ y. same_mark y m) ms) (new_own s row x m B)
        ∙ or_three (has_bar s m B) (same_mark x m) (list_any (λ y. same_mark y m) ms)

begun_other : (s other row : ℕ) (m : Mark) (ms : List Mark) (B : List Bar) → (other == s) ≡ false → has_bar s m (with_begun other row ms B) ≡ has_bar s m B
begun_other s other row m [] B apart = refl
begun_other s other row m (x ∷ ms) B apart = by (begun_other s other row m ms B apart) (begun_other s other row m ms (B ++ new_bar other row x B ∷ []) apart) (has_bar other x B)
  where
    by : has_bar s m (with_begun other row ms B) ≡ has_bar s m B → has_bar s m (with_begun other row ms (B ++ new_bar other row x B ∷ [])) ≡ has_bar s m (B ++ new_bar other row x B ∷ [])
        → (b : Bool) → has_bar s m (cond b (with_begun other row ms B) (with_begun other row ms (B ++ new_bar other row x B ∷ []))) ≡ has_bar s m B
    by same next true = same
    by same next false =
        next
        ∙ list_any-append (is_bar_of s m) B (new_bar other row x B ∷ [])
        ∙ ap (λ (b : Bool). has_bar s m B || (b || false)) (new_other s other row x m B apart)
        ∙ or_none (has_bar s m B)

-- ---- the law

own : (s row : ℕ) (m : Mark) (held : List Mark) (B : List Bar) → has_bar s m (bars_after s row held B) ≡ list_any (same_mark m) held
own s row m held B =
    begun_own s row m held (map (ended s row held) B)
    ∙ ap (λ (b : Bool). b || list_any (λ x. same_mark x m) held) (ends_own s row held m B)
    ∙ ap (λ (b : Bool). (has_bar s m B && list_any (same_mark m) held) || b) (flips m held)
    ∙ absorbs (has_bar s m B) (list_any (same_mark m) held)

another : (s other row : ℕ) (m : Mark) (held : List Mark) (B : List Bar) → (other == s) ≡ false → has_bar s m (bars_after other row held B) ≡ has_bar s m B
another s other row m held B apart = begun_other s other row m held (map (ended other row held) B) apart ∙ ends_other s other row held m B apart

-- after each entry exactly the marks that hold have a bar that goes on
pub tell : (n s : ℕ) (mark : Mark) (J : List Entry) → has_bar s mark (bars n J) ≡ list_any (same_mark mark) (marks_at n s J)
tell n s mark [] = refl
tell n s mark (entry ∷ J) = by (tell n s mark J) (entry.space == s) refl
  where
    held : List Mark
    held = marks_at n entry.space (entry ∷ J)

    by : has_bar s mark (bars n J) ≡ list_any (same_mark mark) (marks_at n s J) → (b : Bool) → (entry.space == s) ≡ b → has_bar s mark (bars n (entry ∷ J)) ≡ list_any (same_mark mark) (marks_at n s (entry ∷ J))
    by rest true here =
        subst (λ (x : ℕ). has_bar s mark (bars_after x (row_after J) (marks_at n x (entry ∷ J)) (bars n J)) ≡ list_any (same_mark mark) (marks_at n s (entry ∷ J)))
        (sym (eqb-true entry.space s here)) (own s (row_after J) mark (marks_at n s (entry ∷ J)) (bars n J))
    by rest false apart =
        another s entry.space (row_after J) mark (marks_at n entry.space (entry ∷ J)) (bars n J) apart
        ∙ rest
        ∙ sym (ap (λ (b : Bool). list_any (same_mark mark) (marks_of s (history_of s n (deeds (cond b (entry ∷ at s J) (at s J)))))) apart)
