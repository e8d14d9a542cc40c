-- The bars after a deed, by what it changes, are the bars after it.
use Rattle.std.proofs.Common.{◌≡◌, ℕ, Bool, true, false, true≢false, cond, ◌&&◌, ◌||◌, ◌⊎◌, inl, inr, List, [], ◌∷◌, ◌++◌, length, map, filter, drop, Option, Some, None, refl, sym, ap, subst, ◌∙◌, append_assoc}
use Rattle.std.specs.Prelude.{not, flat_map}
use Rattle.std.specs.List.{list_any}
use Rattle.std.proofs.Math.Seq.{drop-append_seam}
use Rattle.std.proofs.lemmas.Bool.{and_from, or_cases, or_left, or_right}
use Rattle.std.proofs.lemmas.Grind.{flat_map-append}
use Rattle.std.proofs.lemmas.List.Elements.{filter-append}
use Rattle.std.proofs.lemmas.List.Folds.{list_any-append}
use Rattle.nob_model_types.specs.Objects.{exports}
use Rattle.nob_model_types.specs.declared.deed.Deed.{Deed}
use Rattle.nob_model_types.specs.declared.deed.Deed.TheVariants.{Open}
use Rattle.nob_model_work.specs.Gifts.{gifts}
use Rattle.nob_model_work.specs.Work.{work}
use Rattle.nob_model_history.specs.Histories.{history_of}
use Rattle.nob_model_history.specs.Transit.{sent, is_pinned}
use Rattle.nob_model_history.specs.declared.transit.SentItem.{SentItem}
use Rattle.nob_model_history.proofs.Sending.{new_items, sent_more}
use Rattle.nob_check_ledgers.specs.Ledgers.{ledger_of}
use Rattle.nob_drawing_plan.specs.declared.mark.Mark.{Mark}
use Rattle.nob_drawing_plan.specs.declared.bar.Bar.{Bar}
use Rattle.nob_drawing_plan.specs.declared.steps.Change.{Change}
use Rattle.nob_drawing_plan.specs.Marks.{same_mark, pins_of, listed_marks, live_marks, marks_of, is_quiet_deed}
use Rattle.nob_drawing_plan.specs.Bars.{goes_on, is_bar_of, has_bar, new_bar, ended, with_begun, bars_after}
use Rattle.nob_drawing_plan.specs.Steps.{change_of, holds_still, first_new, new_pins, ended_by, one_begun, bars_by, passed_over, just_sent, bars_by_deed}
use Rattle.nob_drawing_plan.proofs.Standing.{mark_is, mark_self, ends_own, new_own}
use Rattle.nob_drawing_plan.proofs.Quiet.{begun_same, kept_by, after_same}
use Rattle.nob_drawing_plan.proofs.Held.{front, held, in_front}
use Rattle.nob_drawing_plan.proofs.Changing.{AreOwn, IsOld, kept_of, anew_of, still, old_or_new, new_holds}

-- ---- bars that end

end_alike : (s row : ℕ) (ms : List Mark) (change : Change) (D : List Deed) (bar : Bar) → (goes_on s bar ≡ true → holds_still s change D bar.mark ≡ list_any (same_mark bar.mark) ms) → ended_by s row change D bar ≡ ended s row ms bar
end_alike s row ms change D bar same = by (goes_on s bar) refl
  where
    over : Bar
    over = record { space = bar.space; mark = bar.mark; lane = bar.lane; start = bar.start; end = Some row }

    by : (g : Bool) → goes_on s bar ≡ g → cond (g && not (holds_still s change D bar.mark)) over bar ≡ cond (g && not (list_any (same_mark bar.mark) ms)) over bar
    by true is = ap (λ (b : Bool). cond (not b) over bar) (same is)
    by false is = refl

ends_alike : (s row : ℕ) (ms : List Mark) (change : Change) (D : List Deed) (B : List Bar) → ((m : Mark) → has_bar s m B ≡ true → holds_still s change D m ≡ list_any (same_mark m) ms) → map (ended_by s row change D) B ≡ map (ended s row ms) B
ends_alike s row ms change D [] same = refl
ends_alike s row ms change D (bar ∷ B) same =
    ap (λ (x : Bar). x ∷ map (ended_by s row change D) B) (end_alike s row ms change D bar (λ goes. same bar.mark (or_left (is_bar_of s bar.mark bar) _ (and_from (goes_on s bar) _ goes (mark_self bar.mark)))))
    ∙ ap (λ (xs : List Bar). ended s row ms bar ∷ xs) (ends_alike s row ms change D B (λ m there. same m (or_right (is_bar_of s m bar) _ there)))

-- ---- bars that begin

begun_append : (s row : ℕ) (xs ys : List Mark) (B : List Bar) → with_begun s row (xs ++ ys) B ≡ with_begun s row ys (with_begun s row xs B)
begun_append s row [] ys B = refl
begun_append s row (x ∷ xs) ys B = by (begun_append s row xs ys B) (begun_append s row xs ys (B ++ new_bar s row x B ∷ [])) (has_bar s x B)
  where
    by : with_begun s row (xs ++ ys) B ≡ with_begun s row ys (with_begun s row xs B) → with_begun s row (xs ++ ys) (B ++ new_bar s row x B ∷ []) ≡ with_begun s row ys (with_begun s row xs (B ++ new_bar s row x B ∷ []))
        → (b : Bool) → cond b (with_begun s row (xs ++ ys) B) (with_begun s row (xs ++ ys) (B ++ new_bar s row x B ∷ [])) ≡ with_begun s row ys (cond b (with_begun s row xs B) (with_begun s row xs (B ++ new_bar s row x B ∷ [])))
    by same more true = same
    by same more false = more

-- each of these has a bar, or is this one
abbrev HaveBarsBut : ℕ → Mark → List Mark → List Bar → Type 0
HaveBarsBut s one ms B = (m : Mark) → list_any (same_mark m) ms ≡ true → (has_bar s m B ≡ true) ⊎ (one ≡ m)

rest_but : (s : ℕ) (one x : Mark) (ms : List Mark) (B : List Bar) → HaveBarsBut s one (x ∷ ms) B → HaveBarsBut s one ms B
rest_but s one x ms B but m there = but m (or_right (same_mark m x) _ there)

has_more : (s row : ℕ) (one : Mark) (ms : List Mark) (B : List Bar) → HaveBarsBut s one ms B → (m : Mark) → list_any (same_mark m) ms ≡ true → has_bar s m (B ++ new_bar s row one B ∷ []) ≡ true
has_more s row one ms B but m there = list_any-append (is_bar_of s m) B (new_bar s row one B ∷ []) ∙ by (but m there)
  where
    by : (has_bar s m B ≡ true) ⊎ (one ≡ m) → has_bar s m B || (is_bar_of s m (new_bar s row one B) || false) ≡ true
    by (inl before) = or_left (has_bar s m B) _ before
    by (inr same) = or_right (has_bar s m B) _ (or_left (is_bar_of s m (new_bar s row one B)) false (new_own s row one m B ∙ ap (same_mark one) (sym same) ∙ mark_self one))

begun_new : (s row : ℕ) (one : Mark) (ms : List Mark) (B : List Bar) → has_bar s one B ≡ false → list_any (same_mark one) ms ≡ true → HaveBarsBut s one ms B → with_begun s row ms B ≡ B ++ new_bar s row one B ∷ []
begun_new s row one [] B lacks there but = absurd (true≢false (sym there))
begun_new s row one (x ∷ ms) B lacks there but = by (λ behind. begun_new s row one ms B lacks behind (rest_but s one x ms B but)) (has_bar s x B) refl
  where
    apart : same_mark one x ≡ true → has_bar s x B ≡ true → ⊥
    apart same has = true≢false (sym (subst (λ (m : Mark). has_bar s m B ≡ true) (sym (mark_is one x same)) has) ∙ lacks)

    later : has_bar s x B ≡ true → (same_mark one x ≡ true) ⊎ (list_any (same_mark one) ms ≡ true) → list_any (same_mark one) ms ≡ true
    later has (inl same) = absurd (apart same has)
    later has (inr behind) = behind

    first : has_bar s x B ≡ false → (has_bar s x B ≡ true) ⊎ (one ≡ x) → one ≡ x
    first gone (inl has) = absurd (true≢false (sym has ∙ gone))
    first gone (inr same) = same

    by : (list_any (same_mark one) ms ≡ true → with_begun s row ms B ≡ B ++ new_bar s row one B ∷ []) → (b : Bool) → has_bar s x B ≡ b → cond b (with_begun s row ms B) (with_begun s row ms (B ++ new_bar s row x B ∷ [])) ≡ B ++ new_bar s row one B ∷ []
    by rest true has = rest (later has (or_cases (same_mark one x) (list_any (same_mark one) ms) there))
    by rest false gone =
        ap (λ (m : Mark). with_begun s row ms (B ++ new_bar s row m B ∷ [])) (sym (first gone (but x (or_left (same_mark x x) _ (mark_self x)))))
        ∙ begun_same s row ms (B ++ new_bar s row one B ∷ []) (has_more s row one ms B (rest_but s one x ms B but))

-- where at most one of them has no bar, it is enough to begin that
begun_one : (s row : ℕ) (one : Mark) (ms : List Mark) (B : List Bar) → list_any (same_mark one) ms ≡ true → HaveBarsBut s one ms B → with_begun s row ms B ≡ with_begun s row (one ∷ []) B
begun_one s row one ms B there but = by (has_bar s one B) refl
  where
    has : has_bar s one B ≡ true → (m : Mark) → (has_bar s m B ≡ true) ⊎ (one ≡ m) → has_bar s m B ≡ true
    has it m (inl before) = before
    has it m (inr same) = subst (λ (x : Mark). has_bar s x B ≡ true) same it

    by : (b : Bool) → has_bar s one B ≡ b → with_begun s row ms B ≡ with_begun s row (one ∷ []) B
    by true it =
        begun_same s row ms B (λ m among. has it m (but m among))
        ∙ sym (ap (λ (b : Bool). cond b B (B ++ new_bar s row one B ∷ [])) it)
    by false lacks =
        begun_new s row one ms B lacks there but
        ∙ sym (ap (λ (b : Bool). cond b B (B ++ new_bar s row one B ∷ [])) lacks)

-- ---- one deed

-- what holds of what was sent first, and what was sent then
front_parts : (s : ℕ) (D : List Deed) (S N : List SentItem) → front s D (S ++ N) ≡ front s D S ++ new_pins D N
front_parts s D S N =
    let lives = live_marks s D in
    let lists = listed_marks s D in
    let pins = flat_map pins_of (filter (is_pinned D) S) in
    ap (λ (xs : List SentItem). lives ++ (lists ++ flat_map pins_of xs)) (filter-append (is_pinned D) S N)
    ∙ ap (λ (ms : List Mark). lives ++ (lists ++ ms)) (flat_map-append pins_of (filter (is_pinned D) S) (filter (is_pinned D) N))
    ∙ ap (λ (ms : List Mark). lives ++ ms) (sym (append_assoc lists pins (new_pins D N)))
    ∙ sym (append_assoc lives (lists ++ pins) (new_pins D N))

-- what is left of what was sent first and what was sent then
left_over : (deed : Deed) (S N : List SentItem) → drop (passed_over deed (length S)) (S ++ N) ≡ anew_of deed S N
left_over (Open q k) S N = refl
left_over _ S N = drop-append_seam S N

just_is : (s n : ℕ) (deed : Deed) (D : List Deed) → just_sent deed (ledger_of s n D) ≡ anew_of deed (sent (history_of s n D)) (new_items D (sent (history_of s n D)) (gifts s n deed D (work s n D)))
just_is s n deed D =
    ap (drop (passed_over deed (length (sent (history_of s n D))))) (sent_more s n deed D)
    ∙ left_over deed (sent (history_of s n D)) (new_items D (sent (history_of s n D)) (gifts s n deed D (work s n D)))

-- both are all that was sent
both_are : (deed : Deed) (S N : List SentItem) → kept_of deed S ++ anew_of deed S N ≡ S ++ N
both_are (Open q k) S N = refl
both_are _ S N = refl

-- the marks after a deed: those of what was sent before and keeps its pins, and the pins of the rest
marks_more : (s n : ℕ) (deed : Deed) (D : List Deed) → marks_of s (history_of s n (deed ∷ D)) ≡ front s (deed ∷ D) (kept_of deed (sent (history_of s n D))) ++ new_pins (deed ∷ D) (anew_of deed (sent (history_of s n D)) (new_items D (sent (history_of s n D)) (gifts s n deed D (work s n D))))
marks_more s n deed D =
    let S = sent (history_of s n D) in
    let N = new_items D S (gifts s n deed D (work s n D)) in
    ap (λ (all : List SentItem). front s (deed ∷ D) all) (sent_more s n deed D ∙ sym (both_are deed S N))
    ∙ front_parts s (deed ∷ D) (kept_of deed S) (anew_of deed S N)

changed_bars : (s row : ℕ) (deed : Deed) (D : List Deed) (S N : List SentItem) (B : List Bar) → AreOwn s (exports (deed ∷ D)) → ((m : Mark) → has_bar s m B ≡ held s D S m) → bars_by s row (change_of deed D) (deed ∷ D) (anew_of deed S N) B ≡ bars_after s row (front s (deed ∷ D) (kept_of deed S) ++ new_pins (deed ∷ D) (anew_of deed S N)) B
changed_bars s row deed D S N B own told =
    ap (λ (left : List Bar). with_begun s row (new_pins (deed ∷ D) anew) (one_begun s row (first_new s change (deed ∷ D)) left)) (ends_alike s row all change (deed ∷ D) B alike)
    ∙ ap (with_begun s row (new_pins (deed ∷ D) anew)) (by (first_new s change (deed ∷ D)) refl)
    ∙ sym (begun_append s row before (new_pins (deed ∷ D) anew) (map (ended s row all) B))
  where
    change : Change
    change = change_of deed D

    anew : List SentItem
    anew = anew_of deed S N

    before : List Mark
    before = front s (deed ∷ D) (kept_of deed S)

    all : List Mark
    all = before ++ new_pins (deed ∷ D) anew

    -- all that holds after the deed
    all_in : (m : Mark) → list_any (same_mark m) all ≡ held s (deed ∷ D) (S ++ N) m
    all_in m = ap (list_any (same_mark m)) (sym (front_parts s (deed ∷ D) (kept_of deed S) anew) ∙ ap (front s (deed ∷ D)) (both_are deed S N)) ∙ in_front s (deed ∷ D) (S ++ N) m

    alike : (m : Mark) → has_bar s m B ≡ true → holds_still s change (deed ∷ D) m ≡ list_any (same_mark m) all
    alike m has = still s deed D S N m (sym (told m) ∙ has) ∙ sym (all_in m)

    -- a mark that held before and is one of those in front has its bar still
    goes : (m : Mark) → list_any (same_mark m) before ≡ true → held s D S m ≡ true → has_bar s m (map (ended s row all) B) ≡ true
    goes m there was =
        ends_own s row all m B
        ∙ and_from (has_bar s m B) _ (told m ∙ was) (list_any-append (same_mark m) before (new_pins (deed ∷ D) anew) ∙ or_left (list_any (same_mark m) before) _ there)

    old : (m : Mark) → list_any (same_mark m) before ≡ true → IsOld s deed D S m
    old m there = old_or_new s deed D S own m (sym (in_front s (deed ∷ D) (kept_of deed S) m) ∙ there)

    by : (new : Option Mark) → first_new s change (deed ∷ D) ≡ new → one_begun s row new (map (ended s row all) B) ≡ with_begun s row before (map (ended s row all) B)
    by None is = sym (begun_same s row before (map (ended s row all) B) (λ m there. goes m there (held_before m (old m there))))
      where
        held_before : (m : Mark) → IsOld s deed D S m → held s D S m ≡ true
        held_before m (inl was) = was
        held_before m (inr new) = absurd (let never : None ≡ Some m = sym is ∙ new in cc)
    by (Some one) is = sym (begun_one s row one before (map (ended s row all) B) there but)
      where
        there : list_any (same_mark one) before ≡ true
        there = in_front s (deed ∷ D) (kept_of deed S) one ∙ new_holds s deed D (kept_of deed S) own one is

        either : (m : Mark) → list_any (same_mark m) before ≡ true → IsOld s deed D S m → (has_bar s m (map (ended s row all) B) ≡ true) ⊎ (one ≡ m)
        either m among (inl was) = inl (goes m among was)
        either m among (inr new) = inr (let same : Some one ≡ Some m = sym is ∙ new in cc)

        but : (m : Mark) → list_any (same_mark m) before ≡ true → (has_bar s m (map (ended s row all) B) ≡ true) ⊎ (one ≡ m)
        but m among = either m among (old m among)

-- the bars after a deed of a space are those of the marks that hold then
pub deed_bars : (s n row : ℕ) (deed : Deed) (D : List Deed) (B : List Bar) → AreOwn s (exports (deed ∷ D)) → ((m : Mark) → has_bar s m B ≡ list_any (same_mark m) (marks_of s (history_of s n D))) → bars_by_deed row deed (ledger_of s n D) B ≡ bars_after s row (marks_of s (history_of s n (deed ∷ D))) B
deed_bars s n row deed D B own told = by (is_quiet_deed deed) refl
  where
    S : List SentItem
    S = sent (history_of s n D)

    N : List SentItem
    N = new_items D (sent (history_of s n D)) (gifts s n deed D (work s n D))

    by : (b : Bool) → is_quiet_deed deed ≡ b → cond b B (bars_by s row (change_of deed D) (deed ∷ D) (just_sent deed (ledger_of s n D)) B) ≡ bars_after s row (marks_of s (history_of s n (deed ∷ D))) B
    by true quiet =
        sym (after_same s row (marks_of s (history_of s n D)) B told)
        ∙ ap (λ (ms : List Mark). bars_after s row ms B) (sym (kept_by s n deed D quiet))
    by false loud =
        ap (λ (xs : List SentItem). bars_by s row (change_of deed D) (deed ∷ D) xs B) (just_is s n deed D)
        ∙ changed_bars s row deed D S N B own (λ m. told m ∙ in_front s D S m)
        ∙ ap (λ (ms : List Mark). bars_after s row ms B) (sym (marks_more s n deed D))
