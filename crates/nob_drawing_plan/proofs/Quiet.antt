-- After a deed that changes no mark the bars are as they were.
use Rattle.std.proofs.Common.{◌≡◌, ℕ, ◌≤◌, ◌-◌, length, take, drop, get_or, Bool, true, false, true≢false, cond, ◌&&◌, ◌||◌, List, [], ◌∷◌, ◌++◌, map, Option, Some, None, refl, sym, ap, ◌∙◌}
use Rattle.std.specs.Prelude.{◌==◌, not}
use Rattle.std.specs.List.{list_any, cons_option}
use Rattle.std.proofs.lemmas.Bool.{eq-eqb}
use Rattle.nob_model_types.specs.declared.entry.Entry.{Entry}
use Rattle.nob_model_types.specs.Deeds.{deed_in, deeds}
use Rattle.nob_model_types.specs.declared.deed.Deed.{Deed}
use Rattle.nob_model_types.specs.declared.deed.Deed.TheVariants as did
use Rattle.nob_model_types.proofs.Lists.{rest_is, first_and_rest}
use Rattle.nob_model_work.specs.Gifts.{gifts, gifts_of}
use Rattle.nob_model_history.specs.Histories.{history_of}
use Rattle.nob_model_journal.specs.Journals.{at}
use Rattle.nob_drawing_plan.specs.declared.mark.Mark.{Mark}
use Rattle.nob_drawing_plan.specs.declared.bar.Bar.{Bar}
use Rattle.nob_drawing_plan.specs.Marks.{same_mark, marks_of, marks_at, is_quiet, is_quiet_deed}
use Rattle.nob_drawing_plan.specs.Bars.{row_after, goes_on, is_bar_of, has_bar, new_bar, ended, with_begun, bars_after, bars}
use Rattle.nob_drawing_plan.proofs.Standing.{mark_self, tell}

-- ---- marks

pub kept_by : (s n : ℕ) (deed : Deed) (D : List Deed) → is_quiet_deed deed ≡ true → marks_of s (history_of s n (deed ∷ D)) ≡ marks_of s (history_of s n D)
unfolding gifts gifts_of
kept_by s n (did.Dup rep) D quiet = refl
kept_by s n (did.Release rep) D quiet = refl
kept_by s n (did.TakeReply call status value) D quiet = refl
kept_by s n (did.TakeEnd call) D quiet = refl
kept_by s n (did.Claim job) D quiet = refl
kept_by s n (did.Transmit peer frames) D quiet = refl
kept_by s n (did.Arrive frame count) D quiet = refl
kept_by s n (did.Tick peer) D quiet = refl
kept_by s n _ D quiet = absurd (true≢false (sym quiet))

-- the deeds of a space after an entry of another, or after one of its own that did something, or nothing
marks_kept : (n : ℕ) (entry : Entry) (J : List Entry) → is_quiet (deed_in entry) ≡ true → marks_at n entry.space (entry ∷ J) ≡ marks_at n entry.space J
marks_kept n entry J quiet = ap (λ (b : Bool). marks_of entry.space (history_of entry.space n (deeds (cond b (entry ∷ at entry.space J) (at entry.space J))))) here ∙ by (deed_in entry) refl quiet
  where
    here : (entry.space == entry.space) ≡ true
    here = eq-eqb entry.space entry.space refl

    by : (o : Option Deed) → deed_in entry ≡ o → is_quiet o ≡ true → marks_of entry.space (history_of entry.space n (deeds (entry ∷ at entry.space J))) ≡ marks_at n entry.space J
    by None is q = ap (λ (o : Option Deed). marks_of entry.space (history_of entry.space n (cons_option o (deeds (at entry.space J))))) is
    by (Some deed) is q = ap (λ (o : Option Deed). marks_of entry.space (history_of entry.space n (cons_option o (deeds (at entry.space J))))) is ∙ kept_by entry.space n deed (deeds (at entry.space J)) q

-- ---- bars

or_right : (a b : Bool) → b ≡ true → a || b ≡ true
or_right true b h = refl
or_right false b h = h

or_left : (a b : Bool) → a ≡ true → a || b ≡ true
or_left true b h = refl
or_left false b h = absurd (true≢false (sym h))

-- a bar whose mark is held goes on
end_same : (s row : ℕ) (held : List Mark) (bar : Bar) → (goes_on s bar ≡ true → list_any (same_mark bar.mark) held ≡ true) → ended s row held bar ≡ bar
end_same s row held bar stands = by (goes_on s bar) (list_any (same_mark bar.mark) held) refl refl
  where
    over : Bar
    over = record { space = bar.space; mark = bar.mark; lane = bar.lane; start = bar.start; end = Some row }

    by : (g k : Bool) → goes_on s bar ≡ g → list_any (same_mark bar.mark) held ≡ k → cond (g && not k) over bar ≡ bar
    by false k is are = refl
    by true true is are = refl
    by true false is are = absurd (true≢false (sym (stands is) ∙ are))

ends_same : (s row : ℕ) (held : List Mark) (B : List Bar) → ((m : Mark) → has_bar s m B ≡ true → list_any (same_mark m) held ≡ true) → map (ended s row held) B ≡ B
ends_same s row held [] stand = refl
ends_same s row held (bar ∷ B) stand =
    ap (λ (x : Bar). x ∷ map (ended s row held) B) (end_same s row held bar own)
    ∙ ap (λ (xs : List Bar). bar ∷ xs) (ends_same s row held B (λ m there. stand m (or_right (is_bar_of s m bar) (has_bar s m B) there)))
  where
    own : goes_on s bar ≡ true → list_any (same_mark bar.mark) held ≡ true
    own goes = stand bar.mark (or_left (is_bar_of s bar.mark bar) (has_bar s bar.mark B) (ap (λ (b : Bool). b && same_mark bar.mark bar.mark) goes ∙ mark_self bar.mark))

pub begun_same : (s row : ℕ) (ms : List Mark) (B : List Bar) → ((m : Mark) → list_any (same_mark m) ms ≡ true → has_bar s m B ≡ true) → with_begun s row ms B ≡ B
begun_same s row [] B stand = refl
begun_same s row (x ∷ ms) B stand =
    ap (λ (b : Bool). cond b (with_begun s row ms B) (with_begun s row ms (B ++ new_bar s row x B ∷ []))) (stand x (or_left (same_mark x x) (list_any (same_mark x) ms) (mark_self x)))
    ∙ begun_same s row ms B (λ m there. stand m (or_right (same_mark m x) (list_any (same_mark m) ms) there))

pub after_same : (s row : ℕ) (held : List Mark) (B : List Bar) → ((m : Mark) → has_bar s m B ≡ list_any (same_mark m) held) → bars_after s row held B ≡ B
after_same s row held B stand =
    ap (λ (all : List Bar). with_begun s row held all) (ends_same s row held B (λ m there. sym (stand m) ∙ there))
    ∙ begun_same s row held B (λ m there. stand m ∙ there)

-- after an entry that changes no mark the bars are as they were
pub bars_kept : (n : ℕ) (entry : Entry) (J : List Entry) → is_quiet (deed_in entry) ≡ true → bars n (entry ∷ J) ≡ bars n J
bars_kept n entry J quiet =
    ap (λ (held : List Mark). bars_after entry.space (row_after J) held (bars n J)) (marks_kept n entry J quiet)
    ∙ after_same entry.space (row_after J) (marks_at n entry.space J) (bars n J) (λ m. tell n entry.space m J)

-- the same where the entry is taken off a journal
pub quiet_step : (n : ℕ) (J : List Entry) (entry : Entry) (before : List Bar) → 1 ≤ length J → entry ≡ get_or J 0 entry → is_quiet (deed_in entry) ≡ true → before ≡ bars n (take (length J - 1) (drop 1 J)) → before ≡ bars n J
quiet_step n J entry before long is quiet same =
    same
    ∙ ap (λ (L : List Entry). bars n L) (rest_is J)
    ∙ sym (bars_kept n entry (drop 1 J) quiet)
    ∙ ap (λ (L : List Entry). bars n L) (sym (first_and_rest J entry long is))
