-- What an entry more leaves of the frames that are remembered.
use Rattle.std.proofs.Common.{◌≡◌, ◌↔◌, ◌⊎◌, ℕ, ◌-◌, ◌<◌, ◌≤◌, Bool, true, false, cond, not, List, ◌∷◌, ◌++◌, length, filter, inl, inr, sym, ap, subst, true≢false, ◌∙◌, arith}
use Rattle.std.specs.List.{Contains}
use Rattle.std.proofs.lemmas.Bool.Decides.{nat_tests}
use Rattle.nob_frame.specs.declared.frame.Frame.{Frame}
use Rattle.nob_model_types.specs.Deeds.{deed_in}
use Rattle.nob_model_types.specs.declared.entry.Entry.{Entry}
use Rattle.nob_model_journal.specs.Journals.{frames_of}
use Rattle.nob_recall.specs.declared.memory.Memory.{Memory}
use Rattle.nob_recall.specs.Remembering.{IsIn, memory, noted, is_due, turned, turned_if_due, is_past_in}
use Rattle.nob_recall.specs.Tables.{TableStands}
use Rattle.nob_recall.specs.Recalls.{Recalled, Recalls}

-- the memory of these frames
abbrev pub the_memory : (older newer : List Frame) → ℕ → Memory
the_memory older newer kept = record { older = older; newer = newer; kept = kept }

pub recalls_more : (J : List Entry) (entry : Entry) (frames : List Frame) (old new : Recalled) → frames ≡ frames_of (deed_in entry) → Recalls J old
    → new.memory ≡ turned_if_due old.span (is_past_in (entry ∷ J)) (noted frames old.memory) → TableStands new.table (entry ∷ J) → new.span ≡ old.span → Recalls (entry ∷ J) new
recalls_more J entry frames old new are recalls turned table span = record {
  memory_is =
      turned
      ∙ ap (λ (fs : List Frame). turned_if_due old.span (is_past_in (entry ∷ J)) (noted fs old.memory)) are
      ∙ ap (λ (m : Memory). turned_if_due old.span (is_past_in (entry ∷ J)) (noted (frames_of (deed_in entry)) m)) recalls.memory_is
      ∙ ap (λ k. memory k (entry ∷ J)) (sym span);
  table = table;
}

-- ---- noting

pub turned_now : (past : Frame → Bool) (span kept kept' : ℕ) (frames older newer all older' newer' : List Frame) → all ≡ newer ++ frames → span ≤ length all - kept → older' ≡ all → newer' ≡ filter (λ f. not (past f)) older → kept' ≡ length newer'
    → the_memory older' newer' kept' ≡ turned_if_due span past (noted frames (the_memory older newer kept))
turned_now past span kept kept' frames older newer all older' newer' are low o n k =
    let m : Memory = noted frames (the_memory older newer kept) in
    let more : span ≤ length (newer ++ frames) - kept = subst (λ (fs : List Frame). span ≤ length fs - kept) are low in
    let due : is_due span m ≡ true = grind (arith, nat_tests, more) in
    let first : the_memory older' newer' kept' ≡ turned past m = λ i. the_memory ((o ∙ are) i) (n i) ((k ∙ ap length n) i) in
    first ∙ ap (λ (b : Bool). cond b (turned past m) m) (sym due)

pub still_now : (past : Frame → Bool) (span kept : ℕ) (frames older newer all : List Frame) → all ≡ newer ++ frames → length all - kept < span → the_memory older all kept ≡ turned_if_due span past (noted frames (the_memory older newer kept))
still_now past span kept frames older newer all are low =
    let m : Memory = noted frames (the_memory older newer kept) in
    let less : length (newer ++ frames) - kept < span = subst (λ (fs : List Frame). length fs - kept < span) are low in
    let due : is_due span m ≡ false = grind (arith, nat_tests, less) in
    let first : the_memory older all kept ≡ m = λ i. the_memory older (are i) kept in
    first ∙ ap (λ (b : Bool). cond b (turned past m) m) (sym due)

-- ---- looking

either : {A B : Type 0} (a b : Bool) → ((a ≡ true) ↔ A) → a ≡ false → ((b ≡ true) ↔ B) → (b ≡ true) ↔ (B ⊎ A)
either {A} {B} a b one none other = (λ yes. inl (other.0 yes), λ there. by there)
  where
    by : B ⊎ A → b ≡ true
    by (inl x) = other.1 x
    by (inr y) = absurd (true≢false (sym (one.1 y) ∙ none))

pub has_either : (frame : Frame) (older newer : List Frame) (kept : ℕ) (in_newer in_older : Bool) → ((in_newer ≡ true) ↔ Contains newer frame) → in_newer ≡ false → ((in_older ≡ true) ↔ Contains older frame) → (in_older ≡ true) ↔ IsIn frame (the_memory older newer kept)
has_either frame older newer kept in_newer in_older one none other = either in_newer in_older one none other
