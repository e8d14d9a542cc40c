-- The counts say how often each reference came into the hand, and how often it was released.
use Rattle.std.proofs.Common.{◌≡◌, ℕ, ◌+◌, Bool, true, false, cond, List, [], ◌∷◌, ◌++◌, length, Option, Some, refl, sym, ap, ◌∙◌, arith}
use Rattle.std.specs.List.{filter}
use Rattle.std.specs.Map.{lookup}
use Rattle.std.proofs.lemmas.List.{length-append}
use Rattle.std.proofs.lemmas.List.Elements.{filter-append}
use Rattle.nob_ids.specs.Names.{is_same}
use Rattle.nob_ids.specs.declared.wire_rep.WireRep.{WireRep}
use Rattle.nob_pickle.specs.Spelling.{refs_in}
use Rattle.nob_model_types.specs.declared.deed.Deed.{Deed}
use Rattle.nob_model_types.specs.declared.deed.Deed.TheVariants.{Export, Dup, Release, TakeReply}
use Rattle.nob_model_history.specs.Holds.{times, gains, releases}
use Rattle.nob_model_history.proofs.Dirtying.{same_self}
use Rattle.nob_check_tables.proofs.Looking.{put_at}
use Rattle.nob_check_index.specs.Counts.{found_count, count_in, with_one, with_all, gains_of, releases_of}
use Rattle.nob_check_index.proofs.Keys.{same_rep}

found_if : (b : Bool) (count : ℕ) (x : Option ℕ) → found_count (cond b (Some count) x) ≡ cond b count (found_count x)
found_if true count x = refl
found_if false count x = refl

-- the count of a reference once that of one is raised
one_more : (r rep : WireRep) (counts : List (WireRep × ℕ)) → count_in r (with_one rep counts) ≡ cond (is_same r rep) (count_in r counts + 1) (count_in r counts)
one_more r rep counts =
    ap found_count (put_at is_same same_rep same_self r rep (count_in rep counts + 1) counts)
    ∙ found_if (is_same r rep) (count_in rep counts + 1) (lookup (is_same r) counts)
    ∙ by (is_same r rep) refl
  where
    by : (b : Bool) → is_same r rep ≡ b → cond (is_same r rep) (count_in rep counts + 1) (count_in r counts) ≡ cond (is_same r rep) (count_in r counts + 1) (count_in r counts)
    by true here = ap (λ (x : WireRep). cond (is_same r rep) (count_in x counts + 1) (count_in r counts)) (sym (same_rep r rep here))
    by false other = ap (λ (b : Bool). cond b (count_in rep counts + 1) (count_in r counts)) other ∙ sym (ap (λ (b : Bool). cond b (count_in r counts + 1) (count_in r counts)) other)

-- how often a reference stands in a list with one in front
times_with : (r rep : WireRep) (reps : List WireRep) → times r (rep ∷ reps) ≡ cond (is_same r rep) (times r reps + 1) (times r reps)
times_with r rep reps = by (is_same r rep)
  where
    by : (b : Bool) → length (cond b (rep ∷ filter (is_same r) reps) (filter (is_same r) reps)) ≡ cond b (times r reps + 1) (times r reps)
    by true = omega arith
    by false = refl

-- one list behind another
times_behind : (r : WireRep) (reps others : List WireRep) → times r (reps ++ others) ≡ times r reps + times r others
times_behind r reps others = ap length (filter-append (is_same r) reps others) ∙ length-append (filter (is_same r) reps) (filter (is_same r) others)

none_more : (count : ℕ) → count ≡ 0 + count
none_more count = omega arith

-- each of some references once more
all_more : (r : WireRep) (reps : List WireRep) (counts : List (WireRep × ℕ)) → count_in r (with_all reps counts) ≡ times r reps + count_in r counts
all_more r [] counts = none_more (count_in r counts)
all_more r (rep ∷ reps) counts =
    all_more r reps (with_one rep counts)
    ∙ by (is_same r rep) (one_more r rep counts) (times_with r rep reps)
  where
    by : (b : Bool) → count_in r (with_one rep counts) ≡ cond b (count_in r counts + 1) (count_in r counts) → times r (rep ∷ reps) ≡ cond b (times r reps + 1) (times r reps) → times r reps + count_in r (with_one rep counts) ≡ times r (rep ∷ reps) + count_in r counts
    by true one two = omega (arith, one, two)
    by false one two = omega (arith, one, two)

-- a reference in front, and once more
more_is : (r rep : WireRep) (counts : List (WireRep × ℕ)) (reps : List WireRep) → count_in r counts ≡ times r reps → count_in r (with_one rep counts) ≡ times r (rep ∷ reps)
more_is r rep counts reps same =
    one_more r rep counts
    ∙ ap (λ (count : ℕ). cond (is_same r rep) (count + 1) count) same
    ∙ sym (times_with r rep reps)

-- how often a reference came into the hand
pub gain_is : (r : WireRep) (D : List Deed) → count_in r (gains_of D) ≡ times r (gains D)
gain_is r [] = refl
gain_is r (Export rep ∷ D) = more_is r rep (gains_of D) (gains D) (gain_is r D)
gain_is r (Dup rep ∷ D) = more_is r rep (gains_of D) (gains D) (gain_is r D)
gain_is r (TakeReply call status value ∷ D) =
    all_more r (refs_in value) (gains_of D)
    ∙ ap (λ (count : ℕ). times r (refs_in value) + count) (gain_is r D)
    ∙ sym (times_behind r (refs_in value) (gains D))
gain_is r (_ ∷ D) = gain_is r D

-- how often a reference was released
pub release_is : (r : WireRep) (D : List Deed) → count_in r (releases_of D) ≡ times r (releases D)
release_is r [] = refl
release_is r (Release rep ∷ D) = more_is r rep (releases_of D) (releases D) (release_is r D)
release_is r (_ ∷ D) = release_is r D
