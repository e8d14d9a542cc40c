-- Neither a newline nor an equals sign stands in the texts of events and results.
use Prim.Native.Nat.{zero}
use Rattle.std.proofs.Common.{◌≡◌, ℕ, suc, ◌+◌, ◌^◌, ◌<◌, ◌/◌, ◌%◌, Bool, false, List, [], ◌∷◌, ◌++◌, slice_index, codes, refl, arith, rules, Result, Ok, Err}
use Rattle.std.specs.Prelude.{◌==◌, ◌||◌, ℤ, pos, negsuc}
use Rattle.std.specs.List.{AllByRecursion}
use Rattle.std.specs.Int.{w64}
use Rattle.std.specs.Int.RustNames.{FitsSigned}
use Rattle.std.specs.Fmt.{decimal, signed_decimal}
use Rattle.std.proofs.lemmas.Fmt.{decimal_by_steps}
use Rattle.std.proofs.lemmas.Bool.Decides.{nat_tests}
use Rattle.hex.specs.Hex.{encode_lower, encode_with, lower_digits}
use Rattle.nob_ids.specs.Names.{IsSpace}
use Rattle.nob_ids.specs.Reasons.{reason_number}
use Rattle.nob_ids.specs.declared.reason.Reason.{Reason}
use Rattle.nob_ids.specs.declared.reason.Reason.TheVariants as reasons
use Rattle.nob_ids.specs.declared.wire_rep.WireRep.{WireRep}
use Rattle.nob_frame.specs.declared.frame.Frame.{Frame}
use Rattle.nob_frame.specs.declared.version.Version.{Version}
use Rattle.nob_frame.specs.Spelling.{spelling}
use Rattle.nob_pickle.specs.Trees.{Tree, Trees}
use Rattle.nob_pickle.specs.Trees as shapes
use Rattle.nob_pickle.specs.Shape.{tree}
use Rattle.nob_pickle.specs.declared.value.Value.{Value}
use Rattle.nob_model_types.specs.declared.event.Outcome.{Outcome}
use Rattle.nob_model_types.specs.declared.event.Outcome.TheVariants as outcomes
use Rattle.nob_model_types.specs.declared.event.Event.{Event}
use Rattle.nob_model_types.specs.declared.event.Event.TheVariants as events
use Rattle.nob_model_types.specs.declared.answer.Job.{Job}
use Rattle.nob_model_types.specs.declared.answer.Answer.{Answer}
use Rattle.nob_model_types.specs.declared.answer.Answer.TheVariants as answers
use Rattle.nob_model_types.specs.declared.refusal.Use.{Use}
use Rattle.nob_model_types.specs.declared.refusal.Use.TheVariants as uses
use Rattle.nob_model_types.specs.declared.refusal.Refusal.{Refusal}
use Rattle.nob_model_types.specs.declared.refusal.Refusal.TheVariants as refusals
use Rattle.nob_model_text.specs.Values.{rep_text, tree_text, inside_text, behind_text, value_text, IsTyped, AreTyped, HasText}
use Rattle.nob_model_text.specs.Events.{IsOutcome, event_text, outcome_text}
use Rattle.nob_model_text.specs.Answers.{job_text, refusal_text, use_text}
use Rattle.nob_model_text.proofs.Parting.{small_signed}
use Rattle.nob_model_reading.specs.Told.{IsJob}
use Rattle.nob_trace.specs.declared.stamped.Stamped.{Stamped}
use Rattle.nob_trace.specs.Frames.{frame_text, frames_text, spaced_text}
use Rattle.nob_trace.specs.Entries.{IsTraced, IsTracedEvent, IsTracedResult, arrival_text, entry_text, result_text}
use Rattle.nob_trace.specs.Reading.{Lacks}

-- a newline or an equals sign
abbrev pub is_sign : ℕ → Bool
is_sign byte = byte == 10 || byte == 61

-- neither is among the bytes
abbrev pub HasNone : List ℕ → Type 0
HasNone bytes = AllByRecursion (λ b. is_sign b ≡ false) bytes

pub both : (front rest : List ℕ) → HasNone front → HasNone rest → HasNone (front ++ rest)
both [] rest one two = two
both (b ∷ front) rest one two = (one.0, both front rest one.1 two)

no_newline : (b : ℕ) → is_sign b ≡ false → (b == 10) ≡ false
no_newline b none = grind (arith, nat_tests, none)

no_equals : (b : ℕ) → is_sign b ≡ false → (b == 61) ≡ false
no_equals b none = grind (arith, nat_tests, none)

pub lacks_newline : (bytes : List ℕ) → HasNone bytes → Lacks 10 bytes
lacks_newline [] none = tt
lacks_newline (b ∷ bytes) none = (no_newline b none.0, lacks_newline bytes none.1)

pub lacks_equals : (bytes : List ℕ) → HasNone bytes → Lacks 61 bytes
lacks_equals [] none = tt
lacks_equals (b ∷ bytes) none = (no_equals b none.0, lacks_equals bytes none.1)

-- ---- numbers, bytes and references

digit : (d : ℕ) → d < 10 → is_sign (48 + d) ≡ false
digit d less = grind (arith, nat_tests)

one_behind : (front : List ℕ) (b : ℕ) → HasNone front → is_sign b ≡ false → HasNone (front ++ b ∷ [])
one_behind front b none one = both front (b ∷ []) none (one, tt)

pub number : (n : ℕ) → n < 2 ^ 64 → HasNone (decimal n)
number n small = decimal_by_steps (λ (m : ℕ) (ds : List ℕ). HasNone ds) (λ m less. (digit m less, tt)) (λ m ds above none. one_behind ds (48 + m % 10) none (digit (m % 10) (omega arith))) n small

signed : (z : ℤ) → FitsSigned w64 z → HasNone (signed_decimal z)
signed (pos n) fits = number n (let small = small_signed (pos n) fits in omega (arith, small))
signed (negsuc n) fits = (refl, number (suc n) (let small = small_signed (negsuc n) fits in omega (arith, small)))

in_table : (table : List ℕ) (d : ℕ) → HasNone table → is_sign (slice_index table d) ≡ false
in_table [] d none = refl
in_table (b ∷ table) zero none = none.0
in_table (b ∷ table) (suc d) none = in_table table d none.1

digits : HasNone lower_digits
digits = search rules

hex : (bs : List ℕ) → HasNone (encode_lower bs)
unfolding encode_with
hex [] = tt
hex (b ∷ bs) = (in_table lower_digits (b / 16) digits, (in_table lower_digits (b % 16) digits, hex bs))

pub space : (n : ℕ) → IsSpace n → HasNone (decimal n)
space n is = number n (omega (arith, is.1))

rep : (r : WireRep) → IsSpace r.owner → r.index < 2 ^ 64 → HasNone (rep_text r)
rep r owner index = both (decimal r.owner) (46 ∷ decimal r.index) (space r.owner owner) (refl, number r.index index)

-- ---- values

mutual
  shape : (t : Tree) → IsTyped t → HasNone (tree_text t)
  shape shapes.unit typed = (refl, tt)
  shape (shapes.int n) typed = (refl, signed n typed)
  shape (shapes.bytes bs) typed = (refl, hex bs)
  shape (shapes.list ts) typed = (refl, inside ts typed)
  shape (shapes.ref r) typed = (refl, rep r typed.0 typed.1)

  inside : (ts : Trees) → AreTyped ts → HasNone (inside_text ts)
  inside shapes.none typed = (refl, tt)
  inside (shapes.more t ts) typed = both (tree_text t) (behind_text ts) (shape t typed.0) (behind ts typed.1)

  behind : (ts : Trees) → AreTyped ts → HasNone (behind_text ts)
  behind shapes.none typed = (refl, tt)
  behind (shapes.more t ts) typed = (refl, both (tree_text t) (behind_text ts) (shape t typed.0) (behind ts typed.1))

value : (v : Value) → HasText v → HasNone (value_text v)
value v typed = shape (tree v) typed.0

-- ---- words

-- a word and what follows it
pub word : (w rest : List ℕ) → HasNone w → HasNone rest → HasNone (w ++ rest)
word w rest one two = both w rest one two

outcome : (o : Outcome) → IsOutcome o → HasNone (outcome_text o)
outcome (outcomes.Answer v) is = word (codes "answer ") (value_text v) (search rules) (value v is)
outcome (outcomes.Fault v) is = word (codes "fault ") (value_text v) (search rules) (value v is)
outcome outcomes.NoMethod is = search rules

frame : (version : Version) (f : Frame) → HasNone (frame_text version f)
frame version f = hex (spelling version f)

-- ---- events

pub event : (version : Version) (e : Event) → IsTracedEvent version e → HasNone (event_text (arrival_text version e) e)
event version events.Export is = search rules
event version (events.Dup r) is = word (codes "dup ") (rep_text r) (search rules) (rep r is.0 is.1)
event version (events.Release r) is = word (codes "release ") (rep_text r) (search rules) (rep r is.0 is.1)
event version (events.Call t m v) is =
    word (codes "call ") (rep_text t ++ 32 ∷ (decimal m ++ 32 ∷ value_text v)) (search rules)
    (both (rep_text t) (32 ∷ (decimal m ++ 32 ∷ value_text v)) (rep t is.0.0 is.0.1) (refl, both (decimal m) (32 ∷ value_text v) (number m (omega (arith, is.1))) (refl, value v is.2)))
event version (events.TakeReply c) is = word (codes "take ") (decimal c) (search rules) (number c is)
event version events.Claim is = search rules
event version (events.Finish j o) is = word (codes "finish ") (decimal j ++ 32 ∷ outcome_text o) (search rules) (both (decimal j) (32 ∷ outcome_text o) (number j is.0) (refl, outcome o is.1))
event version (events.Act p) is = word (codes "act ") (decimal p) (search rules) (space p is)
event version events.Settle is = search rules
event version events.Clean is = search rules
event version (events.Withdraw x) is = word (codes "withdraw ") (decimal x) (search rules) (number x is)
event version (events.Transmit p) is = word (codes "send ") (decimal p) (search rules) (space p is)
event version (events.Arrive f) is = word (codes "arrive ") (frame_text version f) (search rules) (frame version f)
event version (events.Tick p) is = word (codes "tick ") (decimal p) (search rules) (space p is)
event version (events.Close p) is = word (codes "close ") (decimal p) (search rules) (space p is)
event version (events.Open p) is = word (codes "open ") (decimal p) (search rules) (space p is.1)

-- ---- results

reason : (r : Reason) → HasNone (decimal (reason_number r))
reason reasons.Asked = number 1 (omega arith)
reason reasons.PeerClosed = number 2 (omega arith)
reason reasons.RetriesUsedUp = number 3 (omega arith)
reason reasons.BadItem = number 4 (omega arith)
reason reasons.BadReference = number 5 (omega arith)
reason reasons.OutOfPlace = number 6 (omega arith)

spaced : (version : Version) (fs : List Frame) → HasNone (spaced_text version fs)
spaced version [] = tt
spaced version (f ∷ fs) = (refl, both (frame_text version f) (spaced_text version fs) (frame version f) (spaced version fs))

frames : (version : Version) (fs : List Frame) → HasNone (frames_text version fs)
frames version [] = search rules
frames version (f ∷ fs) = word (codes "frames") (spaced_text version (f ∷ fs)) (search rules) (spaced version (f ∷ fs))

job : (j : Job) → IsJob j → HasNone (job_text j)
job j is =
    word (codes "job ") _ (search rules) (both (decimal j.job) _ (number j.job is.number)
    (word (codes " from ") _ (search rules) (both (decimal j.client) _ (space j.client is.client)
    (word (codes " call ") _ (search rules) (both (decimal j.call) _ (number j.call is.call)
    (word (codes " on ") _ (search rules) (both (decimal j.target) _ (number j.target is.target)
    (word (codes " method ") _ (search rules) (both (decimal j.method) (32 ∷ value_text j.value) (number j.method (omega (arith, is.method)))
    (refl, value j.value is.value))))))))))

used : (u : Use) → HasNone (use_text u)
used uses.Held = search rules
used uses.InTransit = search rules
used uses.Listed = search rules
used uses.Agent = search rules

refused : (r : Refusal) → HasNone (refusal_text r)
refused refusals.NoPeer = search rules
refused refusals.Closed = search rules
refused refusals.NoObject = search rules
refused refusals.NotHeld = search rules
refused refusals.QueueFull = search rules
refused refusals.SeqEnd = search rules
refused refusals.TooBig = search rules
refused refusals.NoCall = search rules
refused refusals.NotReady = search rules
refused refusals.Nothing = search rules
refused (refusals.StillUsed u) = used u
refused refusals.NoJob = search rules
refused refusals.Limit = search rules
refused refusals.StillOpen = search rules
refused refusals.StillHeld = search rules

pub answered : (version : Version) (r : Result Answer Refusal) → IsTracedResult version r → HasNone (result_text version r)
answered version (Ok (answers.Exported r)) is = word (codes "exported ") (rep_text r) (search rules) (rep r is.0 is.1)
answered version (Ok answers.Done) is = search rules
answered version (Ok (answers.Called c)) is = word (codes "call ") (decimal c) (search rules) (number c is)
answered version (Ok (answers.Replied s v)) is = word (codes "reply ") (decimal s ++ 32 ∷ value_text v) (search rules) (both (decimal s) (32 ∷ value_text v) (number s (omega (arith, is.0))) (refl, value v is.1))
answered version (Ok answers.Ended) is = search rules
answered version (Ok (answers.Job j)) is = job j is
answered version (Ok answers.Finished) is = search rules
answered version (Ok answers.Dropped) is = search rules
answered version (Ok (answers.Acted n)) is = word (codes "acted ") (decimal n) (search rules) (number n is)
answered version (Ok (answers.Closed r)) is = word (codes "closed ") (decimal (reason_number r)) (search rules) (reason r)
answered version (Ok (answers.Settled p n)) is = word (codes "settled ") (decimal p ++ 32 ∷ decimal n) (search rules) (both (decimal p) (32 ∷ decimal n) (space p is.0) (refl, number n is.1))
answered version (Ok (answers.Cleaned r)) is = word (codes "cleaned ") (rep_text r) (search rules) (rep r is.0 is.1)
answered version (Ok answers.Withdrawn) is = search rules
answered version (Ok (answers.Frames fs)) is = frames version fs
answered version (Ok (answers.Took n)) is = word (codes "took ") (decimal n) (search rules) (number n is)
answered version (Ok (answers.Opened n)) is = word (codes "opened ") (decimal n) (search rules) (number n (omega (arith, is)))
answered version (Err r) is = refused r

-- ---- entries

pub lacks_both : (byte : ℕ) (front rest : List ℕ) → Lacks byte front → Lacks byte rest → Lacks byte (front ++ rest)
lacks_both byte [] rest one two = two
lacks_both byte (b ∷ front) rest one two = (one.0, lacks_both byte front rest one.1 two)

-- no newline stands in an entry
pub entry : (version : Version) (e : Stamped) → IsTraced version e → Lacks 10 (entry_text version e)
entry version e is =
    lacks_both 10 (decimal e.stamp) _ (lacks_newline (decimal e.stamp) (number e.stamp is.0)) (
      refl,
      lacks_both 10 (event_text (arrival_text version e.event) e.event) (codes " = " ++ result_text version e.result) (lacks_newline _ (event version e.event is.1))
          (refl, (refl, (refl, lacks_newline _ (answered version e.result is.2)))),
    )
