-- A text spells one event, in whichever version.
use Rattle.std.proofs.Common.{◌≡◌, ℕ, ◌+◌, ◌*◌, ◌^◌, ◌<◌, List, [], ◌∷◌, ◌++◌, codes, refl, sym, ap, ◌∙◌, arith}
use Rattle.std.specs.Fmt.{decimal}
use Rattle.std.proofs.lemmas.List.{append_cancel_left}
use Rattle.nob_ids.specs.declared.wire_rep.WireRep.{WireRep}
use Rattle.nob_pickle.specs.declared.value.Value.{Value}
use Rattle.nob_frame.specs.declared.frame.Frame.{Frame}
use Rattle.nob_frame.specs.declared.version.Version.{Version}
use Rattle.nob_frame.specs.declared.version.Version.TheVariants.{One, Two}
use Rattle.nob_frame.specs.Spelling.{spelling}
use Rattle.nob_frame.proofs.Codec.{no_front}
use Rattle.nob_model_types.specs.declared.event.Outcome.{Outcome}
use Rattle.nob_model_types.specs.declared.event.Outcome.TheVariants as outcomes
use Rattle.nob_model_types.specs.declared.event.Event.{Event}
use Rattle.nob_model_types.specs.declared.event.Event.TheVariants as events
use Rattle.nob_model_text.specs.Values.{rep_text, value_text, HasText}
use Rattle.nob_model_text.specs.Events.{event_text, outcome_text, IsOutcome, IsRep}
use Rattle.nob_trace.specs.Frames.{frame_text, IsFramed}
use Rattle.nob_trace.specs.Entries.{arrival_text, IsTracedEvent}
use Rattle.nob_trace.proofs.FrameBytes.{spelling_bytes, versions_differ}
use Rattle.nob_trace.proofs.OneValue.{one_number, one_rep, number_is, rep_is, same_hex, space_is, value_is}

-- the first three letters of a text, as a number
abbrev pub key : List ℕ → ℕ
key [] = 0
key (a ∷ []) = a
key (a ∷ b ∷ []) = a + 256 * b
key (a ∷ b ∷ c ∷ rest) = a + 256 * b + 65536 * c

-- what stands behind one word
pub behind : (word xs ys : List ℕ) → word ++ xs ≡ word ++ ys → xs ≡ ys
behind word xs ys same = append_cancel_left word xs ys same

pub tail_is : (a b : ℕ) (xs ys : List ℕ) → a ∷ xs ≡ b ∷ ys → xs ≡ ys
tail_is a b xs ys e = cc

-- frames of one text are spelt by the same bytes
same_bytes : (v w : Version) (f g : Frame) → IsFramed v f → IsFramed w g → frame_text v f ≡ frame_text w g → spelling v f ≡ spelling w g
same_bytes v w f g is was same = same_hex (spelling v f) (spelling w g) (spelling_bytes v f is) (spelling_bytes w g was) same

-- a text spells one frame of a version
of_version : (v : Version) (f g : Frame) → IsFramed v f → IsFramed v g → frame_text v f ≡ frame_text v g → f ≡ g
of_version v f g is was same = (no_front v (spelling v f) (spelling v g) [] [] f g (is.0, refl) (was.0, refl) (ap (λ (bs : List ℕ). bs ++ []) (same_bytes v v f g is was same))).1

-- a text spells one frame
pub frame_is : (v w : Version) (f g : Frame) → IsFramed v f → IsFramed w g → frame_text v f ≡ frame_text w g → f ≡ g
frame_is One One f g is was same = of_version One f g is was same
frame_is Two Two f g is was same = of_version Two f g is was same
frame_is One Two f g is was same = absurd (versions_differ f g (same_bytes One Two f g is was same))
frame_is Two One f g is was same = absurd (versions_differ g f (sym (same_bytes Two One f g is was same)))

outcome_is : (o p : Outcome) → IsOutcome o → IsOutcome p → outcome_text o ≡ outcome_text p → o ≡ p
outcome_is (outcomes.Answer v) (outcomes.Answer w) is was same = ap outcomes.Answer (value_is v w is was (behind (codes "answer ") _ _ same))
outcome_is (outcomes.Fault v) (outcomes.Fault w) is was same = ap outcomes.Fault (value_is v w is was (behind (codes "fault ") _ _ same))
outcome_is outcomes.NoMethod outcomes.NoMethod is was same = refl
outcome_is o p is was same = absurd (let k = ap key same in omega (arith, k))

-- the call that stands behind its word
call_is : (r s : WireRep) (n m : ℕ) (v w : Value) → IsRep r × (n < 2 ^ 16) × HasText v → IsRep s × (m < 2 ^ 16) × HasText w
    → rep_text r ++ 32 ∷ (decimal n ++ 32 ∷ value_text v) ≡ rep_text s ++ 32 ∷ (decimal m ++ 32 ∷ value_text w) → events.Call r n v ≡ events.Call s m w
call_is r s n m v w is was same =
    let target = one_rep r s (32 ∷ (decimal n ++ 32 ∷ value_text v)) (32 ∷ (decimal m ++ 32 ∷ value_text w)) is.0 was.0 refl refl same in
    let method = one_number n m (32 ∷ value_text v) (32 ∷ value_text w) (omega (arith, is.1)) (omega (arith, was.1)) refl refl (tail_is _ _ _ _ target.1) in
    let value = value_is v w is.2 was.2 (tail_is _ _ _ _ method.1) in
    ap (λ (x : WireRep). events.Call x n v) target.0 ∙ ap (λ (x : ℕ). events.Call s x v) method.0 ∙ ap (λ (x : Value). events.Call s m x) value

-- the end of a job that stands behind its word
finish_is : (i j : ℕ) (o p : Outcome) → (i < 2 ^ 64) × IsOutcome o → (j < 2 ^ 64) × IsOutcome p → decimal i ++ 32 ∷ outcome_text o ≡ decimal j ++ 32 ∷ outcome_text p → events.Finish i o ≡ events.Finish j p
finish_is i j o p is was same =
    let job = one_number i j (32 ∷ outcome_text o) (32 ∷ outcome_text p) is.0 was.0 refl refl same in
    let outcome = outcome_is o p is.1 was.1 (tail_is _ _ _ _ job.1) in
    ap (λ (x : ℕ). events.Finish x o) job.0 ∙ ap (λ (x : Outcome). events.Finish j x) outcome

-- a text spells one event: events of different kinds differ in the first three letters
pub event_is : (v w : Version) (a b : Event) → IsTracedEvent v a → IsTracedEvent w b → event_text (arrival_text v a) a ≡ event_text (arrival_text w b) b → a ≡ b
event_is v w events.Export events.Export is was same = refl
event_is v w (events.Dup r) (events.Dup s) is was same = ap events.Dup (rep_is r s is was (behind (codes "dup ") _ _ same))
event_is v w (events.Release r) (events.Release s) is was same = ap events.Release (rep_is r s is was (behind (codes "release ") _ _ same))
event_is v w (events.Call r n x) (events.Call s m y) is was same = call_is r s n m x y is was (behind (codes "call ") _ _ same)
event_is v w (events.TakeReply c) (events.TakeReply d) is was same = ap events.TakeReply (number_is c d is was (behind (codes "take ") _ _ same))
event_is v w events.Claim events.Claim is was same = refl
event_is v w (events.Finish i o) (events.Finish j p) is was same = finish_is i j o p is was (behind (codes "finish ") _ _ same)
event_is v w (events.Act p) (events.Act q) is was same = ap events.Act (space_is p q is was (behind (codes "act ") _ _ same))
event_is v w events.Settle events.Settle is was same = refl
event_is v w events.Clean events.Clean is was same = refl
event_is v w (events.Withdraw x) (events.Withdraw y) is was same = ap events.Withdraw (number_is x y is was (behind (codes "withdraw ") _ _ same))
event_is v w (events.Transmit p) (events.Transmit q) is was same = ap events.Transmit (space_is p q is was (behind (codes "send ") _ _ same))
event_is v w (events.Arrive f) (events.Arrive g) is was same = ap events.Arrive (frame_is v w f g is was (behind (codes "arrive ") _ _ same))
event_is v w (events.Tick p) (events.Tick q) is was same = ap events.Tick (space_is p q is was (behind (codes "tick ") _ _ same))
event_is v w (events.Close p) (events.Close q) is was same = ap events.Close (space_is p q is was (behind (codes "close ") _ _ same))
event_is v w (events.Open p) (events.Open q) is was same = ap events.Open (space_is p q is.1 was.1 (behind (codes "open ") _ _ same))
event_is v w a b is was same = absurd (let k = ap key same in omega (arith, k))
