-- A text spells one result, in whichever version.
use Rattle.std.proofs.Common.{◌≡◌, ℕ, ◌^◌, ◌%◌, ◌<◌, List, [], ◌∷◌, ◌++◌, codes, refl, sym, ap, ◌∙◌, arith, Result, Ok, Err}
use Rattle.std.specs.List.{AllByRecursion}
use Rattle.std.specs.Fmt.{decimal}
use Rattle.nob_ids.specs.Names.{IsSpace}
use Rattle.nob_ids.specs.Reasons.{reason_number}
use Rattle.nob_ids.specs.declared.reason.Reason.{Reason}
use Rattle.nob_ids.specs.declared.reason.Reason.TheVariants as reasons
use Rattle.nob_pickle.specs.declared.value.Value.{Value}
use Rattle.nob_frame.specs.declared.frame.Frame.{Frame}
use Rattle.nob_frame.specs.declared.version.Version.{Version}
use Rattle.nob_frame.specs.Spelling.{spelling}
use Rattle.nob_model_types.specs.declared.answer.Job.{Job}
use Rattle.nob_model_types.specs.declared.answer.Answer.{Answer}
use Rattle.nob_model_types.specs.declared.answer.Answer.TheVariants as answers
use Rattle.nob_model_types.specs.declared.refusal.Use.{Use}
use Rattle.nob_model_types.specs.declared.refusal.Use.TheVariants as uses
use Rattle.nob_model_types.specs.declared.refusal.Refusal.{Refusal}
use Rattle.nob_model_types.specs.declared.refusal.Refusal.TheVariants as refusals
use Rattle.nob_model_text.specs.Fronts.{Stops}
use Rattle.nob_model_text.specs.Values.{value_text, HasText}
use Rattle.nob_model_text.specs.Answers.{job_text, refusal_text, use_text}
use Rattle.nob_model_text.proofs.Parting.{hex_no_mark}
use Rattle.nob_model_reading.specs.Told.{IsJob}
use Rattle.nob_trace.specs.Frames.{frame_text, frames_text, spaced_text, IsFramed}
use Rattle.nob_trace.specs.Entries.{IsTracedResult, result_text}
use Rattle.nob_trace.specs.Laws.{OneResult}
use Rattle.nob_trace.proofs.Spaced.{not_none, stops}
use Rattle.nob_trace.proofs.OneValue.{one_front, one_number, one_space, number_is, rep_is, value_is}
use Rattle.nob_trace.proofs.OneEvent.{behind, frame_is, key, tail_is}

-- ---- refusals

fifth : List ℕ → ℕ
fifth (a ∷ b ∷ c ∷ d ∷ e ∷ rest) = e
fifth other = 0

use_is : (u w : Use) → use_text u ≡ use_text w → u ≡ w
unfolding fifth
use_is uses.Held uses.Held same = refl
use_is uses.InTransit uses.InTransit same = refl
use_is uses.Listed uses.Listed same = refl
use_is uses.Agent uses.Agent same = refl
use_is u w same = absurd (let k = ap fifth same in omega (arith, k))

-- the number of a refusal
abbrev refusal_key : Refusal → ℕ
refusal_key refusals.NoPeer = key (codes "S1")
refusal_key refusals.Closed = key (codes "S2")
refusal_key refusals.NoObject = key (codes "S3")
refusal_key refusals.NotHeld = key (codes "S4")
refusal_key refusals.QueueFull = key (codes "S5")
refusal_key refusals.SeqEnd = key (codes "S6")
refusal_key refusals.TooBig = key (codes "S7")
refusal_key refusals.NoCall = key (codes "S8")
refusal_key refusals.NotReady = key (codes "S9")
refusal_key refusals.Nothing = key (codes "S10")
refusal_key (refusals.StillUsed u) = key (codes "S11")
refusal_key refusals.NoJob = key (codes "S12")
refusal_key refusals.Limit = key (codes "S13")
refusal_key refusals.StillOpen = key (codes "S15")
refusal_key refusals.StillHeld = key (codes "S16")

use_key : (u : Use) → key (use_text u) ≡ key (codes "S11")
use_key uses.Held = refl
use_key uses.InTransit = refl
use_key uses.Listed = refl
use_key uses.Agent = refl

refusal_keyed : (r : Refusal) → key (refusal_text r) ≡ refusal_key r
refusal_keyed (refusals.StillUsed u) = use_key u
refusal_keyed r = refl

same_refusal : (r s : Refusal) → refusal_key r ≡ refusal_key s → refusal_text r ≡ refusal_text s → r ≡ s
same_refusal refusals.NoPeer refusals.NoPeer keys same = refl
same_refusal refusals.Closed refusals.Closed keys same = refl
same_refusal refusals.NoObject refusals.NoObject keys same = refl
same_refusal refusals.NotHeld refusals.NotHeld keys same = refl
same_refusal refusals.QueueFull refusals.QueueFull keys same = refl
same_refusal refusals.SeqEnd refusals.SeqEnd keys same = refl
same_refusal refusals.TooBig refusals.TooBig keys same = refl
same_refusal refusals.NoCall refusals.NoCall keys same = refl
same_refusal refusals.NotReady refusals.NotReady keys same = refl
same_refusal refusals.Nothing refusals.Nothing keys same = refl
same_refusal (refusals.StillUsed u) (refusals.StillUsed w) keys same = ap refusals.StillUsed (use_is u w same)
same_refusal refusals.NoJob refusals.NoJob keys same = refl
same_refusal refusals.Limit refusals.Limit keys same = refl
same_refusal refusals.StillOpen refusals.StillOpen keys same = refl
same_refusal refusals.StillHeld refusals.StillHeld keys same = refl
same_refusal r s keys same = absurd (omega (arith, keys))

refusal_is : (r s : Refusal) → refusal_text r ≡ refusal_text s → r ≡ s
refusal_is r s same = same_refusal r s (sym (refusal_keyed r) ∙ ap key same ∙ refusal_keyed s) same

-- ---- frames

one_frame : (v w : Version) (f g : Frame) (rest left : List ℕ) → IsFramed v f → IsFramed w g → Stops rest → Stops left → frame_text v f ++ rest ≡ frame_text w g ++ left → (f ≡ g) × (rest ≡ left)
one_frame v w f g rest left is was stopped halts same =
    let parts = one_front (frame_text v f) (frame_text w g) rest left (hex_no_mark (spelling v f)) (hex_no_mark (spelling w g)) stopped halts same in
    (frame_is v w f g is was parts.0, parts.1)

nothing : (b : ℕ) (ys : List ℕ) → [] ≡ b ∷ ys → ⊥
nothing b ys e = cc

spaced_is : (v w : Version) (fs gs : List Frame) → AllByRecursion (IsFramed v) fs → AllByRecursion (IsFramed w) gs → spaced_text v fs ≡ spaced_text w gs → fs ≡ gs
spaced_is v w [] [] are were same = refl
spaced_is v w [] (g ∷ gs) are were same = absurd (nothing _ _ same)
spaced_is v w (f ∷ fs) [] are were same = absurd (nothing _ _ (sym same))
spaced_is v w (f ∷ fs) (g ∷ gs) are were same =
    let first = one_frame v w f g (spaced_text v fs) (spaced_text w gs) are.0 were.0 (stops v fs) (stops w gs) (tail_is _ _ _ _ same) in
    let others = spaced_is v w fs gs are.1 were.1 first.1 in
    ap (λ (x : Frame). x ∷ fs) first.0 ∙ ap (λ (xs : List Frame). g ∷ xs) others

frames_is : (v w : Version) (fs gs : List Frame) → AllByRecursion (IsFramed v) fs → AllByRecursion (IsFramed w) gs → frames_text v fs ≡ frames_text w gs → fs ≡ gs
frames_is v w [] [] are were same = refl
frames_is v w [] (g ∷ gs) are were same = absurd (not_none w g gs (behind (codes "frames") _ _ same))
frames_is v w (f ∷ fs) [] are were same = absurd (not_none v f fs (behind (codes "frames") _ _ (sym same)))
frames_is v w (f ∷ fs) (g ∷ gs) are were same = spaced_is v w (f ∷ fs) (g ∷ gs) are were (behind (codes "frames") _ _ same)

-- ---- answers

reason_small : (r : Reason) → reason_number r < 2 ^ 64
reason_small reasons.Asked = omega arith
reason_small r = omega arith

same_reason : (r s : Reason) → reason_number r ≡ reason_number s → r ≡ s
same_reason reasons.Asked reasons.Asked same = refl
same_reason reasons.PeerClosed reasons.PeerClosed same = refl
same_reason reasons.RetriesUsedUp reasons.RetriesUsedUp same = refl
same_reason reasons.BadItem reasons.BadItem same = refl
same_reason reasons.BadReference reasons.BadReference same = refl
same_reason reasons.OutOfPlace reasons.OutOfPlace same = refl
same_reason r s same = absurd (omega (arith, same))

reason_is : (r s : Reason) → decimal (reason_number r) ≡ decimal (reason_number s) → r ≡ s
reason_is r s same = same_reason r s (number_is (reason_number r) (reason_number s) (reason_small r) (reason_small s) same)

-- the reply that stands behind its word
reply_is : (n m : ℕ) (v w : Value) → (n < 2 ^ 8) × HasText v → (m < 2 ^ 8) × HasText w → decimal n ++ 32 ∷ value_text v ≡ decimal m ++ 32 ∷ value_text w → answers.Replied n v ≡ answers.Replied m w
reply_is n m v w is was same =
    let status = one_number n m (32 ∷ value_text v) (32 ∷ value_text w) (omega (arith, is.0)) (omega (arith, was.0)) refl refl same in
    let value = value_is v w is.1 was.1 (tail_is _ _ _ _ status.1) in
    ap (λ (x : ℕ). answers.Replied x v) status.0 ∙ ap (λ (x : Value). answers.Replied m x) value

-- the peer and the number that stand behind their word
settled_is : (p q n m : ℕ) → IsSpace p × (n < 2 ^ 64) → IsSpace q × (m < 2 ^ 64) → decimal p ++ 32 ∷ decimal n ≡ decimal q ++ 32 ∷ decimal m → answers.Settled p n ≡ answers.Settled q m
settled_is p q n m is was same =
    let peer = one_space p q (32 ∷ decimal n) (32 ∷ decimal m) is.0 was.0 refl refl same in
    let item = number_is n m is.1 was.1 (tail_is _ _ _ _ peer.1) in
    ap (λ (x : ℕ). answers.Settled x n) peer.0 ∙ ap (λ (x : ℕ). answers.Settled q x) item

same_job : (j k : Job) → j.job ≡ k.job → j.client ≡ k.client → j.call ≡ k.call → j.target ≡ k.target → j.method ≡ k.method → j.value ≡ k.value → j ≡ k
same_job j k a b c d e f =
    let made : ℕ → ℕ → ℕ → ℕ → ℕ → Value → Job = λ n p c t m v. record { job = n; call = c; target = t; client = p; method = m; value = v } in
    ap (λ (x : ℕ). made x j.client j.call j.target j.method j.value) a
    ∙ ap (λ (x : ℕ). made k.job x j.call j.target j.method j.value) b
    ∙ ap (λ (x : ℕ). made k.job k.client x j.target j.method j.value) c
    ∙ ap (λ (x : ℕ). made k.job k.client k.call x j.method j.value) d
    ∙ ap (λ (x : ℕ). made k.job k.client k.call k.target x j.value) e
    ∙ ap (λ (x : Value). made k.job k.client k.call k.target k.method x) f

job_is : (j k : Job) → IsJob j → IsJob k → job_text j ≡ job_text k → j ≡ k
job_is j k is was same =
    let job = one_number j.job k.job _ _ is.number was.number refl refl (behind (codes "job ") _ _ same) in
    let client = one_space j.client k.client _ _ is.client was.client refl refl (behind (codes " from ") _ _ job.1) in
    let call = one_number j.call k.call _ _ is.call was.call refl refl (behind (codes " call ") _ _ client.1) in
    let target = one_number j.target k.target _ _ is.target was.target refl refl (behind (codes " on ") _ _ call.1) in
    let method = one_number j.method k.method (32 ∷ value_text j.value) (32 ∷ value_text k.value) (let m = is.method in omega (arith, m)) (let m = was.method in omega (arith, m)) refl refl (behind (codes " method ") _ _ target.1) in
    same_job j k job.0 client.0 call.0 target.0 method.0 (value_is j.value k.value is.value was.value (tail_is _ _ _ _ method.1))

-- the first three letters of an answer
abbrev answer_key : Answer → ℕ
answer_key (answers.Exported r) = key (codes "exp")
answer_key answers.Done = key (codes "ok")
answer_key (answers.Called c) = key (codes "cal")
answer_key (answers.Replied n v) = key (codes "rep")
answer_key answers.Ended = key (codes "end")
answer_key (answers.Job j) = key (codes "job")
answer_key answers.Finished = key (codes "fin")
answer_key answers.Dropped = key (codes "dro")
answer_key (answers.Acted n) = key (codes "act")
answer_key (answers.Closed r) = key (codes "clo")
answer_key (answers.Settled p n) = key (codes "set")
answer_key (answers.Cleaned r) = key (codes "cle")
answer_key answers.Withdrawn = key (codes "wit")
answer_key (answers.Frames fs) = key (codes "fra")
answer_key (answers.Took n) = key (codes "too")
answer_key (answers.Opened n) = key (codes "ope")

frames_keyed : (v : Version) (fs : List Frame) → key (frames_text v fs) ≡ key (codes "fra")
frames_keyed v [] = refl
frames_keyed v (f ∷ fs) = refl

answer_keyed : (v : Version) (a : Answer) → key (result_text v (Ok a)) ≡ answer_key a
answer_keyed v (answers.Frames fs) = frames_keyed v fs
answer_keyed v a = refl

same_answer : (v w : Version) (a b : Answer) → answer_key a ≡ answer_key b → IsTracedResult v (Ok a) → IsTracedResult w (Ok b) → result_text v (Ok a) ≡ result_text w (Ok b) → a ≡ b
same_answer v w (answers.Exported r) (answers.Exported s) keys is was same = ap answers.Exported (rep_is r s is was (behind (codes "exported ") _ _ same))
same_answer v w answers.Done answers.Done keys is was same = refl
same_answer v w (answers.Called c) (answers.Called d) keys is was same = ap answers.Called (number_is c d is was (behind (codes "call ") _ _ same))
same_answer v w (answers.Replied n x) (answers.Replied m y) keys is was same = reply_is n m x y is was (behind (codes "reply ") _ _ same)
same_answer v w answers.Ended answers.Ended keys is was same = refl
same_answer v w (answers.Job j) (answers.Job k) keys is was same = ap answers.Job (job_is j k is was same)
same_answer v w answers.Finished answers.Finished keys is was same = refl
same_answer v w answers.Dropped answers.Dropped keys is was same = refl
same_answer v w (answers.Acted n) (answers.Acted m) keys is was same = ap answers.Acted (number_is n m is was (behind (codes "acted ") _ _ same))
same_answer v w (answers.Closed r) (answers.Closed s) keys is was same = ap answers.Closed (reason_is r s (behind (codes "closed ") _ _ same))
same_answer v w (answers.Settled p n) (answers.Settled q m) keys is was same = settled_is p q n m is was (behind (codes "settled ") _ _ same)
same_answer v w (answers.Cleaned r) (answers.Cleaned s) keys is was same = ap answers.Cleaned (rep_is r s is was (behind (codes "cleaned ") _ _ same))
same_answer v w answers.Withdrawn answers.Withdrawn keys is was same = refl
same_answer v w (answers.Frames fs) (answers.Frames gs) keys is was same = ap answers.Frames (frames_is v w fs gs is was same)
same_answer v w (answers.Took n) (answers.Took m) keys is was same = ap answers.Took (number_is n m is was (behind (codes "took ") _ _ same))
same_answer v w (answers.Opened n) (answers.Opened m) keys is was same = ap answers.Opened (number_is n m (omega (arith, is)) (omega (arith, was)) (behind (codes "opened ") _ _ same))
same_answer v w a b keys is was same = absurd (omega (arith, keys))

answer_is : (v w : Version) (a b : Answer) → IsTracedResult v (Ok a) → IsTracedResult w (Ok b) → result_text v (Ok a) ≡ result_text w (Ok b) → a ≡ b
answer_is v w a b is was same = same_answer v w a b (sym (answer_keyed v a) ∙ ap key same ∙ answer_keyed w b) is was same

-- ---- results

-- a refusal begins with an S, and no answer does
refusal_first : (r : Refusal) → refusal_key r % 256 ≡ 83
refusal_first refusals.NoPeer = refl
refusal_first r = refl

answer_first : (a : Answer) → answer_key a % 256 ≡ 83 → ⊥
answer_first answers.Done first = omega (arith, first)
answer_first a first = omega (arith, first)

apart : (a : Answer) (r : Refusal) → answer_key a ≡ refusal_key r → ⊥
apart a r keys = answer_first a (ap (λ (k : ℕ). k % 256) keys ∙ refusal_first r)

-- a text spells one result
pub result_is : (v w : Version) (a b : Result Answer Refusal) → IsTracedResult v a → IsTracedResult w b → result_text v a ≡ result_text w b → a ≡ b
result_is v w (Ok a) (Ok b) is was same = ap Ok (answer_is v w a b is was same)
result_is v w (Ok a) (Err s) is was same = absurd (apart a s (sym (answer_keyed v a) ∙ ap key same ∙ refusal_keyed s))
result_is v w (Err r) (Ok b) is was same = absurd (apart b r (sym (answer_keyed w b) ∙ ap key (sym same) ∙ refusal_keyed r))
result_is v w (Err r) (Err s) is was same = ap Err (refusal_is r s same)

pub one_result : OneResult
one_result text v w a b is was spelt again = result_is v w a b is was (sym spelt ∙ again)
