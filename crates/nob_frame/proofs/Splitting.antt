-- Bytes as frames, one after the other, and a rest.
use Rattle.std.proofs.Common.{◌≡◌, ◌≢◌, ℕ, ◌+◌, ◌-◌, ◌≤◌, List, [], ◌∷◌, ◌++◌, length, take, drop, Ok, Err, refl, sym, ap, subst, ◌∙◌, append_assoc, arith, inl, inr}
use Rattle.std.specs.List.{flat_map, AllByRecursion}
use Rattle.std.proofs.lemmas.List.{append_cancel_left, flat_map_more, drop_at, length-append}
use Rattle.nob_frame.specs.declared.fault.FrameFault.{FrameFault}
use Rattle.nob_frame.specs.declared.fault.FrameFault.TheVariants as faults
use Rattle.nob_frame.specs.declared.frame.Frame.{Frame}
use Rattle.nob_frame.specs.declared.header.Header.{Header}
use Rattle.nob_frame.specs.declared.version.Version.TheVariants.{Two}
use Rattle.nob_frame.specs.Spelling.{Fits, spelling}
use Rattle.nob_frame.specs.Reading.{frame_of, front_of, front_at}
use Rattle.nob_frame.specs.Laws.{OneSplit}
use Rattle.nob_frame.specs.Streams.{Splits, IsCut, IsBroken}
use Rattle.nob_bytes.proofs.Lists.{IsBytes, IsBytes-drop}
use Rattle.nob_frame.proofs.Codec.{front_taken, no_front}
use Rattle.nob_frame.proofs.Fronts.{begins_none, first_fault, front_stands, front_fault_stays}

-- ---- one way to split

pub one_split : OneSplit
one_split bytes [] [] rest left p q = (refl, sym p.whole ∙ q.whole)
one_split bytes [] (y ∷ others) rest left p q =
    absurd (p.none y (flat_map (spelling Two) others ++ left) q.each.0 (sym p.whole ∙ q.whole ∙ append_assoc (spelling Two y) (flat_map (spelling Two) others) left))
one_split bytes (x ∷ frames) [] rest left p q =
    absurd (q.none x (flat_map (spelling Two) frames ++ rest) p.each.0 (sym q.whole ∙ p.whole ∙ append_assoc (spelling Two x) (flat_map (spelling Two) frames) rest))
one_split bytes (x ∷ frames) (y ∷ others) rest left p q =
    let after = flat_map (spelling Two) frames ++ rest in
    let twin = flat_map (spelling Two) others ++ left in
    let both : spelling Two x ++ after ≡ spelling Two y ++ twin =
    sym (append_assoc (spelling Two x) (flat_map (spelling Two) frames) rest) ∙ sym p.whole ∙ q.whole ∙ append_assoc (spelling Two y) (flat_map (spelling Two) others) left in
    let first = no_front Two (spelling Two x) (spelling Two y) after twin x y (p.each.0, refl) (q.each.0, refl) both in
    let tails : after ≡ twin = append_cancel_left (spelling Two x) after twin (both ∙ ap (λ (f : Frame). spelling Two f ++ twin) (sym first.1)) in
    let next = one_split after frames others rest left (record { whole = refl; each = p.each.1; none = p.none }) (record { whole = tails; each = q.each.1; none = q.none }) in
    (ap (λ (f : Frame). f ∷ frames) first.1 ∙ ap (λ (fs : List Frame). y ∷ fs) next.0, next.1)

-- ---- reading one frame after the other

-- what was read so far, and what is left to read
pub record Reads (bytes : List ℕ) (frames : List Frame) (rest : List ℕ) : Type 0 where
  pub parts : bytes ≡ flat_map (spelling Two) frames ++ rest
  pub each : AllByRecursion (Fits Two) frames

each_more : (frames : List Frame) (frame : Frame) → AllByRecursion (Fits Two) frames → Fits Two frame → AllByRecursion (Fits Two) (frames ++ frame ∷ [])
each_more [] frame all one = (one, tt)
each_more (x ∷ frames) frame all one = (all.0, each_more frames frame all.1 one)

-- the rest by how many bytes were read
pub rest_is : (bytes : List ℕ) (frames : List Frame) (rest : List ℕ) → Reads bytes frames rest → (length rest ≤ length bytes) × (drop (length bytes - length rest) bytes ≡ rest)
rest_is bytes frames rest so_far =
    let front = flat_map (spelling Two) frames in
    let sum : length bytes ≡ length front + length rest = ap length so_far.parts ∙ length-append front rest in
    (omega arith, ap (drop (length bytes - length rest)) so_far.parts ∙ drop_at front rest (length bytes - length rest) (omega arith))

pub reads_on : (bytes : List ℕ) (frames : List Frame) (rest : List ℕ) (frame : Frame) (after : List ℕ) → IsBytes bytes → Reads bytes frames rest → front_at Two rest ≡ Ok (frame, after) → Reads bytes (frames ++ frame ∷ []) after
reads_on bytes frames rest frame after fits so_far e =
    let place = rest_is bytes frames rest so_far in
    let t = front_taken Two rest frame after (subst IsBytes place.1 (IsBytes-drop (length bytes - length rest) bytes fits)) e in
    record {
      parts = so_far.parts ∙ ap (λ (x : List ℕ). flat_map (spelling Two) frames ++ x) t.1 ∙ sym (append_assoc (flat_map (spelling Two) frames) (spelling Two frame) after)
          ∙ ap (λ (x : List ℕ). x ++ after) (flat_map_more (spelling Two) [] frames frame);
      each = each_more frames frame so_far.each t.0;
    }

-- the same, as the code has the parts of the frame
pub reads_push : (bytes : List ℕ) (frames : List Frame) (rest : List ℕ) (header : Header) (frame : Frame) (payload after tail : List ℕ) → IsBytes bytes → Reads bytes frames rest
    → front_at Two rest ≡ Ok (front_of Two header rest) → tail ≡ drop 32 rest → payload ≡ take header.length tail → after ≡ drop header.length tail → frame ≡ frame_of header payload
    → Reads bytes (frames ++ frame ∷ []) after
reads_push bytes frames rest header frame payload after tail fits so_far e tail_is payload_is after_is frame_is =
    let bytes_are : payload ≡ take header.length (drop 32 rest) = payload_is ∙ ap (take header.length) tail_is in
    let frame_at_front : frame_of header (take header.length (drop 32 rest)) ≡ frame = ap (frame_of header) (sym bytes_are) ∙ sym frame_is in
    let after_front : drop header.length (drop 32 rest) ≡ after = ap (drop header.length) (sym tail_is) ∙ sym after_is in
    let on = reads_on bytes frames rest (frame_of header (take header.length (drop 32 rest))) (drop header.length (drop 32 rest)) fits so_far e in
    subst (λ (f : Frame). Reads bytes (frames ++ f ∷ []) after) frame_at_front (subst (λ (r : List ℕ). Reads bytes (frames ++ frame_of header (take header.length (drop 32 rest)) ∷ []) r) after_front on)

pub reads_end : (bytes : List ℕ) (frames : List Frame) (rest : List ℕ) (fault : FrameFault) → Reads bytes frames rest → front_at Two rest ≡ Err fault → Splits bytes frames rest
reads_end bytes frames rest fault so_far e = record { whole = so_far.parts; each = so_far.each; none = begins_none rest fault e }

-- what a scan found where F1 stands
pub scan_cut : (bytes : List ℕ) (frames : List Frame) (rest : List ℕ) → Reads bytes frames rest → front_at Two rest ≡ Err faults.Short
    → Splits bytes frames (drop (length bytes - length rest) bytes) × IsCut (drop (length bytes - length rest) bytes)
scan_cut bytes frames rest so_far e =
    let place = rest_is bytes frames rest so_far in
    subst (λ (r : List ℕ). Splits bytes frames r × IsCut r) (sym place.1) (reads_end bytes frames rest faults.Short so_far e, first_fault rest faults.Short e)

-- and where another fault stands
pub scan_broken : (bytes : List ℕ) (frames : List Frame) (rest : List ℕ) (fault : FrameFault) → Reads bytes frames rest → front_at Two rest ≡ Err fault → fault ≢ faults.Short
    → Splits bytes frames rest × IsBroken rest fault
scan_broken bytes frames rest fault so_far e ne =
    (reads_end bytes frames rest fault so_far e, (first_fault rest fault e, ne, elim (front_stands rest fault e) [ inl inner ↦ inner.1 | inr short ↦ absurd (ne short.0) ]))

-- ---- more bytes

-- a broken rest stays broken, and the frames before it are the same
pub broken_more : (bytes more : List ℕ) (frames : List Frame) (rest : List ℕ) (fault : FrameFault) → Splits bytes frames rest → front_at Two rest ≡ Err fault → fault ≢ faults.Short → Splits (bytes ++ more) frames (rest ++ more)
broken_more bytes more frames rest fault s e ne =
    record {
      whole = ap (λ (x : List ℕ). x ++ more) s.whole ∙ append_assoc (flat_map (spelling Two) frames) rest more;
      each = s.each;
      none = begins_none (rest ++ more) fault (front_fault_stays rest more fault e ne);
    }

-- frames, and then more frames
both_flat : (frames others : List Frame) (rest : List ℕ) → flat_map (spelling Two) frames ++ (flat_map (spelling Two) others ++ rest) ≡ flat_map (spelling Two) (frames ++ others) ++ rest
both_flat [] others rest = refl
both_flat (x ∷ frames) others rest =
    append_assoc (spelling Two x) (flat_map (spelling Two) frames) (flat_map (spelling Two) others ++ rest) ∙ ap (λ (y : List ℕ). spelling Two x ++ y) (both_flat frames others rest)
    ∙ sym (append_assoc (spelling Two x) (flat_map (spelling Two) (frames ++ others)) rest)

both_each : (frames others : List Frame) → AllByRecursion (Fits Two) frames → AllByRecursion (Fits Two) others → AllByRecursion (Fits Two) (frames ++ others)
both_each [] others a b = b
both_each (x ∷ frames) others a b = (a.0, both_each frames others a.1 b)

pub splits_on : (bytes piece : List ℕ) (frames others : List Frame) (kept rest : List ℕ) → Splits bytes frames kept → Splits (kept ++ piece) others rest → Splits (bytes ++ piece) (frames ++ others) rest
splits_on bytes piece frames others kept rest a b =
    record {
      whole = ap (λ (x : List ℕ). x ++ piece) a.whole ∙ append_assoc (flat_map (spelling Two) frames) kept piece ∙ ap (λ (x : List ℕ). flat_map (spelling Two) frames ++ x) b.whole ∙ both_flat frames others rest;
      each = both_each frames others a.each b.each;
      none = b.none;
    }
