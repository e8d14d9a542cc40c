-- What is read is spelled so, and what is spelled so is read.
use Rattle.std.proofs.Common.{◌≡◌, ◌≢◌, ℕ, ◌+◌, ◌^◌, ◌<◌, ◌≤◌, Bool, true, false, cond, not, ltb, eqb, List, [], ◌∷◌, ◌++◌, length, take, drop, Some, None, Result, Ok, Err, refl, sym, ap, subst, ◌∙◌, append_assoc, arith}
use Rattle.std.specs.Prelude.{IfOk}
use Rattle.std.specs.Global.{Vec}
use Rattle.std.proofs.lemmas.Bool.{ltb-false, le-ltb, eqb-true, eq-eqb}
use Rattle.std.proofs.lemmas.Bool.Decides.{nat_tests}
use Rattle.std.proofs.lemmas.List.{take_at, drop_at, take-append-drop, length-append, length-take-le, append-nil, nil_from_length}
use Rattle.byteorder.specs.Endian.{big_bytes}
use Rattle.byteorder.specs.Numbers.{big_number-reads_back}
use Rattle.nob_bytes.specs.Numbers.{field}
use Rattle.nob_bytes.proofs.Lists.{IsBytes, joined, take_both}
use Rattle.nob_bytes.proofs.Numbers.{back_2, back_4, back_8, field_bytes}
use Rattle.nob_ids.specs.Names.{IsSpace}
use Rattle.nob_frame.specs.declared.fault.FrameFault.{FrameFault}
use Rattle.nob_frame.specs.declared.fault.FrameFault.TheVariants as faults
use Rattle.nob_frame.specs.declared.fault.FrameError.{FrameError}
use Rattle.nob_frame.specs.declared.frame.Frame.{Frame}
use Rattle.nob_frame.specs.declared.frame.FrameKind.{FrameKind}
use Rattle.nob_frame.specs.declared.frame.FrameKind.TheVariants.{Data, Ack, Close}
use Rattle.nob_frame.specs.declared.header.Header.{Header}
use Rattle.nob_frame.specs.declared.version.Version.{Version}
use Rattle.nob_frame.specs.declared.version.Version.TheVariants.{One, Two}
use Rattle.nob_frame.specs.Kinds.{kind_number, kind_of}
use Rattle.nob_frame.specs.Versions.{version_number, header_length, session_bytes, session_at, is_session, HasSession}
use Rattle.nob_frame.specs.Spelling.{marks, numbers, heading, header_of, spelling, HasSeq, Carries, Fits, Spelt}
use Rattle.nob_frame.specs.Reading.{◌>>=◌, are_spaces, is_seq, is_next, is_length, is_payload, sound, known, kind_at, numbers_at, header_at, payload_at, frame_of, front_of, front_at, frame_at, bytes_of, Gives}
use Rattle.nob_frame.specs.Laws.{NoFront}

-- the value of a step that did not fail
pub bind_ok : {A B : Type 0} (r : Result A FrameFault) (f : A → Result B FrameFault) (y : B) → (r >>= f) ≡ Ok y → (x : A) × (r ≡ Ok x) × (f x ≡ Ok y)
bind_ok (Ok x) f y e = (x, refl, e)
bind_ok (Err d) f y e = absurd cc

-- a test that did not fail
pub guard_ok : {A : Type 0} (b : Bool) (d : FrameFault) (r : Result A FrameFault) (y : A) → cond b (Err d) r ≡ Ok y → (b ≡ false) × (r ≡ Ok y)
guard_ok true d r y e = absurd cc
guard_ok false d r y e = (refl, e)

-- a test that ends the reading
pub guard_ended : {A : Type 0} (b : Bool) (d : FrameFault) (x y : A) → cond b (Ok x) (Err d) ≡ Ok y → (b ≡ true) × (x ≡ y)
guard_ended true d x y e = (refl, cc)
guard_ended false d x y e = absurd cc

not_false : (b : Bool) → not b ≡ false → b ≡ true
not_false true e = refl
not_false false e = absurd cc

abbrev done : {A : Type 0} → A → Result A FrameFault
done x = Ok x

pub ok_is : {A : Type 0} (x y : A) → done x ≡ done y → x ≡ y
ok_is x y e = cc

-- ---- the tests and the facts

-- a header that passes the tests of a version
pub record Passes (version : Version) (header : Header) : Type 0 where
  pub spaces : are_spaces header.from header.to ≡ true
  pub seq : is_seq header.kind header.seq ≡ true
  pub ack : is_next header.ack ≡ true
  pub len : is_length header.kind header.length ≡ true
  pub session : is_session version header.session ≡ true

pub sound_passes : (version : Version) (header found : Header) → sound version header ≡ Ok found → (header ≡ found) × Passes version header
unfolding sound
sound_passes version header found e =
    let a = guard_ok (not (are_spaces header.from header.to)) faults.Spaces _ found e in
    let b = guard_ok (not (is_seq header.kind header.seq)) faults.Seq _ found a.1 in
    let c = guard_ok (not (is_next header.ack)) faults.Ack _ found b.1 in
    let d = guard_ok (not (is_length header.kind header.length)) faults.Length _ found c.1 in
    let g = guard_ok (not (is_session version header.session)) faults.Session _ found d.1 in
    (ok_is header found g.1, record { spaces = not_false _ a.0; seq = not_false _ b.0; ack = not_false _ c.0; len = not_false _ d.0; session = not_false _ g.0 })

pub passes_sound : (version : Version) (header : Header) → Passes version header → sound version header ≡ Ok header
unfolding sound
passes_sound version header h = rw (h.spaces, h.seq, h.ack, h.len, h.session) refl

session_is : (version : Version) (session : ℕ) → is_session version session ≡ true → HasSession version session
session_is One session e = eqb-true session 1 e
session_is Two session e = grind (arith, nat_tests)

session_passes : (version : Version) (session : ℕ) → HasSession version session → is_session version session ≡ true
session_passes One session h = eq-eqb session 1 h
session_passes Two session h = grind (arith, nat_tests)

spaces_are : (from to : ℕ) → are_spaces from to ≡ true → IsSpace from × IsSpace to × (from ≢ to)
spaces_are from to e = (grind (arith, nat_tests), grind (arith, nat_tests), grind (arith, nat_tests))

spaces_pass : (from to : ℕ) → IsSpace from → IsSpace to → from ≢ to → are_spaces from to ≡ true
spaces_pass from to a b c = grind (arith, nat_tests)

seq_is : (kind : FrameKind) (seq : ℕ) → is_seq kind seq ≡ true → HasSeq kind seq
seq_is Data seq e = grind (arith, nat_tests)
seq_is Ack seq e = eqb-true seq 0 e
seq_is Close seq e = eqb-true seq 0 e

seq_passes : (kind : FrameKind) (seq : ℕ) → HasSeq kind seq → is_seq kind seq ≡ true
seq_passes Data seq h = grind (arith, nat_tests)
seq_passes Ack seq h = eq-eqb seq 0 h
seq_passes Close seq h = eq-eqb seq 0 h

next_is : (ack : ℕ) → is_next ack ≡ true → (1 ≤ ack) × (ack ≤ 2 ^ 40 + 1)
next_is ack e = grind (arith, nat_tests)

next_passes : (ack : ℕ) → 1 ≤ ack → ack ≤ 2 ^ 40 + 1 → is_next ack ≡ true
next_passes ack a b = grind (arith, nat_tests)

one_reason : (payload : List ℕ) → length payload ≡ 1 → is_payload Close payload ≡ true → Carries Close payload
one_reason [] a b = absurd (omega arith)
one_reason (reason ∷ []) a b = (reason, grind (arith, nat_tests), grind (arith, nat_tests), refl)
one_reason (reason ∷ other ∷ rest) a b = absurd (omega arith)

carries_is : (kind : FrameKind) (payload : List ℕ) → is_length kind (length payload) ≡ true → is_payload kind payload ≡ true → Carries kind payload
carries_is Data payload a b = grind (arith, nat_tests)
carries_is Ack payload a b = nil_from_length payload (eqb-true (length payload) 0 a)
carries_is Close payload a b = one_reason payload (eqb-true (length payload) 1 a) b

carries_passes : (kind : FrameKind) (payload : List ℕ) → Carries kind payload → (is_length kind (length payload) ≡ true) × (is_payload kind payload ≡ true)
carries_passes Data payload h = (grind (arith, nat_tests), refl)
carries_passes Ack payload h = (eq-eqb (length payload) 0 (ap length h), refl)
carries_passes Close payload h =
    let G : List ℕ → Type 0 = λ p. (is_length Close (length p) ≡ true) × (is_payload Close p ≡ true) in
    let low : 1 ≤ h.0 = h.1 in
    let high : h.0 ≤ 6 = h.2 in
    subst G (sym h.3) (refl, grind (arith, nat_tests))

pub fits_from : (version : Version) (frame : Frame) → Passes version (header_of frame) → is_payload frame.kind frame.payload ≡ true → Fits version frame
fits_from version frame h p =
    let s = spaces_are frame.from frame.to h.spaces in
    let a = next_is frame.ack h.ack in
    record { from = s.0; to = s.1; apart = s.2; session = session_is version frame.session h.session; seq = seq_is frame.kind frame.seq h.seq; low_ack = a.0; high_ack = a.1; carries = carries_is frame.kind frame.payload h.len p }

pub fits_passes : (version : Version) (frame : Frame) → Fits version frame → Passes version (header_of frame) × (is_payload frame.kind frame.payload ≡ true)
fits_passes version frame fits =
    let c = carries_passes frame.kind frame.payload fits.carries in
    let spaces = spaces_pass frame.from frame.to fits.from fits.to fits.apart in
    let seq = seq_passes frame.kind frame.seq fits.seq in
    let ack = next_passes frame.ack fits.low_ack fits.high_ack in
    (record { spaces = spaces; seq = seq; ack = ack; len = c.0; session = session_passes version frame.session fits.session }, c.1)

-- ---- from bytes

-- the byte of a kind that was read
known_number : (c : ℕ) (one two three : Bool) → one ≡ eqb c 1 → two ≡ eqb c 2 → three ≡ eqb c 3 → (kind : FrameKind)
    → known (cond one (Some Data) (cond two (Some Ack) (cond three (Some Close) None))) ≡ Ok kind → kind_number kind ≡ c
known_number c true two three e f g kind h = subst (λ (k : FrameKind). kind_number k ≡ c) (ok_is Data kind h) (sym (eqb-true c 1 (sym e)))
known_number c false true three e f g kind h = subst (λ (k : FrameKind). kind_number k ≡ c) (ok_is Ack kind h) (sym (eqb-true c 2 (sym f)))
known_number c false false true e f g kind h = subst (λ (k : FrameKind). kind_number k ≡ c) (ok_is Close kind h) (sym (eqb-true c 3 (sym g)))
known_number c false false false e f g kind h = absurd cc

-- the numbers of a header that was read
numbers_taken : (version : Version) (kind : FrameKind) (bytes : List ℕ) → IsBytes bytes → 28 ≤ length bytes → numbers (numbers_at version kind bytes) ≡ take 24 (drop 4 bytes)
numbers_taken version kind bytes fits len =
    let from = field 4 2 bytes in
    let to = field 6 2 bytes in
    let seq = field 8 8 bytes in
    let ack = field 16 8 bytes in
    let size = field 24 4 bytes in
    let two = joined 4 2 2 bytes (big_bytes 2 from) (big_bytes 2 to) (field_bytes 4 2 bytes back_2 fits (omega arith)) (field_bytes 6 2 bytes back_2 fits (omega arith)) in
    let three = joined 4 4 8 bytes (big_bytes 2 from ++ big_bytes 2 to) (big_bytes 8 seq) two (field_bytes 8 8 bytes back_8 fits (omega arith)) in
    let four = joined 4 12 8 bytes (big_bytes 2 from ++ big_bytes 2 to ++ big_bytes 8 seq) (big_bytes 8 ack) three (field_bytes 16 8 bytes back_8 fits (omega arith)) in
    joined 4 20 4 bytes (big_bytes 2 from ++ big_bytes 2 to ++ big_bytes 8 seq ++ big_bytes 8 ack) (big_bytes 4 size) four (field_bytes 24 4 bytes back_4 fits (omega arith))

-- the number of the session behind the other numbers that were read
session_taken : (version : Version) (bytes : List ℕ) → IsBytes bytes → header_length version ≤ length bytes → take 28 bytes ++ session_bytes version (session_at version bytes) ≡ take (header_length version) bytes
session_taken One bytes fits len = append-nil (take 28 bytes)
session_taken Two bytes fits len = ap (λ (x : List ℕ). take 28 bytes ++ x) (field_bytes 28 4 bytes back_4 fits (omega arith)) ∙ take_both 28 4 bytes

-- a header of either version has 28 bytes and more
at_least : (version : Version) (size : ℕ) → header_length version ≤ size → 28 ≤ size
at_least One size len = len
at_least Two size len = omega arith

kind_marks : (version : Version) (bytes : List ℕ) (kind : FrameKind) → 4 ≤ length bytes → kind_at version bytes ≡ Ok kind → marks version kind ≡ take 4 bytes
unfolding kind_at
kind_marks version [] kind len e = absurd (omega arith)
kind_marks version (a ∷ []) kind len e = absurd (omega arith)
kind_marks version (a ∷ b ∷ []) kind len e = absurd (omega arith)
kind_marks version (a ∷ b ∷ c ∷ []) kind len e = absurd (omega arith)
kind_marks version (a ∷ b ∷ c ∷ d ∷ rest) kind len e =
    let g1 = guard_ok (not (eqb a 78)) faults.Magic _ kind e in
    let g2 = guard_ok (not (eqb b (version_number version))) faults.Version _ kind g1.1 in
    let g3 = bind_ok (known (kind_of c)) (λ k. cond (not (eqb d 0)) (Err faults.Flags) (Ok k)) kind g2.1 in
    let g4 = guard_ok (not (eqb d 0)) faults.Flags (Ok g3.0) kind g3.2 in
    let a-is : a ≡ 78 = eqb-true a 78 (not_false _ g1.0) in
    let b-is : b ≡ version_number version = eqb-true b (version_number version) (not_false _ g2.0) in
    let d-is : d ≡ 0 = eqb-true d 0 (not_false _ g4.0) in
    let same : g3.0 ≡ kind = ok_is g3.0 kind g4.1 in
    let c-is : kind_number g3.0 ≡ c = known_number c (eqb c 1) (eqb c 2) (eqb c 3) refl refl refl g3.0 g3.1 in
    let k-is : kind_number kind ≡ c = subst (λ (k : FrameKind). kind_number k ≡ c) same c-is in
    cc

pub heading_taken : (version : Version) (bytes : List ℕ) (header : Header) → IsBytes bytes → header_at version bytes ≡ Ok header
    → (heading version header ≡ take (header_length version) bytes) × Passes version header × (header_length version ≤ length bytes)
unfolding header_at heading
heading_taken version bytes header fits e =
    let a = guard_ok (ltb (length bytes) (header_length version)) faults.Short _ header e in
    let len : header_length version ≤ length bytes = ltb-false _ _ a.0 in
    let long : 28 ≤ length bytes = at_least version (length bytes) len in
    let b = bind_ok (kind_at version bytes) (λ kind. sound version (numbers_at version kind bytes)) header a.1 in
    let read = numbers_at version b.0 bytes in
    let s = sound_passes version read header b.2 in
    let m : marks version b.0 ≡ take 4 bytes = kind_marks version bytes b.0 (omega arith) b.1 in
    let n = numbers_taken version b.0 bytes fits long in
    let common : marks version b.0 ++ numbers read ≡ take 28 bytes = ap (λ (x : List ℕ). x ++ numbers read) m ∙ ap (λ (x : List ℕ). take 4 bytes ++ x) n ∙ take_both 4 24 bytes in
    let whole : heading version read ≡ take (header_length version) bytes =
    ap (λ (x : List ℕ). x ++ session_bytes version (session_at version bytes)) common ∙ session_taken version bytes fits len in
    (subst (λ (h : Header). heading version h ≡ take (header_length version) bytes) s.0 whole, subst (Passes version) s.0 s.1, len)

pub front_taken : (version : Version) (bytes : List ℕ) (frame : Frame) (after : List ℕ) → IsBytes bytes → front_at version bytes ≡ Ok (frame, after)
    → Fits version frame × (bytes ≡ spelling version frame ++ after)
unfolding front_at payload_at
front_taken version bytes frame after fits e =
    let rest = drop (header_length version) bytes in
    let b = bind_ok (header_at version bytes) (λ header. payload_at header.kind header.length rest >>= λ parts. Ok (frame_of header parts.0, parts.1)) (frame, after) e in
    let h = b.0 in
    let t = heading_taken version bytes h fits b.1 in
    let c = bind_ok (payload_at h.kind h.length rest) (λ parts. Ok (frame_of h parts.0, parts.1)) (frame, after) b.2 in
    let g1 = guard_ok (ltb (length rest) h.length) faults.Short _ c.0 c.1 in
    let g2 = guard_ok (not (is_payload h.kind (take h.length rest))) faults.Reason (Ok (take h.length rest, drop h.length rest)) c.0 g1.1 in
    let size : length (take h.length rest) ≡ h.length = length-take-le h.length rest (ltb-false _ _ g1.0) in
    let made : Frame × List ℕ = front_of version h bytes in
    let is : made ≡ (frame, after) = ap (λ (parts : List ℕ × List ℕ). (frame_of h parts.0, parts.1)) (ok_is (take h.length rest, drop h.length rest) c.0 g2.1) ∙ ok_is (frame_of h c.0.0, c.0.1) (frame, after) c.2 in
    let same : header_of made.0 ≡ h = ap (λ (n : ℕ). record h { length = n }) size in
    let fit : Fits version made.0 = fits_from version made.0 (subst (Passes version) (sym same) t.1) (not_false _ g2.0) in
    let front : heading version (header_of made.0) ≡ take (header_length version) bytes = ap (heading version) same ∙ t.0 in
    let head = heading version (header_of made.0) in
    let whole : bytes ≡ spelling version made.0 ++ made.1 =
    sym (take-append-drop (header_length version) bytes) ∙ ap (λ (x : List ℕ). x ++ rest) (sym front) ∙ ap (λ (x : List ℕ). head ++ x) (sym (take-append-drop h.length rest))
    ∙ sym (append_assoc head (take h.length rest) (drop h.length rest)) in
    subst (λ (x : Frame × List ℕ). Fits version x.0 × (bytes ≡ spelling version x.0 ++ x.1)) is (fit, whole)

pub frame_taken : (version : Version) (bytes : List ℕ) (frame : Frame) → IsBytes bytes → frame_at version bytes ≡ Ok frame → Spelt version bytes frame
unfolding frame_at
frame_taken version bytes frame fits e =
    let b = bind_ok (front_at version bytes) (λ front. cond (eqb (length front.1) 0) (Ok front.0) (Err faults.Trailing)) frame e in
    let g = guard_ended (eqb (length b.0.1) 0) faults.Trailing b.0.0 frame b.2 in
    let t = front_taken version bytes b.0.0 b.0.1 fits b.1 in
    let nothing : b.0.1 ≡ [] = nil_from_length b.0.1 (eqb-true _ _ g.0) in
    let spelled = spelling version b.0.0 in
    let whole : bytes ≡ spelled = t.1 ∙ ap (λ (x : List ℕ). spelled ++ x) nothing ∙ append-nil spelled in
    subst (Spelt version bytes) g.1 (t.0, whole)

-- ---- from a frame

kind_again : (version : Version) (kind : FrameKind) (rest : List ℕ) → kind_at version (marks version kind ++ rest) ≡ Ok kind
unfolding kind_at
kind_again One Data rest = refl
kind_again One Ack rest = refl
kind_again One Close rest = refl
kind_again Two Data rest = refl
kind_again Two Ack rest = refl
kind_again Two Close rest = refl

short_length : (kind : FrameKind) (len : ℕ) → is_length kind len ≡ true → len < 256 ^ 4
short_length Data len e = grind (arith, nat_tests)
short_length Ack len e = let z : len ≡ 0 = eqb-true len 0 e in omega arith
short_length Close len e = let z : len ≡ 1 = eqb-true len 1 e in omega arith

small_seq : (kind : FrameKind) (seq : ℕ) → is_seq kind seq ≡ true → seq < 256 ^ 8
small_seq Data seq e = grind (arith, nat_tests)
small_seq Ack seq e = let z : seq ≡ 0 = eqb-true seq 0 e in omega arith
small_seq Close seq e = let z : seq ≡ 0 = eqb-true seq 0 e in omega arith

-- a heading has the length of a header
heading_length : (version : Version) (header : Header) → length (heading version header) ≡ header_length version
unfolding heading
heading_length One header = refl
heading_length Two header = refl

-- the number of the session that was written is read again
session_again : (version : Version) (header : Header) (after : List ℕ) → HasSession version header.session → session_at version (heading version header ++ after) ≡ header.session
unfolding heading
session_again One header after h = sym h
session_again Two header after h = let less : header.session < 2 ^ 32 = h.1 in big_number-reads_back 4 header.session after (omega arith)

-- the numbers that were written are read again
numbers_again : (version : Version) (header : Header) (after : List ℕ) → Passes version header → numbers_at version header.kind (heading version header ++ after) ≡ header
unfolding heading
numbers_again version header after h =
    let bytes = heading version header ++ after in
    let behind = session_bytes version header.session ++ after in
    let s = spaces_are header.from header.to h.spaces in
    let a = next_is header.ack h.ack in
    let from : field 4 2 bytes ≡ header.from = big_number-reads_back 2 header.from behind (omega arith) in
    let to : field 6 2 bytes ≡ header.to = big_number-reads_back 2 header.to behind (omega arith) in
    let seq : field 8 8 bytes ≡ header.seq = big_number-reads_back 8 header.seq behind (small_seq header.kind header.seq h.seq) in
    let ack : field 16 8 bytes ≡ header.ack = big_number-reads_back 8 header.ack behind (omega arith) in
    let len : field 24 4 bytes ≡ header.length = big_number-reads_back 4 header.length behind (short_length header.kind header.length h.len) in
    let session : session_at version bytes ≡ header.session = session_again version header after (session_is version header.session h.session) in
    let made : ℕ → ℕ → ℕ → ℕ → ℕ → ℕ → Header = λ f t n s a l. record { kind = header.kind; from = f; to = t; session = n; seq = s; ack = a; length = l } in
    ap (λ (x : ℕ). made x (field 6 2 bytes) (session_at version bytes) (field 8 8 bytes) (field 16 8 bytes) (field 24 4 bytes)) from
    ∙ ap (λ (x : ℕ). made header.from x (session_at version bytes) (field 8 8 bytes) (field 16 8 bytes) (field 24 4 bytes)) to
    ∙ ap (λ (x : ℕ). made header.from header.to x (field 8 8 bytes) (field 16 8 bytes) (field 24 4 bytes)) session
    ∙ ap (λ (x : ℕ). made header.from header.to header.session x (field 16 8 bytes) (field 24 4 bytes)) seq
    ∙ ap (λ (x : ℕ). made header.from header.to header.session header.seq x (field 24 4 bytes)) ack
    ∙ ap (λ (x : ℕ). made header.from header.to header.session header.seq header.ack x) len

pub header_again : (version : Version) (header : Header) (after : List ℕ) → Passes version header → header_at version (heading version header ++ after) ≡ Ok header
unfolding header_at heading
header_again version header after h =
    let bytes = heading version header ++ after in
    let size = heading_length version header in
    let len : ltb (length bytes) (header_length version) ≡ false = le-ltb _ _ (omega (arith, length-append (heading version header) after)) in
    ap (λ (b : Bool). cond b (Err faults.Short) (kind_at version bytes >>= λ kind. sound version (numbers_at version kind bytes))) len
    ∙ ap (λ (r : Result FrameKind FrameFault). r >>= λ kind. sound version (numbers_at version kind bytes))
    (kind_again version header.kind ((numbers header ++ session_bytes version header.session) ++ after))
    ∙ ap (sound version) (numbers_again version header after h) ∙ passes_sound version header h

pub front_again : (version : Version) (frame : Frame) (after : List ℕ) → Fits version frame → front_at version (spelling version frame ++ after) ≡ Ok (frame, after)
unfolding front_at payload_at
front_again version frame after fits =
    let h = header_of frame in
    let p = fits_passes version frame fits in
    let rest = frame.payload ++ after in
    let bytes = heading version h ++ rest in
    let one : header_at version bytes ≡ Ok h = header_again version h rest p.0 in
    let behind : drop (header_length version) bytes ≡ rest = drop_at (heading version h) rest (header_length version) (heading_length version h) in
    let enough : ltb (length rest) (length frame.payload) ≡ false = le-ltb _ _ (omega (arith, length-append frame.payload after)) in
    let front : take (length frame.payload) rest ≡ frame.payload = take_at frame.payload after (length frame.payload) refl in
    let back : drop (length frame.payload) rest ≡ after = drop_at frame.payload after (length frame.payload) refl in
    let right : is_payload frame.kind frame.payload ≡ true = p.1 in
    let two : payload_at frame.kind (length frame.payload) rest ≡ Ok (frame.payload, after) = rw (enough, front, back, right) refl in
    ap (front_at version) (append_assoc (heading version h) frame.payload after)
    ∙ ap (λ (r : Result Header FrameFault). r >>= λ header. payload_at header.kind header.length (drop (header_length version) bytes) >>= λ parts. Ok (frame_of header parts.0, parts.1)) one
    ∙ ap (λ (r : List ℕ). payload_at h.kind h.length r >>= λ parts. Ok (frame_of h parts.0, parts.1)) behind
    ∙ ap (λ (r : Result (List ℕ × List ℕ) FrameFault). r >>= λ parts. Ok (frame_of h parts.0, parts.1)) two

pub frame_again : (version : Version) (frame : Frame) → Fits version frame → frame_at version (spelling version frame) ≡ Ok frame
unfolding frame_at
frame_again version frame fits =
    let bytes = spelling version frame in
    let one : front_at version bytes ≡ Ok (frame, []) = ap (front_at version) (sym (append-nil bytes)) ∙ front_again version frame [] fits in
    ap (λ (r : Result (Frame × List ℕ) FrameFault). r >>= λ front. cond (eqb (length front.1) 0) (Ok front.0) (Err faults.Trailing)) one

-- ---- what the public calls promise

pub found_spelt : (version : Version) (bytes : List ℕ) (r : Result Frame FrameError) → IsBytes bytes → Gives (λ frame. frame) r (frame_at version bytes) → IfOk r (λ frame. Spelt version bytes frame)
found_spelt version bytes (Ok frame) fits given = frame_taken version bytes frame fits given
found_spelt version bytes (Err e) fits given = tt

pub spelt_read : (version : Version) (bytes : List ℕ) (frame : Frame) → Spelt version bytes frame → frame_at version bytes ≡ Ok frame
spelt_read version bytes frame spelt = ap (frame_at version) spelt.1 ∙ frame_again version frame spelt.0

pub bytes_taken : (version : Version) (frame : Frame) (bytes : List ℕ) → bytes_of version frame ≡ Ok bytes → Spelt version bytes frame
unfolding bytes_of
bytes_taken version frame bytes e =
    let b = bind_ok (sound version (header_of frame)) (λ header. cond (not (is_payload frame.kind frame.payload)) (Err faults.Reason) (Ok (spelling version frame))) bytes e in
    let s = sound_passes version (header_of frame) b.0 b.1 in
    let g = guard_ok (not (is_payload frame.kind frame.payload)) faults.Reason (Ok (spelling version frame)) bytes b.2 in
    (fits_from version frame s.1 (not_false _ g.0), sym (ok_is (spelling version frame) bytes g.1))

pub bytes_found : (version : Version) (frame : Frame) (r : Result (Vec ℕ) FrameError) → Gives (λ bytes. bytes.items) r (bytes_of version frame) → IfOk r (λ bytes. Spelt version bytes.items frame)
bytes_found version frame (Ok bytes) given = bytes_taken version frame bytes.items given
bytes_found version frame (Err e) given = tt

pub bytes_again : (version : Version) (frame : Frame) → Fits version frame → bytes_of version frame ≡ Ok (spelling version frame)
unfolding bytes_of
bytes_again version frame fits =
    let p = fits_passes version frame fits in
    let spelled = spelling version frame in
    ap (λ (r : Result Header FrameFault). r >>= λ header. cond (not (is_payload frame.kind frame.payload)) (Err faults.Reason) (Ok spelled)) (passes_sound version (header_of frame) p.0)
    ∙ ap (λ (b : Bool). cond (not b) (Err faults.Reason) (done spelled)) p.1

pub no_front : NoFront
no_front version one other after_one after_other frame twin p q e =
    let read : List ℕ → Result (Frame × List ℕ) FrameFault = front_at version in
    let a : read (one ++ after_one) ≡ Ok (frame, after_one) = ap (λ (x : List ℕ). read (x ++ after_one)) p.1 ∙ front_again version frame after_one p.0 in
    let b : read (other ++ after_other) ≡ Ok (twin, after_other) = ap (λ (x : List ℕ). read (x ++ after_other)) q.1 ∙ front_again version twin after_other q.0 in
    let same = ok_is (frame, after_one) (twin, after_other) (sym a ∙ ap read e ∙ b) in
    let frames : frame ≡ twin = ap (λ (x : Frame × List ℕ). x.0) same in
    (p.1 ∙ ap (spelling version) frames ∙ sym q.1, frames)
