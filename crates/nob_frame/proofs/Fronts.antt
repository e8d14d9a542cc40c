-- What more bytes do to the first fault of bytes of version 2.
use Rattle.std.proofs.Common.{◌≡◌, ◌≢◌, ℕ, ◌+◌, ◌<◌, ◌≤◌, Bool, true, false, cond, not, ltb, eqb, List, [], ◌∷◌, ◌++◌, length, get_or, take, drop, Option, Some, None, Result, Ok, Err, refl, sym, ap, subst, ◌∙◌, arith, ◌⊎◌, inl, inr}
use Rattle.std.proofs.lemmas.Bool.{ltb-false, ltb-true, le-ltb, lt-ltb, eqb-true, cases_lt}
use Rattle.std.proofs.lemmas.Bool.Decides.{nat_tests}
use Rattle.std.proofs.lemmas.List.{length-append, length-drop, take-append-le, drop-append-le}
use Rattle.nob_bytes.specs.Numbers.{field}
use Rattle.nob_bytes.proofs.Numbers.{field_more}
use Rattle.nob_frame.specs.declared.fault.FrameFault.{FrameFault}
use Rattle.nob_frame.specs.declared.fault.FrameFault.TheVariants as faults
use Rattle.nob_frame.specs.declared.frame.Frame.{Frame}
use Rattle.nob_frame.specs.declared.frame.FrameKind.{FrameKind}
use Rattle.nob_frame.specs.declared.frame.FrameKind.TheVariants.{Data, Ack, Close}
use Rattle.nob_frame.specs.declared.header.Header.{Header}
use Rattle.nob_frame.specs.declared.version.Version.TheVariants.{Two}
use Rattle.nob_frame.specs.Kinds.{kind_of}
use Rattle.nob_frame.specs.Versions.{is_session}
use Rattle.nob_frame.specs.Reading.{◌>>=◌, are_spaces, is_seq, is_next, is_length, is_payload, sound, known, kind_at, numbers_at, header_at, payload_at, frame_of, front_at, frame_at}
use Rattle.nob_frame.specs.Streams.{BeginsNone, wanted_by}
use Rattle.nob_frame.proofs.Codec.{bind_ok, guard_ok, Passes, sound_passes, front_again}

abbrev fails : {A : Type 0} → FrameFault → Result A FrameFault
fails fault = Err fault

err_is : {A : Type 0} (f g : FrameFault) → fails {A = A} f ≡ fails g → f ≡ g
err_is f g e = cc

-- ---- which faults there are

-- F2 to F10, and F12
abbrev Inner : FrameFault → Type 0
Inner fault = (fault ≢ faults.Short) × (fault ≢ faults.Trailing)

-- a fault that more bytes don't mend, or F1 of fewer bytes than the longest frame has
abbrev pub Stands : List ℕ → FrameFault → Type 0
Stands bytes fault = ((fault ≢ faults.Short) × (fault ≢ faults.Trailing)) ⊎ ((fault ≡ faults.Short) × (length bytes < 16416))

guard_err : {A : Type 0} (P : FrameFault → Type 0) (b : Bool) (d : FrameFault) (r : Result A FrameFault) (f : FrameFault) → cond b (Err d) r ≡ Err f → (b ≡ true → P d) → (b ≡ false → r ≡ Err f → P f) → P f
guard_err P true d r f e now next = subst P (err_is d f e) (now refl)
guard_err P false d r f e now next = next refl e

bind_err : {A B : Type 0} (P : FrameFault → Type 0) (r : Result A FrameFault) (g : A → Result B FrameFault) (f : FrameFault) → (r >>= g) ≡ Err f → (r ≡ Err f → P f) → ((x : A) → r ≡ Ok x → g x ≡ Err f → P f) → P f
bind_err P (Ok x) g f e now next = next x refl e
bind_err P (Err d) g f e now next = now (ap fails (err_is d f e))

-- ---- what more bytes leave

kind_more : (rest more : List ℕ) → 4 ≤ length rest → kind_at Two (rest ++ more) ≡ kind_at Two rest
unfolding kind_at
kind_more [] more h = absurd (omega arith)
kind_more (a ∷ []) more h = absurd (omega arith)
kind_more (a ∷ b ∷ []) more h = absurd (omega arith)
kind_more (a ∷ b ∷ c ∷ []) more h = absurd (omega arith)
kind_more (a ∷ b ∷ c ∷ d ∷ rest) more h = refl

numbers_more : (kind : FrameKind) (rest more : List ℕ) → 32 ≤ length rest → numbers_at Two kind (rest ++ more) ≡ numbers_at Two kind rest
numbers_more kind rest more h =
    let from = field_more 4 2 rest more (omega arith) in
    let to = field_more 6 2 rest more (omega arith) in
    let seq = field_more 8 8 rest more (omega arith) in
    let ack = field_more 16 8 rest more (omega arith) in
    let len = field_more 24 4 rest more (omega arith) in
    let session = field_more 28 4 rest more (omega arith) in
    let made : ℕ → ℕ → ℕ → ℕ → ℕ → ℕ → Header = λ f t n s a l. record { kind = kind; from = f; to = t; session = n; seq = s; ack = a; length = l } in
    let longer = rest ++ more in
    ap (λ (x : ℕ). made x (field 6 2 longer) (field 28 4 longer) (field 8 8 longer) (field 16 8 longer) (field 24 4 longer)) from
    ∙ ap (λ (x : ℕ). made (field 4 2 rest) x (field 28 4 longer) (field 8 8 longer) (field 16 8 longer) (field 24 4 longer)) to
    ∙ ap (λ (x : ℕ). made (field 4 2 rest) (field 6 2 rest) x (field 8 8 longer) (field 16 8 longer) (field 24 4 longer)) session
    ∙ ap (λ (x : ℕ). made (field 4 2 rest) (field 6 2 rest) (field 28 4 rest) x (field 16 8 longer) (field 24 4 longer)) seq
    ∙ ap (λ (x : ℕ). made (field 4 2 rest) (field 6 2 rest) (field 28 4 rest) (field 8 8 rest) x (field 24 4 longer)) ack
    ∙ ap (λ (x : ℕ). made (field 4 2 rest) (field 6 2 rest) (field 28 4 rest) (field 8 8 rest) (field 16 8 rest) x) len

with_numbers : List ℕ → Result FrameKind FrameFault → Result Header FrameFault
with_numbers bytes kind = kind >>= λ k. sound Two (numbers_at Two k bytes)

numbers_same : (rest more : List ℕ) (kind : Result FrameKind FrameFault) → 32 ≤ length rest → with_numbers (rest ++ more) kind ≡ with_numbers rest kind
unfolding with_numbers
numbers_same rest more (Ok k) h = ap (sound Two) (numbers_more k rest more h)
numbers_same rest more (Err f) h = refl

header_more : (rest more : List ℕ) → 32 ≤ length rest → header_at Two (rest ++ more) ≡ header_at Two rest
unfolding header_at with_numbers
header_more rest more h =
    let short : ltb (length rest) 32 ≡ false = le-ltb _ _ h in
    let longer : ltb (length (rest ++ more)) 32 ≡ false = le-ltb _ _ (omega (arith, length-append rest more)) in
    ap (λ (b : Bool). cond b (Err faults.Short) (with_numbers (rest ++ more) (kind_at Two (rest ++ more)))) longer
    ∙ ap (with_numbers (rest ++ more)) (kind_more rest more (omega arith)) ∙ numbers_same rest more (kind_at Two rest) h
    ∙ ap (λ (b : Bool). cond b (Err faults.Short) (with_numbers rest (kind_at Two rest))) (sym short)

after_header : List ℕ → Result Header FrameFault → Result (Frame × List ℕ) FrameFault
after_header rest header = header >>= λ h. payload_at h.kind h.length rest >>= λ parts. Ok (frame_of h parts.0, parts.1)

-- the front by its header
front_is : (bytes : List ℕ) → front_at Two bytes ≡ after_header (drop 32 bytes) (header_at Two bytes)
unfolding front_at after_header
front_is bytes = refl

front_more : (rest more : List ℕ) → 32 ≤ length rest → front_at Two (rest ++ more) ≡ after_header (drop 32 rest ++ more) (header_at Two rest)
front_more rest more h = front_is (rest ++ more) ∙ ap (after_header (drop 32 (rest ++ more))) (header_more rest more h) ∙ ap (λ (x : List ℕ). after_header x (header_at Two rest)) (drop-append-le 32 rest more h)

-- ---- fewer bytes than a header

pub front_short : (bytes : List ℕ) → length bytes < 32 → front_at Two bytes ≡ Err faults.Short
unfolding front_at header_at
front_short bytes h =
    let short : ltb (length bytes) 32 ≡ true = lt-ltb _ _ h in
    ap (λ (b : Bool). cond b (Err faults.Short) (kind_at Two bytes >>= λ kind. sound Two (numbers_at Two kind bytes)) >>= λ header. payload_at header.kind header.length (drop 32 bytes) >>= λ parts. Ok (frame_of header parts.0, parts.1)) short

-- ---- a fault stays

payload_fault_stays : (kind : FrameKind) (len : ℕ) (rest more : List ℕ) (fault : FrameFault) → payload_at kind len rest ≡ Err fault → fault ≢ faults.Short → payload_at kind len (rest ++ more) ≡ Err fault
unfolding payload_at
payload_fault_stays kind len rest more fault e ne =
    let P : FrameFault → Type 0 = λ f. f ≢ faults.Short → payload_at kind len (rest ++ more) ≡ Err f in
    guard_err P (ltb (length rest) len) faults.Short _ fault e
    (λ t not_short. absurd (not_short refl))
    (λ f rest_is. guard_err P (not (is_payload kind (take len rest))) faults.Reason _ fault rest_is
    (λ bad _.
    let enough : len ≤ length rest = ltb-false _ _ f in
    let longer : ltb (length (rest ++ more)) len ≡ false = le-ltb _ _ (omega (arith, length-append rest more)) in
    let front : take len (rest ++ more) ≡ take len rest = take-append-le len rest more enough in
    rw (longer, front, bad) refl)
    (λ fine ended. absurd cc))
    ne

after_header_stays : (rest more : List ℕ) (header : Result Header FrameFault) (fault : FrameFault) → after_header rest header ≡ Err fault → fault ≢ faults.Short → after_header (rest ++ more) header ≡ Err fault
unfolding after_header
after_header_stays rest more (Err f) fault e ne = e
after_header_stays rest more (Ok h) fault e ne =
    let P : FrameFault → Type 0 = λ f. f ≢ faults.Short → after_header (rest ++ more) (Ok h) ≡ Err f in
    let made : List ℕ × List ℕ → Result (Frame × List ℕ) FrameFault = λ parts. Ok (frame_of h parts.0, parts.1) in
    bind_err P (payload_at h.kind h.length rest) made fault e
    (λ refused not_short. ap (λ r. r >>= made) (payload_fault_stays h.kind h.length rest more fault refused not_short))
    (λ parts found ended. absurd cc)
    ne

pub front_fault_stays : (rest more : List ℕ) (fault : FrameFault) → front_at Two rest ≡ Err fault → fault ≢ faults.Short → front_at Two (rest ++ more) ≡ Err fault
front_fault_stays rest more fault e ne =
    elim (cases_lt (length rest) 32) [
      | inl lt ↦ absurd (ne (err_is fault faults.Short (sym e ∙ front_short rest lt)))
      | inr le ↦ front_more rest more le ∙ after_header_stays (drop 32 rest) more (header_at Two rest) fault (sym (front_is rest) ∙ e) ne
    ]

-- ---- waiting

-- a header that was read
header_read : (bytes : List ℕ) (header : Header) → header_at Two bytes ≡ Ok header → (header.length ≡ field 24 4 bytes) × Passes Two header
unfolding header_at
header_read bytes header e =
    let a = guard_ok (ltb (length bytes) 32) faults.Short _ header e in
    let b = bind_ok (kind_at Two bytes) (λ kind. sound Two (numbers_at Two kind bytes)) header a.1 in
    let s = sound_passes Two (numbers_at Two b.0 bytes) header b.2 in
    (ap (λ (h : Header). h.length) (sym s.0), subst (Passes Two) s.0 s.1)

waits_after : (tail more : List ℕ) (header : Result Header FrameFault) → after_header tail header ≡ Err faults.Short → ((h : Header) → header ≡ Ok h → length (tail ++ more) < h.length) → after_header (tail ++ more) header ≡ Err faults.Short
unfolding after_header payload_at
waits_after tail more (Err f) e less = e
waits_after tail more (Ok h) e less =
    let short : ltb (length (tail ++ more)) h.length ≡ true = lt-ltb _ _ (less h refl) in
    let made : List ℕ × List ℕ → Result (Frame × List ℕ) FrameFault = λ parts. Ok (frame_of h parts.0, parts.1) in
    let refused : payload_at h.kind h.length (tail ++ more) ≡ Err faults.Short = rw short refl in
    ap (λ r. r >>= made) refused

-- while fewer bytes than these are there, no frame is whole and no fault is met
abbrev pub Waits : List ℕ → ℕ → Type 0
Waits kept wanted = (more : List ℕ) → length (kept ++ more) < wanted → front_at Two (kept ++ more) ≡ Err faults.Short

-- too few more bytes change nothing of what is wanted
pub wants_on : (rest more : List ℕ) → length (rest ++ more) < wanted_by rest → wanted_by rest ≡ wanted_by (rest ++ more)
wants_on rest more less =
    let longer = rest ++ more in
    elim (cases_lt (length rest) 32) [
      | inl lt ↦
          let few : wanted_by rest ≡ 32 = ap (λ (b : Bool). cond b 32 (32 + field 24 4 rest)) (lt-ltb _ _ lt) in
          let less_than : length longer < 32 = subst (λ (n : ℕ). length longer < n) few less in
          few ∙ sym (ap (λ (b : Bool). cond b 32 (32 + field 24 4 longer)) (lt-ltb _ _ less_than))
      | inr le ↦
          let many : wanted_by rest ≡ 32 + field 24 4 rest = ap (λ (b : Bool). cond b 32 (32 + field 24 4 rest)) (le-ltb _ _ le) in
          let long : 32 ≤ length longer = omega (arith, length-append rest more) in
          many ∙ ap (λ (n : ℕ). 32 + n) (sym (field_more 24 4 rest more (omega arith))) ∙ sym (ap (λ (b : Bool). cond b 32 (32 + field 24 4 longer)) (le-ltb _ _ long))
    ]

pub waits : (rest : List ℕ) → front_at Two rest ≡ Err faults.Short → Waits rest (wanted_by rest)
waits rest e = λ more less.
    elim (cases_lt (length rest) 32) [
      | inl lt ↦
          let few : wanted_by rest ≡ 32 = ap (λ (b : Bool). cond b 32 (32 + field 24 4 rest)) (lt-ltb _ _ lt) in
          front_short (rest ++ more) (subst (λ (n : ℕ). length (rest ++ more) < n) few less)
      | inr le ↦
          let many : wanted_by rest ≡ 32 + field 24 4 rest = ap (λ (b : Bool). cond b 32 (32 + field 24 4 rest)) (le-ltb _ _ le) in
          let within : length (rest ++ more) < 32 + field 24 4 rest = subst (λ (n : ℕ). length (rest ++ more) < n) many less in
          front_more rest more le ∙ waits_after (drop 32 rest) more (header_at Two rest) (sym (front_is rest) ∙ e) (λ h found.
          let size = (header_read rest h found).0 in
          omega (arith, length-append (drop 32 rest) more, length-drop 32 rest, length-append rest more))
    ]

-- ---- the first fault

known_inner : (kind : Option FrameKind) (fault : FrameFault) → known kind ≡ Err fault → Inner fault
known_inner None fault e = subst Inner (err_is faults.Kind fault e) (λ h. cc, λ h. cc)
known_inner (Some kind) fault e = absurd cc

kind_inner : (bytes : List ℕ) (fault : FrameFault) → kind_at Two bytes ≡ Err fault → Inner fault
unfolding kind_at
kind_inner bytes fault e =
    guard_err Inner (not (eqb (get_or bytes 0 0) 78)) faults.Magic _ fault e (λ t. (λ h. cc, λ h. cc)) (λ f e1.
    guard_err Inner (not (eqb (get_or bytes 1 0) 2)) faults.Version _ fault e1 (λ t. (λ h. cc, λ h. cc)) (λ f e2.
    bind_err Inner (known (kind_of (get_or bytes 2 0))) (λ k. cond (not (eqb (get_or bytes 3 0) 0)) (Err faults.Flags) (Ok k)) fault e2 (known_inner (kind_of (get_or bytes 2 0)) fault) (λ k found e3.
    guard_err Inner (not (eqb (get_or bytes 3 0) 0)) faults.Flags (Ok k) fault e3 (λ t. (λ h. cc, λ h. cc)) (λ f ended. absurd cc))))

sound_inner : (header : Header) (fault : FrameFault) → sound Two header ≡ Err fault → Inner fault
unfolding sound
sound_inner header fault e =
    guard_err Inner (not (are_spaces header.from header.to)) faults.Spaces _ fault e (λ t. (λ h. cc, λ h. cc)) (λ f e1.
    guard_err Inner (not (is_seq header.kind header.seq)) faults.Seq _ fault e1 (λ t. (λ h. cc, λ h. cc)) (λ f e2.
    guard_err Inner (not (is_next header.ack)) faults.Ack _ fault e2 (λ t. (λ h. cc, λ h. cc)) (λ f e3.
    guard_err Inner (not (is_length header.kind header.length)) faults.Length _ fault e3 (λ t. (λ h. cc, λ h. cc)) (λ f e4.
    guard_err Inner (not (is_session Two header.session)) faults.Session (Ok header) fault e4 (λ t. (λ h. cc, λ h. cc)) (λ f ended. absurd cc)))))

header_stands : (bytes : List ℕ) (fault : FrameFault) → header_at Two bytes ≡ Err fault → Stands bytes fault
unfolding header_at
header_stands bytes fault e =
    guard_err (Stands bytes) (ltb (length bytes) 32) faults.Short _ fault e
    (λ t. let few : length bytes < 32 = ltb-true _ _ t in inr (refl, omega arith))
    (λ f e1. inl (bind_err Inner (kind_at Two bytes) (λ kind. sound Two (numbers_at Two kind bytes)) fault e1 (kind_inner bytes fault) (λ kind found. sound_inner (numbers_at Two kind bytes) fault)))

least_length : (kind : FrameKind) (len : ℕ) → is_length kind len ≡ true → len ≤ 16384
least_length Data len e = grind (arith, nat_tests)
least_length Ack len e = let z : len ≡ 0 = eqb-true len 0 e in omega arith
least_length Close len e = let z : len ≡ 1 = eqb-true len 1 e in omega arith

payload_stands : (bytes : List ℕ) (header : Header) (fault : FrameFault) → Passes Two header → payload_at header.kind header.length (drop 32 bytes) ≡ Err fault → Stands bytes fault
unfolding payload_at
payload_stands bytes header fault passes e =
    guard_err (Stands bytes) (ltb (length (drop 32 bytes)) header.length) faults.Short _ fault e
    (λ t.
    let few : length (drop 32 bytes) < header.length = ltb-true _ _ t in
    let small = least_length header.kind header.length passes.len in
    inr (refl, omega (arith, length-drop 32 bytes)))
    (λ f e1. guard_err (Stands bytes) (not (is_payload header.kind (take header.length (drop 32 bytes)))) faults.Reason _ fault e1 (λ t. inl (λ h. cc, λ h. cc)) (λ f ended. absurd cc))

pub front_stands : (bytes : List ℕ) (fault : FrameFault) → front_at Two bytes ≡ Err fault → Stands bytes fault
unfolding front_at
front_stands bytes fault e =
    bind_err (Stands bytes) (header_at Two bytes) (λ header. payload_at header.kind header.length (drop 32 bytes) >>= λ parts. Ok (frame_of header parts.0, parts.1)) fault e
    (header_stands bytes fault)
    (λ header found e1. bind_err (Stands bytes) (payload_at header.kind header.length (drop 32 bytes)) (λ parts. Ok (frame_of header parts.0, parts.1)) fault e1
    (payload_stands bytes header fault (header_read bytes header found).1)
    (λ parts found ended. absurd cc))

pub begins_none : (rest : List ℕ) (fault : FrameFault) → front_at Two rest ≡ Err fault → BeginsNone rest
begins_none rest fault e = λ frame after fits same.
    let found : front_at Two rest ≡ Ok (frame, after) = ap (front_at Two) same ∙ front_again Two frame after fits in
    cc

-- what no frame begins has the first fault of its front
pub first_fault : (rest : List ℕ) (fault : FrameFault) → front_at Two rest ≡ Err fault → frame_at Two rest ≡ Err fault
unfolding frame_at
first_fault rest fault e = ap (λ (r : Result (Frame × List ℕ) FrameFault). r >>= λ front. cond (eqb (length front.1) 0) (Ok front.0) (Err faults.Trailing)) e

-- and the other way round
ended_fault : (front : Result (Frame × List ℕ) FrameFault) (fault : FrameFault) → (front >>= λ f. cond (eqb (length f.1) 0) (Ok f.0) (Err faults.Trailing)) ≡ Err fault → fault ≢ faults.Trailing → front ≡ Err fault
ended_fault (Err f) fault e ne = ap fails (err_is f fault e)
ended_fault (Ok f) fault e ne =
    let P : Bool → Type 0 = λ b. cond b (Ok f.0) (Err faults.Trailing) ≡ fails fault → ⊥ in
    absurd ((elim (eqb (length f.1) 0) as P [ true ↦ λ h. cc | false ↦ λ h. ne (sym (err_is faults.Trailing fault h)) ]) e)

pub front_fault : (rest : List ℕ) (fault : FrameFault) → frame_at Two rest ≡ Err fault → fault ≢ faults.Trailing → front_at Two rest ≡ Err fault
unfolding frame_at
front_fault rest fault e ne = ended_fault (front_at Two rest) fault e ne
