-- Marks in a set say what stands in frames; and which frames are among others.
use Rattle.std.proofs.Common.{◌≡◌, ◌↔◌, ◌||◌, ◌<◌, Bool, true, false, cond, List, [], ◌∷◌, ◌++◌, map, refl, sym, ap, subst, true≢false, ◌∙◌, arith}
use Prim.Native.Nat.{zero, suc}
use Rattle.std.specs.Prelude.{◌==◌}
use Rattle.std.specs.List.{list_any, Contains}
use Rattle.std.proofs.lemmas.Bool.{and_parts, and_from, eqb-true, eq-eqb}
use Rattle.std.proofs.lemmas.List.{map-append}
use Rattle.std.proofs.lemmas.List.Folds.{list_any-append}
use Rattle.std.proofs.lemmas.Slice.Eq.{bytes_eq-Decides}
use Rattle.indexmap.specs.IndexSet.{insert_key}
use Rattle.nob_frame.specs.Kinds.{kind_number}
use Rattle.nob_frame.specs.declared.frame.FrameKind.{FrameKind}
use Rattle.nob_frame.specs.declared.frame.FrameKind.TheVariants.{Data, Ack, Close}
use Rattle.nob_frame.specs.declared.frame.Frame.{Frame}
use Rattle.nob_check.specs.declared.mark.Mark.{Mark}
use Rattle.nob_check.specs.Marks.{Sign, sign_of, sign_in, is_same_sign, is_among, with_sign, AreOf}

-- a test of what is made of each
any_in : {A B : Type 0} (g : A → B) (test : B → Bool) (xs : List A) → list_any test (map g xs) ≡ list_any (λ x. test (g x)) xs
any_in g test [] = refl
any_in g test (x ∷ xs) = ap (λ (b : Bool). test (g x) || b) (any_in g test xs)

-- a mark is among others where what stands in it is
pub among_is : (mark : Mark) (sign : Sign) (marks : List Mark) → sign_in mark ≡ sign → list_any (λ other. is_same_sign (sign_in mark) (sign_in other)) marks ≡ is_among sign (map sign_in marks)
among_is mark sign marks is = sym (any_in sign_in (is_same_sign (sign_in mark)) marks) ∙ ap (λ (s : Sign). is_among s (map sign_in marks)) is

-- and is put in as that is
put_is : (mark : Mark) (sign : Sign) (marks : List Mark) → sign_in mark ≡ sign → map sign_in (insert_key (λ one other. is_same_sign (sign_in one) (sign_in other)) marks mark) ≡ with_sign sign (map sign_in marks)
put_is mark sign marks is = by (list_any (λ other. is_same_sign (sign_in mark) (sign_in other)) marks) refl
  where
    by : (t : Bool) → list_any (λ other. is_same_sign (sign_in mark) (sign_in other)) marks ≡ t → map sign_in (insert_key (λ one other. is_same_sign (sign_in one) (sign_in other)) marks mark) ≡ with_sign sign (map sign_in marks)
    by true there =
        ap (λ (b : Bool). map sign_in (cond b marks (marks ++ mark ∷ []))) there
        ∙ sym (ap (λ (b : Bool). cond b (map sign_in marks) (map sign_in marks ++ sign ∷ [])) (sym (among_is mark sign marks is) ∙ there))
    by false none =
        ap (λ (b : Bool). map sign_in (cond b marks (marks ++ mark ∷ []))) none
        ∙ map-append sign_in marks (mark ∷ [])
        ∙ ap (λ (s : Sign). map sign_in marks ++ s ∷ []) is
        ∙ sym (ap (λ (b : Bool). cond b (map sign_in marks) (map sign_in marks ++ sign ∷ [])) (sym (among_is mark sign marks is) ∙ none))

-- ---- frames

kind_is : (a b : FrameKind) → kind_number a ≡ kind_number b → a ≡ b
kind_is Data Data h = refl
kind_is Data Ack h = absurd (let same : 1 ≡ 2 = h in omega (arith, same))
kind_is Data Close h = absurd (let same : 1 ≡ 3 = h in omega (arith, same))
kind_is Ack Data h = absurd (let same : 2 ≡ 1 = h in omega (arith, same))
kind_is Ack Ack h = refl
kind_is Ack Close h = absurd (let same : 2 ≡ 3 = h in omega (arith, same))
kind_is Close Data h = absurd (let same : 3 ≡ 1 = h in omega (arith, same))
kind_is Close Ack h = absurd (let same : 3 ≡ 2 = h in omega (arith, same))
kind_is Close Close h = refl

sign_is : (a b : Sign) → is_same_sign a b ≡ true → a ≡ b
sign_is a b h =
    let one = and_parts (a.kind == b.kind) _ h in
    let two = and_parts (a.from == b.from) _ one.1 in
    let three = and_parts (a.to == b.to) _ two.1 in
    let four = and_parts (a.session == b.session) _ three.1 in
    let five = and_parts (a.seq == b.seq) _ four.1 in
    let six = and_parts (a.ack == b.ack) _ five.1 in
    let kinds = eqb-true a.kind b.kind one.0 in
    let froms = eqb-true a.from b.from two.0 in
    let tos = eqb-true a.to b.to three.0 in
    let sessions = eqb-true a.session b.session four.0 in
    let seqs = eqb-true a.seq b.seq five.0 in
    let acks = eqb-true a.ack b.ack six.0 in
    let payloads = (bytes_eq-Decides a.payload b.payload).0 six.1 in
    λ i. record { kind = kinds i; from = froms i; to = tos i; session = sessions i; seq = seqs i; ack = acks i; payload = payloads i }

sign_self : (a : Sign) → is_same_sign a a ≡ true
sign_self a =
    and_from (a.kind == a.kind) _ (eq-eqb a.kind a.kind refl)
    (and_from (a.from == a.from) _ (eq-eqb a.from a.from refl)
    (and_from (a.to == a.to) _ (eq-eqb a.to a.to refl)
    (and_from (a.session == a.session) _ (eq-eqb a.session a.session refl)
    (and_from (a.seq == a.seq) _ (eq-eqb a.seq a.seq refl)
    (and_from (a.ack == a.ack) _ (eq-eqb a.ack a.ack refl) ((bytes_eq-Decides a.payload a.payload).1 refl))))))

-- the same stands in one frame alone
frame_is : (f g : Frame) → sign_of f ≡ sign_of g → f ≡ g
frame_is f g h =
    let kinds = kind_is f.kind g.kind (ap (λ (s : Sign). s.kind) h) in
    let froms = ap (λ (s : Sign). s.from) h in
    let tos = ap (λ (s : Sign). s.to) h in
    let sessions = ap (λ (s : Sign). s.session) h in
    let seqs = ap (λ (s : Sign). s.seq) h in
    let acks = ap (λ (s : Sign). s.ack) h in
    let payloads = ap (λ (s : Sign). s.payload) h in
    λ i. record { kind = kinds i; from = froms i; to = tos i; session = sessions i; seq = seqs i; ack = acks i; payload = payloads i }

-- one among those behind the first
later : {X : Type 0} (y x : X) (xs : List X) → Contains xs x → Contains (y ∷ xs) x
later y x xs there = (suc there.0, omega (arith, there.1), there.2)

-- what stands in a frame is among what stands in others where it is one of them
pub among_frames : (frame : Frame) (frames : List Frame) → (is_among (sign_of frame) (map sign_of frames) ≡ true) ↔ Contains frames frame
among_frames frame [] = (λ h. absurd (true≢false (sym h)), λ there. absurd (let none : there.0 < 0 = there.1 in omega (arith, none)))
among_frames frame (first ∷ frames) = (to (among_frames frame frames) (is_same_sign (sign_of frame) (sign_of first)) refl, from (among_frames frame frames))
  where
    to : (is_among (sign_of frame) (map sign_of frames) ≡ true) ↔ Contains frames frame → (t : Bool) → is_same_sign (sign_of frame) (sign_of first) ≡ t → is_among (sign_of frame) (map sign_of (first ∷ frames)) ≡ true → Contains (first ∷ frames) frame
    to rest true here h = (zero, omega arith, sym (frame_is frame first (sign_is (sign_of frame) (sign_of first) here)))
    to rest false other h = later first frame frames (rest.0 (sym (ap (λ (b : Bool). b || is_among (sign_of frame) (map sign_of frames)) other) ∙ h))

    or_right : (a b : Bool) → b ≡ true → (a || b) ≡ true
    or_right true b h = refl
    or_right false b h = h

    from : (is_among (sign_of frame) (map sign_of frames) ≡ true) ↔ Contains frames frame → Contains (first ∷ frames) frame → is_among (sign_of frame) (map sign_of (first ∷ frames)) ≡ true
    from rest (zero, within, is) = ap (λ (b : Bool). b || is_among (sign_of frame) (map sign_of frames)) (ap (λ (f : Frame). is_same_sign (sign_of frame) (sign_of f)) is ∙ sign_self (sign_of frame))
    from rest (suc k, within, is) = or_right (is_same_sign (sign_of frame) (sign_of first)) (is_among (sign_of frame) (map sign_of frames)) (rest.1 (k, omega (arith, within), is))

-- ---- one more

or_last : (a b : Bool) → (a || (b || false)) ≡ (b || a)
or_last true true = refl
or_last true false = refl
or_last false true = refl
or_last false false = refl

-- what stands in a frame more is among the others or is that
among_last : (sign more : Sign) (signs : List Sign) → is_among sign (signs ++ more ∷ []) ≡ (is_same_sign sign more || is_among sign signs)
among_last sign more signs = list_any-append (is_same_sign sign) signs (more ∷ []) ∙ or_last (is_among sign signs) (is_same_sign sign more)

among_with : (sign more : Sign) (signs : List Sign) → is_among sign (with_sign more signs) ≡ (is_same_sign sign more || is_among sign signs)
among_with sign more signs = by (is_among more signs) refl
  where
    is_there : (t : Bool) → is_same_sign sign more ≡ t → is_among more signs ≡ true → is_among sign signs ≡ (is_same_sign sign more || is_among sign signs)
    is_there true here there = subst (λ (s : Sign). is_among s signs ≡ true) (sym (sign_is sign more here)) there ∙ sym (ap (λ (b : Bool). b || is_among sign signs) here)
    is_there false other there = sym (ap (λ (b : Bool). b || is_among sign signs) other)

    by : (t : Bool) → is_among more signs ≡ t → is_among sign (with_sign more signs) ≡ (is_same_sign sign more || is_among sign signs)
    by true there = ap (λ (b : Bool). is_among sign (cond b signs (signs ++ more ∷ []))) there ∙ is_there (is_same_sign sign more) refl there
    by false none = ap (λ (b : Bool). is_among sign (cond b signs (signs ++ more ∷ []))) none ∙ among_last sign more signs

-- a set with a mark more is of the frames with the frame more
pub more_are : (frames : List Frame) (frame : Frame) (mark : Mark) (marks : List Mark) → AreOf frames (map sign_in marks) → sign_in mark ≡ sign_of frame
    → AreOf (frames ++ frame ∷ []) (map sign_in (insert_key (λ one other. is_same_sign (sign_in one) (sign_in other)) marks mark))
more_are frames frame mark marks are is other =
    ap (λ (signs : List Sign). is_among (sign_of other) signs) (put_is mark (sign_of frame) marks is)
    ∙ among_with (sign_of other) (sign_of frame) (map sign_in marks)
    ∙ ap (λ (b : Bool). is_same_sign (sign_of other) (sign_of frame) || b) (are other)
    ∙ sym (among_last (sign_of other) (sign_of frame) (map sign_of frames))
    ∙ sym (ap (λ (signs : List Sign). is_among (sign_of other) signs) (map-append sign_of frames (frame ∷ [])))

-- a mark is among those of frames where its frame is one of them
pub has_is : (frames : List Frame) (frame : Frame) (mark : Mark) (marks : List Mark) → AreOf frames (map sign_in marks) → sign_in mark ≡ sign_of frame
    → (list_any (λ other. is_same_sign (sign_in mark) (sign_in other)) marks ≡ true) ↔ Contains frames frame
has_is frames frame mark marks are is =
    let same = among_is mark (sign_of frame) marks is ∙ are frame in
    (λ h. (among_frames frame frames).0 (sym same ∙ h), λ there. same ∙ (among_frames frame frames).1 there)
