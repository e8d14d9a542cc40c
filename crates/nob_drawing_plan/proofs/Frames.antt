-- Frames that are the same to the test are the same.
use Rattle.std.proofs.Common.{◌≡◌, true, refl, arith}
use Rattle.std.specs.Prelude.{◌==◌}
use Rattle.std.proofs.lemmas.Bool.{and_parts, and_from, eqb-true, eq-eqb}
use Rattle.std.proofs.lemmas.Slice.Eq.{bytes_eq-Decides}
use Rattle.nob_frame.specs.Kinds.{kind_number}
use Rattle.nob_frame.specs.declared.frame.FrameKind.{FrameKind}
use Rattle.nob_frame.specs.declared.frame.FrameKind.TheVariants.{Data, Ack, Close}
use Rattle.nob_frame.specs.declared.frame.Frame.{Frame}
use Rattle.nob_drawing_plan.specs.Flights.{same_frame}

kind_is : (a b : FrameKind) → kind_number a ≡ kind_number b → a ≡ b
kind_is Data Data h = refl
kind_is Data Ack h = absurd (let same : 1 ≡ 2 = h in omega (arith, same))
kind_is Data Close h = absurd (let same : 1 ≡ 3 = h in omega (arith, same))
kind_is Ack Data h = absurd (let same : 2 ≡ 1 = h in omega (arith, same))
kind_is Ack Ack h = refl
kind_is Ack Close h = absurd (let same : 2 ≡ 3 = h in omega (arith, same))
kind_is Close Data h = absurd (let same : 3 ≡ 1 = h in omega (arith, same))
kind_is Close Ack h = absurd (let same : 3 ≡ 2 = h in omega (arith, same))
kind_is Close Close h = refl

pub frame_is : (f g : Frame) → same_frame f g ≡ true → f ≡ g
frame_is f g h =
    let one = and_parts (kind_number f.kind == kind_number g.kind) _ h in
    let two = and_parts (f.from == g.from) _ one.1 in
    let three = and_parts (f.to == g.to) _ two.1 in
    let four = and_parts (f.session == g.session) _ three.1 in
    let five = and_parts (f.seq == g.seq) _ four.1 in
    let six = and_parts (f.ack == g.ack) _ five.1 in
    let kinds = kind_is f.kind g.kind (eqb-true (kind_number f.kind) (kind_number g.kind) one.0) in
    let froms = eqb-true f.from g.from two.0 in
    let tos = eqb-true f.to g.to three.0 in
    let sessions = eqb-true f.session g.session four.0 in
    let seqs = eqb-true f.seq g.seq five.0 in
    let acks = eqb-true f.ack g.ack six.0 in
    let payloads = (bytes_eq-Decides f.payload g.payload).0 six.1 in
    λ i. record { kind = kinds i; from = froms i; to = tos i; session = sessions i; seq = seqs i; ack = acks i; payload = payloads i }

pub frame_self : (f : Frame) → same_frame f f ≡ true
frame_self f =
    and_from (kind_number f.kind == kind_number f.kind) _ (eq-eqb (kind_number f.kind) (kind_number f.kind) refl)
    (and_from (f.from == f.from) _ (eq-eqb f.from f.from refl)
    (and_from (f.to == f.to) _ (eq-eqb f.to f.to refl)
    (and_from (f.session == f.session) _ (eq-eqb f.session f.session refl)
    (and_from (f.seq == f.seq) _ (eq-eqb f.seq f.seq refl)
    (and_from (f.ack == f.ack) _ (eq-eqb f.ack f.ack refl) ((bytes_eq-Decides f.payload f.payload).1 refl))))))
