-- What is right for Tick and Arrive, by what the end with the peer answers.
use Rattle.std.proofs.Common.{◌≡◌, ℕ, Bool, true, false, not, ◌==◌, List, Result, Ok, Err, refl, ◌∙◌}
use Rattle.std.proofs.lemmas.Cmp.{nat_eq_equiv}
use Rattle.nob_frame.specs.declared.frame.Frame.{Frame}
use Rattle.nob_model_session.specs.declared.entry.EndEntry.{EndEntry}
use Rattle.nob_model_session.specs.declared.refusal.EndRefusal.{EndRefusal}
use Rattle.nob_model_session.specs.declared.entry.Arrived.{Arrived}
use Rattle.nob_model_session.specs.Right.{right_tick, arrived_by, right_arrive, is_of_pair}
use Rattle.nob_model_types.specs.declared.refusal.Refusal.TheVariants as refusals
use Rattle.nob_model_types.specs.Sessions.{is_peer}
use Rattle.nob_model_history.specs.declared.history.History.{History}
use Rattle.nob_model_history.specs.Ends.{calls_at}
use Rattle.nob_model.specs.Right.{right_ticks, tick_of, right_arrival, arrival_of}

pub tick_of_none : (s n p retry : ℕ) (h : History) → is_peer s n p ≡ false → right_ticks s n p retry h ≡ Err refusals.NoPeer
unfolding right_ticks
tick_of_none s n p retry h stranger = rw stranger refl

pub tick_told : (s n p retry : ℕ) (h : History) → is_peer s n p ≡ true → right_ticks s n p retry h ≡ tick_of (right_tick p retry (calls_at p h))
unfolding right_ticks
tick_told s n p retry h peer = rw peer refl

-- a frame for another space
pub arrive_elsewhere : (s n : ℕ) (frame : Frame) (h : History) → frame.to == s ≡ false → right_arrival s n frame h ≡ Err refusals.NoPeer
unfolding right_arrival
arrive_elsewhere s n frame h other = rw other refl

pub arrive_of_none : (s n : ℕ) (frame : Frame) (h : History) → frame.to == s ≡ true → is_peer s n frame.from ≡ false → right_arrival s n frame h ≡ Err refusals.NoPeer
unfolding right_arrival
arrive_of_none s n frame h here stranger = rw (here, stranger) refl

pub arrive_told : (s n : ℕ) (frame : Frame) (h : History) → frame.to == s ≡ true → is_peer s n frame.from ≡ true → right_arrival s n frame h ≡ arrival_of (right_arrive s frame.from frame (calls_at frame.from h))
unfolding right_arrival
arrive_told s n frame h here peer = rw (here, peer) refl

-- a frame from a peer that is for this space is of the pair
of_pair : (s : ℕ) (frame : Frame) → frame.to == s ≡ true → is_of_pair s frame.from frame ≡ true
of_pair s frame here = rw (nat_eq_equiv.refl frame.from, here) refl

-- what an arrival did, as its answer
abbrev arrives : Arrived → Result Arrived EndRefusal
arrives did = Ok did

not_refused : (refusal : EndRefusal) (did : Arrived) → Err refusal ≡ arrives did → ⊥
not_refused refusal did e = cc

-- so the end with its sender refuses no frame that is for this space
pub never_strange : (s : ℕ) (frame : Frame) (L : List EndEntry) (refusal : EndRefusal) → frame.to == s ≡ true → Err refusal ≡ right_arrive s frame.from frame L → ⊥
never_strange s frame L refusal here told =
    not_refused refusal (arrived_by frame.from frame L) (told ∙ rw (of_pair s frame here) refl)

-- a test and its denial
pub not_not : (b : Bool) → not b ≡ false → b ≡ true
not_not true e = refl
not_not false e = absurd (cc)

pub not_so : (b : Bool) → not b ≡ true → b ≡ false
not_so true e = absurd (cc)
not_so false e = refl
