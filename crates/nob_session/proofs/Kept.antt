-- What an end keeps before its turn, by the calls that it stands for: what stays with a call more, and what an arrival changes.
use Rattle.std.proofs.Common.{◌≡◌, ◌≢◌, ℕ, zero, suc, ◌+◌, ◌-◌, true, false, if◌then◌else◌, List, [], ◌∷◌, Option, Some, None, Result, Ok, Err, replicate, refl, ap}
use Rattle.nob_frame.specs.declared.frame.Frame.{Frame}
use Rattle.nob_model_session.specs.declared.refusal.EndRefusal.{EndRefusal}
use Rattle.nob_model_session.specs.declared.entry.Kind.{Kind}
use Rattle.nob_model_session.specs.declared.entry.Ending.{Ending}
use Rattle.nob_model_session.specs.declared.entry.EndEntry.{EndEntry}
use Rattle.nob_model_session.specs.declared.entry.EndEntry.TheVariants.{Send, Transmit, Take, Tick, Reopen}
use Rattle.nob_model_session.specs.End.{is_in_reach, payload, places}
use Rattle.std.specs.List.{slice_get}
use Rattle.nob_session.specs.Calls.{keeping}
use Rattle.nob_session.specs.Keeping.{put_at}
use Rattle.nob_session.specs.Stands.{End}
use Rattle.nob_session.proofs.Moving.{put_elsewhere}

-- a new end keeps nothing
pub none_kept : (n count : ℕ) → replicate count None ≡ places n count []
unfolding places
none_kept n zero = refl
none_kept n (suc count) = ap (λ (ps : List (Option (List ℕ))). None ∷ ps) (none_kept (n + 1) count)

-- nor does one that begins a new session
pub none_again : (n count number : ℕ) (L : List EndEntry) → replicate count None ≡ places n count (Reopen number (Ok tt) ∷ L)
unfolding places
none_again n zero number L = refl
none_again n (suc count) number L = ap (λ (ps : List (Option (List ℕ))). None ∷ ps) (none_again (n + 1) count number L)

-- places are the same where each payload is
pub same_places : (n count : ℕ) (K L : List EndEntry) → ((m : ℕ) → payload m K ≡ payload m L) → places n count K ≡ places n count L
unfolding places
same_places n zero K L same = refl
same_places n (suc count) K L same = rw (same n, same_places (n + 1) count K L same) refl

-- nothing but an arrival brings a payload
pub places_send : (n count : ℕ) (item : List ℕ) (kind : Kind) (answer : Result ℕ EndRefusal) (L : List EndEntry) → places n count (Send item kind answer ∷ L) ≡ places n count L
places_send n count item kind answer L = same_places n count (Send item kind answer ∷ L) L (λ m. refl)

pub places_transmit : (n count : ℕ) (frames : List Frame) (L : List EndEntry) → places n count (Transmit frames ∷ L) ≡ places n count L
places_transmit n count frames L = same_places n count (Transmit frames ∷ L) L (λ m. refl)

pub places_take : (n count : ℕ) (L : List EndEntry) → places n count (Take ∷ L) ≡ places n count L
places_take n count L = same_places n count (Take ∷ L) L (λ m. refl)

pub places_tick : (n count : ℕ) (answer : Result (Option Ending) EndRefusal) (L : List EndEntry) → places n count (Tick answer ∷ L) ≡ places n count L
places_tick n count answer L = same_places n count (Tick answer ∷ L) L (λ m. refl)

pub places_refused : (n count number : ℕ) (refusal : EndRefusal) (L : List EndEntry) → places n count (Reopen number (Err refusal) ∷ L) ≡ places n count L
places_refused n count number refusal L = same_places n count (Reopen number (Err refusal) ∷ L) L (λ m. refl)

-- what is out of reach, or has a place that is filled, isn't kept
pub keeping_none : (e : End) (frame : Frame) → slice_get e.early (frame.seq - (e.accepted + 1)) ≢ Some None → e ≡ keeping e frame
keeping_none e frame taken =
    let same : (if is_in_reach e.accepted frame.seq then put_at (frame.seq - (e.accepted + 1)) frame.payload e.early else e.early) ≡ e.early =
    elim (is_in_reach e.accepted frame.seq) as (λ b. (if b then put_at (frame.seq - (e.accepted + 1)) frame.payload e.early else e.early) ≡ e.early)
    [ true ↦ put_elsewhere (frame.seq - (e.accepted + 1)) frame.payload e.early taken | false ↦ refl ] in
    rw same refl
