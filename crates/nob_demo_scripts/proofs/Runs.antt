-- A step makes a run of a pair one call longer, or more.
use Rattle.std.proofs.Common.{◌≡◌, ℕ, suc, ◌+◌, ◌-◌, max, arith, Bool, true, false, cond, List, [], ◌∷◌, ◌++◌, Option, Some, None, ◌⊎◌, inl, inr, refl, sym, subst, take, drop}
use Rattle.std.specs.List.{AllByRecursion, Contains}
use Rattle.std.proofs.lemmas.List.Elements.{Contains-append_cases, Contains-append_left, Contains-append_right}
use Rattle.nob_ids.specs.declared.limits.Limits.{Limits}
use Rattle.nob_ids.specs.declared.reason.Reason.{Reason}
use Rattle.nob_frame.specs.declared.frame.Frame.{Frame}
use Rattle.nob_model_session.specs.declared.entry.EndEntry.{EndEntry}
use Rattle.nob_model_session.specs.declared.entry.EndEntry.TheVariants.{Send, Transmit, Arrive, Front, Take, IsOpen, Tick, Close, Reopen}
use Rattle.nob_model_session.specs.declared.entry.PairEntry.{PairEntry}
use Rattle.nob_model_session.specs.declared.entry.PairEntry.TheVariants.{First, Second}
use Rattle.nob_model_session.specs.End.{number, is_open, lowest, transmitted, accepted_count, unacknowledged, data_arrived, owes_close, ending}
use Rattle.nob_model_session.specs.Right.{right_transmit, data_frames, open_frames, closed_frames}
use Rattle.nob_model_session.specs.Pair.{first_calls, second_calls, transmitted_frames, PairRun}
use Rattle.std.proofs.lemmas.Option.{slice_get_within, get_or_from_slice_get}
use Rattle.nob_demo_scripts.specs.Run.{all_given, frame_numbered}
use Prim.Native.Nat.{zero}

-- an element of a list of which P holds
held : {X : Type 0} (P : X → Type 0) (xs : List X) (x : X) → AllByRecursion P xs → Contains xs x → P x
held P [] x all (k, less, is) = absurd (omega (arith, less))
held P (y ∷ ys) x all (zero, less, is) = subst P is all.0
held P (y ∷ ys) x all (suc k, less, is) = held P ys x all.1 (k, omega (arith, less), is)

-- the frame of a number is among the frames
pub numbered_among : (k : ℕ) (frames : List Frame) (f : Frame) → frame_numbered k frames ≡ Some f → Contains frames f
numbered_among zero frames f is = absurd cc
numbered_among (suc k) frames f is = (k, slice_get_within frames k f is, get_or_from_slice_get frames k f f is)

-- ---- frames go to the peer of their end

to_peer_data : (me peer session ack n : ℕ) (xs : List (List ℕ)) → AllByRecursion (λ (f : Frame). f.to ≡ peer) (data_frames me peer session ack n xs)
to_peer_data me peer session ack n [] = tt
to_peer_data me peer session ack n (x ∷ xs) = (refl, to_peer_data me peer session ack (n + 1) xs)

to_peer_open : (me peer session ack n given : ℕ) (due : Bool) (xs : List (List ℕ)) → AllByRecursion (λ (f : Frame). f.to ≡ peer) (open_frames me peer session ack n given due xs)
to_peer_open me peer session ack n given true [] = (refl, tt)
to_peer_open me peer session ack n given false [] = tt
to_peer_open me peer session ack n given due (x ∷ xs) = (refl, to_peer_data me peer session ack (max n given + 1) (drop (given - n) xs))

to_peer_closed : (me peer session ack : ℕ) (owes : Bool) (reason : Option Reason) → AllByRecursion (λ (f : Frame). f.to ≡ peer) (closed_frames me peer session ack owes reason)
to_peer_closed me peer session ack owes None = tt
to_peer_closed me peer session ack true (Some reason) = (refl, tt)
to_peer_closed me peer session ack false (Some reason) = tt

to_peer_either : (me peer window : ℕ) (L : List EndEntry) (b : Bool) → AllByRecursion (λ (f : Frame). f.to ≡ peer) (cond b (open_frames me peer (number L) (accepted_count L + 1) (lowest L) (transmitted L) (data_arrived L) (take window (unacknowledged L))) (closed_frames me peer (number L) (accepted_count L + 1) (owes_close L) (ending L)))
to_peer_either me peer window L true = to_peer_open me peer (number L) (accepted_count L + 1) (lowest L) (transmitted L) (data_arrived L) (take window (unacknowledged L))
to_peer_either me peer window L false = to_peer_closed me peer (number L) (accepted_count L + 1) (owes_close L) (ending L)

to_peer : (me peer window : ℕ) (L : List EndEntry) → AllByRecursion (λ (f : Frame). f.to ≡ peer) (right_transmit me peer window L)
to_peer me peer window L = to_peer_either me peer window L (is_open L)

-- ---- each frame of a run was given by the other end than that to which it goes

abbrev pub FromOther : List PairEntry → Frame → Type 0
FromOther J f = ((f.to ≡ 1) × Contains (transmitted_frames (second_calls J)) f) ⊎ ((f.to ≡ 2) × Contains (transmitted_frames (first_calls J)) f)

by_first : (limits : Limits) (J : List PairEntry) (frames : List Frame) (f : Frame) → frames ≡ right_transmit 1 2 limits.window (first_calls J)
    → FromOther J f ⊎ Contains frames f → FromOther (First (Transmit frames) ∷ J) f
by_first limits J frames f is (inl (inl (to, among))) = inl (to, among)
by_first limits J frames f is (inl (inr (to, among))) = inr (to, Contains-append_left (transmitted_frames (first_calls J)) frames f among)
by_first limits J frames f is (inr among) = inr (held (λ (g : Frame). g.to ≡ 2) frames f (subst (AllByRecursion (λ (g : Frame). g.to ≡ 2)) (sym is) (to_peer 1 2 limits.window (first_calls J))) among, Contains-append_right (transmitted_frames (first_calls J)) frames f among)

by_second : (limits : Limits) (J : List PairEntry) (frames : List Frame) (f : Frame) → frames ≡ right_transmit 2 1 limits.window (second_calls J)
    → FromOther J f ⊎ Contains frames f → FromOther (Second (Transmit frames) ∷ J) f
by_second limits J frames f is (inl (inl (to, among))) = inl (to, Contains-append_left (transmitted_frames (second_calls J)) frames f among)
by_second limits J frames f is (inl (inr (to, among))) = inr (to, among)
by_second limits J frames f is (inr among) = inl (held (λ (g : Frame). g.to ≡ 1) frames f (subst (AllByRecursion (λ (g : Frame). g.to ≡ 1)) (sym is) (to_peer 2 1 limits.window (second_calls J))) among, Contains-append_right (transmitted_frames (second_calls J)) frames f among)

earlier : (limits : Limits) (J : List PairEntry) (frames : List Frame) (f : Frame) → ((Contains (all_given J) f) → FromOther J f) → Contains (all_given J ++ frames) f → FromOther J f ⊎ Contains frames f
earlier limits J frames f before among = elim (Contains-append_cases (all_given J) frames f among) [ inl a ↦ inl (before a) | inr b ↦ inr b ]

pub from_other : (limits : Limits) (J : List PairEntry) → PairRun 1 2 limits limits J → (f : Frame) → Contains (all_given J) f → FromOther J f
from_other limits [] run f among = absurd (omega (arith, among.1))
from_other limits (First (Transmit frames) ∷ J) run f among = by_first limits J frames f run.1 (earlier limits J frames f (from_other limits J run.0 f) among)
from_other limits (Second (Transmit frames) ∷ J) run f among = by_second limits J frames f run.1 (earlier limits J frames f (from_other limits J run.0 f) among)
from_other limits (First (Send p k a) ∷ J) run f among = from_other limits J run.0 f among
from_other limits (First (Arrive g a) ∷ J) run f among = from_other limits J run.0 f among
from_other limits (First (Front a) ∷ J) run f among = from_other limits J run.0 f among
from_other limits (First Take ∷ J) run f among = from_other limits J run.0 f among
from_other limits (First (IsOpen a) ∷ J) run f among = from_other limits J run.0 f among
from_other limits (First (Tick a) ∷ J) run f among = from_other limits J run.0 f among
from_other limits (First (Close r a) ∷ J) run f among = from_other limits J run.0 f among
from_other limits (First (Reopen k a) ∷ J) run f among = from_other limits J run.0 f among
from_other limits (Second (Send p k a) ∷ J) run f among = from_other limits J run.0 f among
from_other limits (Second (Arrive g a) ∷ J) run f among = from_other limits J run.0 f among
from_other limits (Second (Front a) ∷ J) run f among = from_other limits J run.0 f among
from_other limits (Second Take ∷ J) run f among = from_other limits J run.0 f among
from_other limits (Second (IsOpen a) ∷ J) run f among = from_other limits J run.0 f among
from_other limits (Second (Tick a) ∷ J) run f among = from_other limits J run.0 f among
from_other limits (Second (Close r a) ∷ J) run f among = from_other limits J run.0 f among
from_other limits (Second (Reopen k a) ∷ J) run f among = from_other limits J run.0 f among
