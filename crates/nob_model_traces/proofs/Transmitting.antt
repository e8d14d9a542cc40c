-- Which frames were transmitted by entries, and which of them arrive without an origin.
use Rattle.std.proofs.Common.{◌≡◌, ℕ, ◌+◌, ◌<◌, List, [], ◌∷◌, ◌++◌, length, take, drop, reverse, slice_get, Some, refl, sym, ap, subst, ◌∙◌, arith, append_assoc}
use Prim.Native.Nat.{zero, suc}
use Rattle.std.proofs.Common.{inl, inr}
use Rattle.std.specs.List.{Contains}
use Rattle.std.proofs.lemmas.List.{reverse-append, take-append-drop}
use Rattle.std.proofs.lemmas.List.Elements.{Contains-append_left, Contains-append_right, Contains-append_cases}
use Rattle.nob_frame.specs.declared.frame.Frame.{Frame}
use Rattle.nob_model_types.specs.declared.entry.Entry.{Entry}
use Rattle.nob_model_types.specs.declared.event.Event.{Event}
use Rattle.nob_model_types.specs.declared.event.Event.TheVariants as events
use Rattle.nob_model_types.specs.Deeds.{deed_in}
use Rattle.nob_model_journal.specs.Journals.{at, frames_of, transmitted_frames, Each}
use Rattle.nob_model_journal.specs.Runs.{ArrivesGiven}
use Rattle.nob_model_traces.specs.declared.fault.CheckFault.{CheckFault}
use Rattle.nob_model_traces.specs.Origins.{IsTransmitted, HaveOrigins, IsRefusedFor, IsOriginFault}
use Rattle.nob_model_traces.proofs.Entering.{newest, parted}

-- ---- lists of frames

pub contains_here : {X : Type 0} (x y : X) (xs : List X) → y ≡ x → Contains (y ∷ xs) x
contains_here x y xs is = (zero, omega arith, is)

pub contains_there : {X : Type 0} (x y : X) (xs : List X) → Contains xs x → Contains (y ∷ xs) x
contains_there x y xs there = Contains-append_right (y ∷ []) xs x there

pub contains_rest : {X : Type 0} (x y : X) (xs : List X) → (y ≡ x → ⊥) → Contains (y ∷ xs) x → Contains xs x
contains_rest x y xs other (zero, less, is) = absurd (other is)
contains_rest x y xs other (suc k, less, is) = (k, omega (arith, less), is)

pub contains_none : {X : Type 0} (x : X) → Contains [] x → ⊥
contains_none x there = let none : there.0 < 0 = there.1 in omega (arith, none)

-- ---- what was transmitted

transmitted_append : (A B : List Entry) → transmitted_frames (A ++ B) ≡ transmitted_frames B ++ transmitted_frames A
transmitted_append [] B = sym (append_nil (transmitted_frames B))
  where
    append_nil : {X : Type 0} (xs : List X) → xs ++ [] ≡ xs
    append_nil [] = refl
    append_nil (x ∷ xs) = ap (λ ys. x ∷ ys) (append_nil xs)
transmitted_append (e ∷ A) B = ap (λ (fs : List Frame). fs ++ frames_of (deed_in e)) (transmitted_append A B) ∙ append_assoc (transmitted_frames B) (transmitted_frames A) (frames_of (deed_in e))

-- what the entries up to a place transmitted was transmitted
pub by_some : (frame : Frame) (merged : List Entry) (i : ℕ) → IsTransmitted frame (take i merged) → IsTransmitted frame merged
by_some frame merged i there =
    subst (λ (es : List Entry). Contains (transmitted_frames (reverse es)) frame) (take-append-drop i merged)
    (subst (λ (es : List Entry). Contains (transmitted_frames es) frame) (sym (reverse-append (take i merged) (drop i merged)))
    (subst (λ (fs : List Frame). Contains fs frame) (sym (transmitted_append (reverse (drop i merged)) (reverse (take i merged))))
    (Contains-append_left (transmitted_frames (reverse (take i merged))) (transmitted_frames (reverse (drop i merged))) frame there)))

pub by_this : (frame : Frame) (merged : List Entry) (i : ℕ) (e : Entry) → slice_get merged i ≡ Some e → Contains (frames_of (deed_in e)) frame → IsTransmitted frame merged
by_this frame merged i e is there =
    by_some frame merged (i + 1)
    (subst (λ (es : List Entry). Contains (transmitted_frames es) frame) (sym (newest merged i e is)) (Contains-append_right (transmitted_frames (reverse (take i merged))) (frames_of (deed_in e)) frame there))

-- what an entry more didn't transmit either wasn't
pub by_none : (frame : Frame) (merged : List Entry) (i : ℕ) (e : Entry) → slice_get merged i ≡ Some e → (IsTransmitted frame (take i merged) → ⊥) → (Contains (frames_of (deed_in e)) frame → ⊥) → IsTransmitted frame (take (i + 1) merged) → ⊥
by_none frame merged i e is before own there =
    elim (Contains-append_cases (transmitted_frames (reverse (take i merged))) (frames_of (deed_in e)) frame (subst (λ (es : List Entry). Contains (transmitted_frames es) frame) (newest merged i e is) there)) [
      | inl one ↦ before one
      | inr other ↦ own other
    ]

-- ---- origins

-- an event that is no arrival needs no frame
pub needs_none : (event : Event) (J : List Entry) → ((frame : Frame) → event ≡ events.Arrive frame → ⊥) → ArrivesGiven event J
needs_none (events.Arrive frame) J none = absurd (none frame refl)
needs_none (_) J none = tt

-- an arrival of a frame that was given
pub was_given : (event : Event) (J : List Entry) (frame : Frame) → event ≡ events.Arrive frame → Contains (transmitted_frames J) frame → ArrivesGiven event J
was_given event J frame is there = subst (λ (e : Event). ArrivesGiven e J) (sym is) there

-- an entry more whose frame has an origin
pub origins_more : (merged : List Entry) (i : ℕ) (e : Entry) → slice_get merged i ≡ Some e → HaveOrigins (take i merged) → ArrivesGiven e.event (reverse (take i merged)) → HaveOrigins (take (i + 1) merged)
origins_more merged i e is before given = subst (Each (λ (entry : Entry) (J : List Entry). ArrivesGiven entry.event J)) (sym (newest merged i e is)) (given, before)

-- one whose frame has none is the first
pub alone_at : (merged : List Entry) (i : ℕ) (e : Entry) (frame : Frame) (fault : CheckFault) → slice_get merged i ≡ Some e → HaveOrigins (take i merged) → e.event ≡ events.Arrive frame → (IsTransmitted frame (take i merged) → ⊥)
    → IsRefusedFor merged e.space (length (at e.space (take i merged)) + 1) frame fault → IsOriginFault merged fault
alone_at merged i e frame fault is before arrives none refused = (
  e.space,
  length (at e.space (take i merged)) + 1,
  frame,
  record {
    before = take i merged;
    arrival = e;
    after = drop (suc i) merged;
    merged_is = parted merged i e is;
    arrives = arrives;
    space_is = refl;
    place_is = refl;
    have_origins = before;
    has_none = none;
  },
  refused,
)
