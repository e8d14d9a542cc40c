-- The frames that a transmit gives have spellings.
use Rattle.std.proofs.Common.{◌≡◌, ◌≢◌, ℕ, ◌+◌, ◌-◌, ◌^◌, ◌<◌, ◌≤◌, max, Bool, List, [], ◌∷◌, length, drop, arith, refl}
use Rattle.std.proofs.lemmas.List.{length-drop}
use Rattle.std.specs.List.{AllByRecursion}
use Rattle.nob_ids.specs.Names.{IsSpace}
use Rattle.nob_frame.specs.declared.frame.FrameKind.TheVariants.{Close}
use Rattle.nob_frame.specs.declared.version.Version.TheVariants.{Two}
use Rattle.nob_frame.specs.Spelling.{Fits}
use Rattle.nob_model_session.specs.Right.{data_frames, ack_frame, open_frames}
use Rattle.nob_session.specs.Items.{IsItem}
use Rattle.nob_session.proofs.Sizes.{all_left, all_joined}

-- the number of a session
abbrev pub IsNumber : ℕ → Type 0
IsNumber session = (1 ≤ session) × (session < 2 ^ 32)

pub data_fit : (me peer session ack n : ℕ) (payloads : List (List ℕ)) → IsSpace me → IsSpace peer → me ≢ peer → IsNumber session → 1 ≤ ack → ack ≤ 2 ^ 40 + 1 → 1 ≤ n → n + length payloads ≤ 2 ^ 40 + 1 → AllByRecursion IsItem payloads → AllByRecursion (Fits Two) (data_frames me peer session ack n payloads)
data_fit me peer session ack n [] my its apart numbered low high first last sizes = tt
data_fit me peer session ack n (p ∷ ps) my its apart numbered low high first last sizes = (
  record { from = my; to = its; apart = apart; session = numbered; seq = (first, omega arith); low_ack = low; high_ack = high; carries = sizes.0 },
  data_fit me peer session ack (n + 1) ps my its apart numbered low high (omega arith) (omega arith) sizes.1,
)

-- the lowest item and the new ones behind it
open_fit : (me peer session ack n t : ℕ) (due : Bool) (payload : List ℕ) (payloads : List (List ℕ)) → IsSpace me → IsSpace peer → me ≢ peer → IsNumber session → 1 ≤ ack → ack ≤ 2 ^ 40 + 1 → 1 ≤ n → n + length (payload ∷ payloads) ≤ 2 ^ 40 + 1 → t ≤ 2 ^ 40 → AllByRecursion IsItem (payload ∷ payloads) → AllByRecursion (Fits Two) (open_frames me peer session ack n t due (payload ∷ payloads))
open_fit me peer session ack n t due payload payloads my its apart numbered low high first last given sizes =
    let new : max n t + 1 + length (drop (t - n) payloads) ≤ 2 ^ 40 + 1 = omega (arith, last, given, length-drop (t - n) payloads) in
    all_joined (Fits Two) (data_frames me peer session ack n (payload ∷ [])) (data_frames me peer session ack (max n t + 1) (drop (t - n) payloads))
    (data_fit me peer session ack n (payload ∷ []) my its apart numbered low high first (omega (arith, last)) (sizes.0, tt))
    (data_fit me peer session ack (max n t + 1) (drop (t - n) payloads) my its apart numbered low high (omega arith) new (all_left IsItem (t - n) payloads sizes.1))

-- what a transmit gives of a window of so many items
pub window_fits : (me peer session ack n t count : ℕ) (due : Bool) (payloads : List (List ℕ)) → IsSpace me → IsSpace peer → me ≢ peer → IsNumber session → 1 ≤ ack → ack ≤ 2 ^ 40 + 1 → 1 ≤ n → n + count ≤ 2 ^ 40 + 1 → t ≤ 2 ^ 40 → 0 < count → length payloads ≡ count → AllByRecursion IsItem payloads → AllByRecursion (Fits Two) (open_frames me peer session ack n t due payloads)
window_fits me peer session ack n t count due [] my its apart numbered low high first last given some same sizes = absurd (omega (arith, same, some))
window_fits me peer session ack n t count due (payload ∷ payloads) my its apart numbered low high first last given some same sizes = open_fit me peer session ack n t due payload payloads my its apart numbered low high first (omega (arith, same, last)) given sizes

pub ack_fits : (me peer session ack : ℕ) → IsSpace me → IsSpace peer → me ≢ peer → IsNumber session → 1 ≤ ack → ack ≤ 2 ^ 40 + 1 → Fits Two (ack_frame me peer session ack)
ack_fits me peer session ack my its apart numbered low high = record { from = my; to = its; apart = apart; session = numbered; seq = refl; low_ack = low; high_ack = high; carries = refl }

pub close_fits : (me peer session ack reason : ℕ) → 1 ≤ reason → reason ≤ 6 → IsSpace me → IsSpace peer → me ≢ peer → IsNumber session → 1 ≤ ack → ack ≤ 2 ^ 40 + 1 → Fits Two (record { kind = Close; from = me; to = peer; session = session; seq = 0; ack = ack; payload = reason ∷ [] })
close_fits me peer session ack reason first last my its apart numbered low high = record { from = my; to = its; apart = apart; session = numbered; seq = refl; low_ack = low; high_ack = high; carries = (reason, first, last, refl) }
