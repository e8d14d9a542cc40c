-- What an agent that sends has done: the ways to its peers, and what it asked of its space.
-- In lists of receipts, and of what a way was fed, the newest stands FIRST.
use Rattle.std.specs.Prelude.{◌≡◌, ◌≢◌, ◌≤◌, ℕ, Bool, true, false, ◌==◌, if◌then◌else◌, List, [], ◌∷◌, ◌++◌, length, map, take, reverse, Result, Ok}
use Rattle.std.specs.List.{AllByRecursion, list_any}
use Rattle.nob_frame.specs.declared.frame.Frame.{Frame}
use Rattle.nob_model_types.specs.declared.event.Event.{Event}
use Rattle.nob_model_types.specs.declared.event.Event.TheVariants as events
use Rattle.nob_model_types.specs.declared.answer.Answer.{Answer}
use Rattle.nob_model_types.specs.declared.answer.Answer.TheVariants as answers
use Rattle.nob_model_types.specs.declared.refusal.Refusal.{Refusal}
use Rattle.nob_link.specs.declared.parcel.Parcel.{Parcel}
use Rattle.nob_link.specs.declared.parcel.Parcel.TheVariants as parcels
use Rattle.nob_keeper.specs.Receipt.{Receipt}
use Rattle.nob_agents.specs.Ways.{Way, IsTied}

-- an agent that sends, as contracts see it: its ways, its receipts, and how many frames of the newest receipt have gone on to their way
pub record Sending : Type 0 where
  pub ways : List Way
  pub receipts : List Receipt
  pub handled : ℕ

-- the frames that a result gives
abbrev pub frames_in : Result Answer Refusal → List Frame
frames_in (Ok (answers.Frames frames)) = frames
frames_in _ = []

-- frames as parcels with this stamp
abbrev pub parcels_with : ℕ → List Frame → List Parcel
parcels_with stamp frames = map (λ frame. parcels.Frame stamp frame) frames

-- the frames that an event to transmit to the peer gave, as parcels
abbrev pub given_to : (peer : ℕ) → Event → List Parcel → List Parcel
given_to peer (events.Transmit to) given = if to == peer then given else []
given_to peer _ given = []

-- the frames that a receipt has for a peer, as parcels with its stamp
abbrev pub parcels_to : ℕ → Receipt → List Parcel
parcels_to peer receipt = given_to peer receipt.event (parcels_with receipt.stamp (frames_in receipt.result))

-- all that receipts have for a peer
abbrev pub transmitted : ℕ → List Receipt → List Parcel
transmitted peer [] = []
transmitted peer (receipt ∷ earlier) = reverse (parcels_to peer receipt) ++ transmitted peer earlier

-- what the way to a peer was fed: all that the receipts have for it, but of the newest so many frames alone
abbrev pub fed : (peer handled : ℕ) → List Receipt → List Parcel
fed peer handled [] = []
fed peer handled (receipt ∷ earlier) = reverse (take handled (parcels_to peer receipt)) ++ transmitted peer earlier

-- each way was fed what is said of its peer
abbrev pub AllFed : (ℕ → List Parcel) → List Way → Type 0
AllFed fed_to ways = AllByRecursion (λ way. IsTied (fed_to way.peer) way) ways

-- no two ways lead to one peer
abbrev pub AreApart : List Way → Type 0
AreApart [] = Unit {0}
AreApart (way ∷ ways) = AllByRecursion (λ other. other.peer ≢ way.peer) ways × AreApart ways

-- whether a way leads to a peer
abbrev pub leads_to : (peer : ℕ) → List Way → Bool
leads_to peer ways = list_any (λ way. way.peer == peer) ways

-- whether an event is what an agent with these ways asks: to transmit to a peer to which one leads, to make a tick of the session with it, or to close that
abbrev pub is_about : List Way → Event → Bool
is_about ways (events.Transmit peer) = leads_to peer ways
is_about ways (events.Tick peer) = leads_to peer ways
is_about ways (events.Close peer) = leads_to peer ways
is_about ways _ = false

-- all that was asked is of this kind
abbrev pub AreAbout : List Way → List Receipt → Type 0
AreAbout ways receipts = AllByRecursion (λ receipt. is_about ways receipt.event ≡ true) receipts

-- ways lead to the same peers
abbrev pub LeadAlike : List Way → List Way → Type 0
LeadAlike old new = (peer : ℕ) → leads_to peer new ≡ leads_to peer old

-- what each way put and keeps behind its shim is the shim's output on the frames of the Transmits to its peer, save the newest one's last; and what was asked is about the ways' peers
pub record AreTied (s : Sending) : Type 0 where
  pub tied : AllFed (λ peer. fed peer s.handled s.receipts) s.ways
  pub apart : AreApart s.ways
  pub asked : AreAbout s.ways s.receipts

-- what was fed, where this parcel was fed to the peer too
abbrev pub with_fed : (ℕ → List Parcel) → ℕ → Parcel → ℕ → List Parcel
with_fed fed_to peer parcel other = if other == peer then parcel ∷ fed_to other else fed_to other

-- all frames of the newest receipt have gone on to their way
abbrev pub AllGoneOn : (handled : ℕ) → List Receipt → Type 0
AllGoneOn handled [] = Unit {0}
AllGoneOn handled (receipt ∷ earlier) = length (frames_in receipt.result) ≤ handled
