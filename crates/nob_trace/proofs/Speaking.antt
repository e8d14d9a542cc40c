-- A version can speak of all that has a spelling in it.
use Rattle.std.proofs.Common.{◌≡◌, true, List, [], ◌∷◌, refl, arith, Result, Ok, Err}
use Rattle.std.proofs.lemmas.Bool.{and_from, le-leb}
use Rattle.std.specs.List.{AllByRecursion, list_all}
use Rattle.nob_frame.specs.declared.frame.Frame.{Frame}
use Rattle.nob_frame.specs.declared.version.Version.{Version}
use Rattle.nob_frame.specs.declared.version.Version.TheVariants.{One, Two}
use Rattle.nob_frame.specs.Spelling.{Fits}
use Rattle.nob_model_types.specs.declared.event.Event.{Event}
use Rattle.nob_model_types.specs.declared.event.Event.TheVariants as events
use Rattle.nob_model_types.specs.declared.answer.Answer.{Answer}
use Rattle.nob_model_types.specs.declared.answer.Answer.TheVariants as answers
use Rattle.nob_model_types.specs.declared.refusal.Refusal.{Refusal}
use Rattle.nob_trace.specs.declared.stamped.Stamped.{Stamped}
use Rattle.nob_trace.specs.Entries.{EventFits, TransmitFits, HasSpelling}
use Rattle.nob_trace.specs.Sessions.{names_first, is_of_first, gives_first, speaks_of_first, is_known_in}
use Rattle.nob_trace.specs.Laws.{AreKnown}

frame : (f : Frame) → Fits One f → names_first f ≡ true
frame f fits = let first = fits.session in le-leb f.session 1 (omega (arith, first))

frames : (fs : List Frame) → AllByRecursion (Fits One) fs → list_all names_first fs ≡ true
frames [] all = refl
frames (f ∷ fs) all = and_from (names_first f) (list_all names_first fs) (frame f all.0) (frames fs all.1)

arrival : (e : Event) → EventFits One e → is_of_first e ≡ true
arrival (events.Arrive f) fits = frame f fits
arrival (events.Open p) fits = absurd cc
arrival e fits = refl

transmit : (r : Result Answer Refusal) → TransmitFits One r → gives_first r ≡ true
transmit (Ok (answers.Frames fs)) fit = frames fs fit
transmit (Ok a) fit = refl
transmit (Err refusal) fit = refl

entries : (es : List Stamped) → AllByRecursion (HasSpelling One) es → list_all speaks_of_first es ≡ true
entries [] all = refl
entries (e ∷ es) all =
    and_from (speaks_of_first e) (list_all speaks_of_first es) (and_from (is_of_first e.event) (gives_first e.result) (arrival e.event all.0.0) (transmit e.result all.0.1)) (entries es all.1)

known_in : (v : Version) (es : List Stamped) → AllByRecursion (HasSpelling v) es → is_known_in v es ≡ true
known_in One es all = entries es all
known_in Two es all = refl

pub are_known : AreKnown
are_known trace writable = known_in trace.version trace.entries writable
