-- What `nobj draw` writes for an input, and how it ends.
use Rattle.std.specs.Prelude.{◌≡◌, ℕ, ◌+◌, ◌-◌, Bool, true, false, ◌&&◌, ◌==◌, List, [], ◌∷◌, length, reverse, map, min, max, codes, Option, Some, None, if◌then◌else◌}
use Rattle.nob_model_types.specs.declared.entry.Entry.{Entry}
use Rattle.nob_model_journal.specs.Journals.{at}
use Rattle.nob_chain.specs.declared.chain.ChainParts.{ChainParts}
use Rattle.nob_chain.specs.declared.fault.ChainFault.{ChainFault}
use Rattle.nob_chain.specs.declared.fault.ChainError.TheVariants as chain_errors
use Rattle.nob_chain.specs.Chains.{joined}
use Rattle.nob_chain.specs.Inputs.{AreSpelt, IsWrongInput}
use Rattle.nob_chain.specs.Faults.{refusal_line}
use Rattle.nob_model_traces.specs.Merged.{IsMerged}
use Rattle.nob_model_traces.specs.declared.fault.CheckFault.TheVariants.{Set}
use Rattle.nob_model_traces.specs.declared.fault.WrongEntry.{WrongEntry}
use Rattle.nob_model_chains.specs.declared.fault.SetFault.TheVariants.{Traces}
use Rattle.nob_model_chains.specs.Faults.{IsFault, AreAccepted}
use Rattle.nob_drawing_plan.specs.Laws.{HaveArrows}
use Rattle.nob_drawing_choice.specs.Plans.{places_in, lives_in, bars_in, arrows_in, lost_in, strays_in, count_drawn}
use Rattle.nob_drawing.specs.declared.page.Page.{Page}
use Rattle.nob_drawing.specs.Layout.{drawing, width_of, height_of}
use Rattle.nob_drawing.specs.Writing.{svg_text}
use Rattle.nob_demo.specs.Judging.{IsWrongEntry}
use Rattle.nob_demo.specs.declared.drawing.DrawEnding.{DrawEnding}
use Rattle.nob_demo.specs.declared.drawing.DrawEnding.TheVariants.{Drawn, Refused, OutOfMemory}
use Rattle.nob_demo.specs.declared.drawing.Part.{Part}

-- the last line behind what was written before
abbrev pub last_line : DrawEnding → List ℕ
last_line Drawn = codes ""
last_line Refused = codes ""
last_line OutOfMemory = codes "memory\n"

-- whether an entry is the one of space s at this place among the space's own, after those before it
abbrev pub is_at : (s place : ℕ) → Entry → List Entry → Bool
is_at s place entry J = entry.space == s && length (at s J) + 1 == place

-- the row of the entry of space s at this place
abbrev pub row_of : (s place : ℕ) → List Entry → Option ℕ
row_of s place [] = None
row_of s place (entry ∷ J) = if is_at s place entry J then Some (length J + 1) else row_of s place J

-- how many spaces there are, by the first chain: as many as each of chains that belong together says
abbrev pub spaces_of : List ChainParts → ℕ
spaces_of [] = 0
spaces_of (chain ∷ chains) = chain.n

-- what is shown of a journal of n spaces, the places of whose rows are these: those of a part that are asked for, as far as there are any
abbrev pub page_of : ℕ → Part → (accepted : Bool) → Option ℕ → List (Option ℕ) → List Entry → Page
page_of n part accepted fault places J = record {
  n = n;
  entries = length J;
  accepted = accepted;
  fault = fault;
  choice = part.choice;
  first = max part.from 1;
  last = min part.to (length J);
  from = count_drawn (max part.from 1 - 1) places + 1;
  to = count_drawn (min part.to (length J)) places;
}

-- the drawing of a journal, where this page of it is shown
abbrev pub svg_on : Page → ℕ → Part → Option ℕ → List Entry → List ℕ
svg_on page n part fault J =
    svg_text (width_of page) (height_of page) (drawing page (places_in n part.choice fault J) (lives_in n J) (bars_in n part.choice fault J) (arrows_in n part.choice fault J) (lost_in n part.choice fault J) (strays_in n part.choice fault J) J)

-- the drawing of a journal
unfoldable pub svg_of : ℕ → Part → (accepted : Bool) → Option ℕ → List Entry → List ℕ
svg_of n part accepted fault J = svg_on (page_of n part accepted fault (places_in n part.choice fault J) J) n part fault J

-- what is written for an input, and how it ends
pub data Draws (input : List ℕ) (part : Part) (text : List ℕ) (ending : DrawEnding) : Type 0 where
  -- the chains that the input is are a run of a world, and their entries are drawn: each arrival has its arrow
  drawn : (chains : List ChainParts) (merged : List Entry) → AreSpelt input chains → AreAccepted chains merged → HaveArrows (reverse merged) → text ≡ svg_of (spaces_of chains) part true None (reverse merged) → ending ≡ Drawn → Draws input part text ending
  -- an entry of the chains that the input is is wrong, or the seal behind it: all are drawn, and that one in red
  wrong : (chains : List ChainParts) (entry : WrongEntry) (merged : List Entry) → AreSpelt input chains → IsWrongEntry chains entry → IsMerged (map joined chains) merged → text ≡ svg_of (spaces_of chains) part false (row_of entry.space entry.place (reverse merged)) (reverse merged) → ending ≡ Refused → Draws input part text ending
  -- the chains that the input is don't belong together
  apart : (chains : List ChainParts) → AreSpelt input chains → IsFault chains (Traces Set) → text ≡ codes "C4\n" → ending ≡ Refused → Draws input part text ending
  -- the input isn't chains
  unread : (fault : ChainFault) → IsWrongInput input fault → text ≡ refusal_line (chain_errors.Fault fault) → ending ≡ Refused → Draws input part text ending
  -- memory ran out
  stopped : text ≡ codes "memory\n" → ending ≡ OutOfMemory → Draws input part text ending
