-- What is written is one of what may be.
use Rattle.std.proofs.Common.{◌≡◌, ℕ, List, [], ◌++◌, reverse, map, Option, Some, None, Bool, true, false, ◌≤◌, ◌∷◌, refl, ap, sym, subst, ◌∙◌, arith}
use Prim.Native.Nat.{zero, suc}
use Rattle.std.proofs.lemmas.List.{append-nil}
use Rattle.std.specs.Prelude.{codes}
use Rattle.nob_ids.specs.declared.wire_rep.WireRep.{WireRep}
use Rattle.nob_model_types.specs.declared.entry.Entry.{Entry}
use Rattle.nob_chain.specs.declared.chain.ChainParts.{ChainParts}
use Rattle.nob_chain.specs.declared.fault.ChainFault.{ChainFault}
use Rattle.nob_chain.specs.declared.fault.ChainError.{ChainError}
use Rattle.nob_chain.specs.declared.fault.ChainError.TheVariants as chain_errors
use Rattle.nob_chain.specs.Chains.{joined}
use Rattle.nob_chain.specs.Reading.{Explains}
use Rattle.nob_chain.specs.Inputs.{AreSpelt, IsWrongInput}
use Rattle.nob_chain.specs.Faults.{refusal_line}
use Rattle.nob_model_traces.specs.Traces.{are_one_each}
use Rattle.nob_model_traces.specs.declared.fault.WrongEntry.{WrongEntry}
use Rattle.nob_model_chains.specs.Faults.{AreAccepted}
use Rattle.nob_drawing_plan.proofs.Arriving.{have_arrows}
use Rattle.nob_drawing_plan.specs.declared.bar.Bar.{Bar}
use Rattle.nob_drawing_plan.specs.declared.flight.Arrow.{Arrow}
use Rattle.nob_drawing_plan.specs.declared.flight.Departure.{Departure}
use Rattle.nob_drawing_plan.specs.declared.flight.Stray.{Stray}
use Rattle.nob_drawing_choice.specs.Plans.{places_in, lives_in, bars_in, arrows_in, lost_in, strays_in, count_drawn}
use Rattle.nob_drawing.specs.declared.page.Page.{Page}
use Rattle.nob_drawing.specs.Layout.{drawing, width_of, height_of}
use Rattle.nob_drawing.specs.declared.shape.Shape.{Shape}
use Rattle.nob_drawing.specs.Writing.{svg_text}
use Rattle.nob_demo.specs.Judging.{IsJudged}
use Rattle.nob_demo.specs.Draws.{Draws, page_of, row_of, spaces_of, svg_of, last_line}
use Rattle.nob_demo.specs.declared.drawing.DrawEnding.{DrawEnding}
use Rattle.nob_demo.specs.declared.drawing.DrawEnding.TheVariants.{Drawn, Refused}
use Rattle.nob_demo.specs.declared.drawing.Part.{Part}

-- of the first so many rows no more are drawn
pub few_drawn : (number : ℕ) (all : List (Option ℕ)) → count_drawn number all ≤ number
few_drawn zero all = omega (arith)
few_drawn (suc number) [] = omega (arith)
few_drawn (suc number) (None ∷ all) =
    let fewer : count_drawn number all ≤ number = few_drawn number all in
    omega (arith, fewer)
few_drawn (suc number) (Some place ∷ all) =
    let fewer : count_drawn number all ≤ number = few_drawn number all in
    omega (arith, fewer)

-- ---- texts

-- the text of the shapes of what is drawn is the drawing
pub svg_is : (n : ℕ) (part : Part) (accepted : Bool) (fault : Option ℕ) (J : List Entry) (page : Page) (places : List (Option ℕ)) (lives : List (List WireRep)) (bars : List Bar) (arrows : List Arrow) (lost : List Departure) (strays : List Stray) (width height : ℕ) (shapes : List Shape)
    → places ≡ places_in n part.choice fault J → lives ≡ lives_in n J → bars ≡ bars_in n part.choice fault J → arrows ≡ arrows_in n part.choice fault J → lost ≡ lost_in n part.choice fault J → strays ≡ strays_in n part.choice fault J
    → page ≡ page_of n part accepted fault places J → width ≡ width_of page → height ≡ height_of page → shapes ≡ drawing page places lives bars arrows lost strays J → svg_text width height shapes ≡ svg_of n part accepted fault J
unfolding svg_of
svg_is n part accepted fault J page places lives bars arrows lost strays width height shapes places_are lives_are bars_are arrows_are lost_are strays_are page_is width_is height_is shapes_are =
    let O = lives_in n J in
    let B = bars_in n part.choice fault J in
    let A = arrows_in n part.choice fault J in
    let L = lost_in n part.choice fault J in
    let S = strays_in n part.choice fault J in
    ap (λ (w : ℕ). svg_text w height shapes) width_is
    ∙ ap (λ (h : ℕ). svg_text (width_of page) h shapes) height_is
    ∙ ap (λ (all : List Shape). svg_text (width_of page) (height_of page) all) shapes_are
    ∙ ap (λ (some : List (List WireRep)). svg_text (width_of page) (height_of page) (drawing page places some bars arrows lost strays J)) lives_are
    ∙ ap (λ (some : List Bar). svg_text (width_of page) (height_of page) (drawing page places O some arrows lost strays J)) bars_are
    ∙ ap (λ (some : List Arrow). svg_text (width_of page) (height_of page) (drawing page places O B some lost strays J)) arrows_are
    ∙ ap (λ (some : List Departure). svg_text (width_of page) (height_of page) (drawing page places O B A some strays J)) lost_are
    ∙ ap (λ (some : List Stray). svg_text (width_of page) (height_of page) (drawing page places O B A L some J)) strays_are
    ∙ ap (λ (p : Page). svg_text (width_of p) (height_of p) (drawing p places O B A L S J)) page_is
    ∙ ap (λ (ps : List (Option ℕ)). svg_text (width_of (page_of n part accepted fault ps J)) (height_of (page_of n part accepted fault ps J)) (drawing (page_of n part accepted fault ps J) ps O B A L S J)) places_are

-- the drawing of accepted chains
pub drawn_written : (input : List ℕ) (part : Part) (chains : List ChainParts) (merged : List Entry) (text : List ℕ) → AreSpelt input chains → IsJudged chains merged None → text ≡ svg_of (spaces_of chains) part true None (reverse merged) → Draws input part (text ++ last_line Drawn) Drawn
drawn_written input part chains merged text spelt right is = Draws.drawn chains merged spelt right (have_arrows (reverse merged) right.traces.origins) (append-nil text ∙ is) refl

-- the drawing of chains of which one entry is wrong
pub wrong_written : (input : List ℕ) (part : Part) (chains : List ChainParts) (entry : WrongEntry) (merged : List Entry) (text : List ℕ) → AreSpelt input chains → IsJudged chains merged (Some entry) → text ≡ svg_of (spaces_of chains) part false (row_of entry.space entry.place (reverse merged)) (reverse merged) → Draws input part (text ++ last_line Refused) Refused
wrong_written input part chains entry merged text spelt wrong is = Draws.wrong chains entry merged spelt wrong.1 wrong.0 (append-nil text ∙ is) refl

-- the line of chains that don't belong together
pub apart_written : (input : List ℕ) (part : Part) (chains : List ChainParts) (text : List ℕ) → AreSpelt input chains → are_one_each (map joined chains) ≡ false → text ≡ codes "C4\n" → Draws input part (text ++ last_line Refused) Refused
apart_written input part chains text spelt apart is = Draws.apart chains spelt (apart, tt) (append-nil text ∙ is) refl

-- the line of what isn't chains
pub unread_written : (input : List ℕ) (part : Part) (fault : ChainFault) (line : List ℕ) (error : ChainError) → error ≡ chain_errors.Fault fault → Explains (IsWrongInput input) error → line ≡ refusal_line (chain_errors.Fault fault) → Draws input part (line ++ last_line Refused) Refused
unread_written input part fault line error error_is wrong is = Draws.unread fault (subst (Explains (IsWrongInput input)) error_is wrong) (append-nil line ∙ is) refl

-- behind an empty text a line is as it is alone
pub behind_nothing : (input : List ℕ) (part : Part) (line old new : List ℕ) (ending : DrawEnding) → old ≡ [] → new ≡ old ++ line → Draws input part (line ++ last_line ending) ending → Draws input part (new ++ last_line ending) ending
behind_nothing input part line old new ending empty is draws = subst (λ (text : List ℕ). Draws input part (text ++ last_line ending) ending) (sym (is ∙ ap (λ (text : List ℕ). text ++ line) empty)) draws
