-- A way whose link's other end is gone.
use Rattle.std.proofs.Common.{◌≡◌, true, false, true≢false, List, ◌∷◌, ◌++◌, sym, ap, ◌∙◌, append_assoc}
use Rattle.nob_link.specs.declared.parcel.Parcel.{Parcel}
use Rattle.nob_fault.specs.Shims.{outcome, shim_after}
use Rattle.nob_agents.specs.Ways.{Way, IsTied}

-- what it put is still a beginning of the output, where it was fed a parcel more
pub gone_more : (parcel : Parcel) (way : Way) → way.gone ≡ true → (fed : List Parcel) → IsTied fed way → IsTied (parcel ∷ fed) way
gone_more parcel way gone fed tied =
    let more : List Parcel = outcome (shim_after way.shim.words fed) parcel in
    record {
      begins = (tied.begins.0 ++ more, sym (append_assoc way.put tied.begins.0 more) ∙ ap (λ l. l ++ more) tied.begins.1);
      whole = λ here. absurd (true≢false (sym gone ∙ here));
    }
