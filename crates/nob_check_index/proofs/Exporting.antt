-- The tables of objects say which were exported and which withdrawn.
use Rattle.std.proofs.Common.{◌≡◌, ◌||◌, ℕ, Bool, List, [], ◌∷◌, refl, sym, ap, ◌∙◌}
use Rattle.std.specs.Prelude.{◌==◌}
use Rattle.std.specs.List.{list_any}
use Rattle.std.proofs.lemmas.Bool.{eqb-true}
use Rattle.nob_ids.specs.Names.{is_same}
use Rattle.nob_ids.specs.declared.wire_rep.WireRep.{WireRep}
use Rattle.nob_model_types.specs.declared.deed.Deed.{Deed}
use Rattle.nob_model_types.specs.declared.deed.Deed.TheVariants.{Export, Withdraw}
use Rattle.nob_model_types.specs.Objects.{exports, is_withdrawn}
use Rattle.nob_check_index.specs.Exports.{is_export, exports_of, is_withdrawal, withdrawals_of}
use Rattle.nob_check_index.proofs.Keys.{among_put, among_last, equal_swap, same_rep}

-- whether a reference was exported
pub export_is : (rep : WireRep) (D : List Deed) → is_export rep (exports_of D) ≡ list_any (is_same rep) (exports D)
export_is rep [] = refl
export_is rep (Export other ∷ D) =
    among_put is_same same_rep rep other (exports_of D)
    ∙ ap (λ (b : Bool). is_same rep other || b) (export_is rep D)
    ∙ sym (among_last (is_same rep) (exports D) other)
export_is rep (_ ∷ D) = export_is rep D

-- whether an index was withdrawn
pub withdrawal_is : (index : ℕ) (D : List Deed) → is_withdrawal index (withdrawals_of D) ≡ is_withdrawn index D
withdrawal_is index [] = refl
withdrawal_is index (Withdraw other ∷ D) =
    among_put (λ (a b : ℕ). a == b) eqb-true index other (withdrawals_of D)
    ∙ (λ i. equal_swap index other i || withdrawal_is index D i)
withdrawal_is index (_ ∷ D) = withdrawal_is index D
