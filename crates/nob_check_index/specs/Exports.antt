-- Which objects a space exported and which it withdrew, each once.
use Rattle.std.specs.Prelude.{ℕ, Bool, ◌&&◌, not, ◌==◌, List, [], ◌∷◌}
use Rattle.std.specs.List.{list_any}
use Rattle.indexmap.specs.IndexSet.{insert_key}
use Rattle.nob_ids.specs.Names.{is_same}
use Rattle.nob_ids.specs.declared.wire_rep.WireRep.{WireRep}
use Rattle.nob_model_types.specs.declared.deed.Deed.{Deed}
use Rattle.nob_model_types.specs.declared.deed.Deed.TheVariants.{Export, Withdraw}

-- whether a reference is one of these
abbrev pub is_export : WireRep → List WireRep → Bool
is_export rep reps = list_any (is_same rep) reps

-- these with one more, unless it is one of them
abbrev pub with_export : WireRep → List WireRep → List WireRep
with_export rep reps = insert_key is_same reps rep

-- the references that were exported, after a deed
abbrev pub exports_after : Deed → List WireRep → List WireRep
exports_after (Export rep) reps = with_export rep reps
exports_after (_) reps = reps

-- the references that were exported
abbrev pub exports_of : List Deed → List WireRep
exports_of [] = []
exports_of (deed ∷ D) = exports_after deed (exports_of D)

-- whether an index is one of these
abbrev pub is_withdrawal : ℕ → List ℕ → Bool
is_withdrawal index indexes = list_any (λ other. index == other) indexes

-- these with one more, unless it is one of them
abbrev pub with_withdrawal : ℕ → List ℕ → List ℕ
with_withdrawal index indexes = insert_key (λ one other. one == other) indexes index

-- the indexes that were withdrawn, after a deed
abbrev pub withdrawals_after : Deed → List ℕ → List ℕ
withdrawals_after (Withdraw index) indexes = with_withdrawal index indexes
withdrawals_after (_) indexes = indexes

-- the indexes that were withdrawn
abbrev pub withdrawals_of : List Deed → List ℕ
withdrawals_of [] = []
withdrawals_of (deed ∷ D) = withdrawals_after deed (withdrawals_of D)

-- whether the object of an index of space s is one of these
abbrev pub is_export_of : (s index : ℕ) → List WireRep → Bool
is_export_of s index reps = is_export (record { owner = s; index = index }) reps

-- whether it is, and isn't one of those that were withdrawn
abbrev pub is_left : (s index : ℕ) → List WireRep → List ℕ → Bool
is_left s index reps indexes = is_export_of s index reps && not (is_withdrawal index indexes)
