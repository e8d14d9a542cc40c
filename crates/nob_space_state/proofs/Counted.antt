-- What has holds is known, and how often a reference stands in longer lists.
use Rattle.std.proofs.Common.{◌≡◌, ◌+◌, Bool, true, false, cond, List, ◌∷◌, ◌++◌, filter, length, Option, Some, None, if◌then◌else◌, refl, ap, ◌∙◌, arith}
use Rattle.std.proofs.lemmas.List.{length-append}
use Rattle.std.proofs.lemmas.List.Elements.{filter-append}
use Rattle.nob_ids.specs.Names.{is_same}
use Rattle.nob_ids.specs.declared.wire_rep.WireRep.{WireRep}
use Rattle.nob_table_rows.specs.declared.counts.Counts.{Counts}
use Rattle.nob_table_rows.specs.declared.standing.Grant.TheVariants as grants
use Rattle.nob_table_rows.specs.declared.standing.Surrogate.{Surrogate}
use Rattle.nob_table_rows.specs.Counts as table_counts
use Rattle.nob_table_rows.specs.Standings.{is_known, own_standing, far_standing, state_of}
use Rattle.nob_table_rows.proofs.Same.{same_laws}
use Rattle.nob_model_history.specs.Holds.{times}

-- what has holds is known
pub held_known : (mine given : Bool) (row : Option Counts) (surrogate : Option Surrogate) (counts : Option Counts) → table_counts.is_held (if mine then own_standing given row else far_standing surrogate counts).counts ≡ true
    → is_known (if mine then own_standing given row else far_standing surrogate counts).state ≡ true
held_known true given (Some c) surrogate counts held = refl
held_known true true None surrogate counts held = absurd (cc)
held_known true false None surrogate counts held = absurd (cc)
held_known false given row surrogate None held = absurd (cc)
held_known false given row None (Some c) held = refl
held_known false given row (Some g) (Some c) held = elim g.grant as (λ k. is_known (state_of k) ≡ true) [ grants.Pending ↦ refl | grants.Granted ↦ refl | grants.Refused ↦ refl ]

-- one more of a list
pub times_more : (rep other : WireRep) (reps : List WireRep) → times other (rep ∷ reps) ≡ (if is_same rep other then times other reps + 1 else times other reps)
times_more rep other reps = rw (same_laws.symm rep other) (elim (is_same other rep) as (λ b. length (cond b (rep ∷ filter (is_same other) reps) (filter (is_same other) reps)) ≡ (if b then times other reps + 1 else times other reps)) [ true ↦ omega arith | false ↦ refl ])

-- how often a reference stands in two lists
pub times_both : (rep : WireRep) (one other : List WireRep) → times rep (one ++ other) ≡ times rep one + times rep other
times_both rep one other = ap length (filter-append (is_same rep) one other) ∙ length-append (filter (is_same rep) one) (filter (is_same rep) other)
