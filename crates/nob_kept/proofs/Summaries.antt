-- The tallies of one space more.
use Rattle.std.proofs.Common.{◌≡◌, ℕ, ◌+◌, ◌-◌, ◌≤◌, List, [], ◌∷◌, ◌++◌, map, filter, Result, Ok, Err, IfOk, OnOk, ap, ◌∙◌, arith}
use Prim.Native.Nat.{suc}
use Rattle.std.proofs.lemmas.List.{map-append}
use Rattle.std.proofs.lemmas.List.Elements.{filter-append}
use Rattle.nob_model_types.specs.Sessions.{is_peer}
use Rattle.nob_kept.specs.declared.identity.Identity.{Identity}
use Rattle.nob_kept.specs.declared.receipt.Receipt.{Receipt}
use Rattle.nob_kept.specs.declared.summary.Summary.{Summary}
use Rattle.nob_kept.specs.Accounts.{Account, IsAccount, identity_of}
use Rattle.nob_kept.specs.Seats.{HasAll}
use Rattle.nob_kept.specs.Segments.{spaces_to}
use Rattle.nob_kept.specs.Summaries.{IsSummary, IsSummaryOf, tally_with, tallies_among}

-- the tallies up to a space are those before, and its own
pub tallies_next : (account : Account) (number : ℕ) → 1 ≤ number
    → tallies_among account (spaces_to (number + 1 - 1)) ≡ tallies_among account (spaces_to (number - 1)) ++ tallies_among account (number ∷ [])
tallies_next account number some =
    let before = spaces_to (number - 1) in
    let next : number + 1 - 1 ≡ suc (number - 1) = omega (arith, some) in
    let same : number - 1 + 1 ≡ number = omega (arith, some) in
    ap (λ (n : ℕ). tallies_among account (spaces_to n)) next
    ∙ ap (λ (n : ℕ). tallies_among account (before ++ n ∷ [])) same
    ∙ ap (map (tally_with account)) (filter-append (is_peer account.id account.n) before (number ∷ []))
    ∙ map-append (tally_with account) (filter (is_peer account.id account.n) before) (filter (is_peer account.id account.n) (number ∷ []))

-- a summary of an account of a space is one of the space
pub summary_of : {E : Type 0} (identity : Identity) (account : Account) (seats : List (List Receipt)) (result : Result Summary E) → identity_of account ≡ identity
    → IfOk result (λ summary. IsSummary account summary) → OnOk result (HasAll account.entries seats) → OnOk result (IsAccount account)
    → IfOk result (λ summary. IsSummaryOf identity seats summary)
summary_of identity account seats (Ok summary) is told has right = (account, is, right, has, told)
summary_of identity account seats (Err back) is told has right = tt
