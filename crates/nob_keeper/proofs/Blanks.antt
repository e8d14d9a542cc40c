-- What is said of a space that did nothing.
use Rattle.std.proofs.Common.{◌≡◌, ℕ, Bool, true, false, Option, Some, None, if◌then◌else◌, refl, sym, ap}
use Rattle.nob_model_types.specs.Sessions.{is_peer}
use Rattle.nob_model_types.specs.declared.tally.Tally.{Tally}
use Rattle.nob_model.specs.Tallies.{tally}
use Rattle.nob_kept.specs.Accounts.{blank, history_in}
use Rattle.nob_kept.specs.Summaries.{IsBacklogOf, IsLiveOf, IsTallyOf, tally_in}
use Rattle.nob_kept.specs.declared.identity.Identity.{Identity}

-- no object of a space that did nothing is live
pub blank_live : (identity : Identity) → IsLiveOf identity 0
blank_live identity = (blank identity, refl, record { right = tt; rise = tt }, refl)

-- nothing waits to be done there
pub blank_backlog : (identity : Identity) → IsBacklogOf identity (record { calls = 0; ready = 0; running = 0 })
blank_backlog identity = (blank identity, refl, record { right = tt; rise = tt }, refl)

-- what is said of its session with a peer
pub blank_tally : (identity : Identity) (peer : ℕ) (answer : Option Tally) → answer ≡ tally_in (blank identity) peer → IsTallyOf identity peer answer
blank_tally identity peer answer is = (blank identity, refl, record { right = tt; rise = tt }, is)

-- that is, where it is a peer: the first session, on which nothing went
pub blank_some : (identity : Identity) (peer : ℕ) → is_peer identity.space identity.n peer ≡ true → Some (record { session = 1; sent = 0; acted = 0; closed = None }) ≡ tally_in (blank identity) peer
blank_some identity peer is = sym (ap (λ (b : Bool). if b then Some (tally peer (history_in (blank identity))) else None) is)

-- and else nothing
pub blank_none : (identity : Identity) (peer : ℕ) → is_peer identity.space identity.n peer ≡ false → None ≡ tally_in (blank identity) peer
blank_none identity peer is = sym (ap (λ (b : Bool). if b then Some (tally peer (history_in (blank identity))) else None) is)
