-- What is left of a space of which no trace is kept.
use Rattle.std.specs.Prelude.{◌≡◌, ℕ, Bool, true, false, List, length, map, filter, Option, Some, None, if◌then◌else◌}
use Rattle.nob_model_types.specs.Sessions.{is_peer}
use Rattle.nob_model_types.specs.declared.tally.Tally.{Tally}
use Rattle.nob_model_types.specs.declared.tally.Backlog.{Backlog}
use Rattle.nob_model.specs.Tallies.{tally, live_count, backlog}
use Rattle.nob_trace.specs.Stamps.{last_stamp}
use Rattle.nob_chain.specs.Chains.{joined}
use Rattle.nob_chain.specs.declared.chain.ChainParts.{ChainParts}
use Rattle.nob_kept.specs.Accounts.{Account, IsAccount, history_in, identity_of, identity_on}
use Rattle.nob_kept.specs.Closing.{AreOf, receipts_of}
use Rattle.nob_kept.specs.Seats.{HasAll}
use Rattle.nob_kept.specs.Segments.{IsSealedChain, spaces_to}
use Rattle.nob_kept.specs.declared.identity.Identity.{Identity}
use Rattle.nob_kept.specs.declared.receipt.Receipt.{Receipt}
use Rattle.nob_kept.specs.declared.summary.PeerTally.{PeerTally}
use Rattle.nob_kept.specs.declared.summary.Summary.{Summary}
use Rattle.nob_kept.specs.declared.summary.Record.{Record}
use Rattle.nob_kept.specs.declared.summary.Record.TheVariants as records

-- the tally of the session with a peer, none where it is no peer
abbrev pub tally_in : Account → ℕ → Option Tally
tally_in account peer = if is_peer account.id account.n peer then Some (tally peer (history_in account)) else None

-- the tally of the session with a peer, with the peer
abbrev pub tally_with : Account → ℕ → PeerTally
tally_with account peer = record { peer = peer; tally = tally peer (history_in account) }

-- the tallies of the sessions with the peers among some spaces, in their order
abbrev pub tallies_among : Account → List ℕ → List PeerTally
tallies_among account spaces = map (tally_with account) (filter (is_peer account.id account.n) spaces)

-- a summary is what the entries of an account come to
pub record IsSummary (account : Account) (summary : Summary) : Type 0 where
  pub space : summary.space ≡ account.id
  pub n : summary.n ≡ account.n
  pub entries : summary.entries ≡ length account.entries
  pub last_stamp_is : summary.last_stamp ≡ last_stamp 0 account.entries
  pub live : summary.live ≡ live_count account.id (history_in account)
  pub peers : summary.peers ≡ tallies_among account (spaces_to account.n)

-- a tally is that of the session with a peer in some account of this space, whose entries are right, be it an empty one
abbrev pub IsTallyOf : Identity → ℕ → Option Tally → Type 0
IsTallyOf identity peer answer = (account : Account) × (identity_of account ≡ identity) × IsAccount account × (answer ≡ tally_in account peer)

-- a number is how many objects are live in some such account
abbrev pub IsLiveOf : Identity → ℕ → Type 0
IsLiveOf identity count = (account : Account) × (identity_of account ≡ identity) × IsAccount account × (count ≡ live_count account.id (history_in account))

-- a backlog is that of some such account
abbrev pub IsBacklogOf : Identity → Backlog → Type 0
IsBacklogOf identity answer = (account : Account) × (identity_of account ≡ identity) × IsAccount account × (answer ≡ backlog (history_in account))

-- the same of whatever space
abbrev pub IsTally : ℕ → Option Tally → Type 0
IsTally peer answer = (identity : Identity) × IsTallyOf identity peer answer

abbrev pub IsLive : ℕ → Type 0
IsLive count = (identity : Identity) × IsLiveOf identity count

abbrev pub IsBacklog : Backlog → Type 0
IsBacklog answer = (identity : Identity) × IsBacklogOf identity answer

-- a summary is what the right entries of some account of this space come to, of which the newest receipts of these seats are told
abbrev pub IsSummaryOf : Identity → List (List Receipt) → Summary → Type 0
IsSummaryOf identity seats summary = (account : Account) × (identity_of account ≡ identity) × IsAccount account × HasAll account.entries seats × IsSummary account summary

-- whether a record is a chain
abbrev pub is_chain : Record → Bool
is_chain (records.Chain chain) = true
is_chain (records.Summary summary) = false

-- the chain of a record, if it has one
abbrev pub chain_in : Record → Option ChainParts
chain_in (records.Chain chain) = Some chain
chain_in (records.Summary summary) = None

-- a record is a chain of right entries of this space, all sealed, of which these seats have the receipts, each once; or a summary of right entries of this space of which the newest receipts of these seats are told
abbrev pub IsRecordOf : Identity → List (List Receipt) → Record → Type 0
IsRecordOf identity seats (records.Chain chain) = (identity_on chain ≡ identity) × AreOf (joined chain).entries (receipts_of seats) × IsSealedChain chain
IsRecordOf identity seats (records.Summary summary) = IsSummaryOf identity seats summary
