-- The account of a space: its number, how many there are, the limits of its sessions, what is kept of its entries, and all of them, those too that aren't kept.
use Rattle.std.specs.Prelude.{ℕ, ◌+◌, ◌^◌, nat_lt, max, Bool, true, false, ◌||◌, List, [], ◌∷◌, ◌++◌, Option, Some, None, if◌then◌else◌}
use Rattle.nob_ids.specs.declared.limits.Limits.{Limits}
use Rattle.nob_model_history.specs.declared.history.History.{History}
use Rattle.nob_model_history.specs.Histories.{history}
use Rattle.nob_model.specs.Lists.{AreRight}
use Rattle.nob_space.specs.Spaces.{Owner, StandsFor}
use Rattle.nob_trace.specs.declared.stamped.Stamped.{Stamped}
use Rattle.nob_trace.specs.Stamps.{Rise, last_stamp}
use Rattle.nob_model_traces.specs.Traces.{journal_at}
use Rattle.nob_chain.specs.Chains.{entries_of}
use Rattle.nob_chain.specs.declared.chain.ChainParts.{ChainParts}
use Rattle.nob_kept.specs.declared.identity.Identity.{Identity}
use Rattle.nob_kept.specs.declared.keep.Keep.{Keep}
use Rattle.nob_kept.specs.declared.keep.Keep.TheVariants as keeps
use Rattle.nob_kept.specs.declared.error.KeeperError.{KeeperError}
use Rattle.nob_kept.specs.declared.error.KeeperError.TheVariants as errors

-- what is kept of a space, its entries oldest first
pub record Account : Type 0 where
  pub id : ℕ
  pub n : ℕ
  pub limits : Limits
  pub keep : Keep
  -- so many entries has a segment that is full
  pub size : ℕ
  pub entries : List Stamped
  -- where only the newest entry of each seat is kept: the places of those
  pub noted : List ℕ

-- whether all entries are kept
abbrev pub keeps_all : Keep → Bool
keeps_all keeps.All = true
keeps_all keeps.Nothing = false

-- so many entries has the largest segment that there may be
abbrev pub largest_size : ℕ
largest_size = 2 ^ 16

-- the greatest stamp that a caller may have seen
abbrev pub last_seen : ℕ
last_seen = 2 ^ 60

-- the greatest stamp behind which there is one more entry
abbrev pub last_stamped : ℕ
last_stamped = 2 ^ 62

-- what is kept of a space with these entries, in segments of this size, of which those of some places are noted
abbrev pub account_of : Owner → Keep → ℕ → List Stamped → List ℕ → Account
account_of space keep size entries noted = record { id = space.id; n = space.n; limits = space.limits; keep = keep; size = size; entries = entries; noted = noted }

-- what a chain with segments of this size keeps of its space: all
abbrev pub account_in : ℕ → ChainParts → Account
account_in size chain = record { id = chain.space; n = chain.n; limits = chain.limits; keep = keeps.All; size = size; entries = entries_of chain.segments; noted = [] }

-- whose account it is
abbrev pub identity_of : Account → Identity
identity_of account = record { space = account.id; n = account.n; limits = account.limits }

-- whose space this is
abbrev pub identity_in : Owner → Identity
identity_in space = record { space = space.id; n = space.n; limits = space.limits }

-- whose chain it is
abbrev pub identity_on : ChainParts → Identity
identity_on chain = record { space = chain.space; n = chain.n; limits = chain.limits }

-- what all is kept of where a space did nothing
abbrev pub blank : Identity → Account
blank identity = record { id = identity.space; n = identity.n; limits = identity.limits; keep = keeps.All; size = largest_size; entries = []; noted = [] }

-- the entries of a space: each result is right after those before, and the stamps rise
pub record AreEntries (id n : ℕ) (limits : Limits) (entries : List Stamped) : Type 0 where
  pub right : AreRight id n limits (journal_at id entries)
  pub rise : Rise 0 entries

-- the entries of an account are those of its space
abbrev pub IsAccount : Account → Type 0
IsAccount account = AreEntries account.id account.n account.limits account.entries

-- a space stands for entries, which are right
pub record StandsRight (space : Owner) (entries : List Stamped) : Type 0 where
  pub stands : StandsFor space (journal_at space.id entries)
  pub is_account : AreEntries space.id space.n space.limits entries

-- what is kept, with one entry more
abbrev pub with_next : Account → Stamped → Account
with_next account entry = record { id = account.id; n = account.n; limits = account.limits; keep = account.keep; size = account.size; entries = account.entries ++ entry ∷ []; noted = account.noted }

-- what is kept, with other places noted
abbrev pub with_noted : List ℕ → Account → Account
with_noted noted account = record { id = account.id; n = account.n; limits = account.limits; keep = account.keep; size = account.size; entries = account.entries; noted = noted }

-- the stamp of the next entry: one more than the greater of the last stamp and the one that its caller had seen
abbrev pub next_stamp : (last seen : ℕ) → ℕ
next_stamp last seen = max last seen + 1

-- whether no entry comes behind one of this stamp
abbrev pub is_last : ℕ → Bool
is_last stamp = nat_lt last_stamped stamp

-- whether the trace of an account is full: its last stamp is too great
abbrev pub is_full : Account → Bool
is_full account = is_last (last_stamp 0 account.entries)

-- what refuses an entry behind one of this stamp, memory aside: that stamp is too great, or the one that was seen
abbrev pub fault_behind : (last seen : ℕ) → Option KeeperError
fault_behind last seen = if is_last last || nat_lt last_seen seen then Some errors.Stamp else None

-- what refuses an entry more, memory aside
abbrev pub fault_of : Account → ℕ → Option KeeperError
fault_of account seen = fault_behind (last_stamp 0 account.entries) seen

-- what the entries that are kept say of their space
abbrev pub history_in : Account → History
history_in account = history account.id account.n (journal_at account.id account.entries)
