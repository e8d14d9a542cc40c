-- For which lists of calls an end stands where numbers below the one that it is in are forgotten: of the highest
-- number that arrived only what is above the session's own matters to any later call.
use Rattle.std.specs.Prelude.{◌≡◌, ℕ, Bool, max, List, Option}
use Rattle.nob_ids.specs.declared.limits.Limits.{Limits}
use Rattle.nob_ids.specs.declared.reason.Reason.{Reason}
use Rattle.nob_model_session.specs.declared.entry.EndEntry.{EndEntry}
use Rattle.nob_model_session.specs.End as word
use Rattle.nob_session.specs.Stands.{End, Stands}

-- the words of an end on which later answers depend; `latest` is the higher of the number of its session and the highest that arrived
pub record Words : Type 0 where
  pub number : ℕ
  pub latest : ℕ
  pub ending : Option Reason
  pub handed : List (List ℕ)
  pub lowest : ℕ
  pub transmitted : ℕ
  pub accepted_count : ℕ
  pub payload : ℕ → Option (List ℕ)
  pub accepted : List (List ℕ)
  pub takes : ℕ
  pub data_arrived : Bool
  pub ticks : ℕ
  pub owes_close : Bool

-- what these words are after a list of calls
abbrev pub words_of : List EndEntry → Words
words_of L =
    record {
      number = word.number L;
      latest = max (word.number L) (word.seen L);
      ending = word.ending L;
      handed = word.handed L;
      lowest = word.lowest L;
      transmitted = word.transmitted L;
      accepted_count = word.accepted_count L;
      payload = λ n. word.payload n L;
      accepted = word.accepted L;
      takes = word.takes L;
      data_arrived = word.data_arrived L;
      ticks = word.ticks L;
      owes_close = word.owes_close L;
    }

-- two lists of calls are alike if each word is the same but the highest number that arrived, which counts only where it is above the session's
abbrev pub AreAlike : List EndEntry → List EndEntry → Type 0
AreAlike L M = words_of L ≡ words_of M

-- an end of which is forgotten how far the highest number that arrived is below its own
abbrev pub onward : End → End
onward e = record e { seen = max e.number e.seen }

-- an end stands for a list of calls, from its session onward, if it is the end that an alike list of calls leaves
pub record StandsOnward (me peer : ℕ) (limits : Limits) (e : End) (L : List EndEntry) : Type 0 where
  pub calls : List EndEntry
  pub stands : Stands me peer limits e calls
  pub alike : AreAlike calls L
