-- What an agent that acts on what is left, settles, cleans and withdraws has asked of its space.
use Rattle.std.specs.Prelude.{List}
use Rattle.std.specs.List.{AllByRecursion}
use Rattle.nob_model_types.specs.declared.event.Event.{Event}
use Rattle.nob_model_types.specs.declared.event.Event.TheVariants as events
use Rattle.nob_keeper.specs.Receipt.{Receipt}

-- an agent that cares, as contracts see it: its receipts, the newest FIRST
pub record Caring : Type 0 where
  pub receipts : List Receipt

-- what such an agent asks: to act on an item, to settle a message, to give up a surrogate, or to withdraw an object
abbrev pub IsCare : Event → Type 0
IsCare (events.Act peer) = Unit {0}
IsCare events.Settle = Unit {0}
IsCare events.Clean = Unit {0}
IsCare (events.Withdraw index) = Unit {0}
IsCare _ = ⊥

-- all that it asked is of this kind
abbrev pub AreCares : List Receipt → Type 0
AreCares receipts = AllByRecursion (λ receipt. IsCare receipt.event) receipts
