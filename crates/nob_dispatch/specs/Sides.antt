-- What a hand and a desk keep, as contracts see it.
use Rattle.nob_dispatch.specs.declared.desk.Desk.TheInside.{Inside as DeskInside}
use Rattle.nob_dispatch.specs.declared.hand.Hand.TheInside.{Inside as HandInside}
use Rattle.nob_dispatch.specs.Stakes.{of_hand, of_desk}
use Rattle.nob_dispatch.specs.Assigning.{Assigning}
use Rattle.nob_dispatch.specs.Assigning as assigning
use Rattle.nob_dispatch.specs.Serving.{Serving, given, taken}
use Rattle.nob_dispatch.specs.Serving as serving

module _ {O : Type 0} where
  -- a hand, as contracts see it
  abbrev pub serving_of : HandInside O → Serving O
  serving_of hand = record { taken = taken hand.errands; given = given hand.returns; worker = hand.worker; fault = hand.fault; is_alone = hand.returns.has_heard_gone; stakes = of_hand hand.errands hand.returns }

  -- what the hand got and gave is tied to what its worker did
  abbrev pub IsHand : HandInside O → Type 0
  IsHand hand = serving.IsTied (serving_of hand)

  -- a desk, as contracts see it
  abbrev pub assigning_of : DeskInside O → Assigning O
  assigning_of desk = record { given = given desk.errands; back = taken desk.returns; unsent = desk.unsent; is_alone = desk.errands.has_heard_gone; away = desk.away; has_stopped = desk.has_stopped; dispatcher = desk.dispatcher; stakes = of_desk desk.errands desk.returns }

  -- what the desk gave and got back is tied to what its dispatcher did
  abbrev pub IsDesk : DeskInside O → Type 0
  IsDesk desk = assigning.IsTied (assigning_of desk)
