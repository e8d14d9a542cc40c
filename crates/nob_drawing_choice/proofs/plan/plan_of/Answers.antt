use Rattle.std.proofs.Common.{refl}
use Rattle.nob_drawing_choice.proofs.plan.plan_of.Goals as goal

pub returns-clause-bars : goal.returns-clause-bars
returns-clause-bars c = rw (c.in_ok-bars.ensures, c.as_slice-all.ensures.value, c.in_ok-places.ensures, c.as_slice-2.ensures.value, c.in_ok-lives.ensures, c.as_slice.ensures.value, c.as_slice-5.ensures.value, c.in_ok-held.ensures) refl

pub returns-clause-arrows : goal.returns-clause-arrows
returns-clause-arrows c = rw (c.in_ok-arrows.ensures, c.as_slice-all.ensures.value, c.in_ok-places.ensures, c.as_slice-2.ensures.value, c.in_ok-lives.ensures, c.as_slice.ensures.value, c.in_ok-held.ensures, c.as_slice-6.ensures.value, c.in_ok-flown.ensures.arrows) refl

pub returns-clause-lost : goal.returns-clause-lost
returns-clause-lost c = rw (c.in_ok-lost.ensures, c.as_slice-all.ensures.value, c.in_ok-places.ensures, c.as_slice-2.ensures.value, c.in_ok-lives.ensures, c.as_slice.ensures.value, c.in_ok-held.ensures, c.as_slice-7.ensures.value, c.in_ok-losses.ensures, c.as_slice-3.ensures.value, c.as_slice-4.ensures.value, c.in_ok-flown.ensures.arrows, c.in_ok-flown.ensures.departures) refl

pub returns-clause-strays : goal.returns-clause-strays
returns-clause-strays c = rw (c.in_ok-strays.ensures, c.as_slice-all.ensures.value, c.in_ok-places.ensures, c.as_slice-2.ensures.value, c.in_ok-lives.ensures, c.as_slice.ensures.value, c.in_ok-held.ensures, c.as_slice-8.ensures.value, c.in_ok-flown.ensures.strays) refl
