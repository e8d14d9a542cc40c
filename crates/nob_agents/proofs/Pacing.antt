-- What is new would give something.
use Rattle.std.proofs.Common.{◌≡◌, ℕ, ◌+◌, ◌-◌, true, List, Option, Some, None, get_or, refl, sym, ap, ◌∙◌, subst, arith}
use Rattle.std.specs.Prelude.{slice_get, position}
use Rattle.std.proofs.lemmas.Option.{none-some, slice_get-get_or}
use Rattle.std.proofs.lemmas.List.Quantifiers.{position-Some}
use Rattle.nob_session.specs.declared.due.Due.{Due}
use Rattle.nob_session.specs.declared.due.Due.TheVariants as dues
use Rattle.nob_model_types.specs.declared.event.Event.{Event}
use Rattle.nob_model_types.specs.declared.event.Event.TheVariants as events
use Rattle.nob_keeper.specs.Waking.{is_new}
use Rattle.nob_agents.specs.Pauses.{transmit_at, next_new, is_some, is_some_in, is_due_at, IsNext}

new_is_some : (due : Due) → is_new due ≡ true → is_some due ≡ true
new_is_some dues.Nothing is = is
new_is_some dues.Ack is = refl
new_is_some dues.Again is = refl
new_is_some dues.New is = refl
new_is_some dues.Close is = refl

abbrev content : Event → Option Event → Event
content event None = event
content event (Some found) = found

new_at : (tick : Option ℕ) (all : List Due) (found : Option ℕ) (event : Event) → position is_new all ≡ found → transmit_at found ≡ Some event → IsNext tick all event
new_at tick all None event at is = absurd (none-some event is)
new_at tick all (Some place) event at is =
    let there = position-Some is_new all place dues.Nothing at in
    let one : slice_get all place ≡ Some (get_or all place dues.Nothing) = slice_get-get_or all place dues.Nothing there.0 in
    let due : is_due_at all place ≡ true = ap is_some_in one ∙ new_is_some (get_or all place dues.Nothing) there.1 in
    let same : place ≡ place + 1 - 1 = omega arith in
    subst (λ (e : Event). IsNext tick all e) (ap (content event) is) (subst (λ (p : ℕ). is_due_at all p ≡ true) same due)

-- what is new may be asked next
pub new_is_next : (tick : Option ℕ) (all : List Due) (event : Event) → next_new all ≡ Some event → IsNext tick all event
new_is_next tick all event is = new_at tick all (position is_new all) event refl is

-- what is out may be asked next
pub out_is_next : (tick : Option ℕ) (all : List Due) (peer : ℕ) (event : Event) → event ≡ events.Transmit peer → is_due_at all (peer - 1) ≡ true → IsNext tick all event
out_is_next tick all peer event is due = subst (λ (e : Event). IsNext tick all e) (sym is) due
