-- How turns of work, and carrying to and fro, are made up of single ones.
use Rattle.std.proofs.Common.{◌≡◌, ℕ, suc, Bool, true, false, ◌||◌, if◌then◌else◌, refl, sym, subst}
use Rattle.nob_space.specs.Spaces.{Owner}
use Rattle.nob_exchange.specs.Exchanges.{Past, Has, Pair, HaveBoth, is_busy, cleaned, worked, most_turns, carried_both_ways, turned, talk, exchanged}

-- either of two tests
pub or_left : (a b : Bool) → a ≡ true → (a || b) ≡ true
or_left true b is = refl
or_left false b is = (let clash : false ≡ true = is in absurd (cc))

pub or_right : (a b : Bool) → b ≡ true → (a || b) ≡ true
or_right true b is = refl
or_right false b is = is

pub or_none : (a b : Bool) → a ≡ false → b ≡ false → (a || b) ≡ false
or_none true b is other = (let clash : true ≡ false = is in absurd (cc))
or_none false b is other = other

-- there was nothing left to do
pub worked_idle : (less most peer : ℕ) (owner : Owner) (past : Past) → most ≡ suc less → is_busy peer past ≡ false → Has owner (cleaned peer past) → Has owner (worked most peer past)
worked_idle less most peer owner past counted idle has = subst (λ (k : ℕ). Has owner (worked k peer past)) (sym counted) (subst (λ (b : Bool). Has owner (if b then worked less peer (cleaned peer past) else cleaned peer past)) (sym idle) has)

-- there was, and it went on
pub worked_on : (less most peer : ℕ) (owner : Owner) (past : Past) → most ≡ suc less → is_busy peer past ≡ true → Has owner (worked less peer (cleaned peer past)) → Has owner (worked most peer past)
worked_on less most peer owner past counted busy has = subst (λ (k : ℕ). Has owner (worked k peer past)) (sym counted) (subst (λ (b : Bool). Has owner (if b then worked less peer (cleaned peer past) else cleaned peer past)) (sym busy) has)

-- two spaces, the other one first
pub turn : (one other : Owner) (pair : Pair) → HaveBoth one other pair → HaveBoth other one (turned pair)
turn one other pair both = record { has_one = both.has_other; has_other = both.has_one }

-- neither had a frame for the other
pub exchange_ends : (less times : ℕ) (one other : Owner) (pair : Pair) → times ≡ suc less → talk most_turns pair ≡ false → HaveBoth one other (carried_both_ways most_turns pair) → HaveBoth one other (exchanged most_turns times pair)
exchange_ends less times one other pair counted silent both = subst (λ (k : ℕ). HaveBoth one other (exchanged most_turns k pair)) (sym counted) (subst (λ (b : Bool). HaveBoth one other (if b then exchanged most_turns less (carried_both_ways most_turns pair) else carried_both_ways most_turns pair)) (sym silent) both)

-- one had, and it went on
pub exchange_goes_on : (less times : ℕ) (one other : Owner) (pair : Pair) → times ≡ suc less → talk most_turns pair ≡ true → HaveBoth one other (exchanged most_turns less (carried_both_ways most_turns pair)) → HaveBoth one other (exchanged most_turns times pair)
exchange_goes_on less times one other pair counted talks both = subst (λ (k : ℕ). HaveBoth one other (exchanged most_turns k pair)) (sym counted) (subst (λ (b : Bool). HaveBoth one other (if b then exchanged most_turns less (carried_both_ways most_turns pair) else carried_both_ways most_turns pair)) (sym talks) both)
