-- Places of waiting calls that are marked.
use Rattle.std.proofs.Common.{◌≡◌, ℕ, ◌<◌, Bool, true, List, [], ◌∷◌, ◌++◌, length, replicate, Some, slice_get, refl, arith}
use Prim.Native.Nat.{zero, suc}
use lib.ListN.{set}
use Rattle.std.proofs.lemmas.Nat.{mod_below}
use Rattle.nob_keeper.specs.Desks.{AreMarked, place_of}

-- where all places are marked those of calls are
marked_at : (count at : ℕ) → at < count → slice_get (replicate count true) at ≡ Some true
marked_at zero at low = absurd (omega (arith, low))
marked_at (suc count) zero low = refl
marked_at (suc count) (suc at) low = marked_at count at (omega (arith, low))

pub all_marked : (ready : ℕ → Bool) (calls : List ℕ) → AreMarked ready (replicate 32 true) calls
all_marked ready [] = tt
all_marked ready (call ∷ calls) = (λ is. marked_at 32 (place_of call) (mod_below call 32 (omega (arith))), all_marked ready calls)

-- a mark stays when another is set
still_marked : (places : List Bool) (at other : ℕ) → slice_get places other ≡ Some true → slice_get (set places at true) other ≡ Some true
still_marked [] at other marked = marked
still_marked (place ∷ places) zero zero marked = refl
still_marked (place ∷ places) zero (suc other) marked = marked
still_marked (place ∷ places) (suc at) zero marked = marked
still_marked (place ∷ places) (suc at) (suc other) marked = still_marked places at other marked

-- a mark is there where it is set
marked_here : (places : List Bool) (at : ℕ) → at < length places → slice_get (set places at true) at ≡ Some true
marked_here [] at low = absurd (omega (arith, low))
marked_here (place ∷ places) zero low = refl
marked_here (place ∷ places) (suc at) low = marked_here places at (omega (arith, low))

-- the marks of calls stay when one is set
pub marks_stay : (ready : ℕ → Bool) (places : List Bool) (at : ℕ) (calls : List ℕ) → AreMarked ready places calls → AreMarked ready (set places at true) calls
marks_stay ready places at [] are = tt
marks_stay ready places at (call ∷ calls) are = (λ is. still_marked places at (place_of call) (are.0 is), marks_stay ready places at calls are.1)

-- one call more
pub marks_push : (ready : ℕ → Bool) (places : List Bool) (calls : List ℕ) (call : ℕ) → AreMarked ready places calls → (ready call ≡ true → slice_get places (place_of call) ≡ Some true) → AreMarked ready places (calls ++ call ∷ [])
marks_push ready places [] call are one = (one, tt)
marks_push ready places (first ∷ calls) call are one = (are.0, marks_push ready places calls call are.1 one)

-- one call more, whose place is marked now
pub marks_more : (ready : ℕ → Bool) (places : List Bool) (calls : List ℕ) (call : ℕ) → place_of call < length places → AreMarked ready places calls → AreMarked ready (set places (place_of call) true) (calls ++ call ∷ [])
marks_more ready places calls call low are = marks_push ready (set places (place_of call) true) calls call (marks_stay ready places (place_of call) calls are) (λ is. marked_here places (place_of call) low)
