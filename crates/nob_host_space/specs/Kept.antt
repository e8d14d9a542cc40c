-- What a handle owns: nothing, and its pointer is null, or the box of the value that it keeps.
use Rattle.std.specs.Prelude.{◌≡◌}
use mir.Syntax.{Ty}
use base.Fml.{Fml, ftrue, fex}
use denote.RattleType.{RattleType}
use denote.RawPtr.{Ptr, null_ptr}
use Rattle.std.specs.declared.option.Option.{Option}
use Rattle.std.specs.declared.option.Option.TheVariants.{None, Some}
use Rattle.std.specs.Box.Ownership.{box_owns}

-- the box at a pointer, where there is a value; else the pointer is null
abbrev pub kept : (Ty → Ptr → Fml) → (R : RattleType) → Ptr → Option R.Denot → Fml
kept holds R p None = fex (p ≡ null_ptr) (λ _. ftrue)
kept holds R p (Some x) = box_owns holds R p x

-- a handle keeps something of which this is true
abbrev pub HasSome : {X : Type 0} → Option X → (X → Type 0) → Type 0
HasSome None P = ⊥
HasSome (Some x) P = P x

-- what a handle kept and what it keeps now stand so to one another
abbrev pub Through : {X : Type 0} → (old new : Option X) → (X → X → Type 0) → Type 0
Through {X = X} old new R = (x : X) → old ≡ Some x → HasSome new (R x)
