use Rattle.std.proofs.Common.{◌≡◌, ℕ, [], sym, subst}
use Rattle.std.specs.List.{AllByRecursion}
use Rattle.nob_frame.specs.declared.version.Version.TheVariants.{Two}
use Rattle.nob_frame.specs.Spelling.{Fits}
use Rattle.nob_session.specs.Stands.{Stands}
use Rattle.nob_demo_scripts.proofs.pair.Pair.open.Goals as goal

pub invariant_of-result : goal.invariant_of-result
invariant_of-result c =
    let one : c.in-Some-Some.one ≡ 1 = c.in-Some-Some.ensures.value in
    let two : c.in-Some-Some.two ≡ 2 = c.in-Some-Some.ensures'.value in
    record {
      first = (c.args.limits, [], subst (λ (n : ℕ). Stands n 2 c.args.limits c.in_ok-open.field-0.end []) one (subst (λ (n : ℕ). Stands c.in-Some-Some.one n c.args.limits c.in_ok-open.field-0.end []) two c.in_ok-open.ensures));
      second = (c.args.limits, [], subst (λ (n : ℕ). Stands n 1 c.args.limits c.in_ok-open-2.field-0.end []) two (subst (λ (n : ℕ). Stands c.in-Some-Some.two n c.args.limits c.in_ok-open-2.field-0.end []) one c.in_ok-open-2.ensures));
      frames = subst (AllByRecursion (Fits Two)) (sym c.new-3.ensures) tt;
    }
