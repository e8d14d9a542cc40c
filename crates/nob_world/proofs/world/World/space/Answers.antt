use Rattle.std.proofs.Common.{◌≡◌, ◌+◌, ◌-◌, ◌≤◌, ◌<◌, List, length, get_or, false, ltb, reverse, ap, subst, ◌∙◌, arith}
use Rattle.std.proofs.lemmas.Bool.Decides.{nat_tests}
use Rattle.nob_space.specs.Spaces.{Owner}
use Rattle.nob_world.specs.Worlds.{World, IsSpaceOf, journal}
use Rattle.nob_world.proofs.Worlds.{read_there}
use Rattle.nob_world.proofs.world.World.space.Goals as goal

pub returns : goal.returns
returns c =
    let found = (c.in-Some.ensures {u = tt}).lookup in
    let low : 1 ≤ c.args.id = omega (arith, c.place.ensures.next) in
    let high : c.args.id ≤ length c.self.inside.spaces.items =
    let inside : c.place.result < length c.self.inside.spaces.items = subst (λ (spaces : List Owner). c.place.result < length spaces) c.deref.ensures.value found.3.0 in
    let number = c.place.ensures.next in
    omega (arith, inside, number) in
    let is = subst (λ (spaces : List Owner). c.in-Some.space.now ≡ get_or spaces c.place.result c.in-Some.space.now) c.deref.ensures.value found.1 in
    let there = read_there c.self.inside.spaces.items c.args.id c.place.result c.in-Some.space.now c.place.ensures.value low high is in
    let number : c.args.id - 1 + 1 ≡ c.args.id = omega (arith, low) in
    subst (λ (w : World). IsSpaceOf w.n w.limits (journal w) c.args.id c.in-Some.space.now) c.self.view_is
    (subst (λ q. IsSpaceOf c.self.inside.n c.self.inside.limits (reverse c.self.inside.entries.items) q c.in-Some.space.now) number (c.self.invariant.spaces.stand (c.args.id - 1) c.in-Some.space.now there))

pub returns-in_default : goal.returns-in_default
returns-in_default c =
    let past : false ≡ ltb c.place.result (length c.deref.result.now) = (c.in_default.ensures {u = tt}).lookup.0 in
    let all : length c.deref.result.now ≡ c.args.self.now.n = ap (λ (spaces : List Owner). length spaces) c.deref.ensures.value ∙ c.self.invariant.spaces.each ∙ ap (λ (w : World). w.n) c.self.view_is in
    let beyond : length c.deref.result.now ≤ c.place.result = grind (arith, nat_tests, past) in
    let number = c.place.ensures.next in
    omega (arith, all, beyond, number)
