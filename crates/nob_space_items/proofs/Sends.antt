-- What one Dirty more makes of the ends and of the table.
use Rattle.std.proofs.Common.{◌≡◌, ℕ, ◌+◌, ◌-◌, ◌<◌, ◌≤◌, ◌^◌, true, false, not, ◌&&◌, ◌==◌, cond, is_none, List, [], ◌∷◌, length, map, filter, slice_get, get_or, remove, Some, Ok, refl, sym, ap, subst, ◌∙◌, arith}
use lib.ListN.{set}
use Rattle.std.specs.List.{AllByRecursion, IsDistinct}
use Rattle.std.proofs.lemmas.Bool.Decides.{Decides-eqb}
use Rattle.std.proofs.lemmas.Cmp.{nat_eq_equiv}
use Rattle.std.proofs.lemmas.List.{length-set}
use Rattle.std.proofs.lemmas.Option.{slice_get_read}
use Rattle.nob_ids.specs.Names.{is_same}
use Rattle.nob_ids.specs.declared.limits.Limits.{Limits}
use Rattle.nob_ids.specs.declared.wire_rep.WireRep.{WireRep}
use Rattle.nob_item.specs.declared.item.Item.{Item}
use Rattle.nob_item.specs.declared.item.Item.TheVariants as items
use Rattle.nob_model_session.specs.End.{handed}
use Rattle.nob_model_session.specs.declared.entry.EndEntry.{EndEntry}
use Rattle.nob_model_session.specs.declared.entry.EndEntry.TheVariants.{Send}
use Rattle.nob_model_session.specs.declared.entry.Kind.TheVariants.{Note}
use Rattle.nob_session.specs.Stands as session
use Rattle.nob_session.specs.Stands.{Roomy, End}
use Rattle.nob_session.specs.Onward.{AreAlike}
use Rattle.nob_session.proofs.Alike.{step_alike}
use Rattle.nob_table_rows.proofs.Flat.{get_set_other}
use Rattle.nob_table_rows.specs.Standings.{is_unknown, pending_standing}
use Rattle.nob_table_rows.specs.declared.standing.Standing.{Standing}
use Rattle.nob_table.specs.Table.{Table, SameObjects, Becomes, standing, surrogate_total, is_far}
use Rattle.nob_model_work.specs.declared.gifts.Gift.{Gift}
use Rattle.nob_model_work.specs.Gifts.{dirty_for}
use Rattle.nob_model_history.specs.Ends.{items_to, kind_of, payload_of, with_sends}
use Rattle.nob_space_state.proofs.Ends.{set_here}
use Rattle.nob_space_state.proofs.Rows.{differ}
use Rattle.nob_space_items.specs.Messages.{owner_count}
use Rattle.nob_space_items.specs.Asking.{CanAsk, CanSend, CanSendAll, SendsOne, SendsNext, SendsAll}

-- how many a space owns of one reference and others
owned_cons : (p : ℕ) (rep : WireRep) (reps : List WireRep) → owner_count p (rep ∷ reps) ≡ cond (rep.owner == p) 1 0 + owner_count p reps
owned_cons p rep reps = elim (rep.owner == p) as (λ b. length (cond b (rep ∷ filter (λ (one : WireRep). one.owner == p) reps) (filter (λ (one : WireRep). one.owner == p) reps)) ≡ cond b 1 0 + owner_count p reps) [ true ↦ omega arith | false ↦ omega arith ]

-- an end that can send so many can send fewer
fewer_can : (count more : ℕ) (end : Roomy) → count ≤ more → CanSend more end → CanSend count end
fewer_can count more end low can = let number = can.1 in let room = can.2 in (can.0, omega (arith, low, number), omega (arith, low, room))

-- the ends can send the first
pub first_can : (ends : List Roomy) (rep : WireRep) (reps : List WireRep) → CanSendAll ends (rep ∷ reps) → CanSendAll ends (rep ∷ [])
first_can ends rep reps can = record {
  owners = (can.owners.0, tt);
  each = λ place end there some.
      let one : owner_count (place + 1) (rep ∷ []) ≡ cond (rep.owner == place + 1) 1 0 + 0 = owned_cons (place + 1) rep [] in
      let all : owner_count (place + 1) (rep ∷ reps) ≡ cond (rep.owner == place + 1) 1 0 + owner_count (place + 1) reps = owned_cons (place + 1) rep reps in
      let low : owner_count (place + 1) (rep ∷ []) ≤ owner_count (place + 1) (rep ∷ reps) = omega (arith, one, all) in
      fewer_can (owner_count (place + 1) (rep ∷ [])) (owner_count (place + 1) (rep ∷ reps)) end low (can.each place end there (omega (arith, some, low)));
}

-- the end with the owner of one reference can send one
pub one_can : (ends : List Roomy) (rep : WireRep) (end : Roomy) → CanSendAll ends (rep ∷ []) → end ≡ get_or ends (rep.owner - 1) end → CanSend 1 end
one_can ends rep end can is =
    let low : 1 ≤ rep.owner = can.owners.0.0 in
    let high : rep.owner ≤ length ends = can.owners.0.1 in
    let there : slice_get ends (rep.owner - 1) ≡ Some end = slice_get_read ends (length ends) (rep.owner - 1) end refl (omega (arith, low, high)) is in
    let at : rep.owner - 1 + 1 ≡ rep.owner = omega (arith, low) in
    let one : owner_count (rep.owner - 1 + 1) (rep ∷ []) ≡ 1 = owned_cons (rep.owner - 1 + 1) rep [] ∙ ap (λ b. cond b 1 0 + 0) (ap (λ q. rep.owner == q) at ∙ nat_eq_equiv.refl rep.owner) in
    subst (λ k. CanSend k end) one (can.each (rep.owner - 1) end there (omega (arith, one)))

-- one end sends one Dirty
pub sends_next : (ends : List Roomy) (rep : WireRep) (old new : Roomy) → (1 ≤ rep.owner) × (rep.owner ≤ length ends) → old ≡ get_or ends (rep.owner - 1) old → SendsOne old new rep → SendsNext ends (set ends (rep.owner - 1) new) rep
sends_next ends rep old new within is one =
    let low : 1 ≤ rep.owner = within.0 in
    let high : rep.owner ≤ length ends = within.1 in
    record {
      each = length-set ends (rep.owner - 1) new;
      elsewhere = λ place other. get_set_other ends (rep.owner - 1) place new (λ same. differ ((Decides-eqb (place + 1) rep.owner).1 (omega (arith, same, low))) other);
      here = λ end there. (old, slice_get_read ends (length ends) (rep.owner - 1) old refl (omega (arith, low, high)) is, subst (λ (e : Roomy). SendsOne old e rep) (sym (set_here ends (rep.owner - 1) new end there)) one);
    }

-- once the first is sent, the ends can send the others
pub rest_can : (old new : List Roomy) (rep : WireRep) (reps : List WireRep) → CanSendAll old (rep ∷ reps) → SendsNext old new rep → CanSendAll new reps
rest_can old new rep reps can next = record {
  owners = subst (λ k. AllByRecursion (λ (one : WireRep). (1 ≤ one.owner) × (one.owner ≤ k)) reps) (sym next.each) can.owners.1;
  each = λ place end there some. elim (place + 1 == rep.owner) as (λ b. place + 1 == rep.owner ≡ b → CanSend (owner_count (place + 1) reps) end) [
    | true ↦ λ same.
        let at : place + 1 ≡ rep.owner = (Decides-eqb (place + 1) rep.owner).0 same in
        let here = next.here end (subst (λ k. slice_get new k ≡ Some end) (omega (arith, at)) there) in
        let all : owner_count (place + 1) (rep ∷ reps) ≡ 1 + owner_count (place + 1) reps = owned_cons (place + 1) rep reps ∙ ap (λ b. cond b 1 0 + owner_count (place + 1) reps) (nat_eq_equiv.symm rep.owner (place + 1) ∙ same) in
        let before : CanSend (owner_count (place + 1) (rep ∷ reps)) here.0 = can.each place here.0 (subst (λ k. slice_get old k ≡ Some here.0) (omega (arith, at)) here.1) (omega (arith, all)) in
        let count = here.2.handed in
        let room = here.2.room in
        let number = before.1 in
        let places = before.2 in
        (ap is_none here.2.ending ∙ before.0, omega (arith, count, number, all), omega (arith, room, places, all))
    | false ↦ λ other.
        let all : owner_count (place + 1) (rep ∷ reps) ≡ owner_count (place + 1) reps = (let parts : owner_count (place + 1) (rep ∷ reps) ≡ 0 + owner_count (place + 1) reps = owned_cons (place + 1) rep reps ∙ ap (λ b. cond b 1 0 + owner_count (place + 1) reps) (nat_eq_equiv.symm rep.owner (place + 1) ∙ other) in omega (arith, parts)) in
        subst (λ k. CanSend k end) all (can.each place end (sym (next.elsewhere place other) ∙ there) (omega (arith, all, some)))
  ] refl;
}

-- the first and then the others
pub sends_then : (old mid new : List Roomy) (rep : WireRep) (reps : List WireRep) → SendsNext old mid rep → SendsAll mid new reps → SendsAll old new (rep ∷ reps)
unfolding dirty_for
sends_then old mid new rep reps next all = record {
  each = all.each ∙ next.each;
  ends = λ place end there.
      let later = all.ends place end there in
      elim (place + 1 == rep.owner) as (λ b. place + 1 == rep.owner ≡ b → (before : Roomy) × (slice_get old place ≡ Some before) × ((me peer : ℕ) (limits : Limits) (L : List EndEntry) → session.Stands me peer limits before.end L → session.Stands me peer limits end.end (with_sends (items_to (place + 1) (map dirty_for (rep ∷ reps))) L))) [
        | true ↦ λ same.
            let at : place + 1 ≡ rep.owner = (Decides-eqb (place + 1) rep.owner).0 same in
            let here = next.here later.0 (subst (λ k. slice_get mid k ≡ Some later.0) (omega (arith, at)) later.1) in (
              here.0,
              subst (λ k. slice_get old k ≡ Some here.0) (omega (arith, at)) here.1,
              λ me peer limits L stands.
                  let count : here.0.end.handed ≡ length (handed L) = ap (λ (e : End). e.handed) stands in
                  let rest : List Gift = filter (λ (gift : Gift). gift.to == place + 1) (map dirty_for reps) in
                  subst (λ b. session.Stands me peer limits end.end (with_sends (map (λ (gift : Gift). gift.item) (cond b (dirty_for rep ∷ rest) rest)) L)) (sym (nat_eq_equiv.symm rep.owner (place + 1) ∙ same))
                  (later.2 me peer limits (Send (payload_of (items.Dirty rep.index)) Note (Ok (length (handed L) + 1)) ∷ L)
                  (subst (λ k. session.Stands me peer limits later.0.end (Send (payload_of (items.Dirty rep.index)) Note (Ok (k + 1)) ∷ L)) count (here.2.answer me peer limits L stands))),
            )
        | false ↦ λ other. (
          later.0,
          sym (next.elsewhere place other) ∙ later.1,
          λ me peer limits L stands.
              let rest : List Gift = filter (λ (gift : Gift). gift.to == place + 1) (map dirty_for reps) in
              subst (λ b. session.Stands me peer limits end.end (with_sends (map (λ (gift : Gift). gift.item) (cond b (dirty_for rep ∷ rest) rest)) L)) (sym (nat_eq_equiv.symm rep.owner (place + 1) ∙ other)) (later.2 me peer limits L stands),
        )
      ] refl;
}

-- lists of calls that are alike still are once these items are sent
pub sends_alike : (items : List Item) (L M : List EndEntry) → AreAlike L M → AreAlike (with_sends items L) (with_sends items M)
sends_alike [] L M alike = alike
sends_alike (item ∷ items) L M alike =
    sends_alike items (Send (payload_of item) (kind_of item) (Ok (length (handed L) + 1)) ∷ L) (Send (payload_of item) (kind_of item) (Ok (length (handed M) + 1)) ∷ M)
    (step_alike L M alike (Send (payload_of item) (kind_of item) (Ok (length (handed L) + 1))) refl)

-- where there are none, nothing is sent
pub sends_none : (ends : List Roomy) → SendsAll ends ends []
sends_none ends = record { each = refl; ends = λ place end there. (end, there, λ me peer limits L stands. stands) }

-- no references
pub no_refs : (reps : List WireRep) → length reps ≡ 0 → [] ≡ reps
no_refs [] none = refl
no_refs (rep ∷ reps) none = absurd (omega (arith, none))

-- the first of references, and the others
pub first_rest : (reps : List WireRep) (rep : WireRep) (rest : List WireRep) → 1 ≤ length reps → rep ≡ get_or reps 0 rep → rest ≡ remove reps 0 → reps ≡ rep ∷ rest
first_rest [] rep rest some is are = absurd (omega (arith, some))
first_rest (one ∷ others) rep rest some is are = λ i. sym is i ∷ sym are i

-- ---- the table

-- it can tell of the first
pub first_asks : (t : Table) (rep : WireRep) (reps : List WireRep) → CanAsk t (rep ∷ reps) → CanAsk t (rep ∷ [])
unfolding IsDistinct
first_asks t rep reps can =
    let few : surrogate_total t + length (rep ∷ reps) ≤ 65536 = can.few in
    let room : length (rep ∷ reps) ≤ t.surrogate_room = can.room in
    let low : t.dirties + length (rep ∷ reps) < 2 ^ 128 = can.low in
    record {
      each = (can.each.0, tt);
      apart = (tt, tt);
      few = omega (arith, few);
      room = omega (arith, room);
      low = omega (arith, low);
    }

-- once that is told, of the others
pub rest_asks : (t u : Table) (rep : WireRep) (reps : List WireRep) → CanAsk t (rep ∷ reps) → Becomes t u rep pending_standing → u.dirties ≡ t.dirties + 1 → surrogate_total u ≡ surrogate_total t + 1 → t.surrogate_room ≤ u.surrogate_room + 1 → SameObjects t u → CanAsk u reps
unfolding IsDistinct
rest_asks t u rep reps can becomes dirties total room same =
    let few : surrogate_total t + length (rep ∷ reps) ≤ 65536 = can.few in
    let places : length (rep ∷ reps) ≤ t.surrogate_room = can.room in
    let low : t.dirties + length (rep ∷ reps) < 2 ^ 128 = can.low in
    record {
      each = others reps can.apart.0 can.each.1;
      apart = can.apart.1;
      few = omega (arith, few, total);
      room = omega (arith, places, room);
      low = omega (arith, low, dirties);
    }
  where
    others : (rest : List WireRep) → AllByRecursion (λ other. is_same rep other ≡ false) rest → AllByRecursion (λ other. (is_far t other ≡ true) × (is_unknown (standing t other).state ≡ true)) rest
        → AllByRecursion (λ other. (is_far u other ≡ true) × (is_unknown (standing u other).state ≡ true)) rest
    others [] apart all = tt
    others (other ∷ rest) apart all =
        let is : standing u other ≡ standing t other = becomes other ∙ rw apart.0 refl in
        ((ap (λ me. not (other.owner == me) && not (other.index == 0)) same.me ∙ all.0.0, ap (λ (it : Standing). is_unknown it.state) is ∙ all.0.1), others rest apart.1 all.1)
