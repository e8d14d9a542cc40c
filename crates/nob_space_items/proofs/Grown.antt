-- Room that is made at one end after the other.
use Rattle.std.proofs.Common.{◌≡◌, ℕ, ◌-◌, ◌<◌, ◌≤◌, true, false, ◌==◌, List, ◌∷◌, length, slice_get, get_or, Some, Result, Ok, Err, is_err, OnOk, refl, sym, ap, subst, ◌∙◌, arith}
use lib.ListN.{set}
use Rattle.std.proofs.lemmas.Bool.Decides.{Decides-eqb}
use Rattle.std.proofs.lemmas.List.{length-set}
use Rattle.std.proofs.lemmas.Option.{slice_get_read}
use Rattle.nob_ids.specs.declared.wire_rep.WireRep.{WireRep}
use Rattle.nob_session.specs.Stands.{Roomy}
use Rattle.nob_table_rows.proofs.Flat.{get_set_other}
use Rattle.nob_space_state.proofs.Ends.{set_here}
use Rattle.nob_space_state.proofs.Rows.{differ}
use Rattle.nob_space_items.specs.Growing.{SameEnds, HasRoom, HaveRoom}

-- one end has more room
pub one_grown : (ends : List Roomy) (at : ℕ) (old new : Roomy) → at < length ends → old ≡ get_or ends at old → new.end ≡ old.end → old.room ≤ new.room → SameEnds ends (set ends at new)
one_grown ends at old new within is same room = record {
  each = length-set ends at new;
  ends = λ place end there. elim (place == at) as (λ b. place == at ≡ b → (before : Roomy) × (slice_get ends place ≡ Some before) × (end.end ≡ before.end) × (before.room ≤ end.room)) [
    | true ↦ λ here.
        let place_is : place ≡ at = (Decides-eqb place at).0 here in
        let end_is : end ≡ new = set_here ends at new end (subst (λ k. slice_get (set ends at new) k ≡ Some end) place_is there) in (
          old,
          subst (λ k. slice_get ends k ≡ Some old) (sym place_is) (slice_get_read ends (length ends) at old refl within is),
          ap (λ (e : Roomy). e.end) end_is ∙ same,
          subst (λ (e : Roomy). old.room ≤ e.room) (sym end_is) room,
        )
    | false ↦ λ other. (end, sym (get_set_other ends at place new (λ e. differ ((Decides-eqb place at).1 e) other)) ∙ there, refl, omega arith)
  ] refl;
}

-- twice
pub same_then : (old mid new : List Roomy) → SameEnds old mid → SameEnds mid new → SameEnds old new
same_then old mid new one two = record {
  each = two.each ∙ one.each;
  ends = λ place end there.
      let later = two.ends place end there in
      let first = one.ends place later.0 later.1 in
      let low = later.3 in
      let lower = first.3 in
      (first.0, first.1, later.2 ∙ first.2, omega (arith, low, lower));
}

-- nothing
pub same_none : (ends : List Roomy) → SameEnds ends ends
same_none ends = record { each = refl; ends = λ place end there. (end, there, refl, omega arith) }

-- what has room keeps it
room_kept : (count : ℕ) (old new : List Roomy) (rep : WireRep) → SameEnds old new → HasRoom count old rep → HasRoom count new rep
room_kept count old new rep same room = λ end there.
    let before = same.ends (rep.owner - 1) end there in
    let low : count ≤ before.0.room = room before.0 before.1 in
    let more = before.3 in
    omega (arith, low, more)

-- the end with the first reference's owner has room, and then the others
pub room_first : (count : ℕ) (ends final : List Roomy) (rep : WireRep) (reps : List WireRep) (new : Roomy) → count ≤ new.room → SameEnds (set ends (rep.owner - 1) new) final → HaveRoom count final reps → HaveRoom count final (rep ∷ reps)
room_first count ends final rep reps new room same have = (room_kept count (set ends (rep.owner - 1) new) final rep same (λ end there. subst (λ (e : Roomy). count ≤ e.room) (sym (set_here ends (rep.owner - 1) new end there)) room), have)

-- what follows where a call succeeds
pub on_ok : {T E P Q : Type 0} (result : Result T E) → OnOk result P → (P → Q) → OnOk result Q
on_ok (Ok x) holds follows = follows holds
on_ok (Err e) holds follows = tt

-- and what holds then where it didn't fail
pub ok_holds : {T E P : Type 0} (result : Result T E) → is_err result ≡ false → OnOk result P → P
ok_holds (Ok x) good holds = holds
ok_holds (Err e) good holds = (let clash : true ≡ false = good in absurd (cc))
