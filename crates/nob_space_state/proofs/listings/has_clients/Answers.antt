use Rattle.std.proofs.Common.{◌≡◌, ◌↔◌, Bool, true, false, not, refl}
use Rattle.nob_dirty.proofs.Membership.{empty_there}
use Rattle.nob_space_state.proofs.listings.has_clients.Goals as goal

-- two tests of one fact
same_test : {P : Type 0} (a b : Bool) → ((a ≡ true) ↔ P) → ((not b ≡ true) ↔ P) → not a ≡ b
same_test true true one other = let bad : false ≡ true = other.1 (one.0 refl) in absurd (cc)
same_test true false one other = refl
same_test false true one other = refl
same_test false false one other = let bad : false ≡ true = one.1 (other.0 refl) in absurd (cc)

pub returns : goal.returns
returns c = same_test _ _ c.is_empty.ensures (empty_there c.args.index c.args.dirty.now)
