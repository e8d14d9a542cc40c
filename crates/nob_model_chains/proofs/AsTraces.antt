-- Chains as the traces that they are.
use Rattle.std.proofs.Common.{◌≡◌, ℕ, ◌<◌, Bool, ◌&&◌, nat_le, List, [], ◌∷◌, length, map, ap, ◌∙◌, arith}
use Prim.Native.Nat.{zero, suc}
use Rattle.std.specs.List.{AllByRecursion, Contains, list_all}
use Rattle.std.proofs.lemmas.List.{length-map}
use Rattle.std.proofs.lemmas.List.Folds.{list_all-map}
use Rattle.nob_trace.specs.declared.trace.Trace.{Trace}
use Rattle.nob_model_traces.specs.Apart.{are_apart}
use Rattle.nob_model_traces.specs.Traces.{is_one_of, are_one_each}
use Rattle.nob_model_traces.proofs.Transmitting.{contains_here, contains_there}
use Rattle.nob_chain.specs.declared.chain.ChainParts.{ChainParts}
use Rattle.nob_chain.specs.Chains.{joined}

-- what holds of each trace that a chain is
pub all_joined : (P : ChainParts → Type 0) (Q : Trace → Type 0) (cs : List ChainParts) → ((c : ChainParts) → P c → Q (joined c)) → AllByRecursion P cs → AllByRecursion Q (map joined cs)
all_joined P Q [] to all = tt
all_joined P Q (c ∷ cs) to all = (to c all.0, all_joined P Q cs to all.1)

pub contains_joined : (cs : List ChainParts) (c : ChainParts) → Contains cs c → Contains (map joined cs) (joined c)
contains_joined [] c (k, less, is) = absurd (omega (arith, less))
contains_joined (d ∷ cs) c (zero, less, is) = contains_here (joined c) (joined d) (map joined cs) (ap joined is)
contains_joined (d ∷ cs) c (suc k, less, is) = contains_there (joined c) (joined d) (map joined cs) (contains_joined cs c (k, omega (arith, less), is))

-- whether there is one of each space, by the chains
pub ones_are : (cs : List ChainParts) → are_one_each (map joined cs) ≡ (nat_le 1 (length cs) && list_all (λ c. is_one_of (length cs) (joined c)) cs && are_apart (map joined cs))
ones_are cs =
    ap (λ (n : ℕ). nat_le 1 n && list_all (is_one_of n) (map joined cs) && are_apart (map joined cs)) (length-map cs joined)
    ∙ ap (λ (b : Bool). nat_le 1 (length cs) && b && are_apart (map joined cs)) (list_all-map (is_one_of (length cs)) joined cs)
