-- How the nodes run that are to be run, where there is one more, or one has other links.
use Rattle.std.proofs.Common.{◌≡◌, ℕ, ◌+◌, zero, suc, List, [], ◌∷◌, ◌++◌, length, get_or, refl, sym, ap, ◌∙◌, subst, arith}
use Rattle.std.specs.Prelude.{slice_set}
use Rattle.nob_node.specs.Config.{Config}
use Rattle.nob_nodes.specs.declared.launch.Launch.{Launch}
use Rattle.nob_nodes.specs.declared.layout.Layout.{Layout}
use Rattle.nob_nodes.specs.Layouts.{IsLaidOut, AreLaidOut, configs_of}

-- one node more, of the next space
laid_out_more : (layout : Layout) (first count number : ℕ) (launches : List Launch) (launch : Launch) → AreLaidOut layout first count (configs_of launches) → number ≡ first + length launches → IsLaidOut layout number count launch.config → AreLaidOut layout first count (configs_of (launches ++ launch ∷ []))
laid_out_more layout first count number [] launch all is one = (subst (λ (n : ℕ). IsLaidOut layout n count launch.config) (omega (arith, is)) one, tt)
laid_out_more layout first count number (l ∷ ls) launch all is one = (all.0, laid_out_more layout (first + 1) count number ls launch all.1 (omega (arith, is)) one)

-- the same, of a list that is one longer
pub laid_out_next : (layout : Layout) (first count number : ℕ) (launches new : List Launch) (launch : Launch) → AreLaidOut layout first count (configs_of launches) → number ≡ first + length launches → IsLaidOut layout number count launch.config → new ≡ launches ++ launch ∷ [] → AreLaidOut layout first count (configs_of new)
laid_out_next layout first count number launches new launch all is one more = subst (λ (ls : List Launch). AreLaidOut layout first count (configs_of ls)) (sym more) (laid_out_more layout first count number launches launch all is one)

-- one node has other links, and runs as it did
pub same_configs : (launches : List Launch) (at : ℕ) (new old : Launch) → new.config ≡ (get_or launches at old).config → configs_of (slice_set launches at new) ≡ configs_of launches
same_configs [] at new old same = refl
same_configs (l ∷ ls) zero new old same = ap (λ (c : Config). c ∷ configs_of ls) same
same_configs (l ∷ ls) (suc at) new old same = ap (λ (cs : List Config). l.config ∷ cs) (same_configs ls at new old same)
