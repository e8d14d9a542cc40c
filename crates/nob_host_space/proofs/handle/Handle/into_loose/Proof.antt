-- A handle whose pointer is null keeps nothing, and another one has the pointer of its box.
use Rattle.nob_host_space.proofs.Steps.{◌≡◌, List, [], ◌∷◌, ◌++◌, refl, sym, subst, Val, vptr, vcons, vnil, SProp, ent, emp, id⊢, ftrue, WpFn, ‵, raw, ◌⊛◌, at_ret, ◌$◌, ◌∵◌, !, qed, by, move, keep, split, fsplit, fjoin, suffices, use0, use1, stop, fld, lit, of_opd, no_more, and_then, first, exec, returns, enter, alloc_all, pass_all, free_all, look_at, get, get_in, sets, env, agg, sub, whole, fact, fact_i, tables, yes, RattleType, owns, types_at, type_at, plain, block_ptr, null_ptr, ptr_val, nothing, layout, Stays, stay_dropped, walk_of, Goes-dropped, after, Good, and_tt, Ptr-Good, proved_at, leaves}
use Rattle.std.proofs.Common.{lit<}
use types.Run.{bin, branches}
use types.ByLocal.{sets_last}
use types.Match.{live}
use denote.RawPtr.{tests_null}
use Rattle.std.proofs.option.Made.{Some-of, none_of}
use Rattle.std.specs.declared.option.Option.TheVariants.{None, Some}
use Rattle.std.proofs.alloc.Global.TheLaws as heap_laws
use Rattle.std.specs.contracts.impls.GlobalAllocator.TheImpl.{ghosts}
use Rattle.nob_host_space.specs.contracts.host.Host.{the_row as host}
use Rattle.nob_host_space.proofs.Values.{both, both_fit, Heap, Handle, Loose, fits, loose_in, handle_out}
use Rattle.nob_host_space.specs.contracts.handle.Handle.into_loose as f
use Rattle.nob_host_space.proofs.handle.Handle.into_loose.Statement.{statement}
use Rattle.nob_host_space.proofs.handle.Handle.into_loose.Code as code

pub into_loose_spec : {M : Type 1} → statement M
into_loose_spec 𝓤 𝓛 𝓜 𝓡 wired =
    let 𝓣 = tables 𝓤 𝓛.H 𝓜 𝓡 𝓡.env in let fn = code.function in let c = f.clauses 𝓛 𝓜.mem 𝓡.returns in
    let LH = heap_laws.the_row_laws in let L : RattleType = Loose host Heap LH ghosts in
    let stayed : Stays f.ended.signature.params f.ended.kept = (stay_dropped (plain (λ _. Handle)) yes, tt) in
    proved_at 𝓛 f.ended stayed c 𝓜 𝓡 (Goes-dropped 𝓛 0 (plain (λ _. Handle)) yes (λ κs x w. refl), tt) f.Key.name fn (code.unfolded 𝓤 𝓛.H 𝓜 𝓡 wired) (λ z are.
    let κs = z.0.0 in let v = z.0.3.0 in let a = v.alloc in let Post : Val → SProp 𝓤 = (walk_of 𝓛 f.ended stayed c).post z in let Run : List Val → SProp 𝓤 = λ ws. WpFn 𝓤 𝓛.H 𝓣.C 𝓣.Λ fn ws Post in
    let Out : RattleType = type_at f.ended.signature.result κs in
    qed 𝓛 ((‵ ftrue ⊛ ‵ (owns (types_at f.ended.signature.params κs) z.0.3 z.0.4)) ∷ raw ((c κs z.0.3).requires z.1) ∷ []) ∵
    split ! $ move ! (1 ∷ []) $ fsplit ! $ handle_out ! v z.0.4.0
    (λ h gone ws good.
    let w : Val = both (ptr_val null_ptr) h in let v₀ : Val = live 0 vnil in
    suffices ! (Run (w ∷ [])) (subst (λ (us : List Val). ent 𝓤 (Run (w ∷ [])) (Run us)) (sym (λ i. ws i ++ [])) (id⊢ 𝓤 (Run (w ∷ [])))) $
    enter ! 𝓣.C 𝓣.Λ fn (w ∷ []) Post $ alloc_all ! (λ l. pass_all ! refl (both_fit null_ptr h good, tt) $ let Ev = env fn.locals l in
    sets ! (of_opd ! (get_in ! (fld ! refl (stop !)) (sub ! 0 refl (whole !)))) refl (Ptr-Good null_ptr) $
    sets ! (of_opd ! (get_in ! (fld ! refl (stop !)) (sub ! 1 refl (whole !)))) refl good $
    sets ! (bin ! (get ! refl) (lit ! tt) tt) refl (tt, tt) $ first ! $ branches ! (get ! refl)
    (λ _. sets_last ! (agg ! (and_then ! (lit ! tt) (no_more !))) refl (tt, (record { fits = lit< tt }, tt)) $ exec ! 𝓣.C 𝓣.Λ Ev (after 4 fn.body) (at_ret Ev Post) $ sets ! (of_opd ! (get ! refl)) refl (tt, (record { fits = lit< tt }, tt)) $
    use0 𝓛 (‵ (Out.own_val None (v₀ ∷ []))) (none_of 𝓛 L) $
    use0 𝓛 (raw (fact 𝓤 (v.held ≡ None))) (fact_i 𝓤 (v.held ≡ None) (emp 𝓤) gone) $ nothing ! $ nothing ! $ fjoin ! $
    returns ! (look_at ! 0 refl) $ free_all ! refl $ keep ! (5 ∷ 0 ∷ 2 ∷ 1 ∷ []) $ by ! (leaves 𝓛 f.ended stayed c z v₀ None (_, tt) (tt, tt))) (λ wrong. absurd wrong)))
    (λ b o h x keeps may ws good.
    let w : Val = both (vptr b o) h in let typed = fits host Heap LH ghosts b o h good in let made : L.Denot = record { at = block_ptr b o; alloc = a; value = x } in
    let v₁ : Val = live 1 (vcons w vnil) in let good₁ : Good (layout Out) v₁ = (and_tt _ typed.0, (record { fits = lit< tt }, (typed.1, tt))) in
    suffices ! (Run (w ∷ [])) (subst (λ (us : List Val). ent 𝓤 (Run (w ∷ [])) (Run us)) (sym (λ i. ws i ++ [])) (id⊢ 𝓤 (Run (w ∷ [])))) $
    enter ! 𝓣.C 𝓣.Λ fn (w ∷ []) Post $ alloc_all ! (λ l. pass_all ! refl (both_fit (block_ptr b o) h good, tt) $ let Ev = env fn.locals l in
    sets ! (of_opd ! (get_in ! (fld ! refl (stop !)) (sub ! 0 refl (whole !)))) refl (tt, tt) $
    sets ! (of_opd ! (get_in ! (fld ! refl (stop !)) (sub ! 1 refl (whole !)))) refl good $
    sets ! (bin ! (get ! refl) (lit ! tt) (tests_null (block_ptr b o) may)) refl (tt, tt) $ first ! $ branches ! (get ! refl) (λ wrong. absurd wrong) (λ _.
    sets ! (of_opd ! (get ! refl)) refl (tt, tt) $
    sets ! (agg ! (and_then ! (get ! refl) (and_then ! (get ! refl) (no_more !)))) refl typed $ sets_last ! (agg ! (and_then ! (lit ! tt) (and_then ! (get ! refl) (no_more !)))) refl good₁ $
    exec ! 𝓣.C 𝓣.Λ Ev (after 4 fn.body) (at_ret Ev Post) $ sets ! (of_opd ! (get ! refl)) refl good₁ $ loose_in host Heap LH ghosts ! b o h a x $
    use1 𝓛 (‵ (Out.own_val (Some made) (v₁ ∷ []))) (Some-of 𝓛 L made w) $
    use0 𝓛 (raw (fact 𝓤 (v.held ≡ Some x))) (fact_i 𝓤 (v.held ≡ Some x) (emp 𝓤) keeps) $ nothing ! $ nothing ! $ fjoin ! $
    returns ! (look_at ! 0 refl) $ free_all ! refl $ keep ! (4 ∷ 0 ∷ 2 ∷ 1 ∷ []) $ by ! (leaves 𝓛 f.ended stayed c z v₁ (Some made) (_, tt) (tt, tt))))))
