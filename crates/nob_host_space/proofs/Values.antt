-- What a `Loose` and a `Handle` are at the machine: a pointer beside its allocator's handle.
use Rattle.nob_host_space.proofs.Steps.{◌≡◌, ℕ, List, [], ◌∷◌, ◌++◌, refl, subst, Val, vptr, vstruct, vcons, vnil, of_list, has_ty, never, fst∗, Logic, sem, Item, Goal, Seq, Step, step, ‵, ◌$◌, move, drop, fsplit, fjoin, fpick, fpack, feq_i, feq_l, RawPtr, RattleType, Valss, Ptr-Good, Ptr, block_ptr, null_ptr, ptr_val, in_a_block, nothing, layout, Laws, within, shape, Al, handle_tells, Good, and_tt, box_owns}
use mathlib.Core.Bool.{true, ◌&&◌}
use lib.Dec.{T}
use seplogic.Ra.Ura.{Ura}
use mir.Syntax.{impl, tnil, dnil}
use mir.Raw.{raw as bare}
use mir.Val.{WT}
use denote.Memory.{lone}
use denote.RawPtr.{Testable, lies_at}
use base.Fraction.{full_share}
use base.Logic.{SProp, ent, guard, via, snd∗, guard_i}
use contract.Monad.{fact_use}
use types.Kit.{given, learn, use1}
use Rattle.std.proofs.GlobalToken.{dealloc_token-Testable}
use Rattle.std.specs.declared.alloc.Allocator.{Ghosts}
use Rattle.std.specs.declared.option.Option.{Option}
use Rattle.std.specs.declared.option.Option.TheVariants.{None, Some}
use Rattle.std.specs.declared.alloc.Global.{Global}
use Rattle.std.specs.contracts.alloc.Global as heap
use Rattle.std.proofs.alloc.Global.TheLaws as heap_laws
use Rattle.std.specs.contracts.impls.GlobalAllocator.TheImpl.{ghosts}
use Rattle.nob_host_space.specs.contracts.host.Host.{the_row as host}
use Rattle.nob_host_space.specs.Kept.{kept}
use Rattle.nob_host_space.specs.contracts.loose.Loose as loose
use Rattle.nob_host_space.specs.contracts.handle.Handle as handle

-- two fields, one beside the other
abbrev pub both : Val → Val → Val
both v w = vstruct (vcons v (vcons w vnil))

module _ (R Z : RattleType) (L : Laws Z) (g : Ghosts Z.Denot) where
  abbrev pub Loose : RattleType
  Loose = loose.the_row R Z g

  abbrev al : Al
  al = record { row = Z; laws = L; g = g; d = impl [] tnil dnil; drops = impl [] tnil dnil }

  pub fits : (b o : ℕ) (h : Val) → Good (layout Z) h → T (has_ty (layout Z) h && true) × WT (both (vptr b o) h)
  fits b o h good = (and_tt (has_ty (layout Z) h) good.0, (tt, (good.1, tt)))

  module _ {M : Type 1} {𝓤 : Ura M} {𝓛 : Logic 𝓤} {K : Type 0} {Γ : List (Item 𝓤)} {G : Goal 𝓤 𝓛.H} where
    -- it is taken apart: its pointer is in a block, and the box there is owned beside the handle
    pub loose_out : K → (d : Loose.Denot) (vs : List Val)
        → ((b o : ℕ) (h : Val) → d.at ≡ block_ptr b o → vs ≡ both (vptr b o) h ∷ [] → Good (layout Z) h
        → Seq K 𝓛 (‵ (box_owns (g.dealloc_token d.alloc) R (block_ptr b o) d.value) ∷ ‵ (Z.own_val d.alloc (h ∷ [])) ∷ Γ) G)
        → Seq K 𝓛 (‵ (Loose.own_val d vs) ∷ Γ) G
    loose_out t d vs goes = fsplit t $ fpick t (λ parts. fsplit t $ feq_l t (λ at_all. fsplit t $ feq_l t (λ at_ptr.
        fsplit t $ handle_tells al t d.alloc parts.1.0 (λ h at_handle good. move t (1 ∷ []) $ drop t $ move t (1 ∷ []) $
        in_a_block t d.at (λ p. box_owns (g.dealloc_token d.alloc) R p d.value) (fst∗ 𝓤 (never 𝓤) (sem 𝓛 (g.dealloc_token d.alloc (bare (lone R.mir)) null_ptr))) (λ b o in_block.
        let with_ptr : vs ≡ vstruct (of_list (ptr_val d.at ∷ (parts.1.0 ++ []))) ∷ [] = subst (λ (ps : List Val). vs ≡ vstruct (of_list (ps ++ (parts.1.0 ++ []))) ∷ []) at_ptr at_all in
        let with_handle : vs ≡ both (ptr_val d.at) h ∷ [] = subst (λ (ws : List Val). vs ≡ vstruct (of_list (ptr_val d.at ∷ (ws ++ []))) ∷ []) at_handle with_ptr in
        goes b o h in_block (subst (λ (p : Ptr). vs ≡ both (ptr_val p) h ∷ []) in_block with_handle) good)))))

    -- and put together
    pub loose_in : K → (b o : ℕ) (h : Val) (a : Z.Denot) (x : R.Denot)
        → Step K 𝓛 (‵ (Loose.own_val (record { at = block_ptr b o; alloc = a; value = x }) (both (vptr b o) h ∷ [])) ∷ Γ) G
        (‵ (box_owns (g.dealloc_token a) R (block_ptr b o) x) ∷ ‵ (Z.own_val a (h ∷ [])) ∷ Γ) G
    loose_in t b o h a x = step (λ s. let v : Val = both (vptr b o) h in
        nothing t $ move t (2 ∷ 0 ∷ []) $ fjoin t $ feq_i t (List Val) (vptr b o ∷ []) (vptr b o ∷ []) refl $ fjoin t $ feq_i t (List Val) (v ∷ []) (v ∷ []) refl $ fjoin t $
        fpack t (Valss (RawPtr ∷ Z ∷ [])) (within (shape (loose.the_type R Z g)) (block_ptr b o, (a, tt)) (v ∷ [])) (vptr b o ∷ [], (h ∷ [], tt)) $ fjoin t $ s)

abbrev pub Heap : RattleType
Heap = heap.the_row

abbrev pub Handle : RattleType
Handle = handle.the_row

abbrev heap_al : Al
heap_al = record { row = Heap; laws = heap_laws.the_row_laws; g = ghosts; d = impl [] tnil dnil; drops = impl [] tnil dnil }

-- a pointer and a handle fit a `Handle`
pub both_fit : (p : Ptr) (h : Val) → Good (layout Heap) h → T (has_ty (layout Handle) (both (ptr_val p) h)) × WT (both (ptr_val p) h)
both_fit (block_ptr b o) h good = (and_tt (has_ty (layout Heap) h) good.0, (tt, (good.1, tt)))
both_fit null_ptr h good = (and_tt (has_ty (layout Heap) h) good.0, ((Ptr-Good null_ptr).1, (good.1, tt)))

module _ {M : Type 1} {𝓤 : Ura M} (𝓛 : Logic 𝓤) where
  -- the pointer of a box may be compared with null
  tested : (a : Global) (p : Ptr) (x : host.Denot) → ent 𝓤 (sem 𝓛 (box_owns (ghosts.dealloc_token a) host p x)) (guard 𝓤 (Testable p) (sem 𝓛 (box_owns (ghosts.dealloc_token a) host p x)))
  tested a p x =
      let B : SProp 𝓤 = sem 𝓛 (box_owns (ghosts.dealloc_token a) host p x) in
      fact_use 𝓤 (Testable p) (via 𝓤 _ (snd∗ 𝓤 (sem 𝓛 (lies_at host full_share p x)) (sem 𝓛 (ghosts.dealloc_token a (bare (lone host.mir)) p))) (dealloc_token-Testable 𝓛 a (bare (lone host.mir)) p)) (guard_i 𝓤 (Testable p) B)

module _ {M : Type 1} {𝓤 : Ura M} {𝓛 : Logic 𝓤} {K : Type 0} {Γ : List (Item 𝓤)} {G : Goal 𝓤 𝓛.H} where
  pub heap_tells : K → (a : Global) (vs : List Val) → ((h : Val) → vs ≡ h ∷ [] → Good (layout Heap) h → Seq K 𝓛 (‵ (Heap.own_val a (h ∷ [])) ∷ Γ) G) → Seq K 𝓛 (‵ (Heap.own_val a vs) ∷ Γ) G
  heap_tells t a vs goes = handle_tells heap_al t a vs goes

  -- what is kept: nothing, at null, or a box in a block, whose pointer may be compared with null
  either_out : K → (a : Global) (p : Ptr) (k : Option host.Denot) → (k ≡ None → p ≡ null_ptr → Seq K 𝓛 Γ G)
      → ((b o : ℕ) (x : host.Denot) → k ≡ Some x → p ≡ block_ptr b o → Testable (block_ptr b o) → Seq K 𝓛 (‵ (box_owns (ghosts.dealloc_token a) host (block_ptr b o) x) ∷ Γ) G)
      → Seq K 𝓛 (‵ (kept (ghosts.dealloc_token a) host p k) ∷ Γ) G
  either_out t a p None none one = fpick t (λ at_null. drop t $ none refl at_null)
  either_out t a p (Some x) none one =
      use1 𝓛 (given (Testable p) (‵ (box_owns (ghosts.dealloc_token a) host p x))) (tested 𝓛 a p x) $ learn t (λ may.
      in_a_block t p (λ q. box_owns (ghosts.dealloc_token a) host q x) (fst∗ 𝓤 (never 𝓤) (sem 𝓛 (ghosts.dealloc_token a (bare (lone host.mir)) null_ptr))) (λ b o in_block. one b o x refl in_block (subst Testable in_block may)))

module _ {M : Type 1} {𝓤 : Ura M} {𝓛 : Logic 𝓤} {K : Type 0} {Γ : List (Item 𝓤)} {G : Goal 𝓤 𝓛.H} where
  -- a handle is put together
  pub handle_in : K → (p : Ptr) (h : Val) (a : Global) (k : Option host.Denot)
      → Step K 𝓛 (‵ (Handle.own_val (record { at = p; alloc = a; held = k }) (both (ptr_val p) h ∷ [])) ∷ Γ) G
      (‵ (kept (ghosts.dealloc_token a) host p k) ∷ ‵ (Heap.own_val a (h ∷ [])) ∷ Γ) G
  handle_in t p h a k = step (λ s. let v : Val = both (ptr_val p) h in
      nothing t $ move t (2 ∷ 0 ∷ []) $ fjoin t $ feq_i t (List Val) (ptr_val p ∷ []) (ptr_val p ∷ []) refl $ fjoin t $ feq_i t (List Val) (v ∷ []) (v ∷ []) refl $ fjoin t $
      fpack t (Valss (RawPtr ∷ Heap ∷ [])) (within (shape handle.the_type) (p, (heap.the_field.into a, tt)) (v ∷ [])) (ptr_val p ∷ [], (h ∷ [], tt)) $ fjoin t $ s)

  -- and taken apart, whether it keeps something or not
  pub handle_out : K → (d : Handle.Denot) (vs : List Val)
      → ((h : Val) → d.held ≡ None → vs ≡ both (ptr_val null_ptr) h ∷ [] → Good (layout Heap) h → Seq K 𝓛 (‵ (Heap.own_val d.alloc (h ∷ [])) ∷ Γ) G)
      → ((b o : ℕ) (h : Val) (x : host.Denot) → d.held ≡ Some x → Testable (block_ptr b o) → vs ≡ both (vptr b o) h ∷ [] → Good (layout Heap) h
      → Seq K 𝓛 (‵ (box_owns (ghosts.dealloc_token d.alloc) host (block_ptr b o) x) ∷ ‵ (Heap.own_val d.alloc (h ∷ [])) ∷ Γ) G)
      → Seq K 𝓛 (‵ (Handle.own_val d vs) ∷ Γ) G
  handle_out t d vs none one = fsplit t $ fpick t (λ parts. fsplit t $ feq_l t (λ at_all. fsplit t $ feq_l t (λ at_ptr.
      fsplit t $ heap_tells t d.alloc parts.1.0 (λ h at_handle good. move t (1 ∷ []) $ drop t $ move t (1 ∷ []) $
      let with_ptr : vs ≡ vstruct (of_list (ptr_val d.at ∷ (parts.1.0 ++ []))) ∷ [] = subst (λ (ps : List Val). vs ≡ vstruct (of_list (ps ++ (parts.1.0 ++ []))) ∷ []) at_ptr at_all in
      let with_handle : vs ≡ both (ptr_val d.at) h ∷ [] = subst (λ (ws : List Val). vs ≡ vstruct (of_list (ptr_val d.at ∷ (ws ++ []))) ∷ []) at_handle with_ptr in
      either_out t d.alloc d.at d.held
      (λ gone at_null. none h gone (subst (λ (p : Ptr). vs ≡ both (ptr_val p) h ∷ []) at_null with_handle) good)
      (λ b o x keeps in_block may. one b o h x keeps may (subst (λ (p : Ptr). vs ≡ both (ptr_val p) h ∷ []) in_block with_handle) good)))))
