-- Each step keeps the rule of a link.
use Rattle.std.proofs.Common.{◌≡◌, ◌≢◌, ℕ, ◌<◌, ◌≤◌, zero, suc, true, false, true≢false, List, [], ◌∷◌, ◌++◌, length, set, sym, refl, ap, ◌∙◌, subst, ⊎_elim, append_assoc, length-append, arith}
use mathlib.Core.Option.{some, some-ne-none}
use lib.ListN.{get_elem?}
use Rattle.crossbeam_channel.specs.Fifo.{Pushes, Pops, Forks, Merges, Learns}
use Rattle.atomic_table.proofs.Lists.{at_set, at_snoc}
use Rattle.nob_link.specs.declared.parcel.Parcel.{Parcel}
use Rattle.nob_link.specs.declared.rule.Known.{Known}
use Rattle.nob_link.specs.Rule.{known, after_put, after_take, Knows, IsInOrder}

-- what is found only in the longer list stands at its end
at_end : (l : List Known) (a b : Known) (j : ℕ) → get_elem? l j ≢ some b → get_elem? (l ++ a ∷ []) j ≡ some b → j ≡ length l
at_end [] a b zero n e = refl
at_end [] a b (suc j) n e = absurd (some-ne-none b (sym e))
at_end (x ∷ xs) a b zero n e = absurd (n e)
at_end (x ∷ xs) a b (suc j) n e = ap suc (at_end xs a b j n e)

-- each pass has its fact
abbrev Each : (ℕ → Known → Type 0) → List Known → Type 0
Each F views = (pass : ℕ) (v : Known) → get_elem? views pass ≡ some v → F pass v

-- a fact of each pass after the view of one has changed
each_set : (F : ℕ → Known → Type 0) (views : List Known) (pass : ℕ) (w : Known) → F pass w
    → ((j : ℕ) (u : Known) → j ≢ pass → get_elem? views j ≡ some u → F j u) → Each F (set views pass w)
each_set F views pass w mine others j u e =
    ⊎_elim (λ (x : (j ≡ pass) × (w ≡ u)). subst (λ (y : ℕ × Known). F y.0 y.1) (λ i. (sym x.0 i, x.1 i)) mine)
    (λ (x : (j ≢ pass) × (get_elem? views j ≡ some u)). others j u x.0 x.1) (at_set views pass j w u e)

-- a new link is in order
pub begins : IsInOrder [] (known true true [] [] ∷ [])
begins = record {
  putter = 0;
  taker = 0;
  put = [];
  taken = [];
  order = refl;
  few = omega arith;
  passes = each_set (Knows 0 0 [] []) (known true true [] [] ∷ []) 0 (known true true [] []) ((λ _. (refl, refl)), λ _. (refl, refl))
      (λ j u other e. absurd (other (at_end [] _ u j (λ x. some-ne-none u (sym x)) e)));
}

-- a put keeps the rule where the link holds fewer than 1,024 parcels
pub puts : (n pass : ℕ) (v : Known) (parcel : Parcel) → n ≤ 1024 → v.puts ≡ true → Pushes IsInOrder n pass v parcel (λ w. w ≡ after_put v parcel)
puts n pass v parcel most may queued views room h at =
    let w : Known = after_put v parcel in let mine = h.passes pass v at in let put : List Parcel = h.put ++ parcel ∷ [] in (
      w,
      record {
        putter = h.putter;
        taker = h.taker;
        put = put;
        taken = h.taken;
        order = ap (λ l. l ++ parcel ∷ []) h.order ∙ append_assoc h.taken queued (parcel ∷ []);
        few = omega (arith, length-append queued (parcel ∷ []));
        passes = each_set (Knows h.putter h.taker put h.taken) views pass w
            ((λ _. ((mine.0 may).0, ap (λ l. l ++ parcel ∷ []) (mine.0 may).1)), mine.1)
            (λ j u other e. ((λ p. absurd (other (((h.passes j u e).0 p).0 ∙ sym (mine.0 may).0))), (h.passes j u e).1));
      },
      refl,
    )

-- a take keeps the rule
pub takes : (pass : ℕ) (v : Known) → v.takes ≡ true → Pops IsInOrder pass v (λ parcel w. w ≡ after_take v parcel)
takes pass v may parcel queued views h at =
    let w : Known = after_take v parcel in let mine = h.passes pass v at in let taken : List Parcel = h.taken ++ parcel ∷ [] in (
      w,
      record {
        putter = h.putter;
        taker = h.taker;
        put = h.put;
        taken = taken;
        order = h.order ∙ sym (append_assoc h.taken (parcel ∷ []) queued);
        few = let most : suc (length queued) ≤ 1024 = h.few in omega arith;
        passes = each_set (Knows h.putter h.taker h.put taken) views pass w
            (mine.0, λ _. ((mine.1 may).0, ap (λ l. l ++ parcel ∷ []) (mine.1 may).1))
            (λ j u other e. ((h.passes j u e).0, λ p. absurd (other (((h.passes j u e).1 p).0 ∙ sym (mine.1 may).0))));
      },
      refl,
    )

-- a pass that has put knows at least as many parcels as the link holds
pub holds_no_more : (pass : ℕ) (v : Known) → v.puts ≡ true → Learns IsInOrder pass v (λ queued. length queued ≤ length v.put)
holds_no_more pass v may queued views h at =
    let mine = h.passes pass v at in omega (arith, ap length (mine.0 may).1, ap length h.order, length-append h.taken queued)

-- the pass of both ends knows what the link holds
pub knows_rest : (pass : ℕ) (v : Known) → v.puts ≡ true → v.takes ≡ true → Learns IsInOrder pass v (λ queued. (v.put ≡ v.taken ++ queued) × (length queued ≤ 1024))
knows_rest pass v may_put may_take queued views h at =
    let mine = h.passes pass v at in ((mine.0 may_put).1 ∙ h.order ∙ ap (λ l. l ++ queued) (sym (mine.1 may_take).1), h.few)

-- a take by the pass of both ends: less was taken than was put
pub takes_rest : (pass : ℕ) (v : Known) → v.puts ≡ true → v.takes ≡ true
    → Pops IsInOrder pass v (λ parcel w. (w ≡ after_take v parcel) × (length v.taken < length v.put))
takes_rest pass v may_put may_take parcel queued views h at =
    let step = takes pass v may_take parcel queued views h at in let rest = knows_rest pass v may_put may_take (parcel ∷ queued) views h at in
    (step.0, step.1, (step.2, omega (arith, ap length rest.0, length-append v.taken (parcel ∷ queued))))

-- the first pass may be cut into a putter's and a taker's
pub forks : (pass : ℕ) (v : Known) → v.puts ≡ true → v.takes ≡ true → Forks IsInOrder pass v (known true false v.put []) (known false true [] v.taken)
forks pass v may_put may_take queued views h at =
    let l : Known = known true false v.put [] in let r : Known = known false true [] v.taken in let mine = h.passes pass v at in let vs : List Known = set views pass l in
    let Old : ℕ → Known → Type 0 = λ j u. (u.puts ≡ true → (j ≡ h.putter) × (u.put ≡ h.put)) × (u.takes ≢ true) in
    let old : Each Old vs = each_set Old views pass l ((λ _. mine.0 may_put), λ p. true≢false (sym p))
    (λ j u other e. ((h.passes j u e).0, λ p. other (((h.passes j u e).1 p).0 ∙ sym (mine.1 may_take).0))) in
    record {
      putter = h.putter;
      taker = length vs;
      put = h.put;
      taken = h.taken;
      order = h.order;
      few = h.few;
      passes = λ j u e. ⊎_elim (λ x. ((old j u x).0, λ p. absurd ((old j u x).1 p)))
          (λ (is : r ≡ u). (
            (λ p. absurd (true≢false (sym (ap (λ (y : Known). y.puts) is ∙ p)))),
            λ p. (at_end vs r u j (λ x. (old j u x).1 p) e, ap (λ (y : Known). y.taken) (sym is) ∙ (mine.1 may_take).1),
          )) (at_snoc vs r u j e);
    }

-- a putter's pass may be put together with a taker's
pub merges : (pass : ℕ) (v : Known) (other : ℕ) (u : Known) → v.puts ≡ true → u.takes ≡ true
    → Merges IsInOrder pass v other u (known true true v.put u.taken) (known false false [] [])
merges pass v other u may_put may_take queued views h at two at' =
    let both : Known = known true true v.put u.taken in let mine = h.passes pass v at in let vs : List Known = set views pass both in
    let was : get_elem? views other ≡ some u = ⊎_elim (λ x. absurd (two x.0)) (λ x. x.1) (at_set views pass other both u at') in
    let theirs = (h.passes other u was).1 may_take in
    let Now : ℕ → Known → Type 0 = λ j y. j ≢ other → Knows h.putter pass h.put h.taken j y in
    let now : Each Now vs = each_set Now views pass both (λ _. ((λ _. mine.0 may_put), λ _. (refl, theirs.1)))
    (λ j y _ e apart. ((h.passes j y e).0, λ p. absurd (apart (((h.passes j y e).1 p).0 ∙ sym theirs.0)))) in
    record {
      putter = h.putter;
      taker = pass;
      put = h.put;
      taken = h.taken;
      order = h.order;
      few = h.few;
      passes = each_set (Knows h.putter pass h.put h.taken) vs other (known false false [] [])
          ((λ p. absurd (true≢false (sym p))), λ p. absurd (true≢false (sym p))) (λ j y apart e. now j y e apart);
    }
