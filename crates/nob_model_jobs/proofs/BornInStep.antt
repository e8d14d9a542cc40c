-- Lists after which a space is born, with births that differ in jobs alone, are in step.
use Rattle.std.proofs.Common.{◌≡◌, ℕ, ◌+◌, ◌-◌, ◌≤◌, ◌&&◌, ◌||◌, not, Bool, true, false, cond, List, [], ◌∷◌, refl, sym, ap, subst, ◌∙◌, arith}
use Rattle.std.specs.Prelude.{◌==◌, nat_le}
use Rattle.std.proofs.lemmas.Bool.{eqb-true, and_parts, false_from_ne_true, both_ways}
use Rattle.nob_ids.specs.Names.{is_counted}
use Rattle.nob_ids.specs.declared.limits.Limits.{Limits}
use Rattle.nob_ids.specs.declared.wire_rep.WireRep.{WireRep}
use Rattle.nob_model_types.specs.declared.entry.Entry.{Entry}
use Rattle.nob_model_types.specs.declared.deed.Deed.{Deed}
use Rattle.nob_model_types.specs.declared.deed.Deed.TheVariants as did
use Rattle.nob_model_types.specs.declared.turns.Turns.{Turns}
use Rattle.nob_model_types.specs.Deeds.{deeds}
use Rattle.nob_model_types.specs.Sessions.{is_peer, closed, item_at}
use Rattle.nob_model_types.specs.Objects.{exports, is_exported, is_withdrawn}
use Rattle.nob_model_history.specs.Histories.{history}
use Rattle.nob_model_history.specs.Holds.{times, gains, releases}
use Rattle.nob_model_history.specs.Transit.{is_settled, is_settle_of, by_last_dirty}
use Rattle.nob_model_history.specs.Listing.{is_entered}
use Rattle.nob_model_history.proofs.Living.{refs_up_to, exports_are}
use Rattle.nob_model.specs.Lists.{AreRightDeeds}
use Rattle.nob_model.proofs.Doing.{right_deeds}
use Rattle.nob_model.proofs.Orderly.{exported, withdrawn, released}
use Rattle.nob_model.proofs.Premises.{objects_in_turn}
use Rattle.nob_model_lives.specs.Births.{Birth, IsBorn}
use Rattle.nob_model_lives.proofs.Peers.{act_peer}
use Rattle.nob_model_jobs.specs.Alike.{with_more_jobs, AreAlikeButJobs}
use Rattle.nob_model_jobs.proofs.Born.{filter_none, born_shut, born_alike_law}
use Rattle.nob_model_jobs.proofs.InStep.{AreInStep, is_asked, all_asked, both_tests}

-- ---- Settles come from peers

settled_by : (s n p k q j : ℕ) (D : List Deed) → is_peer s n q ≡ true → (is_settled p k D ≡ true → is_peer s n p ≡ true) → (now : Bool) → (q == p && is_settle_of k (item_at q j D)) ≡ now → (now || is_settled p k D) ≡ true → is_peer s n p ≡ true
settled_by s n p k q j D peer before true is some = subst (λ (r : ℕ). is_peer s n r ≡ true) (eqb-true q p (and_parts (q == p) (is_settle_of k (item_at q j D)) is).0) peer
settled_by s n p k q j D peer before false is some = before some

kept_settled : (b before : Bool) → cond b false before ≡ true → before ≡ true
kept_settled true before settled = cc
kept_settled false before settled = settled

settled_peer : (s n : ℕ) (limits : Limits) (p k : ℕ) (D : List Deed) → AreRightDeeds s n limits D → is_settled p k D ≡ true → is_peer s n p ≡ true
settled_peer s n limits p k [] right settled = cc
settled_peer s n limits p k (did.Act q j ∷ D) right settled = settled_by s n p k q j D (act_peer s n limits q j D right.0) (settled_peer s n limits p k D right.1) (q == p && is_settle_of k (item_at q j D)) refl settled
settled_peer s n limits p k (did.Open q j ∷ D) right settled = settled_peer s n limits p k D right.1 (kept_settled (q == p) (is_settled p k D) settled)
settled_peer s n limits p k (deed ∷ D) right settled = settled_peer s n limits p k D right.1 settled

-- ---- one born list

module _ (s n : ℕ) (limits : Limits) (birth : Birth) (L : List Entry) (born : IsBorn s n limits birth L) where
  are_right : AreRightDeeds s n limits (deeds L)
  are_right = right_deeds s n limits L born.right

  born_exports : exports (deeds L) ≡ refs_up_to s birth.indexes
  born_exports = exports_are s (deeds L) (objects_in_turn s n limits (deeds L) are_right) ∙ ap (refs_up_to s) born.indexes

  born_withdrawn : (index : ℕ) → is_withdrawn index (deeds L) ≡ (nat_le 1 index && nat_le index birth.indexes)
  born_withdrawn index =
      both_tests (is_withdrawn index (deeds L)) (is_exported s index (deeds L)) (withdrawn s n limits (deeds L) are_right index)
      (λ given. gone_if (is_exported s index (deeds L)) (is_withdrawn index (deeds L)) given (born.none_live index))
      ∙ exported s n limits (deeds L) are_right index
      ∙ ap (λ (m : ℕ). nat_le 1 index && nat_le index m) born.indexes
    where
      gone_if : (given gone : Bool) → given ≡ true → (given && not gone) ≡ false → gone ≡ true
      gone_if given true is none = refl
      gone_if true false is none = cc
      gone_if false false is none = is

  born_even : (rep : WireRep) → is_counted rep ≡ true → times rep (gains (deeds L)) ≡ times rep (releases (deeds L))
  born_even rep counted = (let none = born.none_in_hand rep counted in let most = released s n limits (deeds L) are_right rep counted in even (times rep (gains (deeds L))) (times rep (releases (deeds L))) none most)
    where
      even : (gained gone : ℕ) → gained - gone ≡ 0 → gone ≤ gained → gained ≡ gone
      even gained gone none most = omega (arith, none, most)

  born_settled : (p item : ℕ) → is_settled p item (deeds L) ≡ false
  born_settled p item = false_from_ne_true (is_settled p item (deeds L)) (λ settled. both_ways (is_settled p item (deeds L)) ((born.sessions p (settled_peer s n limits p item (deeds L) are_right settled)).none_settled item) settled)

  born_entered : (index client : ℕ) → is_entered s index client (deeds L) ≡ false
  born_entered index client = open_entered (closed client (deeds L)) (is_entered s index client (deeds L)) (born_shut s n limits birth L born client (is_peer s n client) refl) (born.none_listed index client)
    where
      open_entered : (shut entered : Bool) → shut ≡ false → (not shut && entered) ≡ false → entered ≡ false
      open_entered true entered up none = cc
      open_entered false entered up none = none

  born_asked : all_asked s n (deeds L) ≡ []
  born_asked = filter_none (is_asked s n (deeds L)) (by_last_dirty (history s n L)) (λ rep. ap (λ (t : Turns). t.asks && not (closed rep.owner (deeds L))) (born.none_asked rep))

same_balance : (a b c d : ℕ) → a ≡ b → c ≡ d → a + d ≡ c + b
same_balance a b c d one two = omega (arith, one, two)

-- born lists are in step
pub born_in_step : (s n : ℕ) (limits : Limits) (more : ℕ) (birth : Birth) (L M : List Entry) → IsBorn s n limits birth L → IsBorn s n limits (with_more_jobs more birth) M → AreInStep s n more (deeds L) (deeds M)
born_in_step s n limits more birth L M one two =
    let other : Birth = with_more_jobs more birth in
    let alike : AreAlikeButJobs s n more (history s n L) (history s n M) = born_alike_law s n limits more birth L M one two in record {
      exported = born_exports s n limits birth L one ∙ sym (born_exports s n limits other M two);
      withdrawn = λ index. born_withdrawn s n limits birth L one index ∙ sym (born_withdrawn s n limits other M two index);
      balanced = λ rep counted. same_balance (times rep (gains (deeds L))) (times rep (releases (deeds L))) (times rep (gains (deeds M))) (times rep (releases (deeds M))) (born_even s n limits birth L one rep counted) (born_even s n limits other M two rep counted);
      bundled = alike.bundled;
      settled = λ p item. born_settled s n limits birth L one p item ∙ sym (born_settled s n limits other M two p item);
      entered = λ index client. born_entered s n limits birth L one index client ∙ sym (born_entered s n limits other M two index client);
      shut = alike.shut;
      numbered = alike.numbered;
      next = alike.next;
      ends = alike.ends;
      turned = alike.asked;
      asked = born_asked s n limits birth L one ∙ sym (born_asked s n limits other M two);
      outstanding = alike.outstanding;
      called = alike.called;
      claimed = alike.claimed;
    }
