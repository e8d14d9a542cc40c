-- Lists after which a space is born, with births that differ in jobs alone, are alike.
use Rattle.std.proofs.Common.{◌≡◌, ℕ, ◌+◌, ◌≤◌, ◌&&◌, ◌||◌, not, max, Bool, true, false, cond, List, [], ◌∷◌, ◌++◌, length, filter, find, Some, None, refl, sym, ap, subst, ◌∙◌, arith}
use Rattle.std.specs.Prelude.{◌==◌, nat_le}
use Rattle.std.specs.List.{list_any}
use Rattle.nob_ids.specs.Names.{is_counted}
use Rattle.nob_ids.specs.declared.limits.Limits.{Limits}
use Rattle.nob_ids.specs.declared.wire_rep.WireRep.{WireRep}
use Rattle.nob_model_session.specs.declared.entry.EndEntry.{EndEntry}
use Rattle.nob_model_session.specs.End as end
use Rattle.nob_model_types.specs.declared.entry.Entry.{Entry}
use Rattle.nob_model_types.specs.declared.turns.Turns.{Turns}
use Rattle.nob_model_types.specs.Deeds.{deeds}
use Rattle.nob_model_types.specs.Sessions.{is_peer, closed, number}
use Rattle.nob_model_types.specs.Objects.{exports}
use Rattle.nob_model_types.specs.Turns.{turns, is_standing, is_granted}
use Rattle.nob_model_work.specs.Work.{work}
use Rattle.nob_model_history.specs.Histories.{history}
use Rattle.nob_model_history.specs.Ends.{calls_at}
use Rattle.nob_model_history.specs.Holds.{is_held, gains, lent_in}
use Rattle.nob_model_history.specs.Transit.{surrogates, first_idle, is_idle, by_last_dirty, pins}
use Rattle.nob_model_history.specs.Anew.{IsNewEnd}
use Rattle.nob_model_history.proofs.Sessions.{number_is}
use Rattle.nob_model.specs.Opening.{is_owned_by, holds_any_of, next_number}
use Rattle.nob_model.specs.Lists.{AreRightDeeds}
use Rattle.nob_model.proofs.Doing.{right_deeds}
use Rattle.nob_model.proofs.Orderly.{exported, strangers}
use Rattle.nob_model_lives.specs.Births.{Birth, IsBorn}
use Rattle.nob_model_lives.proofs.Peers.{strangers_uncalled}
use Rattle.nob_model_lives.proofs.Still.{still_unheld, still_unlisted, gone_live}
use Rattle.nob_model_lives.proofs.Unused.{born_still}
use Rattle.nob_model_jobs.specs.Raised.{raised_work}
use Rattle.nob_model_jobs.specs.Alike.{AreEndsAlike, with_more_jobs, BornAlikeLaw}

-- ---- lists of which no element passes

any_none : {X : Type 0} (test : X → Bool) (xs : List X) → ((x : X) → test x ≡ false) → list_any test xs ≡ false
any_none test [] none = refl
any_none test (x ∷ xs) none = λ i. none x i || any_none test xs none i

pub filter_none : {X : Type 0} (test : X → Bool) (xs : List X) → ((x : X) → test x ≡ false) → filter test xs ≡ []
filter_none test [] none = refl
filter_none test (x ∷ xs) none = ap (λ (b : Bool). cond b (x ∷ filter test xs) (filter test xs)) (none x) ∙ filter_none test xs none

find_none : {X : Type 0} (test : X → Bool) (xs : List X) → ((x : X) → test x ≡ false) → find test xs ≡ None
find_none test [] none = refl
find_none test (x ∷ xs) none = ap (λ (b : Bool). cond b (Some x) (find test xs)) (none x) ∙ find_none test xs none

-- ---- ends

new_ends : (m : ℕ) (a b : List EndEntry) → IsNewEnd m a → IsNewEnd m b → AreEndsAlike a b
new_ends m a b x y = record {
  numbered = x.numbered ∙ sym y.numbered;
  endings = x.is_up ∙ sym y.is_up;
  sent = x.none_handed ∙ sym y.none_handed;
  lows = x.first_lowest ∙ sym y.first_lowest;
  highs = x.none_transmitted ∙ sym y.none_transmitted;
  counts = x.none_counted ∙ sym y.none_counted;
  came = λ j. x.no_payload j ∙ sym (y.no_payload j);
  kept = x.none_accepted ∙ sym y.none_accepted;
  taken = x.none_taken ∙ sym y.none_taken;
  due = x.none_arrived ∙ sym y.none_arrived;
  ticked = x.none_ticked ∙ sym y.none_ticked;
  owing = x.owes_none ∙ sym y.owes_none;
}

same_ends : (a b : List EndEntry) → a ≡ b → AreEndsAlike a b
same_ends a b same = record {
  numbered = ap end.number same;
  endings = ap end.ending same;
  sent = ap end.handed same;
  lows = ap end.lowest same;
  highs = ap end.transmitted same;
  counts = ap end.accepted_count same;
  came = λ j. ap (end.payload j) same;
  kept = ap end.accepted same;
  taken = ap end.takes same;
  due = ap end.data_arrived same;
  ticked = ap end.ticks same;
  owing = ap end.owes_close same;
}

-- ---- one born list

module _ (s n : ℕ) (limits : Limits) (birth : Birth) (L : List Entry) (born : IsBorn s n limits birth L) where
  are_right : AreRightDeeds s n limits (deeds L)
  are_right = right_deeds s n limits L born.right

  pub born_shut : (p : ℕ) (peer : Bool) → is_peer s n p ≡ peer → closed p (deeds L) ≡ false
  born_shut p true is = (born.sessions p is).is_open
  born_shut p false is = strangers s n limits (deeds L) are_right p is

  born_given : (p : ℕ) (peer : Bool) → is_peer s n p ≡ peer → number p (deeds L) ≡ cond peer (birth.session p) 1
  born_given p true is = (born.sessions p is).numbered
  born_given p false is = sym (number_is s n p (deeds L)) ∙ ap end.number (strangers_uncalled s n limits p (deeds L) are_right is)

  born_next : (p : ℕ) (peer : Bool) → is_peer s n p ≡ peer → next_number p (history s n L) ≡ cond peer (birth.session p + 1) 2
  born_next p true is = next_is (number p (deeds L)) (end.seen (calls_at p (history s n L))) (birth.session p) (born.sessions p is).numbered (born.none_higher p is)
    where
      next_is : (number heard m : ℕ) → number ≡ m → heard ≤ m → max (number + 1) heard ≡ m + 1
      next_is number heard m same low = omega (arith, same, low)
  born_next p false is = λ i. max (born_given p false is i + 1) (end.seen (strangers_uncalled s n limits p (deeds L) are_right is i))

  owned_none : (own counted held : Bool) → (counted ≡ true → held ≡ false) → ((own && counted) && held) ≡ false
  owned_none false counted held none = refl
  owned_none true false held none = refl
  owned_none true true held none = none refl

  born_unheld : (rep : WireRep) → is_counted rep ≡ true → is_held s rep (history s n L) ≡ false
  born_unheld rep counted = still_unheld s n limits (deeds L) (born_still s n limits birth L born) rep counted

  born_held_of : (p : ℕ) → holds_any_of s p (history s n L) ≡ false
  born_held_of p = any_none (λ rep. is_owned_by p rep && is_held s rep (history s n L)) (gains (deeds L) ++ lent_in s (work s n (deeds L))) (λ rep. owned_none (rep.owner == p) (is_counted rep) (is_held s rep (history s n L)) (born_unheld rep))

  born_surrogates : surrogates s n (history s n L) ≡ []
  born_surrogates = filter_none (λ rep. is_standing (turns s n rep (deeds L)) && not (closed rep.owner (deeds L))) (by_last_dirty (history s n L)) (λ rep. ap (λ (t : Turns). is_standing t && not (closed rep.owner (deeds L))) (born.none_asked rep))

  born_idle : first_idle s n (history s n L) ≡ None
  born_idle = find_none (is_idle s n (history s n L)) (by_last_dirty (history s n L)) (λ rep. ap (λ (t : Turns). ((is_granted t && not (closed rep.owner (deeds L))) && not (is_held s rep (history s n L))) && pins rep (history s n L) == 0) (born.none_asked rep))

-- ---- two

ends_by : (s n : ℕ) (limits : Limits) (birth other : Birth) (L M : List Entry) → IsBorn s n limits birth L → IsBorn s n limits other M → ((p : ℕ) → birth.session p ≡ other.session p) → (p : ℕ) (peer : Bool) → is_peer s n p ≡ peer → AreEndsAlike (calls_at p (history s n L)) (calls_at p (history s n M))
ends_by s n limits birth other L M one two same p true is =
    new_ends (birth.session p) (calls_at p (history s n L)) (calls_at p (history s n M)) (one.sessions p is).end_is_new (subst (λ (m : ℕ). IsNewEnd m (calls_at p (history s n M))) (sym (same p)) (two.sessions p is).end_is_new)
ends_by s n limits birth other L M one two same p false is =
    same_ends (calls_at p (history s n L)) (calls_at p (history s n M)) (strangers_uncalled s n limits p (deeds L) (right_deeds s n limits L one.right) is ∙ sym (strangers_uncalled s n limits p (deeds M) (right_deeds s n limits M two.right) is))

-- born lists are alike
pub born_alike_law : BornAlikeLaw
born_alike_law s n limits more birth L M one two =
    let other : Birth = with_more_jobs more birth in
    let given : length (exports (deeds L)) ≡ length (exports (deeds M)) = one.indexes ∙ sym two.indexes in record {
      given = given;
      live_count = ap length (gone_live s (deeds L) one.none_live) ∙ sym (ap length (gone_live s (deeds M) two.none_live));
      alive = λ index. one.none_live index ∙ sym (two.none_live index);
      exported = λ index. exported s n limits (deeds L) (right_deeds s n limits L one.right) index ∙ ap (λ (m : ℕ). nat_le 1 index && nat_le index m) given ∙ sym (exported s n limits (deeds M) (right_deeds s n limits M two.right) index);
      hands = λ rep counted. one.none_in_hand rep counted ∙ sym (two.none_in_hand rep counted);
      held = λ rep counted. born_unheld s n limits birth L one rep counted ∙ sym (born_unheld s n limits other M two rep counted);
      held_of = λ p. born_held_of s n limits birth L one p ∙ sym (born_held_of s n limits other M two p);
      bundled = one.none_pinned ∙ sym two.none_pinned;
      listed = λ index. still_unlisted s n limits (deeds L) (born_still s n limits birth L one) index ∙ sym (still_unlisted s n limits (deeds M) (born_still s n limits other M two) index);
      shut = λ p. born_shut s n limits birth L one p (is_peer s n p) refl ∙ sym (born_shut s n limits other M two p (is_peer s n p) refl);
      numbered = λ p. born_given s n limits birth L one p (is_peer s n p) refl ∙ sym (born_given s n limits other M two p (is_peer s n p) refl);
      next = λ p. born_next s n limits birth L one p (is_peer s n p) refl ∙ sym (born_next s n limits other M two p (is_peer s n p) refl);
      ends = λ p. ends_by s n limits birth other L M one two (λ q. refl) p (is_peer s n p) refl;
      asked = λ rep. one.none_asked rep ∙ sym (two.none_asked rep);
      standing = born_surrogates s n limits birth L one ∙ sym (born_surrogates s n limits other M two);
      idle = born_idle s n limits birth L one ∙ sym (born_idle s n limits other M two);
      outstanding = two.none_outstanding ∙ sym (ap (raised_work more) one.none_outstanding);
      called = one.calls ∙ sym two.calls;
      claimed = two.jobs ∙ ap (λ (m : ℕ). m + more) (sym one.jobs);
    }
