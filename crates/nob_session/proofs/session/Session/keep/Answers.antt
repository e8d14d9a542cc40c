use Rattle.std.proofs.Common.{◌≡◌, ◌≢◌, ℕ, ◌+◌, ◌-◌, length, true, Some, None, arith, refl, ap, sym, ◌∙◌, subst}
use Rattle.std.specs.List.{slice_get}
use Rattle.nob_model_session.specs.End.{is_in_reach}
use Rattle.nob_session.specs.Keeping.{AreLow, put_at}
use Rattle.nob_session.specs.Sound.{as_seen}
use Rattle.nob_session.specs.Stands.{Roomy}
use Rattle.nob_session.specs.Calls.{keeping}
use Rattle.nob_session.proofs.Kept.{keeping_none}
use Rattle.nob_session.proofs.Low.{low_put, put_length, reach_low}
use Rattle.nob_session.proofs.session.Session.keep.Goals as goal

pub returns-then-not-is_empty_at-clause-kept : goal.returns-then-not-is_empty_at-clause-kept
returns-then-not-is_empty_at-clause-kept c =
    let s = c.self.inside in
    let at : c.args.frame.now.seq - s.accepted - 1 ≡ c.args.frame.now.seq - (s.accepted + 1) = omega arith in
    subst (λ (r : Roomy). r.end ≡ keeping r.end c.args.frame.now) c.self.view_is
    (keeping_none (as_seen s).end c.args.frame.now (subst (λ (n : ℕ). slice_get s.early n ≢ Some None) at (c.if-not-is_empty_at.ensures.no refl)))

pub invariant_of-self-2 : goal.invariant_of-self-2
invariant_of-self-2 c =
    let s = c.self.inside in
    let sound = c.self.invariant in
    let put = c.put.ensures in
    let reach : is_in_reach s.accepted c.args.frame.now.seq ≡ true = subst (λ (r : Roomy). is_in_reach r.end.accepted c.args.frame.now.seq ≡ true) (sym c.self.view_is) (sym c.is_in_reach.ensures ∙ c.if-not-is_in_reach.false) in
    let low = reach_low s.accepted c.args.frame.now.seq reach in
    record {
      number_positive = sound.number_positive;
      number_limit = sound.number_limit;
      unacknowledged_open = sound.unacknowledged_open;
      unacknowledged_closed = sound.unacknowledged_closed;
      sizes = sound.sizes;
      waiting_open = sound.waiting_open;
      waiting_closed = sound.waiting_closed;
      places = sound.places;
      early_open = λ open_end. ap length put ∙ put_length _ _ s.early ∙ sound.early_open open_end;
      early_closed = λ closed_end. put ∙ ap (put_at (c.args.frame.now.seq - s.accepted - 1) c.in_ok-copy.field-0) (sound.early_closed closed_end);
      early_low = subst (AreLow (s.accepted + 1)) (sym put) (low_put (s.accepted + 1) (c.args.frame.now.seq - s.accepted - 1) c.in_ok-copy.field-0 s.early (omega (arith, low)) sound.early_low);
      owes_nothing = sound.owes_nothing;
      lowest_positive = sound.lowest_positive;
      lowest_out = sound.lowest_out;
      transmitted_handed = sound.transmitted_handed;
      handed_limit = sound.handed_limit;
      taken_accepted = sound.taken_accepted;
      inbox = sound.inbox;
      accepted_limit = sound.accepted_limit;
      few_ticks = sound.few_ticks;
    }
