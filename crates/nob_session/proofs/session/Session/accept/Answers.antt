use Rattle.std.proofs.Common.{◌≡◌, ℕ, ◌+◌, ◌-◌, length, take, true, is_none, None, rules, arith, ap, sym, ◌∙◌, subst}
use Rattle.std.proofs.lemmas.List.{length-append}
use Rattle.nob_model_session.specs.End.{filled}
use Rattle.nob_model_session.proofs.Arriving.{row_length, row_most}
use Rattle.nob_model_session.specs.Right.{in_a_row}
use Rattle.std.proofs.lemmas.Bool.{false≢true}
use Rattle.nob_session.specs.Keeping.{AreLow, moved_up}
use Rattle.nob_session.specs.Stands.{Roomy}
use Rattle.nob_session.proofs.Low.{low_moved, moved_length, row_low, row_taken}
use Rattle.nob_session.proofs.session.Session.accept.Goals as goal

pub invariant_of-self : goal.invariant_of-self
invariant_of-self c =
    let s = c.self.inside in
    let sound = c.self.invariant in
    let did = c.accept-count.ensures in
    let opened : is_none s.ending ≡ true = ap is_none (subst (λ (r : Roomy). r.end.ending ≡ None) (sym c.self.view_is) c.requires) in
    let count : c.accept-count.result ≡ in_a_row (256 - c.len-room.result) s.early = did.count in
    let long : c.len-room.result ≡ length s.waiting.items = search rules in
    let most = row_most (256 - c.len-room.result) s.early in
    let few = row_length (256 - c.len-room.result) s.early in
    let places = sound.early_open opened in
    let row : length (filled (take c.accept-count.result s.early)) ≡ c.accept-count.result = subst (λ (n : ℕ). length (filled (take n s.early)) ≡ n) (sym count) (row_taken (256 - c.len-room.result) s.early) in
    let waited = sound.waiting_open opened in
    let low = row_low (s.accepted + 1) (256 - c.len-room.result) s.early (omega (arith, sound.accepted_limit)) sound.early_low in
    record {
      number_positive = sound.number_positive;
      number_limit = sound.number_limit;
      unacknowledged_open = sound.unacknowledged_open;
      unacknowledged_closed = sound.unacknowledged_closed;
      sizes = sound.sizes;
      waiting_open = λ open_end. omega (arith, ap length did.waiting, length-append s.waiting.items (filled (take c.accept-count.result s.early)), row, waited);
      waiting_closed = λ closed_end. absurd (false≢true (sym closed_end ∙ opened));
      places = did.capacity ∙ sound.places;
      early_open = λ open_end. ap length did.moved ∙ moved_length c.accept-count.result s.early (omega (arith, count, few)) ∙ places;
      early_closed = λ closed_end. absurd (false≢true (sym closed_end ∙ opened));
      early_low = subst (AreLow (s.accepted + c.accept-count.result + 1)) (sym did.moved) (subst (λ (n : ℕ). AreLow n (moved_up c.accept-count.result s.early)) (omega arith) (low_moved (s.accepted + 1) c.accept-count.result s.early sound.early_low));
      owes_nothing = sound.owes_nothing;
      lowest_positive = sound.lowest_positive;
      lowest_out = sound.lowest_out;
      transmitted_handed = sound.transmitted_handed;
      handed_limit = sound.handed_limit;
      taken_accepted = omega (arith, sound.taken_accepted);
      inbox = omega (arith, count, most, waited, long);
      accepted_limit = omega (arith, count, low);
      few_ticks = sound.few_ticks;
    }
