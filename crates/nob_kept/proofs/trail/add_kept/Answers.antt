use Rattle.std.proofs.Common.{◌≡◌, ◌-◌, ◌+◌, ◌==◌, ℕ, true, false, List, [], ◌∷◌, ◌++◌, length, sym, ap, subst, ◌∙◌}
use Rattle.nob_space.specs.Spaces.{StandsFor}
use Rattle.nob_trace.specs.declared.stamped.Stamped.{Stamped}
use Rattle.nob_trace.specs.Stamps.{Rise, last_stamp}
use Rattle.nob_trace.proofs.Rising.{last_push}
use Rattle.nob_model_traces.specs.Traces.{journal_at}
use Rattle.nob_chain.specs.declared.segment.Segment.{Segment}
use Rattle.nob_kept.specs.Accounts.{StandsRight}
use Rattle.nob_kept.specs.Segments as segments
use Rattle.nob_kept.proofs.Segments.{rise_behind}
use Rattle.nob_kept.proofs.Trails.{all_kept, bytes_all, fills_all, none_due, one_due, kept_more, kept_filled}
use Rattle.nob_kept.proofs.trail.add_kept.Goals as goal

pub returns-in_default-clause-trail : goal.returns-in_default-clause-trail
returns-in_default-clause-trail c =
    let space = c.args.space.now in
    let trail = c.args.trail.now in
    let next = c.requires.next in
    let items = c.push_reserved.ensures.items in
    let not : (length trail.entries.items - trail.entries.gone + 1 == trail.size) ≡ false = fills_all trail.keep (length trail.entries.items - trail.entries.gone + 1 == trail.size) false c.requires.all (none_due trail (segments.fills trail) c.args.room c.in_default.is c.requires.room.1.1) in
    record {
      n = next.0;
      size = next.1.0;
      stands = subst (StandsRight space) (sym items) next.1.1.0;
      last = c.requires.last ∙ sym (ap (last_stamp 0) items ∙ last_push 0 trail.entries.items c.args.entry);
      bytes = bytes_all trail.keep space.id space.n trail.size c.push_reserved.new.self trail.sealed.items c.requires.all
          (kept_more space.id space.n trail.size trail.entries c.push_reserved.new.self trail.sealed.items c.args.entry
          (all_kept trail.keep space.id space.n trail.size trail.entries trail.sealed.items c.requires.all next.1.1.1) items c.push_reserved.ensures.gone not);
    }

pub segment_of-segment-requires-clause-rise : goal.segment_of-segment-requires-clause-rise
segment_of-segment-requires-clause-rise c =
    let out = c.hand_out-filled.ensures.out in
    let right = subst (StandsRight c.args.space.now) (sym c.hand_out-filled.ensures.items) c.requires.next.1.1.0 in
    rise_behind 0 out.0 c.hand_out-filled.result.items (subst (Rise 0) out.1 right.is_account.rise)

pub returns-clause-trail : goal.returns-clause-trail
returns-clause-trail c =
    let space = c.args.space.now in
    let trail = c.args.trail.now in
    let next = c.requires.next in
    let items = c.hand_out-filled.ensures.items in
    let new = c.hand_out-filled.new.self in
    let filled : List Stamped = c.hand_out-filled.result.items in
    let out = c.hand_out-filled.ensures.out in
    let L = journal_at space.id new.items in
    let right : StandsRight space new.items = subst (StandsRight space) (sym items) next.1.1.0 in
    let last : trail.last ≡ last_stamp 0 new.items = c.requires.last ∙ sym (ap (last_stamp 0) items ∙ last_push 0 trail.entries.items c.args.entry) in
    let fills : (length trail.entries.items - trail.entries.gone + 1 == trail.size) ≡ true = fills_all trail.keep (length trail.entries.items - trail.entries.gone + 1 == trail.size) true c.requires.all (one_due trail (segments.fills trail) c.args.room c.in-Some.places c.in-Some.is c.requires.room.1.1) in
    let segment : c.segment_of-segment.result ≡ segments.sealed_by space.id space.n (last_stamp 0 new.items) L filled = c.segment_of-segment.ensures L right.stands ∙ ap (λ (stamp : ℕ). segments.sealed_by space.id space.n stamp L filled) last in
    let sealed = c.push_reserved-2.ensures.items ∙ ap (λ (one : Segment). trail.sealed.items ++ one ∷ []) segment in
    record {
      n = next.0;
      size = next.1.0;
      stands = right;
      last = last;
      bytes = bytes_all trail.keep space.id space.n trail.size new c.push_reserved-2.new.self.items c.requires.all
          (subst (segments.IsAllKept space.id space.n trail.size new) (sym sealed)
          (kept_filled space.id space.n trail.size trail.entries new trail.sealed.items c.args.entry out.0 filled
          (all_kept trail.keep space.id space.n trail.size trail.entries trail.sealed.items c.requires.all next.1.1.1) items c.hand_out-filled.ensures.gone out.1 out.2 fills));
    }
