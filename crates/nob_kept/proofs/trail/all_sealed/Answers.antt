use Rattle.std.proofs.Common.{◌≡◌, ◌≤◌, ◌<◌, ℕ, nat_lt, true, false, List, [], ◌∷◌, ◌++◌, length, sym, ap, subst, ◌∙◌, arith}
use Rattle.std.proofs.lemmas.Bool.Decides.{nat_tests}
use Rattle.nob_trace.specs.Stamps.{Rise, last_stamp}
use Rattle.nob_model_traces.specs.Traces.{journal_at}
use Rattle.nob_chain.specs.declared.segment.Segment.{Segment}
use Rattle.nob_kept.specs.Segments as segments
use Rattle.nob_kept.proofs.Segments.{rise_behind}
use Rattle.nob_kept.proofs.Trails.{all_kept, none_due, one_due, all_done, rest_sealed}
use Rattle.nob_kept.proofs.trail.all_sealed.Goals as goal

pub returns-in_default : goal.returns-in_default
returns-in_default c =
    let space = c.args.space.now in
    let trail = c.args.trail in
    let its = c.requires.trail in
    let not : nat_lt trail.entries.gone (length trail.entries.items) ≡ false = none_due trail (nat_lt trail.entries.gone (length trail.entries.items)) c.args.room c.in_default.is c.requires.room in
    all_done space.id space.n trail.size trail.entries trail.sealed.items its.size.0
    (all_kept trail.keep space.id space.n trail.size trail.entries trail.sealed.items c.requires.all its.bytes) (grind (arith, nat_tests, not))

pub segment_of-segment-requires-clause-rise : goal.segment_of-segment-requires-clause-rise
segment_of-segment-requires-clause-rise c =
    let out = c.into_kept.ensures in
    rise_behind 0 out.0 c.into_kept.result.items (subst (Rise 0) out.1 c.requires.trail.stands.is_account.rise)

pub returns : goal.returns
returns c =
    let space = c.args.space.now in
    let trail = c.args.trail in
    let its = c.requires.trail in
    let out = c.into_kept.ensures in
    let rest = c.into_kept.result.items in
    let L = journal_at space.id trail.entries.items in
    let is : nat_lt trail.entries.gone (length trail.entries.items) ≡ true = one_due trail (nat_lt trail.entries.gone (length trail.entries.items)) c.args.room c.in-Some.places c.in-Some.is c.requires.room in
    let segment : c.segment_of-segment.result ≡ segments.sealed_by space.id space.n (last_stamp 0 trail.entries.items) L rest = c.segment_of-segment.ensures L its.stands.stands ∙ ap (λ (stamp : ℕ). segments.sealed_by space.id space.n stamp L rest) its.last in
    subst (segments.AreAllSealed space.id space.n trail.size trail.entries.items) (sym (c.push_reserved.ensures.items ∙ ap (λ (one : Segment). trail.sealed.items ++ one ∷ []) segment))
    (rest_sealed space.id space.n trail.size trail.entries trail.sealed.items out.0 rest its.size.0
    (all_kept trail.keep space.id space.n trail.size trail.entries trail.sealed.items c.requires.all its.bytes) out.1 out.2 (grind (arith, nat_tests, is)))
