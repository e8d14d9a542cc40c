use Rattle.std.proofs.Common.{◌≡◌, ◌≤◌, ◌<◌, ◌+◌, ◌-◌, ◌*◌, ◌/◌, ◌%◌, ℕ, List, ◌++◌, length, slice_get, sym, ap, ◌∙◌, arith}
use Rattle.std.proofs.Math.Nat.{mod-lt, mul-le-mul_right}
use Rattle.std.proofs.lemmas.Nat.{div-add-mod'}
use Rattle.nob_trace.specs.declared.stamped.Stamped.{Stamped}
use Rattle.nob_chain.specs.Chains.{entries_of}
use Rattle.nob_kept.proofs.Segments.{at_full, behind_full, lent, past_all, lends_at, lends_none, below}
use Rattle.nob_kept.proofs.trail.entry_at.Goals as goal

pub returns-in-Some-clause-some : goal.returns-in-Some-clause-some
returns-in-Some-clause-some c =
    let size = c.args.size in
    let all : List Stamped = entries_of c.args.sealed.now ++ c.args.unsealed.now in
    let found = lent c.args.sealed.now (c.args.place / size) c.get.result c.in-Some.segment c.get.ensures.lookup c.in-Some.is in
    let here = at_full size c.args.sealed.now c.args.unsealed.now (c.args.place / size) (c.args.place % size) c.in-Some.segment.now c.requires.full found (mod-lt c.args.place c.requires.size) in
    lends_at all c.as_slice.result.now c.args.place (c.args.place % size) c.get-in-Some.result
    (ap (slice_get all) (sym (div-add-mod' c.args.place size)) ∙ here ∙ ap (λ (es : List Stamped). slice_get es (c.args.place % size)) (sym c.as_slice.ensures)) c.get-in-Some.ensures.lookup

-- behind the full segments
behind : (c : goal.After-get-in-None) → slice_get (entries_of c.args.sealed.now ++ c.args.unsealed.now) c.args.place ≡ slice_get c.args.unsealed.now (c.args.place - length c.args.sealed.now * c.args.size)
behind c =
    let size = c.args.size in
    let past = past_all c.args.sealed.now (c.args.place / size) c.get.result c.get.ensures.lookup c.in-None.is in
    behind_full size c.args.sealed.now c.args.unsealed.now c.args.place c.requires.full
    (below (length c.args.sealed.now * size) (c.args.place / size * size) (c.args.place % size) c.args.place (mul-le-mul_right size past) (div-add-mod' c.args.place size))

pub returns-in-None-clause-some : goal.returns-in-None-clause-some
returns-in-None-clause-some c =
    lends_at (entries_of c.args.sealed.now ++ c.args.unsealed.now) c.args.unsealed.now c.args.place (c.args.place - length c.args.sealed.now * c.args.size) c.get-in-None.result (behind c) c.get-in-None.ensures.lookup

pub returns-in-None-clause-none : goal.returns-in-None-clause-none
returns-in-None-clause-none c is =
    lends_none (entries_of c.args.sealed.now ++ c.args.unsealed.now) c.args.unsealed.now c.args.place (c.args.place - length c.args.sealed.now * c.args.size) c.get-in-None.result (behind c) c.get-in-None.ensures.lookup is
