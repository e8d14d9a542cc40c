-- What is kept of a space's entries, as it changes.
use Rattle.std.proofs.Common.{◌≡◌, ◌≤◌, ◌<◌, ℕ, ◌+◌, ◌-◌, ◌==◌, Bool, true, false, ◌&&◌, List, [], ◌∷◌, ◌++◌, length, Option, Some, None, refl, sym, ap, subst, ◌∙◌, append_assoc, arith}
use Rattle.std.specs.Global.{Vec}
use Rattle.std.proofs.lemmas.Bool.Decides.{nat_tests}
use Rattle.std.proofs.lemmas.List.{length-append, append-nil}
use Rattle.nob_past.specs.Lists.{Listed}
use Rattle.nob_model_types.specs.declared.entry.Entry.{Entry}
use Rattle.nob_model_types.specs.declared.event.Event.{Event}
use Rattle.nob_model.specs.Right.{right}
use Rattle.nob_space.specs.Spaces.{Owner, StandsFor, SameSpace}
use Rattle.nob_trace.specs.declared.stamped.Stamped.{Stamped}
use Rattle.nob_trace.specs.Stamps.{last_stamp}
use Rattle.nob_model_traces.specs.Apart.{entry_at}
use Rattle.nob_model_traces.specs.Traces.{journal_at}
use Rattle.nob_chain.specs.declared.seal.PeerSeal.{PeerSeal}
use Rattle.nob_chain.specs.declared.segment.Segment.{Segment}
use Rattle.nob_chain.specs.Chains.{entries_of}
use Rattle.nob_model_chains.proofs.Passing.{entries_one}
use Rattle.nob_kept.specs.declared.keep.Keep.{Keep}
use Rattle.nob_kept.specs.declared.keep.Keep.TheVariants as keeps
use Rattle.nob_kept.specs.declared.trail.Trail.{Trail}
use Rattle.nob_kept.specs.declared.receipt.Receipt.{Receipt}
use Rattle.nob_kept.specs.Accounts.{StandsRight, keeps_all, next_stamp}
use Rattle.nob_kept.specs.Receipts.{IsBehind, entry_of}
use Rattle.nob_kept.specs.Segments.{IsAllKept, IsCut, HasBytes, HasSealRoom, IsTrail, IsNextOf, IsSize, IsSame, HasMore, AreAllSealed, sealed_by}
use Rattle.nob_kept.proofs.Accounts.{stands_next, stands_on}
use Rattle.nob_kept.proofs.Segments.{same_behind, full_more, right_more, full_parts, full_sealed, full_filled, filled_more, parts_more, sealed_more}

-- ---- what has bytes

pub all_kept : (keep : Keep) (id n size : ℕ) (entries : Listed Stamped) (sealed : List Segment) → keep ≡ keeps.All → HasBytes keep id n size entries sealed → IsAllKept id n size entries sealed
all_kept keeps.All id n size entries sealed is has = has
all_kept keeps.Nothing id n size entries sealed is has = absurd (cc)

pub bytes_all : (keep : Keep) (id n size : ℕ) (entries : Listed Stamped) (sealed : List Segment) → keep ≡ keeps.All → IsAllKept id n size entries sealed → HasBytes keep id n size entries sealed
bytes_all keeps.All id n size entries sealed is has = has
bytes_all keeps.Nothing id n size entries sealed is has = absurd (cc)

-- where nothing is kept nothing has bytes
pub none_kept : (keep : Keep) (id n size : ℕ) (entries : Listed Stamped) (sealed : List Segment) → keep ≡ keeps.Nothing → HasBytes keep id n size entries sealed → (entries.gone ≡ length entries.items) × (sealed ≡ [])
none_kept keeps.All id n size entries sealed is has = absurd (cc)
none_kept keeps.Nothing id n size entries sealed is has = has

pub bytes_none : (keep : Keep) (id n size : ℕ) (entries : Listed Stamped) (sealed : List Segment) → keep ≡ keeps.Nothing → entries.gone ≡ length entries.items → sealed ≡ [] → HasBytes keep id n size entries sealed
bytes_none keeps.All id n size entries sealed is gone none = absurd (cc)
bytes_none keeps.Nothing id n size entries sealed is gone none = (gone, none)

-- the same list, whatever room it has
pub bytes_same : (keep : Keep) (id n size : ℕ) (old new : Listed Stamped) (sealed : List Segment) → new.items ≡ old.items → new.gone ≡ old.gone → HasBytes keep id n size old sealed → HasBytes keep id n size new sealed
bytes_same keeps.All id n size old new sealed items gone has = record {
  unsealed = has.unsealed;
  cut = subst (λ (es : List Stamped). IsCut id n size es sealed has.unsealed) (sym items) has.cut;
  gone = gone ∙ has.gone;
}
bytes_same keeps.Nothing id n size old new sealed items gone has = (gone ∙ has.0 ∙ sym (ap length items), has.1)

-- of a new space nothing is kept
pub bytes_new : (keep : Keep) (id n size : ℕ) (entries : Listed Stamped) (sealed : List Segment) → 1 ≤ size → entries.items ≡ [] → entries.gone ≡ 0 → sealed ≡ [] → HasBytes keep id n size entries sealed
bytes_new keeps.All id n size entries sealed some items gone none =
    subst (IsAllKept id n size entries) (sym none) (record {
      unsealed = [];
      cut = record { joined = items; few = some; are_full = record { full = tt; right = refl } };
      gone = gone;
    })
bytes_new keeps.Nothing id n size entries sealed some items gone none = (gone ∙ sym (ap length items), none)

-- whether one entry more fills a segment, where all is kept
pub fills_all : (keep : Keep) (test to : Bool) → keep ≡ keeps.All → (keeps_all keep && test) ≡ to → test ≡ to
fills_all keeps.All test to is fills = fills
fills_all keeps.Nothing test to is fills = absurd (cc)

-- where there is room for a seal one is due, and else none is
pub none_due : (trail : Trail) (due : Bool) (room : Option (Vec PeerSeal)) → room ≡ None → HasSealRoom trail due room → due ≡ false
none_due trail due None is has = has
none_due trail due (Some places) is has = absurd (cc)

pub one_due : (trail : Trail) (due : Bool) (room : Option (Vec PeerSeal)) (places : Vec PeerSeal) → room ≡ Some places → HasSealRoom trail due room → due ≡ true
one_due trail due None places is has = absurd (cc)
one_due trail due (Some others) places is has = has.0

-- ---- the trail of a space

-- a trail that is as it was is still that of its space
pub trail_same : (space : Owner) (old new : Trail) → IsTrail space old → IsSame old new → IsTrail space new
trail_same space old new its same =
    let items = same.1.0 in
    record {
      n = same.0.0 ∙ its.n;
      size = subst IsSize (sym same.0.1.1) its.size;
      stands = subst (StandsRight space) (sym items) its.stands;
      last = same.1.1.1.1 ∙ its.last ∙ sym (ap (last_stamp 0) items);
      bytes = subst (λ (keep : Keep). HasBytes keep space.id space.n new.size new.entries new.sealed.items) (sym same.0.1.0)
          (subst (λ (size : ℕ). HasBytes old.keep space.id space.n size new.entries new.sealed.items) (sym same.0.1.1)
          (subst (HasBytes old.keep space.id space.n old.size new.entries) (sym same.1.1.1.0)
          (bytes_same old.keep space.id space.n old.size old.entries new.entries old.sealed.items items same.1.1.0 its.bytes)));
    }

-- what has bytes of that space has so of it later
pub bytes_later : (old new : Owner) (trail : Trail) → IsTrail old trail → SameSpace old new → HasBytes trail.keep new.id new.n trail.size trail.entries trail.sealed.items
bytes_later old new trail its same =
    subst (λ (id : ℕ). HasBytes trail.keep id new.n trail.size trail.entries trail.sealed.items) (sym same.id)
    (subst (λ (n : ℕ). HasBytes trail.keep old.id n trail.size trail.entries trail.sealed.items) (sym same.n) its.bytes)

-- a trail is that of its space later, where it stands for the same
pub trail_on : (old new : Owner) (trail : Trail) → IsTrail old trail → SameSpace old new → ((L : List Entry) → StandsFor old L → StandsFor new L) → IsTrail new trail
trail_on old new trail its same stands = record {
  n = its.n ∙ sym same.n;
  size = its.size;
  stands = stands_on old new trail.entries.items its.stands same (stands (journal_at old.id trail.entries.items));
  last = its.last;
  bytes = bytes_later old new trail its same;
}

-- the entry that a space made is the next of its trail
pub next_of : (old new : Owner) (trail : Trail) (entry : Stamped) (event : Event) (seen : ℕ) → IsTrail old trail → SameSpace old new → entry.stamp ≡ next_stamp trail.last seen → entry.event ≡ event
    → ((L : List Entry) → StandsFor old L → entry.result ≡ right old.id old.n old.limits L event) → ((L : List Entry) → StandsFor old L → StandsFor new (entry_at old.id entry ∷ L)) → IsNextOf new trail entry
next_of old new trail entry event seen its same stamp is answer stands =
    let L = journal_at old.id trail.entries.items in
    let here = its.stands.stands in (
      its.n ∙ sym same.n,
      (
        its.size,
        (
          stands_next old new trail.entries.items entry seen its.stands same (stamp ∙ ap (λ (last : ℕ). next_stamp last seen) its.last) (answer L here ∙ ap (right old.id old.n old.limits L) (sym is)) (stands L here),
          bytes_later old new trail its same,
        ),
      ),
    )

-- and its receipt is that of the next entry
pub told_next : (space : Owner) (old trail : Trail) (entry : Stamped) (receipt : Receipt) (event : Event) (seen : ℕ) → IsTrail space old → IsSame old trail → entry.stamp ≡ next_stamp trail.last seen → entry.event ≡ event
    → ((L : List Entry) → StandsFor space L → entry.result ≡ right space.id space.n space.limits L event) → entry ≡ entry_of receipt → receipt.place ≡ length trail.entries.items + 1
    → IsBehind space.id space.n space.limits old.entries.items event seen receipt
told_next space old trail entry receipt event seen its same stamp is answer told place = record {
  place = place ∙ ap (λ (es : List Stamped). length es + 1) same.1.0;
  stamp = sym (ap (λ (e : Stamped). e.stamp) told) ∙ stamp ∙ ap (λ (last : ℕ). next_stamp last seen) (same.1.1.1.1 ∙ its.last);
  event_is = sym (ap (λ (e : Stamped). e.event) told) ∙ is;
  result_is = sym (ap (λ (e : Stamped). e.result) told) ∙ answer (journal_at space.id old.entries.items) its.stands.stands;
}

-- the trail as it was has the entry more
pub more_than : (old trail new : Trail) (entry told : Stamped) → IsSame old trail → HasMore trail new entry → entry ≡ told → HasMore old new told
more_than old trail new entry told same more is = (
  (more.0.0 ∙ same.0.0, (more.0.1.0 ∙ same.0.1.0, more.0.1.1 ∙ same.0.1.1)),
  more.1 ∙ ap (λ (es : List Stamped). es ++ entry ∷ []) same.1.0 ∙ ap (λ (e : Stamped). old.entries.items ++ e ∷ []) is,
)

-- ---- one entry more where all is kept

-- so many entries aren't sealed
unsealed_len : (id n size : ℕ) (list : Listed Stamped) (sealed : List Segment) (its : IsAllKept id n size list sealed) → length list.items ≡ list.gone + length its.unsealed
unsealed_len id n size list sealed its =
    ap length its.cut.joined ∙ length-append (entries_of sealed) its.unsealed ∙ ap (λ (k : ℕ). k + length its.unsealed) (sym its.gone)

-- the entry doesn't fill a segment
pub kept_more : (id n size : ℕ) (old new : Listed Stamped) (sealed : List Segment) (entry : Stamped) → IsAllKept id n size old sealed → new.items ≡ old.items ++ entry ∷ [] → new.gone ≡ old.gone
    → (length old.items - old.gone + 1 == size) ≡ false → IsAllKept id n size new sealed
kept_more id n size old new sealed entry its items gone not =
    let long = unsealed_len id n size old sealed its in
    let few = its.cut.few in
    let more : length (its.unsealed ++ entry ∷ []) ≡ length its.unsealed + 1 = length-append its.unsealed (entry ∷ []) in
    record {
      unsealed = its.unsealed ++ entry ∷ [];
      cut = record {
        joined = items ∙ ap (λ (es : List Stamped). es ++ entry ∷ []) its.cut.joined ∙ append_assoc (entries_of sealed) its.unsealed (entry ∷ []);
        few = grind (arith, nat_tests, not, long, few, more);
        are_full = its.cut.are_full;
      };
      gone = gone ∙ its.gone;
    }

-- the entry fills a segment, which is sealed
pub kept_filled : (id n size : ℕ) (old new : Listed Stamped) (sealed : List Segment) (entry : Stamped) (before out : List Stamped) → IsAllKept id n size old sealed → new.items ≡ old.items ++ entry ∷ []
    → new.gone ≡ length new.items → new.items ≡ before ++ out → length before ≡ old.gone → (length old.items - old.gone + 1 == size) ≡ true
    → IsAllKept id n size new (sealed ++ sealed_by id n (last_stamp 0 new.items) (journal_at id new.items) out ∷ [])
kept_filled id n size old new sealed entry before out its items gone parts front fills =
    let segment = sealed_by id n (last_stamp 0 new.items) (journal_at id new.items) out in
    let whole : new.items ≡ entries_of sealed ++ (its.unsealed ++ entry ∷ []) = items ∙ ap (λ (es : List Stamped). es ++ entry ∷ []) its.cut.joined ∙ append_assoc (entries_of sealed) its.unsealed (entry ∷ []) in
    let is : its.unsealed ++ entry ∷ [] ≡ out = same_behind (entries_of sealed) before (its.unsealed ++ entry ∷ []) out (sym whole ∙ parts) (front ∙ its.gone) in
    let joined : new.items ≡ entries_of sealed ++ out = whole ∙ ap (λ (es : List Stamped). entries_of sealed ++ es) is in
    let all : entries_of (sealed ++ segment ∷ []) ≡ new.items = entries_one sealed segment ∙ sym joined in
    let long = unsealed_len id n size old sealed its in
    let few = its.cut.few in
    let more : length out ≡ length its.unsealed + 1 = sym (ap length is) ∙ length-append its.unsealed (entry ∷ []) in
    let filled : length out ≡ size = grind (arith, nat_tests, fills, long, more) in
    record {
      unsealed = [];
      cut = record {
        joined = sym (append-nil (entries_of (sealed ++ segment ∷ [])) ∙ all);
        few = omega (arith, few);
        are_full = full_more id n size sealed out new.items its.cut.are_full joined filled;
      };
      gone = gone ∙ sym (ap length all);
    }

-- ---- the end

-- where all are sealed already
pub all_done : (id n size : ℕ) (entries : Listed Stamped) (sealed : List Segment) → 1 ≤ size → IsAllKept id n size entries sealed → length entries.items ≤ entries.gone → AreAllSealed id n size entries.items sealed
all_done id n size entries sealed some its none =
    let long = unsealed_len id n size entries sealed its in
    let empty : its.unsealed ≡ [] = no_more its.unsealed (omega (arith, long, none)) in
    record {
      joined = sym (its.cut.joined ∙ ap (λ (es : List Stamped). entries_of sealed ++ es) empty ∙ append-nil (entries_of sealed));
      parts = full_parts id n size sealed some its.cut.are_full.full;
      sealed = full_sealed id n size sealed its.cut.are_full.full;
      right = its.cut.are_full.right;
      filled = full_filled id n size sealed some its.cut.are_full.full;
    }
  where
    no_more : (es : List Stamped) → length es ≡ 0 → es ≡ []
    no_more [] none = refl
    no_more (e ∷ es) none = absurd (omega (arith, none))

-- where the rest is sealed
pub rest_sealed : (id n size : ℕ) (entries : Listed Stamped) (sealed : List Segment) (before out : List Stamped) → 1 ≤ size → IsAllKept id n size entries sealed → entries.items ≡ before ++ out → length before ≡ entries.gone
    → entries.gone < length entries.items → AreAllSealed id n size entries.items (sealed ++ sealed_by id n (last_stamp 0 entries.items) (journal_at id entries.items) out ∷ [])
rest_sealed id n size entries sealed before out some its parts front left =
    let segment = sealed_by id n (last_stamp 0 entries.items) (journal_at id entries.items) out in
    let is : its.unsealed ≡ out = same_behind (entries_of sealed) before its.unsealed out (sym its.cut.joined ∙ parts) (front ∙ its.gone) in
    let joined : entries.items ≡ entries_of sealed ++ out = its.cut.joined ∙ ap (λ (es : List Stamped). entries_of sealed ++ es) is in
    let long = unsealed_len id n size entries sealed its in
    let same : length its.unsealed ≡ length out = ap length is in
    let few = its.cut.few in
    let full = its.cut.are_full.full in
    record {
      joined = entries_one sealed segment ∙ sym joined;
      parts = parts_more id n size sealed out entries.items some full (omega (arith, long, same, left));
      sealed = sealed_more id n size sealed out entries.items full;
      right = right_more id n sealed out entries.items its.cut.are_full.right joined;
      filled = filled_more id n size sealed segment full (omega (arith, long, same, left)) (omega (arith, same, few));
    }

-- where all is kept, what has bytes of the list are the entries that aren't sealed
pub cut_there : (id n size : ℕ) (list : Listed Stamped) (sealed : List Segment) (before out : List Stamped) → IsAllKept id n size list sealed → list.items ≡ before ++ out → length before ≡ list.gone → IsCut id n size list.items sealed out
cut_there id n size list sealed before out its parts front =
    let is : its.unsealed ≡ out = same_behind (entries_of sealed) before its.unsealed out (sym its.cut.joined ∙ parts) (front ∙ its.gone) in
    record {
      joined = its.cut.joined ∙ ap (λ (es : List Stamped). entries_of sealed ++ es) is;
      few = subst (λ (es : List Stamped). length es < size) is its.cut.few;
      are_full = its.cut.are_full;
    }
