-- A space that is asked the entries of a chain, segment by segment.
use Rattle.std.proofs.Common.{◌≡◌, ℕ, ◌+◌, ◌<◌, ◌≤◌, Bool, List, [], ◌∷◌, ◌++◌, length, drop, take, Option, Some, None, slice_get, refl, sym, ap, subst, ◌∙◌, arith}
use Prim.Native.Nat.{suc}
use Rattle.std.specs.Option.{option_or}
use Rattle.std.proofs.lemmas.List.{take-append-drop, length-append}
use Rattle.nob_model_types.specs.declared.entry.Entry.{Entry}
use Rattle.nob_check.specs.Spaces.{Owner, StandsFor}
use Rattle.nob_trace.specs.declared.stamped.Stamped.{Stamped}
use Rattle.nob_trace.specs.Stamps.{Rise, last_stamp}
use Rattle.nob_model_traces.specs.Traces.{journal_at}
use Rattle.nob_model_traces.proofs.Entering.{parted, whole}
use Rattle.nob_check.specs.Running.{IsNewOf, IsRightAndTyped}
use Rattle.nob_chain.specs.declared.segment.Segment.{Segment}
use Rattle.nob_chain.specs.declared.chain.ChainParts.{ChainParts}
use Rattle.nob_chain.specs.Chains.{entries_of, joined, IsKept, IsPart}
use Rattle.nob_chain.proofs.Leads.{rise_front}
use Rattle.nob_model_chains.specs.Sealing.{is_right_or_none, wrong_behind, wrong_among, first_wrong_seal}
use Rattle.nob_model_chains.proofs.Passing.{entries_both, entries_more, part_at, last_here, wrong_left, wrong_next}
use Rattle.nob_chain_check.specs.Running.{HasAnswered, HasPeers, with_wrong}
use Rattle.nob_chain_check.proofs.Answering.{has_none, has_all}
use Rattle.nob_chain_check.proofs.Peers.{has_peers}

drop_front : (A B : List Stamped) → drop (length A) (A ++ B) ≡ B
drop_front [] B = refl
drop_front (a ∷ A) B = drop_front A B

take_front : (A B : List Stamped) → take (length A) (A ++ B) ≡ A
take_front [] B = refl
take_front (a ∷ A) B = ap (λ (es : List Stamped). a ∷ es) (take_front A B)

-- how many entries the first segments have
abbrev pub count_of : List Segment → ℕ → ℕ
count_of segments i = length (entries_of (take i segments))

-- the entries of the first segments, and what stands behind them
split : (segments : List Segment) (i : ℕ) → entries_of segments ≡ entries_of (take i segments) ++ entries_of (drop i segments)
split segments i = ap entries_of (sym (take-append-drop i segments)) ∙ entries_both (take i segments) (drop i segments)

taken : (segments : List Segment) (i : ℕ) → take (count_of segments i) (entries_of segments) ≡ entries_of (take i segments)
taken segments i = ap (λ (es : List Stamped). take (count_of segments i) es) (split segments i) ∙ take_front (entries_of (take i segments)) (entries_of (drop i segments))

-- the next entries are those of the next segment
pub next_entries : (segments : List Segment) (i : ℕ) (x : Segment) → slice_get segments i ≡ Some x → drop (count_of segments i) (entries_of segments) ≡ x.entries ++ entries_of (drop (suc i) segments)
next_entries segments i x is =
    ap (λ (es : List Stamped). drop (count_of segments i) es) (ap entries_of (parted segments i x is) ∙ entries_both (take i segments) (x ∷ drop (suc i) segments))
    ∙ drop_front (entries_of (take i segments)) (x.entries ++ entries_of (drop (suc i) segments))

pub count_more : (segments : List Segment) (i : ℕ) (x : Segment) → slice_get segments i ≡ Some x → count_of segments i + length x.entries ≡ count_of segments (i + 1)
count_more segments i x is = sym (length-append (entries_of (take i segments)) x.entries) ∙ ap length (sym (entries_more segments i x is))

-- ---- counts are no greater than stamps

rise_count : (last : ℕ) (es : List Stamped) → Rise last es → last + length es ≤ last_stamp last es
rise_count last [] rise = omega arith
rise_count last (e ∷ es) rise = let low = rise_count e.stamp es rise.1 in let above = rise.0 in omega (arith, low, above)

pub count_low : (chain : ChainParts) (i : ℕ) (x : Segment) → IsKept chain → slice_get chain.segments i ≡ Some x → count_of chain.segments i + length x.entries ≤ last_stamp 0 x.entries
count_low chain i x kept is =
    let segments = chain.segments in
    let part = part_at chain.space chain.n segments i x kept.parts is in
    let front : List Stamped = entries_of (take (i + 1) segments) in
    let rise : Rise 0 front = rise_front 0 front (entries_of (drop (i + 1) segments)) (subst (Rise 0) (split segments (i + 1)) kept.rise) in
    let low : 0 + length front ≤ last_stamp 0 front = rise_count 0 front rise in
    let stamp : last_stamp 0 front ≡ last_stamp 0 x.entries = ap (last_stamp 0) (entries_more segments i x is) ∙ last_here (entries_of (take i segments)) x.entries part.filled in
    let count : count_of segments i + length x.entries ≡ length front = count_more segments i x is in
    omega (arith, low, stamp, count)

-- ---- seals

joined_or : (a b c : Option ℕ) → option_or a (option_or b c) ≡ option_or (option_or a b) c
joined_or None b c = refl
joined_or (Some k) b c = refl

or_none : (a : Option ℕ) → option_or a None ≡ a
or_none None = refl
or_none (Some k) = refl

-- a space that answered the entries of the first segments of a chain, and the first of their seals that is wrong
pub record HasPassed (chain : ChainParts) (i passed : ℕ) (wrong : Option ℕ) (space : Owner) : Type 0 where
  pub answered : HasAnswered (joined chain) (count_of chain.segments i) space
  pub passed_is : passed ≡ count_of chain.segments i
  pub sealed : first_wrong_seal chain ≡ option_or wrong (wrong_left chain.space chain.n chain.segments i)

pub passed_none : (chain : ChainParts) (space : Owner) → IsNewOf (joined chain) space → HasPassed chain 0 0 None space
passed_none chain space new = record { answered = has_none (joined chain) space new; passed_is = refl; sealed = refl }

pub stands_now : (chain : ChainParts) (i : ℕ) (space : Owner) → HasAnswered (joined chain) (count_of chain.segments i) space → StandsFor space (journal_at chain.space (entries_of (take i chain.segments)))
stands_now chain i space has = subst (λ (es : List Stamped). StandsFor space (journal_at chain.space es)) (taken chain.segments i) has.stands

pub answered_more : (chain : ChainParts) (i : ℕ) (x : Segment) (space : Owner) → slice_get chain.segments i ≡ Some x → HasAnswered (joined chain) (count_of chain.segments i + length x.entries) space → HasAnswered (joined chain) (count_of chain.segments (i + 1)) space
answered_more chain i x space is has = subst (λ (k : ℕ). HasAnswered (joined chain) k space) (count_more chain.segments i x is) has

-- the seal of a next segment is of peers
pub next_peers : (chain : ChainParts) (i count : ℕ) (x : Segment) (space : Owner) → IsKept chain → slice_get chain.segments i ≡ Some x → HasAnswered (joined chain) count space → HasPeers space.id space.n x.seal
next_peers chain i count x space kept is has =
    let part = part_at chain.space chain.n chain.segments i x kept.parts is in
    subst (λ (s : ℕ). HasPeers s space.n x.seal) (sym has.id) (subst (λ (n : ℕ). HasPeers chain.space n x.seal) (sym has.n) (has_peers chain.space chain.n x.seal part.due))

-- of one segment more
pub passed_next : (chain : ChainParts) (i passed more stamp : ℕ) (x : Segment) (wrong next : Option ℕ) (old new : Owner) → IsKept chain → slice_get chain.segments i ≡ Some x → HasPassed chain i passed wrong old → stamp ≡ last_stamp 0 x.entries → more ≡ passed + length x.entries
    → HasAnswered (joined chain) (count_of chain.segments i + length x.entries) new → ((L : List Entry) → StandsFor new L → next ≡ with_wrong wrong (i + 1) (is_right_or_none new.id new.n stamp L x.seal)) → HasPassed chain (i + 1) more next new
passed_next chain i passed more stamp x wrong next old new kept is has stamp_is more_is answered says =
    let here = answered_more chain i x new is answered in
    let front : List Stamped = entries_of (take (i + 1) chain.segments) in
    let told : List Entry = journal_at chain.space front in
    let part = part_at chain.space chain.n chain.segments i x kept.parts is in
    let own : last_stamp 0 front ≡ last_stamp 0 x.entries = ap (last_stamp 0) (entries_more chain.segments i x is) ∙ last_here (entries_of (take i chain.segments)) x.entries part.filled in
    let right : is_right_or_none new.id new.n stamp told x.seal ≡ is_right_or_none chain.space chain.n (last_stamp 0 front) told x.seal =
    ap (λ (s : ℕ). is_right_or_none s new.n stamp told x.seal) here.id ∙ ap (λ (n : ℕ). is_right_or_none chain.space n stamp told x.seal) here.n ∙ ap (λ (k : ℕ). is_right_or_none chain.space chain.n k told x.seal) (stamp_is ∙ sym own) in
    let found : next ≡ option_or wrong (wrong_behind chain.space chain.n front (i + 1) x.seal) = says told (stands_now chain (i + 1) new here) ∙ ap (λ (b : Bool). with_wrong wrong (i + 1) b) right in
    let left = wrong_left chain.space chain.n chain.segments (i + 1) in
    record {
      answered = here;
      passed_is = more_is ∙ ap (λ (k : ℕ). k + length x.entries) has.passed_is ∙ count_more chain.segments i x is;
      sealed = has.sealed ∙ ap (λ (o : Option ℕ). option_or wrong o) (wrong_next chain.space chain.n chain.segments i x is) ∙ joined_or wrong (wrong_behind chain.space chain.n front (i + 1) x.seal) left ∙ ap (λ (o : Option ℕ). option_or o left) (sym found);
    }

drop_all : (segments : List Segment) → drop (length segments) segments ≡ []
drop_all [] = refl
drop_all (x ∷ xs) = drop_all xs

-- all entries are right, and of types
pub all_right : (chain : ChainParts) (i passed : ℕ) (wrong : Option ℕ) (space : Owner) → i ≡ length chain.segments → HasPassed chain i passed wrong space → IsRightAndTyped (joined chain)
all_right chain i passed wrong space is has = has_all (joined chain) (count_of chain.segments i) space (ap (λ (xs : List Segment). length (entries_of xs)) (whole chain.segments i is)) has.answered

-- and this is the first wrong seal
pub all_sealed : (chain : ChainParts) (i passed : ℕ) (wrong : Option ℕ) (space : Owner) → i ≡ length chain.segments → HasPassed chain i passed wrong space → first_wrong_seal chain ≡ wrong
all_sealed chain i passed wrong space is has =
    let s = chain.space in
    let n = chain.n in
    let none : wrong_left s n chain.segments i ≡ None = ap (λ (xs : List Segment). wrong_among s n (entries_of (take i chain.segments)) (i + 1) xs) (ap (λ (k : ℕ). drop k chain.segments) is ∙ drop_all chain.segments) in
    has.sealed ∙ ap (λ (o : Option ℕ). option_or wrong o) none ∙ or_none wrong
