-- What is sealed of a space's entries, and what one entry more leaves of that.
use Rattle.std.proofs.Common.{Bor, IfSome, ◌≡◌, ◌≤◌, ◌<◌, ℕ, ◌+◌, ◌-◌, ◌*◌, ◌==◌, Bool, true, false, ◌&&◌, nat_le, nat_lt, List, [], ◌∷◌, ◌++◌, length, map, filter, slice_get, Option, Some, None, Result, Ok, Err, IfOk, if◌then◌else◌, cond, refl, sym, ap, subst, ◌∙◌, append_assoc, arith}
use Prim.Native.Nat.{zero, suc}
use Rattle.std.specs.List.{AllByRecursion, list_all}
use Rattle.std.specs.Option.{option_or}
use Rattle.std.proofs.lemmas.Bool.{eq-eqb, eqb-true}
use Rattle.std.proofs.lemmas.Bool.Decides.{nat_tests}
use Rattle.std.proofs.Math.Nat.{suc-mul, zero-mul}
use Rattle.std.proofs.lemmas.List.{length-append, map-append}
use Rattle.std.proofs.lemmas.Option.{slice_get-get_or, slice_get_past}
use Rattle.std.specs.Slice.{IsItemAt}
use Rattle.std.proofs.lemmas.List.Elements.{filter-append}
use Rattle.nob_ids.specs.Reasons.{reason_number}
use Rattle.nob_ids.specs.declared.reason.Reason.{Reason}
use Rattle.nob_model_types.specs.Sessions.{is_peer}
use Rattle.nob_model_types.specs.declared.entry.Entry.{Entry}
use Rattle.nob_model_history.specs.Histories.{history}
use Rattle.nob_model_history.specs.declared.history.History.{History}
use Rattle.nob_trace.specs.declared.stamped.Stamped.{Stamped}
use Rattle.nob_trace.specs.Stamps.{Rise, last_stamp}
use Rattle.nob_model_traces.specs.Traces.{journal_at}
use Rattle.nob_chain.specs.declared.seal.PeerSeal.{PeerSeal}
use Rattle.nob_chain.specs.declared.seal.Seal.{Seal}
use Rattle.nob_chain.specs.declared.segment.Segment.{Segment}
use Rattle.nob_chain.specs.declared.chain.ChainParts.{ChainParts}
use Rattle.nob_chain.specs.Seals.{first_other, are_others, IsDue}
use Rattle.nob_chain.specs.Chains.{entries_of, HasDue, IsPart}
use Rattle.nob_chain.specs.Writing.{HasSeal}
use Rattle.nob_model_chains.specs.Sealing.{same_ending, is_said, is_right_seal, is_right_or_none, wrong_behind, wrong_among}
use Rattle.nob_model_chains.proofs.Passing.{entries_one}
use Rattle.nob_kept.specs.Segments.{spaces_to, peer_in, peers_among, seal_in, sealed_by, IsSize, IsFull, AreFull, AreFilled, AreSomeFilled}

-- ---- what is said of the peers is due, and right

-- so many spaces from one on
abbrev spaces_from : (first count : ℕ) → List ℕ
spaces_from first zero = []
spaces_from first (suc count) = first ∷ spaces_from (first + 1) count

-- with one more behind them
from_more : (first count : ℕ) → spaces_from first (suc count) ≡ spaces_from first count ++ (first + count) ∷ []
from_more first zero = let same : first ≡ first + 0 = omega arith in ap (λ (k : ℕ). k ∷ []) same
from_more first (suc count) =
    let same : first + 1 + count ≡ first + suc count = omega arith in
    ap (λ (spaces : List ℕ). first ∷ spaces) (from_more (first + 1) count ∙ ap (λ (k : ℕ). spaces_from (first + 1) count ++ k ∷ []) same)

-- the spaces from 1 to n
to_from : (n : ℕ) → spaces_to n ≡ spaces_from 1 n
to_from zero = refl
to_from (suc n) =
    let next : 1 + n ≡ n + 1 = omega arith in
    ap (λ (spaces : List ℕ). spaces ++ (n + 1) ∷ []) (to_from n) ∙ ap (λ (k : ℕ). spaces_from 1 n ++ k ∷ []) (sym next) ∙ sym (from_more 1 n)

-- behind the own space the others are those behind the next
others_own : (own n : ℕ) (peers : List PeerSeal) → are_others own n own peers ≡ are_others own n (suc own) peers
others_own own n peers = by peers
  where
    here : first_other own own ≡ suc own
    here = ap (λ (b : Bool). if b then suc own else own) (eq-eqb own own refl)

    there : first_other own (suc own) ≡ suc own
    there = elim (suc own == own) as (λ b. (suc own == own) ≡ b → (if b then suc (suc own) else suc own) ≡ suc own) [
      | true ↦ λ t. (let same : suc own ≡ own = eqb-true (suc own) own t in absurd (omega (arith, same)))
      | false ↦ λ f. refl
    ] refl

    by : (peers : List PeerSeal) → are_others own n own peers ≡ are_others own n (suc own) peers
    by [] = ap (nat_lt n) (here ∙ sym there)
    by (peer ∷ peers) = ap (λ (k : ℕ). peer.peer == k && nat_le k n && are_others own n (suc k) peers) (here ∙ sym there)

-- the peers among so many spaces from one on are the others from it on
others_from : (own n : ℕ) (h : History) (first count : ℕ) → 1 ≤ first → first + count ≡ n + 1 → are_others own n first (peers_among own n h (spaces_from first count)) ≡ true
others_from own n h first zero low end = elim (first == own) as (λ b. (first == own) ≡ b → nat_lt n (if b then suc first else first) ≡ true) [
  | true ↦ λ t. grind (arith, nat_tests, end)
  | false ↦ λ f. grind (arith, nat_tests, end)
] refl
others_from own n h first (suc count) low end = elim (first == own) as (λ b. (first == own) ≡ b → are_others own n first (peers_among own n h (first ∷ spaces_from (first + 1) count)) ≡ true) [
  | true ↦ λ t.
      (let no : is_peer own n first ≡ false = grind (arith, nat_tests, t) in
      let is : first ≡ own = eqb-true first own t in
      let later : are_others own n (first + 1) (peers_among own n h (spaces_from (first + 1) count)) ≡ true = others_from own n h (first + 1) count (omega arith) (omega (arith, end)) in
      let next : first + 1 ≡ suc own = omega (arith, is) in
      ap (λ (b : Bool). are_others own n first (map (peer_in h) (cond b (first ∷ filter (is_peer own n) (spaces_from (first + 1) count)) (filter (is_peer own n) (spaces_from (first + 1) count))))) no
      ∙ ap (λ (k : ℕ). are_others own n k (peers_among own n h (spaces_from (first + 1) count))) is
      ∙ others_own own n (peers_among own n h (spaces_from (first + 1) count))
      ∙ ap (λ (k : ℕ). are_others own n k (peers_among own n h (spaces_from (first + 1) count))) (sym next)
      ∙ later)
  | false ↦ λ f.
      (let yes : is_peer own n first ≡ true = grind (arith, nat_tests, f, low, end) in
      let here : first_other own first ≡ first = ap (λ (b : Bool). if b then suc first else first) f in
      let most : nat_le first n ≡ true = grind (arith, nat_tests, end) in
      let later : are_others own n (first + 1) (peers_among own n h (spaces_from (first + 1) count)) ≡ true = others_from own n h (first + 1) count (omega arith) (omega (arith, end)) in
      let next : suc first ≡ first + 1 = omega arith in
      ap (λ (b : Bool). are_others own n first (map (peer_in h) (cond b (first ∷ filter (is_peer own n) (spaces_from (first + 1) count)) (filter (is_peer own n) (spaces_from (first + 1) count))))) yes
      ∙ ap (λ (k : ℕ). first == k && nat_le k n && are_others own n (suc k) (peers_among own n h (spaces_from (first + 1) count))) here
      ∙ ap (λ (b : Bool). b && nat_le first n && are_others own n (suc first) (peers_among own n h (spaces_from (first + 1) count))) (eq-eqb first first refl)
      ∙ ap (λ (b : Bool). b && are_others own n (suc first) (peers_among own n h (spaces_from (first + 1) count))) most
      ∙ ap (λ (k : ℕ). are_others own n k (peers_among own n h (spaces_from (first + 1) count))) next
      ∙ later)
] refl

-- a seal has the peers that are due
pub seal_due : (id n stamp : ℕ) (L : List Entry) → IsDue id n (seal_in id n stamp L)
seal_due id n stamp L =
    ap (λ (spaces : List ℕ). are_others id n 1 (peers_among id n (history id n L) spaces)) (to_from n)
    ∙ others_from id n (history id n L) 1 n (omega arith) (omega arith)

-- an end stands as it stands
same_end : (ending : Option Reason) → same_ending ending ending ≡ true
same_end None = refl
same_end (Some reason) = eq-eqb (reason_number reason) (reason_number reason) refl

-- what is said of a peer is right
said : (h : History) (peer : ℕ) → is_said h (peer_in h peer) ≡ true
said h peer =
    let p = peer_in h peer in
    ap (λ (b : Bool). b && p.sent == p.sent && p.acted == p.acted && same_ending p.closed p.closed) (eq-eqb p.session p.session refl)
    ∙ ap (λ (b : Bool). b && p.acted == p.acted && same_ending p.closed p.closed) (eq-eqb p.sent p.sent refl)
    ∙ ap (λ (b : Bool). b && same_ending p.closed p.closed) (eq-eqb p.acted p.acted refl)
    ∙ same_end p.closed

-- and so of all peers
all_said : (h : History) (spaces : List ℕ) → list_all (is_said h) (map (peer_in h) spaces) ≡ true
all_said h [] = refl
all_said h (peer ∷ spaces) = ap (λ (b : Bool). b && list_all (is_said h) (map (peer_in h) spaces)) (said h peer) ∙ all_said h spaces

-- a seal is that of the entries behind which it is made
seal_right : (id n stamp : ℕ) (L : List Entry) → is_right_seal id n stamp L (seal_in id n stamp L) ≡ true
seal_right id n stamp L =
    let seal = seal_in id n stamp L in
    ap (λ (b : Bool). b && seal.live == seal.live && list_all (is_said (history id n L)) seal.peers) (eq-eqb stamp stamp refl)
    ∙ ap (λ (b : Bool). b && list_all (is_said (history id n L)) seal.peers) (eq-eqb seal.live seal.live refl)
    ∙ all_said (history id n L) (filter (is_peer id n) (spaces_to n))

-- so it isn't wrong
not_wrong : (id n : ℕ) (entries : List Stamped) (number : ℕ) → wrong_behind id n entries number (Some (seal_in id n (last_stamp 0 entries) (journal_at id entries))) ≡ None
not_wrong id n entries number = ap (λ (b : Bool). if b then None else Some number) (seal_right id n (last_stamp 0 entries) (journal_at id entries))

-- ---- segments with one more

-- of two options that come to nothing each is nothing
both_none : (one other : Option ℕ) → option_or one other ≡ None → (one ≡ None) × (other ≡ None)
both_none None other none = (refl, none)
both_none (Some x) other none = absurd (cc)

-- where no seal is wrong, none is behind one segment more whose seal isn't
wrong_more : (id n : ℕ) (before : List Stamped) (number : ℕ) (segments : List Segment) (segment : Segment) → wrong_among id n before number segments ≡ None
    → ((k : ℕ) → wrong_behind id n (before ++ (entries_of segments ++ segment.entries)) k segment.seal ≡ None) → wrong_among id n before number (segments ++ segment ∷ []) ≡ None
wrong_more id n before number [] segment none right = ap (λ (o : Option ℕ). option_or o None) (right number)
wrong_more id n before number (first ∷ segments) segment none right =
    let parts = both_none (wrong_behind id n (before ++ first.entries) number first.seal) (wrong_among id n (before ++ first.entries) (number + 1) segments) none in
    let further = wrong_more id n (before ++ first.entries) (number + 1) segments segment parts.1
    (λ k. ap (λ (es : List Stamped). wrong_behind id n es k segment.seal) (append_assoc before first.entries (entries_of segments ++ segment.entries) ∙ ap (λ (es : List Stamped). before ++ es) (sym (append_assoc first.entries (entries_of segments) segment.entries))) ∙ right k) in
    ap (λ (o : Option ℕ). option_or o (wrong_among id n (before ++ first.entries) (number + 1) (segments ++ segment ∷ []))) parts.0 ∙ further

-- all of a list with one more behind it
all_one : {X : Type 0} (P : X → Type 0) (xs : List X) (x : X) → AllByRecursion P xs → P x → AllByRecursion P (xs ++ x ∷ [])
all_one P [] x all one = (one, tt)
all_one P (y ∷ xs) x all one = (all.0, all_one P xs x all.1 one)

-- no seal is wrong with one segment more, whose seal is that of all entries
pub right_more : (id n : ℕ) (segments : List Segment) (entries all : List Stamped) → wrong_among id n [] 1 segments ≡ None → all ≡ entries_of segments ++ entries
    → wrong_among id n [] 1 (segments ++ sealed_by id n (last_stamp 0 all) (journal_at id all) entries ∷ []) ≡ None
right_more id n segments entries all none is =
    wrong_more id n [] 1 segments (sealed_by id n (last_stamp 0 all) (journal_at id all) entries) none
    (λ k. subst (λ (es : List Stamped). wrong_behind id n es k (Some (seal_in id n (last_stamp 0 all) (journal_at id all))) ≡ None) is (not_wrong id n all k))

-- full segments with one more that is full
pub full_more : (id n size : ℕ) (segments : List Segment) (entries all : List Stamped) → AreFull id n size segments → all ≡ entries_of segments ++ entries → length entries ≡ size
    → AreFull id n size (segments ++ sealed_by id n (last_stamp 0 all) (journal_at id all) entries ∷ [])
full_more id n size segments entries all are is len = record {
  full = all_one (IsFull id n size) segments (sealed_by id n (last_stamp 0 all) (journal_at id all) entries) are.full
      (record { len = len; sealed = tt; due = seal_due id n (last_stamp 0 all) (journal_at id all) });
  right = right_more id n segments entries all are.right is;
}

-- ---- parts of a list

-- two lists that begin with as many entries
pub same_behind : {X : Type 0} (front before rest out : List X) → front ++ rest ≡ before ++ out → length before ≡ length front → rest ≡ out
same_behind [] [] rest out is long = is
same_behind [] (y ∷ before) rest out is long = absurd (omega (arith, long))
same_behind (x ∷ front) [] rest out is long = absurd (omega (arith, long))
same_behind (x ∷ front) (y ∷ before) rest out is long = same_behind front before rest out (tail is) (omega (arith, long))
  where
    tail : x ∷ (front ++ rest) ≡ y ∷ (before ++ out) → front ++ rest ≡ before ++ out
    tail is = cc

-- stamps that rise do so from a later one on
rise_later : (last : ℕ) (entries : List Stamped) → Rise last entries → Rise 0 entries
rise_later last [] rise = tt
rise_later last (entry ∷ entries) rise = (let above = rise.0 in omega (arith, above), rise.1)

-- stamps rise in what is behind others
pub rise_behind : (last : ℕ) (before entries : List Stamped) → Rise last (before ++ entries) → Rise 0 entries
rise_behind last [] entries rise = rise_later last entries rise
rise_behind last (entry ∷ before) entries rise = rise_behind entry.stamp before entries rise.1

-- ---- chains

-- full segments are parts of a chain
pub full_parts : (id n size : ℕ) (segments : List Segment) → 1 ≤ size → AllByRecursion (IsFull id n size) segments → AllByRecursion (IsPart id n) segments
full_parts id n size [] some all = tt
full_parts id n size (segment ∷ segments) some all =
    let its = all.0 in
    let len = its.len in
    (record { filled = omega (arith, len, some); due = its.due }, full_parts id n size segments some all.1)

-- each is sealed
pub full_sealed : (id n size : ℕ) (segments : List Segment) → AllByRecursion (IsFull id n size) segments → AllByRecursion (λ segment. HasSeal segment.seal) segments
full_sealed id n size [] all = tt
full_sealed id n size (segment ∷ segments) all = (all.0.sealed, full_sealed id n size segments all.1)

-- and each has so many entries
pub full_filled : (id n size : ℕ) (segments : List Segment) → 1 ≤ size → AllByRecursion (IsFull id n size) segments → AreFilled size segments
full_filled id n size [] some all = tt
full_filled id n size (segment ∷ []) some all = (let len = all.0.len in omega (arith, len, some), let len = all.0.len in omega (arith, len))
full_filled id n size (segment ∷ other ∷ segments) some all = (all.0.len, full_filled id n size (other ∷ segments) some all.1)

-- also with one behind them that has some and no more
pub filled_more : (id n size : ℕ) (segments : List Segment) (segment : Segment) → AllByRecursion (IsFull id n size) segments → 1 ≤ length segment.entries → length segment.entries ≤ size → AreFilled size (segments ++ segment ∷ [])
filled_more id n size [] segment all some few = (some, few)
filled_more id n size (first ∷ []) segment all some few = (all.0.len, (some, few))
filled_more id n size (first ∷ other ∷ segments) segment all some few = (all.0.len, filled_more id n size (other ∷ segments) segment all.1 some few)

pub parts_more : (id n size : ℕ) (segments : List Segment) (entries all : List Stamped) → 1 ≤ size → AllByRecursion (IsFull id n size) segments → 1 ≤ length entries
    → AllByRecursion (IsPart id n) (segments ++ sealed_by id n (last_stamp 0 all) (journal_at id all) entries ∷ [])
parts_more id n size segments entries all some are one =
    all_one (IsPart id n) segments (sealed_by id n (last_stamp 0 all) (journal_at id all) entries) (full_parts id n size segments some are)
    (record { filled = omega (arith, one); due = seal_due id n (last_stamp 0 all) (journal_at id all) })

pub sealed_more : (id n size : ℕ) (segments : List Segment) (entries all : List Stamped) → AllByRecursion (IsFull id n size) segments
    → AllByRecursion (λ segment. HasSeal segment.seal) (segments ++ sealed_by id n (last_stamp 0 all) (journal_at id all) entries ∷ [])
sealed_more id n size segments entries all are =
    all_one (λ segment. HasSeal segment.seal) segments (sealed_by id n (last_stamp 0 all) (journal_at id all) entries) (full_sealed id n size segments are) tt

-- ---- the peers of one space more

pub peers_next : (id n : ℕ) (h : History) (number : ℕ) → 1 ≤ number → peers_among id n h (spaces_to (number + 1 - 1)) ≡ peers_among id n h (spaces_to (number - 1)) ++ peers_among id n h (number ∷ [])
peers_next id n h number some =
    let before = spaces_to (number - 1) in
    let next : number + 1 - 1 ≡ suc (number - 1) = omega (arith, some) in
    let same : number - 1 + 1 ≡ number = omega (arith, some) in
    ap (λ (k : ℕ). peers_among id n h (spaces_to k)) next
    ∙ ap (λ (k : ℕ). peers_among id n h (before ++ k ∷ [])) same
    ∙ ap (map (peer_in h)) (filter-append (is_peer id n) before (number ∷ []))
    ∙ map-append (peer_in h) (filter (is_peer id n) before) (filter (is_peer id n) (number ∷ []))

-- ---- the entry at a place

-- among the first of two lists, and behind them
get_left : {X : Type 0} (xs ys : List X) (i : ℕ) → i < length xs → slice_get (xs ++ ys) i ≡ slice_get xs i
get_left [] ys i within = absurd (omega (arith, within))
get_left (x ∷ xs) ys zero within = refl
get_left (x ∷ xs) ys (suc i) within = get_left xs ys i (omega (arith, within))

get_right : {X : Type 0} (xs ys : List X) (i : ℕ) → slice_get (xs ++ ys) (length xs + i) ≡ slice_get ys i
get_right {X = X} [] ys i = let same : length {A = X} [] + i ≡ i = omega arith in ap (slice_get ys) same
get_right (x ∷ xs) ys i = let same : length (x ∷ xs) + i ≡ suc (length xs + i) = omega arith in ap (slice_get (x ∷ (xs ++ ys))) same ∙ get_right xs ys i

-- full segments have so many entries together
full_len : (size : ℕ) (sealed : List Segment) → AllByRecursion (λ segment. length segment.entries ≡ size) sealed → length (entries_of sealed) ≡ length sealed * size
full_len size [] all = sym (zero-mul size)
full_len size (segment ∷ sealed) all =
    let long = length-append segment.entries (entries_of sealed) in
    let here = all.0 in
    let further = full_len size sealed all.1 in
    let product = suc-mul (length sealed) size in
    omega (arith, long, here, further, product)

-- the entry at a place of full segments
pub at_full : (size : ℕ) (sealed : List Segment) (rest : List Stamped) (number behind : ℕ) (segment : Segment) → AllByRecursion (λ segment. length segment.entries ≡ size) sealed
    → slice_get sealed number ≡ Some segment → behind < size → slice_get (entries_of sealed ++ rest) (number * size + behind) ≡ slice_get segment.entries behind
at_full size [] rest number behind segment all is less = absurd (cc)
at_full size (first ∷ sealed) rest zero behind segment all is less =
    let here : first ≡ segment = cc in
    let len = all.0 in
    let none = zero-mul size in
    let place : zero * size + behind ≡ behind = omega (arith, none) in
    ap (slice_get (entries_of (first ∷ sealed) ++ rest)) place
    ∙ ap (λ (es : List Stamped). slice_get es behind) (append_assoc first.entries (entries_of sealed) rest)
    ∙ get_left first.entries (entries_of sealed ++ rest) behind (omega (arith, len, less))
    ∙ ap (λ (s : Segment). slice_get s.entries behind) here
at_full size (first ∷ sealed) rest (suc number) behind segment all is less =
    let len = all.0 in
    let product = suc-mul number size in
    let place : suc number * size + behind ≡ length first.entries + (number * size + behind) = omega (arith, len, product) in
    ap (λ (es : List Stamped). slice_get es (suc number * size + behind)) (append_assoc first.entries (entries_of sealed) rest)
    ∙ ap (slice_get (first.entries ++ (entries_of sealed ++ rest))) place
    ∙ get_right first.entries (entries_of sealed ++ rest) (number * size + behind)
    ∙ at_full size sealed rest number behind segment all.1 is less

-- and behind them
pub behind_full : (size : ℕ) (sealed : List Segment) (rest : List Stamped) (place : ℕ) → AllByRecursion (λ segment. length segment.entries ≡ size) sealed
    → length sealed * size ≤ place → slice_get (entries_of sealed ++ rest) place ≡ slice_get rest (place - length sealed * size)
behind_full size sealed rest place all past =
    let long = full_len size sealed all in
    let is : place ≡ length (entries_of sealed) + (place - length sealed * size) = omega (arith, long, past) in
    ap (slice_get (entries_of sealed ++ rest)) is ∙ get_right (entries_of sealed) rest (place - length sealed * size)

-- full segments have just so many entries
pub full_lens : (id n size : ℕ) (sealed : List Segment) → AllByRecursion (IsFull id n size) sealed → AllByRecursion (λ segment. length segment.entries ≡ size) sealed
full_lens id n size [] all = tt
full_lens id n size (segment ∷ sealed) all = (all.0.len, full_lens id n size sealed all.1)

-- what a slice lends is the item at the place
pub lent : {X : Type 0} (xs : List X) (i : ℕ) (r : Option (Bor X)) (x : Bor X) → IsItemAt xs i r → r ≡ Some x → slice_get xs i ≡ Some x.now
lent xs i None x item is = absurd (cc)
lent {X = X} xs i (Some y) x item is =
    let same : y ≡ x = cc in
    slice_get-get_or xs i y.now item.3.0 ∙ ap Some (sym item.1) ∙ ap (λ (b : Bor X). Some b.now) same

pub past_all : {X : Type 0} (xs : List X) (i : ℕ) (r : Option (Bor X)) → IsItemAt xs i r → r ≡ None → length xs ≤ i
past_all xs i None item is = item.3
past_all xs i (Some x) item is = absurd (cc)

-- also where it is that at a place of another list
pub lends_at : (all es : List Stamped) (place behind : ℕ) (r : Option (Bor Stamped)) → slice_get all place ≡ slice_get es behind → IsItemAt es behind r → IfSome r (λ entry. slice_get all place ≡ Some entry.now)
lends_at all es place behind None same item = tt
lends_at all es place behind (Some x) same item = same ∙ lent es behind (Some x) x item refl

pub lends_none : (all es : List Stamped) (place behind : ℕ) (r : Option (Bor Stamped)) → slice_get all place ≡ slice_get es behind → IsItemAt es behind r → r ≡ None → slice_get all place ≡ None
lends_none all es place behind r same item is = same ∙ slice_get_past es behind (past_all es behind r item is)

-- what isn't above a part of a number isn't above it
pub below : (low part rest whole : ℕ) → low ≤ part → part + rest ≡ whole → low ≤ whole
below low part rest whole less is = omega (arith, less, is)

-- segments that are filled to a size are filled to some
pub some_filled : {E : Type 0} (size : ℕ) (result : Result ChainParts E) → IsSize size → IfOk result (λ chain. AreFilled size chain.segments) → IfOk result (λ chain. AreSomeFilled chain.segments)
some_filled size (Ok chain) is filled = (size, is, filled)
some_filled size (Err back) is filled = tt
