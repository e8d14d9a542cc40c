-- The bundles of all peers, one peer's after another's: where those of a peer stand, and what other bundles at a peer make of them.
use Rattle.std.proofs.Common.{◌≡◌, ℕ, ◌<◌, ◌≤◌, ◌+◌, Bool, true, false, ◌||◌, ◌==◌, cond, not, List, [], ◌∷◌, ◌++◌, length, filter, get_or, nat_lt, Option, Some, None, slice_get, Result, Ok, Err, OnOk, MatchOption, refl, sym, ap, subst, ◌∙◌, arith, eqb-true, true≢false}
use Prim.Native.Nat.{zero, suc}
use lib.ListN.{set}
use Rattle.std.proofs.lemmas.Cmp.{nat_eq_equiv}
use Rattle.std.proofs.lemmas.Bool.Decides.{Decides-eqb, Decides-and, nat_tests}
use Rattle.std.proofs.lemmas.Option.{none-some, same_Some}
use Rattle.std.proofs.lemmas.List.Elements.{All-head, All-tail, All-nil, filter-append}
use Rattle.std.proofs.lemmas.List.Sorted.{IsPermutation-refl, IsPermutation-sym, IsPermutation-trans, IsPermutation-append, IsPermutation-middle, All-permutation}
use Rattle.std.specs.List.{list_any}
use Rattle.std.specs.Option.{option_map_or}
use Rattle.std.specs.List.Sorted.{IsPermutation}
use Rattle.nob_pins.specs.Bundles.{Pinned, is_of, has_bundle, of_peer, of_others}
use Rattle.nob_pins.specs.Peers.{Row, all_pinned, rooms_of, pinned_at, has_item, AreOfPeer, AreByPeer, KeepsRooms}

-- ---- another element at a place
pub get_set_same : {A : Type 0} (xs : List A) (i : ℕ) (x y : A) → slice_get xs i ≡ Some x → slice_get (set xs i y) i ≡ Some y
get_set_same [] i x y got = absurd (none-some x got)
get_set_same (a ∷ xs) zero x y got = refl
get_set_same (a ∷ xs) (suc i) x y got = get_set_same xs i x y got

get_set_other : {A : Type 0} (xs : List A) (i j : ℕ) (y : A) → (j ≡ i → ⊥) → slice_get (set xs i y) j ≡ slice_get xs j
get_set_other [] i j y other = refl
get_set_other (a ∷ xs) zero zero y other = absurd (other refl)
get_set_other (a ∷ xs) zero (suc j) y other = refl
get_set_other (a ∷ xs) (suc i) zero y other = refl
get_set_other (a ∷ xs) (suc i) (suc j) y other = get_set_other xs i j y (λ e. other (ap suc e))

-- ---- bundles of one peer
not_equal : (x y : ℕ) → (x ≡ y → ⊥) → (x == y) ≡ false
not_equal x y apart = elim (x == y) as (λ b. (x == y) ≡ b → b ≡ false) [ true ↦ λ t. absurd (apart (eqb-true x y t)) | false ↦ λ u. refl ] refl

append_none : (xs : List Pinned) → xs ++ [] ≡ xs
append_none [] = refl
append_none (x ∷ xs) = ap (λ (ys : List Pinned). x ∷ ys) (append_none xs)

any_from_filter : (p : Pinned → Bool) (bs : List Pinned) → list_any p bs ≡ nat_lt 0 (length (filter p bs))
any_from_filter p [] = refl
any_from_filter p (b ∷ bs) =
    let some : true ≡ nat_lt 0 (suc (length (filter p bs))) = grind (arith, nat_tests) in
    elim (p b) as (λ t. (t || list_any p bs) ≡ nat_lt 0 (length (cond t (b ∷ filter p bs) (filter p bs)))) [ true ↦ some | false ↦ any_from_filter p bs ]

item_here : (peer item : ℕ) (b : Pinned) → b.peer ≡ peer → is_of peer item b ≡ (item == b.item)
item_here peer item b is = rw (is, nat_eq_equiv.refl peer) (nat_eq_equiv.symm b.item item)

has_here : (peer item : ℕ) (bs : List Pinned) → AreOfPeer peer bs → list_any (is_of peer item) bs ≡ has_item item bs
has_here peer item [] are = refl
has_here peer item (b ∷ bs) are =
    let here = item_here peer item b (All-head (λ (x : Pinned). x.peer ≡ peer) b bs are) in
    let rest = has_here peer item bs (All-tail (λ (x : Pinned). x.peer ≡ peer) b bs are) in
    rw (here, rest) refl

all_here : (peer : ℕ) (bs : List Pinned) → AreOfPeer peer bs → of_peer peer bs ≡ bs
all_here peer [] are = refl
all_here peer (b ∷ bs) are =
    let here : b.peer ≡ peer = All-head (λ (x : Pinned). x.peer ≡ peer) b bs are in
    let is : (b.peer == peer) ≡ true = rw here (nat_eq_equiv.refl peer) in
    rw is (ap (λ (xs : List Pinned). b ∷ xs) (all_here peer bs (All-tail (λ (x : Pinned). x.peer ≡ peer) b bs are)))

none_left : (peer : ℕ) (bs : List Pinned) → AreOfPeer peer bs → of_others peer bs ≡ []
none_left peer [] are = refl
none_left peer (b ∷ bs) are =
    let here : b.peer ≡ peer = All-head (λ (x : Pinned). x.peer ≡ peer) b bs are in
    let is : (b.peer == peer) ≡ true = rw here (nat_eq_equiv.refl peer) in
    rw is (none_left peer bs (All-tail (λ (x : Pinned). x.peer ≡ peer) b bs are))

all_left : (n peer : ℕ) → (n ≡ peer → ⊥) → (bs : List Pinned) → AreOfPeer n bs → of_others peer bs ≡ bs
all_left n peer apart [] are = refl
all_left n peer apart (b ∷ bs) are =
    let here : b.peer ≡ n = All-head (λ (x : Pinned). x.peer ≡ n) b bs are in
    let is : (b.peer == peer) ≡ false = not_equal b.peer peer (λ e. apart (sym here ∙ e)) in
    rw is (ap (λ (xs : List Pinned). b ∷ xs) (all_left n peer apart bs (All-tail (λ (x : Pinned). x.peer ≡ n) b bs are)))

-- ---- from this number on, each peer has its own bundles alone
abbrev AreFrom : ℕ → List Row → Type 0
AreFrom n rows = (k : ℕ) (row : Row) → slice_get rows k ≡ Some row → AreOfPeer (n + k) row.pinned

from_first : (rows : List Row) → AreByPeer rows → AreFrom 0 rows
from_first rows are k row got = let e : 0 + k ≡ k = omega arith in subst (λ m. AreOfPeer m row.pinned) (sym e) (are k row got)

from_here : (n : ℕ) (row : Row) (rows : List Row) → AreFrom n (row ∷ rows) → AreOfPeer n row.pinned
from_here n row rows are = let e : n + 0 ≡ n = omega arith in subst (λ m. AreOfPeer m row.pinned) e (are zero row refl)

from_tail : (n : ℕ) (row : Row) (rows : List Row) → AreFrom n (row ∷ rows) → AreFrom (n + 1) rows
from_tail n row rows are k other got = let e : n + suc k ≡ n + 1 + k = omega arith in subst (λ m. AreOfPeer m other.pinned) e (are (suc k) other got)

module _ (p : Pinned → Bool) (peer : ℕ) (only : (b : Pinned) → p b ≡ true → b.peer ≡ peer) where
  not_of : (n : ℕ) (b : Pinned) → (n ≡ peer → ⊥) → b.peer ≡ n → p b ≡ false
  not_of n b apart here = elim (p b) as (λ t. p b ≡ t → t ≡ false) [ true ↦ λ t. absurd (apart (sym here ∙ only b t)) | false ↦ λ u. refl ] refl

  none_in : (n : ℕ) (bs : List Pinned) → (n ≡ peer → ⊥) → AreOfPeer n bs → filter p bs ≡ []
  none_in n [] apart are = refl
  none_in n (b ∷ bs) apart are =
      let no = not_of n b apart (All-head (λ (x : Pinned). x.peer ≡ n) b bs are) in
      rw no (none_in n bs apart (All-tail (λ (x : Pinned). x.peer ≡ n) b bs are))

  none_after : (n : ℕ) (rows : List Row) → AreFrom n rows → peer < n → filter p (all_pinned rows) ≡ []
  none_after n [] are less = refl
  none_after n (r ∷ rs) are less =
      let here = none_in n r.pinned (λ e. omega (arith, e, less)) (from_here n r rs are) in
      let rest = none_after (n + 1) rs (from_tail n r rs are) (omega (arith, less)) in
      filter-append p r.pinned (all_pinned rs) ∙ rw (here, rest) refl

  filter_from : (n : ℕ) (rows : List Row) → AreFrom n rows → (k : ℕ) → peer ≡ n + k → filter p (all_pinned rows) ≡ filter p (pinned_at rows k)
  filter_from n [] are k is = refl
  filter_from n (r ∷ rs) are zero is =
      let rest = none_after (n + 1) rs (from_tail n r rs are) (omega (arith, is)) in
      filter-append p r.pinned (all_pinned rs) ∙ rw rest (append_none (filter p r.pinned))
  filter_from n (r ∷ rs) are (suc k) is =
      let here = none_in n r.pinned (λ e. omega (arith, e, is)) (from_here n r rs are) in
      filter-append p r.pinned (all_pinned rs) ∙ rw here (filter_from (n + 1) rs (from_tail n r rs are) k (omega (arith, is)))

-- ---- what stands at a peer's number
pub pinned_there : (rows : List Row) (k : ℕ) (row : Row) → slice_get rows k ≡ Some row → pinned_at rows k ≡ row.pinned
pinned_there rows k row got = rw got refl

pub pinned_past : (rows : List Row) (k : ℕ) → slice_get rows k ≡ None → pinned_at rows k ≡ []
pinned_past rows k none = rw none refl

are_there : (rows : List Row) → AreByPeer rows → (k : ℕ) → AreOfPeer k (pinned_at rows k)
are_there rows are k =
    elim (slice_get rows k) as (λ o. slice_get rows k ≡ o → AreOfPeer k (option_map_or (λ (row : Row). row.pinned) o [])) [
      | None ↦ λ e. All-nil (λ (b : Pinned). b.peer ≡ k)
      | Some row ↦ λ e. are k row e
    ] refl

is_of_peer : (peer item : ℕ) (b : Pinned) → is_of peer item b ≡ true → b.peer ≡ peer
is_of_peer peer item b is = ((Decides-and _ _ (Decides-eqb b.peer peer) (Decides-eqb b.item item)).0 is).0

-- a bundle of a peer and item stands among those of the peer
pub has_at : (rows : List Row) → AreByPeer rows → (peer item : ℕ) → has_bundle (all_pinned rows) peer item ≡ has_item item (pinned_at rows peer)
has_at rows are peer item =
    any_from_filter (is_of peer item) (all_pinned rows)
    ∙ ap (λ (bs : List Pinned). nat_lt 0 (length bs)) (filter_from (is_of peer item) peer (is_of_peer peer item) 0 rows (from_first rows are) peer (omega arith))
    ∙ sym (any_from_filter (is_of peer item) (pinned_at rows peer))
    ∙ has_here peer item (pinned_at rows peer) (are_there rows are peer)

-- the bundles of a peer
pub of_peer_at : (rows : List Row) → AreByPeer rows → (peer : ℕ) → of_peer peer (all_pinned rows) ≡ pinned_at rows peer
of_peer_at rows are peer =
    filter_from (λ (b : Pinned). b.peer == peer) peer (λ b t. eqb-true b.peer peer t) 0 rows (from_first rows are) peer (omega arith)
    ∙ all_here peer (pinned_at rows peer) (are_there rows are peer)

-- ---- other bundles at a peer
pub by_peer_set : (rows : List Row) (k : ℕ) (p q : Row) → AreByPeer rows → slice_get rows k ≡ Some p → AreOfPeer k q.pinned → AreByPeer (set rows k q)
by_peer_set rows k p q are got all m row found =
    elim (m == k) as (λ b. (m == k) ≡ b → AreOfPeer m row.pinned) [
      | true ↦ λ t. let e = eqb-true m k t in
          let same : q ≡ row = same_Some q row (sym (get_set_same rows k p q got) ∙ ap (λ j. slice_get (set rows k q) j) (sym e) ∙ found) in
          subst (λ (r : Row). AreOfPeer m r.pinned) same (subst (λ j. AreOfPeer j q.pinned) (sym e) all)
      | false ↦ λ u. are m row (sym (get_set_other rows k m q (λ e. true≢false (sym (rw e (nat_eq_equiv.refl k)) ∙ u))) ∙ found)
    ] refl

pub same_at : (rows : List Row) (k : ℕ) (p q : Row) → slice_get rows k ≡ Some p → q.pinned ≡ p.pinned → all_pinned (set rows k q) ≡ all_pinned rows
same_at [] k p q got same = absurd (none-some p got)
same_at (a ∷ rs) zero p q got same = ap (λ (r : List Pinned). r ++ all_pinned rs) (same ∙ ap (λ (w : Row). w.pinned) (sym (same_Some a p got)))
same_at (a ∷ rs) (suc k) p q got same = ap (λ (r : List Pinned). a.pinned ++ r) (same_at rs k p q got same)

pub added_at : (rows : List Row) (k : ℕ) (p q : Row) (b : Pinned) → slice_get rows k ≡ Some p → IsPermutation (b ∷ p.pinned) q.pinned → IsPermutation (b ∷ all_pinned rows) (all_pinned (set rows k q))
added_at [] k p q b got adds = absurd (none-some p got)
added_at (a ∷ rs) zero p q b got adds =
    let all : IsPermutation (b ∷ a.pinned) q.pinned = subst (λ (w : Row). IsPermutation (b ∷ w.pinned) q.pinned) (sym (same_Some a p got)) adds in
    IsPermutation-append (b ∷ a.pinned) q.pinned (all_pinned rs) (all_pinned rs) all (IsPermutation-refl (all_pinned rs))
added_at (a ∷ rs) (suc k) p q b got adds =
    IsPermutation-trans _ _ _ (IsPermutation-sym _ _ (IsPermutation-middle a.pinned b (all_pinned rs)))
    (IsPermutation-append a.pinned a.pinned (b ∷ all_pinned rs) (all_pinned (set rs k q)) (IsPermutation-refl a.pinned) (added_at rs k p q b got adds))

pub taken_at : (rows : List Row) (k : ℕ) (p q : Row) (b : Pinned) → slice_get rows k ≡ Some p → IsPermutation (b ∷ q.pinned) p.pinned → IsPermutation (b ∷ all_pinned (set rows k q)) (all_pinned rows)
taken_at [] k p q b got adds = absurd (none-some p got)
taken_at (a ∷ rs) zero p q b got adds =
    let all : IsPermutation (b ∷ q.pinned) a.pinned = subst (λ (w : Row). IsPermutation (b ∷ q.pinned) w.pinned) (sym (same_Some a p got)) adds in
    IsPermutation-append (b ∷ q.pinned) a.pinned (all_pinned rs) (all_pinned rs) all (IsPermutation-refl (all_pinned rs))
taken_at (a ∷ rs) (suc k) p q b got adds =
    IsPermutation-trans _ _ _ (IsPermutation-sym _ _ (IsPermutation-middle a.pinned b (all_pinned (set rs k q))))
    (IsPermutation-append a.pinned a.pinned (b ∷ all_pinned (set rs k q)) (all_pinned rs) (IsPermutation-refl a.pinned) (taken_at rs k p q b got adds))

-- ---- a peer's bundles are gone
-- a row without bundles
abbrev pub no_row : Row
no_row = record { pinned = []; room = 0 }

left_after : (n peer : ℕ) (rows : List Row) → AreFrom n rows → peer < n → of_others peer (all_pinned rows) ≡ all_pinned rows
left_after n peer [] are less = refl
left_after n peer (r ∷ rs) are less =
    let here = all_left n peer (λ e. omega (arith, e, less)) r.pinned (from_here n r rs are) in
    let rest = left_after (n + 1) peer rs (from_tail n r rs are) (omega (arith, less)) in
    filter-append (λ (b : Pinned). not (b.peer == peer)) r.pinned (all_pinned rs) ∙ rw (here, rest) refl

emptied_from : (n peer : ℕ) (rows : List Row) → AreFrom n rows → (k : ℕ) (p q : Row) → peer ≡ n + k → slice_get rows k ≡ Some p → q.pinned ≡ [] → of_others peer (all_pinned rows) ≡ all_pinned (set rows k q)
emptied_from n peer [] are k p q is got none = absurd (none-some p got)
emptied_from n peer (a ∷ rs) are zero p q is got none =
    let at : n ≡ peer = omega (arith, is) in
    let here = none_left peer a.pinned (subst (λ m. AreOfPeer m a.pinned) at (from_here n a rs are)) in
    let rest = left_after (n + 1) peer rs (from_tail n a rs are) (omega (arith, is)) in
    filter-append (λ (b : Pinned). not (b.peer == peer)) a.pinned (all_pinned rs) ∙ rw (here, rest, none) refl
emptied_from n peer (a ∷ rs) are (suc k) p q is got none =
    let here = all_left n peer (λ e. omega (arith, e, is)) a.pinned (from_here n a rs are) in
    let rest = emptied_from (n + 1) peer rs (from_tail n a rs are) k p q (omega (arith, is)) got none in
    filter-append (λ (b : Pinned). not (b.peer == peer)) a.pinned (all_pinned rs) ∙ rw (here, rest) refl

pub emptied_at : (rows : List Row) → AreByPeer rows → (peer : ℕ) (p q : Row) → slice_get rows peer ≡ Some p → q.pinned ≡ [] → of_others peer (all_pinned rows) ≡ all_pinned (set rows peer q)
emptied_at rows are peer p q got none = emptied_from 0 peer rows (from_first rows are) peer p q (omega arith) got none

set_again : (rows : List Row) (k : ℕ) (p q : Row) → set (set rows k p) k q ≡ set rows k q
set_again [] k p q = refl
set_again (a ∷ rs) zero p q = refl
set_again (a ∷ rs) (suc k) p q = ap (λ (xs : List Row). a ∷ xs) (set_again rs k p q)

-- other bundles at a peer leave those of the others
pub others_at : (rows : List Row) → AreByPeer rows → (peer : ℕ) (p q : Row) → slice_get rows peer ≡ Some p → AreOfPeer peer q.pinned → of_others peer (all_pinned rows) ≡ of_others peer (all_pinned (set rows peer q))
others_at rows are peer p q got all =
    emptied_at rows are peer p no_row got refl
    ∙ ap all_pinned (sym (set_again rows peer q no_row))
    ∙ sym (emptied_at (set rows peer q) (by_peer_set rows peer p q are got all) peer q no_row (get_set_same rows peer p q got) refl)

-- ---- rooms
pub room_at : (rows : List Row) (k : ℕ) (p : Row) → slice_get rows k ≡ Some p → get_or (rooms_of rows) k 0 ≡ p.room
room_at [] k p got = absurd (none-some p got)
room_at (a ∷ rs) zero p got = ap (λ (w : Row). w.room) (same_Some a p got)
room_at (a ∷ rs) (suc k) p got = room_at rs k p got

pub room_within : (rows : List Row) (k : ℕ) → 0 < get_or (rooms_of rows) k 0 → k < length rows
room_within [] k some = absurd (omega (arith, some))
room_within (a ∷ rs) zero some = omega arith
room_within (a ∷ rs) (suc k) some = omega (arith, room_within rs k some)

pub rooms_set : (rows : List Row) (k : ℕ) (p q : Row) → slice_get rows k ≡ Some p → p.room ≤ q.room → KeepsRooms rows (set rows k q)
rooms_set [] k p q got more m some = absurd (none-some p got)
rooms_set (a ∷ rs) zero p q got more zero some = let e : a.room ≡ p.room = ap (λ (w : Row). w.room) (same_Some a p got) in omega (arith, e, more, some)
rooms_set (a ∷ rs) zero p q got more (suc m) some = some
rooms_set (a ∷ rs) (suc k) p q got more zero some = some
rooms_set (a ∷ rs) (suc k) p q got more (suc m) some = rooms_set rs k p q got more m some

-- ---- a peer behind the others
pub all_pushed : (rows : List Row) (row : Row) → row.pinned ≡ [] → all_pinned (rows ++ row ∷ []) ≡ all_pinned rows
all_pushed [] row none = rw none refl
all_pushed (a ∷ rs) row none = ap (λ (r : List Pinned). a.pinned ++ r) (all_pushed rs row none)

pub rooms_pushed : (rows : List Row) (row : Row) → KeepsRooms rows (rows ++ row ∷ [])
rooms_pushed [] row m some = absurd (omega (arith, some))
rooms_pushed (a ∷ rs) row zero some = some
rooms_pushed (a ∷ rs) row (suc m) some = rooms_pushed rs row m some

both_none : (xs ys : List Pinned) → xs ++ ys ≡ [] → (xs ≡ []) × (ys ≡ [])
both_none [] ys none = (refl, none)
both_none (x ∷ xs) ys none = cc

-- the last of peers that have no bundle has none
pub none_last : (rows : List Row) (row : Row) → all_pinned (rows ++ row ∷ []) ≡ [] → (all_pinned rows ≡ []) × (row.pinned ≡ [])
none_last [] row none = (refl, sym (append_none row.pinned) ∙ none)
none_last (a ∷ rs) row none =
    let parts = both_none a.pinned (all_pinned (rs ++ row ∷ [])) none in
    let rest = none_last rs row parts.1 in
    (rw (parts.0, rest.0) refl, rest.1)

-- ---- what a peer at the end leaves as it was
pushed_get : (P : Row → Type 0) (rows : List Row) (row : Row) (k : ℕ) (r : Row) → P row → ((s : Row) → slice_get rows k ≡ Some s → P s) → slice_get (rows ++ row ∷ []) k ≡ Some r → P r
pushed_get P [] row zero r last all got = subst P (same_Some row r got) last
pushed_get P [] row (suc k) r last all got = absurd (none-some r got)
pushed_get P (a ∷ rs) row zero r last all got = all r got
pushed_get P (a ∷ rs) row (suc k) r last all got = pushed_get P rs row k r last all got

pub by_peer_pushed : (rows : List Row) (row : Row) → row.pinned ≡ [] → AreByPeer rows → AreByPeer (rows ++ row ∷ [])
by_peer_pushed rows row none are k r got =
    pushed_get (λ (s : Row). AreOfPeer k s.pinned) rows row k r (subst (λ (bs : List Pinned). AreOfPeer k bs) (sym none) (All-nil (λ (b : Pinned). b.peer ≡ k))) (are k) got

-- ---- what follows from a clause on Ok, and from one on both cases
pub on_ok : {A E : Type 0} (r : Result A E) (P Q : Type 0) → OnOk r P → (P → Q) → OnOk r Q
on_ok (Ok a) P Q holds then_so = then_so holds
on_ok (Err e) P Q holds then_so = tt

pub in_both : {A : Type 0} (o : Option A) (P Q : Type 0) (F G : A → Type 0) → MatchOption o P F → (P → Q) → ((a : A) → F a → G a) → MatchOption o Q G
in_both None P Q F G holds first second = first holds
in_both (Some a) P Q F G holds first second = second a holds

pub either : {A : Type 0} (o : Option A) (P : Type 0) (F : A → Type 0) → MatchOption o P F → (Q : Type 0) → (P → Q) → ((a : A) → F a → Q) → Q
either None P F holds Q first second = first holds
either (Some a) P F holds Q first second = second a holds

-- what a peer whose bundle is taken out has left
pub of_peer_taken : (k : ℕ) (b : Pinned) (old new : List Pinned) → AreOfPeer k old → IsPermutation (b ∷ new) old → (b.peer ≡ k) × AreOfPeer k new
of_peer_taken k b old new are adds =
    let all : AreOfPeer k (b ∷ new) = All-permutation (λ (x : Pinned). x.peer ≡ k) old (b ∷ new) (IsPermutation-sym (b ∷ new) old adds) are in
    (All-head (λ (x : Pinned). x.peer ≡ k) b new all, All-tail (λ (x : Pinned). x.peer ≡ k) b new all)
