-- The tables say which numbers the sessions have, which have closed, and which items came.
use Rattle.std.proofs.Common.{◌≡◌, ◌+◌, ◌&&◌, ◌||◌, not, ℕ, Bool, true, false, cond, List, [], ◌∷◌, Option, Some, None, is_some, refl, sym, ap, subst, true≢false, ◌∙◌}
use Rattle.std.specs.Prelude.{◌==◌, option_and_then}
use Rattle.std.specs.Map.{lookup}
use Rattle.std.specs.Cmp.{both_ways}
use Rattle.std.specs.Option.{option_map, option_or}
use Rattle.std.proofs.lemmas.Bool.{and_parts, and_from, eqb-true, eq-eqb}
use Rattle.indexmap.specs.IndexMap.{insert_entry}
use Rattle.nob_frame.specs.declared.frame.Frame.{Frame}
use Rattle.nob_frame.specs.Kinds.{is_data}
use Rattle.nob_model_session.specs.End.{is_in_reach}
use Rattle.nob_item.specs.declared.item.Item.{Item}
use Rattle.nob_model_session.specs.End.{brings_at}
use Rattle.nob_model_types.specs.declared.deed.Deed.{Deed}
use Rattle.nob_model_types.specs.declared.deed.Deed.TheVariants.{Arrive, Closing, Open}
use Rattle.nob_model_types.specs.Sessions.{closed, number, is_from, accepted_from, payload_at, item_spelt, item_at}
use Rattle.nob_check_tables.specs.Closed.{is_among, with_peer}
use Rattle.nob_check_tables.specs.Numbers.{found_number, number_in, with_number}
use Rattle.nob_check_tables.specs.Taken.{is_present, found_count, taken_from, with_taken}
use Rattle.nob_check_tables.specs.Came.{is_same_arrival, found_item, came_at, item_in, with_item, with_frame}
use Rattle.nob_check_tables.specs.Tables.{tables_of}
use Rattle.nob_check_tables.specs.declared.came.Arrival.{Arrival}
use Rattle.nob_check_tables.proofs.Looking.{put_at, any_without, found_without}

-- ---- sessions

-- the number of the session with p once that with q has another
numbered_with : (p q k : ℕ) (numbers : List (ℕ × ℕ)) → number_in p (with_number q k numbers) ≡ cond (q == p) k (number_in p numbers)
numbered_with p q k numbers =
    ap found_number (put_at (λ a b. a == b) (λ a b. eqb-true a b) (λ a. eq-eqb a a refl) p q k numbers)
    ∙ by (p == q)
    ∙ ap (λ (b : Bool). cond b k (number_in p numbers)) (both_ways (p == q) (q == p) (λ e. eq-eqb q p (sym (eqb-true p q e))) (λ e. eq-eqb p q (sym (eqb-true q p e))))
  where
    by : (b : Bool) → found_number (cond b (Some k) (lookup (λ other. p == other) numbers)) ≡ cond b k (number_in p numbers)
    by true = refl
    by false = refl

-- the number of the session with p
pub number_is : (s n p : ℕ) (D : List Deed) → number_in p (tables_of s n D).numbers ≡ number p D
number_is s n p [] = refl
number_is s n p (Open q k ∷ D) = numbered_with p q k (tables_of s n D).numbers ∙ ap (λ (m : ℕ). cond (q == p) k m) (number_is s n p D)
number_is s n p (_ ∷ D) = number_is s n p D

among_with : (p q : ℕ) (peers : List ℕ) → is_among p (with_peer q peers) ≡ ((q == p) || is_among p peers)
among_with p q peers = by (is_among q peers) refl
  where
    is_there : (t : Bool) → q == p ≡ t → is_among q peers ≡ true → is_among p peers ≡ ((q == p) || is_among p peers)
    is_there true same there = subst (λ (x : ℕ). is_among x peers ≡ true) (eqb-true q p same) there ∙ sym (ap (λ (b : Bool). b || is_among p peers) same)
    is_there false other there = sym (ap (λ (b : Bool). b || is_among p peers) other)

    by : (t : Bool) → is_among q peers ≡ t → is_among p (with_peer q peers) ≡ ((q == p) || is_among p peers)
    by true there = ap (λ (b : Bool). is_among p (cond b peers (q ∷ peers))) there ∙ is_there (q == p) refl there
    by false none = ap (λ (b : Bool). is_among p (cond b peers (q ∷ peers))) none

-- whether the session with p has closed
pub closed_is : (s n p : ℕ) (D : List Deed) → is_among p (tables_of s n D).closed ≡ closed p D
closed_is s n p [] = refl
closed_is s n p (Closing q reason cause ∷ D) = among_with p q (tables_of s n D).closed ∙ ap (λ (b : Bool). (q == p) || b) (closed_is s n p D)
closed_is s n p (Open q k ∷ D) =
    any_without (λ (other : ℕ). other == p) (λ (other : ℕ). q == other) (q == p) (λ other is. ap (λ (x : ℕ). q == x) (eqb-true other p is)) (tables_of s n D).closed
    ∙ ap (λ (b : Bool). cond (q == p) false b) (closed_is s n p D)
closed_is s n p (_ ∷ D) = closed_is s n p D

-- ---- counts

-- the counts with another one of a peer
abbrev with_count : (q count : ℕ) → List (ℕ × ℕ) → List (ℕ × ℕ)
with_count q count taken = insert_entry (λ a b. a == b) taken q count

taken_with : (p q count : ℕ) (taken : List (ℕ × ℕ)) → taken_from p (with_count q count taken) ≡ cond (p == q) count (taken_from p taken)
taken_with p q count taken =
    ap found_count (put_at (λ a b. a == b) (λ a b. eqb-true a b) (λ a. eq-eqb a a refl) p q count taken) ∙ by (p == q)
  where
    by : (b : Bool) → found_count (cond b (Some count) (lookup (λ other. p == other) taken)) ≡ cond b count (taken_from p taken)
    by true = refl
    by false = refl

-- the test of the tables is that of the words
present_is : (s n p : ℕ) (frame : Frame) (D : List Deed) → is_from p frame D ≡ (frame.from == p && is_present frame (tables_of s n D).numbers)
present_is s n p frame D = by (frame.from == p) refl
  where
    by : (b : Bool) → frame.from == p ≡ b → (b && frame.session == number p D) ≡ (b && is_present frame (tables_of s n D).numbers)
    by true same = ap (λ (k : ℕ). frame.session == k) (sym (number_is s n p D)) ∙ ap (λ (q : ℕ). frame.session == number_in q (tables_of s n D).numbers) (sym (eqb-true frame.from p same))
    by false other = refl

-- how many items of p were accepted
pub taken_is : (s n p : ℕ) (D : List Deed) → taken_from p (tables_of s n D).taken ≡ accepted_from p D
taken_is s n p [] = refl
taken_is s n p (Arrive frame count ∷ D) =
    by (is_present frame (tables_of s n D).numbers) (frame.from == p) (p == frame.from) refl refl (taken_is s n p D)
    ∙ sym (ap (λ (b : Bool). cond b (count + accepted_from p D) (accepted_from p D)) (present_is s n p frame D))
  where
    taken : List (ℕ × ℕ)
    taken = (tables_of s n D).taken

    by : (present a b : Bool) → frame.from == p ≡ a → p == frame.from ≡ b → taken_from p taken ≡ accepted_from p D
        → taken_from p (cond present (with_taken frame count taken) taken) ≡ cond (frame.from == p && present) (count + accepted_from p D) (accepted_from p D)
    by false true b one two same = same ∙ sym (ap (λ (t : Bool). cond (t && false) (count + accepted_from p D) (accepted_from p D)) one)
    by false false b one two same = same ∙ sym (ap (λ (t : Bool). cond (t && false) (count + accepted_from p D) (accepted_from p D)) one)
    by true true true one two same =
        taken_with p frame.from (count + taken_from frame.from taken) taken
        ∙ ap (λ (t : Bool). cond t (count + taken_from frame.from taken) (taken_from p taken)) two
        ∙ ap (λ (q : ℕ). count + taken_from q taken) (eqb-true frame.from p one)
        ∙ ap (λ (k : ℕ). count + k) same
        ∙ sym (ap (λ (t : Bool). cond (t && true) (count + accepted_from p D) (accepted_from p D)) one)
    by true false false one two same =
        taken_with p frame.from (count + taken_from frame.from taken) taken
        ∙ ap (λ (t : Bool). cond t (count + taken_from frame.from taken) (taken_from p taken)) two
        ∙ same
        ∙ sym (ap (λ (t : Bool). cond (t && true) (count + accepted_from p D) (accepted_from p D)) one)
    by true false true one two same = absurd (true≢false (sym (eq-eqb frame.from p (sym (eqb-true p frame.from two))) ∙ one))
    by true true false one two same = absurd (true≢false (sym (eq-eqb p frame.from (sym (eqb-true frame.from p one))) ∙ two))
taken_is s n p (Open q k ∷ D) =
    ap found_count (found_without (λ (other : ℕ). p == other) (λ (other : ℕ). q == other) (q == p) (λ other is. ap (λ (x : ℕ). q == x) (sym (eqb-true p other is))) (tables_of s n D).taken)
    ∙ by (q == p)
    ∙ ap (λ (count : ℕ). cond (q == p) 0 count) (taken_is s n p D)
  where
    by : (b : Bool) → found_count (cond b None (lookup (λ other. p == other) (tables_of s n D).taken)) ≡ cond b 0 (taken_from p (tables_of s n D).taken)
    by true = refl
    by false = refl
taken_is s n p (_ ∷ D) = taken_is s n p D

-- ---- items

same_arrival : (a b : Arrival) → is_same_arrival a b ≡ true → a ≡ b
same_arrival a b h =
    let parts = and_parts (a.from == b.from) (a.number == b.number) h in
    let one : a.from ≡ b.from = eqb-true a.from b.from parts.0 in
    let two : a.number ≡ b.number = eqb-true a.number b.number parts.1 in
    λ i. record { from = one i; number = two i }

own_arrival : (a : Arrival) → is_same_arrival a a ≡ true
own_arrival a = and_from (a.from == a.from) (a.number == a.number) (eq-eqb a.from a.from refl) (eq-eqb a.number a.number refl)

or_none : {A : Type 0} (x : Option A) → option_or x None ≡ x
or_none None = refl
or_none (Some x) = refl

some_first : {A : Type 0} (x y : Option A) → is_some x ≡ true → x ≡ option_or x y
some_first None y is = absurd (true≢false (sym is))
some_first (Some x) y is = refl

is_none : {A : Type 0} (x : Option A) → is_some x ≡ false → x ≡ None
is_none None is = refl
is_none (Some x) is = absurd (true≢false is)

-- whether the frame has this sender and this number
abbrev pub has_number : (p k : ℕ) → Frame → Bool
has_number p k frame = frame.from == p && frame.seq == k

-- a frame with this sender and number is found at them
at_number : (p k : ℕ) (frame : Frame) → has_number p k frame ≡ true → (frame.from ≡ p) × (frame.seq ≡ k)
at_number p k frame h =
    let parts = and_parts (frame.from == p) (frame.seq == k) h in
    (eqb-true frame.from p parts.0, eqb-true frame.seq k parts.1)

-- what was put in stands at its number
put_in : (p k : ℕ) (frame : Frame) (item : Option Item) (came : List (Arrival × Option Item)) → came_at frame.from frame.seq came ≡ None → came_at p k (with_item (record { from = frame.from; number = frame.seq }) item came) ≡ option_or (came_at p k came) (cond (has_number p k frame) (Some item) None)
put_in p k frame item came none =
    put_at is_same_arrival same_arrival own_arrival (record { from = p; number = k }) (record { from = frame.from; number = frame.seq }) item came
    ∙ by (is_same_arrival (record { from = p; number = k }) (record { from = frame.from; number = frame.seq })) (has_number p k frame) refl refl
  where
    by : (a b : Bool) → is_same_arrival (record { from = p; number = k }) (record { from = frame.from; number = frame.seq }) ≡ a → has_number p k frame ≡ b → cond (is_same_arrival (record { from = p; number = k }) (record { from = frame.from; number = frame.seq })) (Some item) (came_at p k came) ≡ option_or (came_at p k came) (cond (has_number p k frame) (Some item) None)
    by true true here there =
        let at = at_number p k frame there in
        let before : came_at p k came ≡ None = subst (λ (x : ℕ). came_at x k came ≡ None) at.0 (subst (λ (y : ℕ). came_at frame.from y came ≡ None) at.1 none) in
        ap (λ (b : Bool). cond b (Some item) (came_at p k came)) here
        ∙ sym (ap (λ (x : Option (Option Item)). option_or x (Some item)) before)
        ∙ sym (ap (λ (b : Bool). option_or (came_at p k came) (cond b (Some item) None)) there)
    by true false here there =
        let parts = and_parts (p == frame.from) (k == frame.seq) here in
        absurd (true≢false (sym (and_from (frame.from == p) (frame.seq == k) (eq-eqb frame.from p (sym (eqb-true p frame.from parts.0))) (eq-eqb frame.seq k (sym (eqb-true k frame.seq parts.1)))) ∙ there))
    by false true here there =
        let at = at_number p k frame there in
        absurd (true≢false (sym (and_from (p == frame.from) (k == frame.seq) (eq-eqb p frame.from (sym at.0)) (eq-eqb k frame.seq (sym at.1))) ∙ here))
    by false false here there =
        ap (λ (b : Bool). cond b (Some item) (came_at p k came)) here
        ∙ sym (or_none (came_at p k came))
        ∙ sym (ap (λ (b : Bool). option_or (came_at p k came) (cond b (Some item) None)) there)

-- what came first stays
stays_in : (p k : ℕ) (frame : Frame) (item : Option Item) (came : List (Arrival × Option Item)) → is_some (came_at frame.from frame.seq came) ≡ true → came_at p k came ≡ option_or (came_at p k came) (cond (has_number p k frame) (Some item) None)
stays_in p k frame item came some = by (has_number p k frame) refl
  where
    by : (b : Bool) → has_number p k frame ≡ b → came_at p k came ≡ option_or (came_at p k came) (cond (has_number p k frame) (Some item) None)
    by true there =
        let at = at_number p k frame there in
        some_first (came_at p k came) _ (subst (λ (x : ℕ). is_some (came_at x k came) ≡ true) at.0 (subst (λ (y : ℕ). is_some (came_at frame.from y came) ≡ true) at.1 some))
    by false there = sym (or_none (came_at p k came)) ∙ sym (ap (λ (b : Bool). option_or (came_at p k came) (cond b (Some item) None)) there)

-- whether a frame brings item k from p, where so many items of each were accepted
abbrev pub brings : (p k : ℕ) → Frame → List Deed → Bool
brings p k frame D = frame.from == p && brings_at k frame (accepted_from p D)

-- it does if it has that number, and is in reach
brings_by : (p k : ℕ) (frame : Frame) (D : List Deed) → (has_number p k frame && brings_at frame.seq frame (accepted_from frame.from D)) ≡ brings p k frame D
brings_by p k frame D = by (frame.from == p) (frame.seq == k) refl refl
  where
    right : ℕ → Bool
    right q = brings_at k frame (accepted_from q D)

    none : (b : Bool) → (b && false) ≡ false
    none true = refl
    none false = refl

    unlike : frame.seq == k ≡ false → brings_at k frame (accepted_from p D) ≡ false
    unlike other = ap (λ (b : Bool). (is_data frame.kind && b) && is_in_reach (accepted_from p D) k) other ∙ ap (λ (b : Bool). b && is_in_reach (accepted_from p D) k) (none (is_data frame.kind))

    by : (a b : Bool) → frame.from == p ≡ a → frame.seq == k ≡ b → (has_number p k frame && brings_at frame.seq frame (accepted_from frame.from D)) ≡ brings p k frame D
    by true true from number =
        ap (λ (x : Bool). (x && (frame.seq == k)) && brings_at frame.seq frame (accepted_from frame.from D)) from
        ∙ ap (λ (x : Bool). x && brings_at frame.seq frame (accepted_from frame.from D)) number
        ∙ ap (λ (x : ℕ). brings_at x frame (accepted_from frame.from D)) (eqb-true frame.seq k number)
        ∙ ap right (eqb-true frame.from p from)
        ∙ sym (ap (λ (x : Bool). x && brings_at k frame (accepted_from p D)) from)
    by true false from number =
        ap (λ (x : Bool). (x && (frame.seq == k)) && brings_at frame.seq frame (accepted_from frame.from D)) from
        ∙ ap (λ (x : Bool). x && brings_at frame.seq frame (accepted_from frame.from D)) number
        ∙ sym (unlike number)
        ∙ sym (ap (λ (x : Bool). x && brings_at k frame (accepted_from p D)) from)
    by false b from number =
        ap (λ (x : Bool). (x && (frame.seq == k)) && brings_at frame.seq frame (accepted_from frame.from D)) from
        ∙ sym (ap (λ (x : Bool). x && brings_at k frame (accepted_from p D)) from)

came_with : (p k accepted : ℕ) (frame : Frame) (came : List (Arrival × Option Item)) → came_at p k (with_frame frame accepted came) ≡ option_or (came_at p k came) (cond (has_number p k frame && brings_at frame.seq frame accepted) (Some (item_spelt frame.payload)) None)
came_with p k accepted frame came = by (brings_at frame.seq frame accepted) (is_some (came_at frame.from frame.seq came)) refl refl
  where
    new : List (Arrival × Option Item)
    new = with_item (record { from = frame.from; number = frame.seq }) (item_spelt frame.payload) came

    steps : Bool → Bool → Option (Option Item)
    steps a b = came_at p k (cond (not a) came (cond b came new))

    whole : Bool → Option (Option Item)
    whole b = option_or (came_at p k came) (cond b (Some (item_spelt frame.payload)) None)

    both : (b : Bool) → b ≡ (b && true)
    both true = refl
    both false = refl

    none : (b : Bool) → (b && false) ≡ false
    none true = refl
    none false = refl

    by : (a b : Bool) → brings_at frame.seq frame accepted ≡ a → is_some (came_at frame.from frame.seq came) ≡ b → came_at p k (with_frame frame accepted came) ≡ whole (has_number p k frame && brings_at frame.seq frame accepted)
    by false b reached some =
        ap (λ x. steps x (is_some (came_at frame.from frame.seq came))) reached ∙ sym (or_none (came_at p k came))
        ∙ sym (ap (λ (x : Bool). whole (has_number p k frame && x)) reached ∙ ap whole (none (has_number p k frame)))
    by true true reached some =
        (λ i. steps (reached i) (some i)) ∙ stays_in p k frame (item_spelt frame.payload) came some
        ∙ ap whole (both (has_number p k frame)) ∙ sym (ap (λ (x : Bool). whole (has_number p k frame && x)) reached)
    by true false reached some =
        (λ i. steps (reached i) (some i)) ∙ put_in p k frame (item_spelt frame.payload) came (is_none (came_at frame.from frame.seq came) some)
        ∙ ap whole (both (has_number p k frame)) ∙ sym (ap (λ (x : Bool). whole (has_number p k frame && x)) reached)

spelt_or : (x : Option (List ℕ)) (b : Bool) (bytes : List ℕ) → option_or (option_map item_spelt x) (cond b (Some (item_spelt bytes)) None) ≡ option_map item_spelt (option_or x (cond b (Some bytes) None))
spelt_or None true bytes = refl
spelt_or None false bytes = refl
spelt_or (Some y) b bytes = refl

spelt_none : (b : Bool) (x : Option (List ℕ)) → cond b None (option_map item_spelt x) ≡ option_map item_spelt (cond b None x)
spelt_none true x = refl
spelt_none false x = refl

-- the same where it is of the session with its sender, and nothing where it is of another
came_if : (present : Bool) (s n p k : ℕ) (frame : Frame) (D : List Deed) → came_at p k (cond present (with_frame frame (taken_from frame.from (tables_of s n D).taken) (tables_of s n D).came) (tables_of s n D).came) ≡ option_or (came_at p k (tables_of s n D).came) (cond (present && brings p k frame D) (Some (item_spelt frame.payload)) None)
came_if true s n p k frame D =
    ap (λ (a : ℕ). came_at p k (with_frame frame a (tables_of s n D).came)) (taken_is s n frame.from D)
    ∙ came_with p k (accepted_from frame.from D) frame (tables_of s n D).came
    ∙ ap (λ (b : Bool). option_or (came_at p k (tables_of s n D).came) (cond b (Some (item_spelt frame.payload)) None)) (brings_by p k frame D)
came_if false s n p k frame D = sym (or_none (came_at p k (tables_of s n D).came))

-- a frame of the session with p brings item k from p, as the words say
brought_is : (s n p k : ℕ) (frame : Frame) (D : List Deed) → (is_present frame (tables_of s n D).numbers && brings p k frame D) ≡ (is_from p frame D && brings_at k frame (accepted_from p D))
brought_is s n p k frame D = turned (frame.from == p) (is_present frame (tables_of s n D).numbers) (brings_at k frame (accepted_from p D)) ∙ sym (ap (λ (b : Bool). b && brings_at k frame (accepted_from p D)) (present_is s n p frame D))
  where
    turned : (a b c : Bool) → (b && (a && c)) ≡ ((a && b) && c)
    turned true true c = refl
    turned true false c = refl
    turned false true c = refl
    turned false false c = refl

-- what came as item k from p
came_is : (s n p k : ℕ) (D : List Deed) → came_at p k (tables_of s n D).came ≡ option_map item_spelt (payload_at p k D)
came_is s n p k [] = refl
came_is s n p k (Arrive frame count ∷ D) =
    let test : Bool = is_from p frame D && brings_at k frame (accepted_from p D) in
    came_if (is_present frame (tables_of s n D).numbers) s n p k frame D
    ∙ ap (λ (b : Bool). option_or (came_at p k (tables_of s n D).came) (cond b (Some (item_spelt frame.payload)) None)) (brought_is s n p k frame D)
    ∙ ap (λ (x : Option (Option Item)). option_or x (cond test (Some (item_spelt frame.payload)) None)) (came_is s n p k D)
    ∙ spelt_or (payload_at p k D) test frame.payload
came_is s n p k (Open q j ∷ D) =
    found_without (is_same_arrival (record { from = p; number = k })) (λ (a : Arrival). q == a.from) (q == p) (λ a is. ap (λ (x : Arrival). q == x.from) (sym (same_arrival (record { from = p; number = k }) a is))) (tables_of s n D).came
    ∙ ap (λ (x : Option (Option Item)). cond (q == p) None x) (came_is s n p k D)
    ∙ spelt_none (q == p) (payload_at p k D)
came_is s n p k (_ ∷ D) = came_is s n p k D

found_spelt : (x : Option (List ℕ)) → found_item (option_map item_spelt x) ≡ option_and_then item_spelt x
found_spelt None = refl
found_spelt (Some bytes) = refl

-- item k from p
pub item_is : (s n p k : ℕ) (D : List Deed) → item_in p k (tables_of s n D).came ≡ item_at p k D
item_is s n p k D = ap found_item (came_is s n p k D) ∙ found_spelt (payload_at p k D)
