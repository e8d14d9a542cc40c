-- The elements of a list that were read so far, and those that are left.
use Rattle.std.specs.Prelude.{ℤ, ◌<◌, ◌==◌, IsErrAnd, Bool, true, false}
use Rattle.std.specs.Int.{w64}
use Rattle.std.specs.Int.RustNames.{FitsSigned}
use Rattle.std.specs.Fmt.{signed_decimal}
use Rattle.hex.specs.Hex.{encode_lower, IsBytes}
use Rattle.nob_ids.specs.Names.{IsSpace}
use Rattle.nob_ids.specs.declared.wire_rep.WireRep.{WireRep}
use Rattle.std.proofs.Common.{◌^◌, Result, Ok, Err, ◌≡◌, ℕ, ◌+◌, ◌≤◌, List, [], ◌∷◌, ◌++◌, length, refl, sym, ap, ◌∙◌, append_assoc, arith, subst}
use Rattle.nob_pickle.specs.Trees.{Tree, unit, int, bytes, list, ref, Trees, none, more}
use Rattle.nob_pickle.specs.Marks.{append_trees, joined-none}
use Rattle.nob_pickle.specs.Shape.{tree, forest}
use Rattle.nob_pickle.specs.declared.value.Value.{Value}
use Rattle.nob_pickle.proofs.Forests.{forest-append, joined_assoc}
use Rattle.nob_model_text.specs.Fronts.{Stops}
use Rattle.nob_model_text.specs.Values.{tree_text, inside_text, behind_text, rep_text, nested, most_nested, IsTyped, AreTyped}
use Rattle.nob_model_text.specs.Reading.{Reads}
use Rattle.nob_model_text.specs.declared.unread.Unread.{Unread}
use Rattle.nob_model_text.specs.declared.unread.Unread.TheVariants.{NoText, OutOfMemory}

nothing : (b : ℕ) (ys : List ℕ) → [] ≡ b ∷ ys → ⊥
nothing b ys e = cc

head_is : (a b : ℕ) (xs ys : List ℕ) → a ∷ xs ≡ b ∷ ys → a ≡ b
head_is a b xs ys e = cc

tail_is : (a b : ℕ) (xs ys : List ℕ) → a ∷ xs ≡ b ∷ ys → xs ≡ ys
tail_is a b xs ys e = cc

apart : (a b : ℕ) (xs ys : List ℕ) → a ∷ xs ≡ b ∷ ys → (a ≡ b → ⊥) → ⊥
apart a b xs ys e differ = differ (head_is a b xs ys e)

-- whatever the rest spells, the text spells what was read and that
abbrev pub FoundSoFar : List ℕ → Trees → List ℕ → Type 0
FoundSoFar text front left = (ts : Trees) (end : List ℕ) → left ≡ behind_text ts ++ end → text ≡ inside_text (append_trees front ts) ++ end

-- whatever the text spells, that is what was read and something that the rest spells
abbrev pub OnlySoFar : ℕ → List ℕ → Trees → List ℕ → Type 0
OnlySoFar lists text front left =
    (t : Tree) (ts : Trees) (end : List ℕ) → AreTyped (more t ts) → most_nested (more t ts) ≤ lists → text ≡ inside_text (more t ts) ++ end
    → (us : Trees) × (more t ts ≡ append_trees front us) × AreTyped us × (most_nested us ≤ lists) × (left ≡ behind_text us ++ end)

pub stops_behind : (ts : Trees) (end : List ℕ) → Stops (behind_text ts ++ end)
stops_behind none end = refl
stops_behind (more t ts) end = refl

joined_more : (front : Trees) (t : Tree) (ts : Trees) → append_trees (append_trees front (more t none)) ts ≡ append_trees front (more t ts)
joined_more front t ts = joined_assoc front (more t none) ts

pub found_first : (text left : List ℕ) (v : Value) → text ≡ tree_text (tree v) ++ left → FoundSoFar text (forest ([] ++ v ∷ [])) left
found_first text left v found ts end is =
    found ∙ ap (λ (bs : List ℕ). tree_text (tree v) ++ bs) is ∙ sym (append_assoc (tree_text (tree v)) (behind_text ts) end)

pub found_next : (text left next after : List ℕ) (vs : List Value) (v : Value) → left ≡ 44 ∷ next → next ≡ tree_text (tree v) ++ after → FoundSoFar text (forest vs) left → FoundSoFar text (forest (vs ++ v ∷ [])) after
found_next text left next after vs v comma found so_far ts end is =
    let whole : next ≡ (tree_text (tree v) ++ behind_text ts) ++ end =
    found ∙ ap (λ (bs : List ℕ). tree_text (tree v) ++ bs) is ∙ sym (append_assoc (tree_text (tree v)) (behind_text ts) end) in
    so_far (more (tree v) ts) end (comma ∙ ap (λ (bs : List ℕ). 44 ∷ bs) whole)
    ∙ ap (λ (us : Trees). inside_text us ++ end) (sym (ap (λ (us : Trees). append_trees us ts) (forest-append vs (v ∷ [])) ∙ joined_more (forest vs) (tree v) ts))

-- how a value is read
abbrev pub IsRead : ℕ → List ℕ → Value → List ℕ → Type 0
IsRead lists text v left = (t : Tree) (rest : List ℕ) → IsTyped t → nested t ≤ lists → Stops rest → text ≡ tree_text t ++ rest → (tree v ≡ t) × (left ≡ rest)

pub only_first : (lists : ℕ) (text left : List ℕ) (v : Value) → IsRead lists text v left → OnlySoFar lists text (forest ([] ++ v ∷ [])) left
only_first lists text left v read t ts end typed deep spelt =
    let r = read t (behind_text ts ++ end) typed.0 (omega (arith, deep)) (stops_behind ts end) (spelt ∙ append_assoc (tree_text t) (behind_text ts) end) in
    (ts, ap (λ (u : Tree). more u ts) (sym r.0), typed.1, omega (arith, deep), r.1)

abbrev Left : ℕ → Trees → Trees → List ℕ → List ℕ → Type 0
Left lists all front left end = (us : Trees) × (all ≡ append_trees front us) × AreTyped us × (most_nested us ≤ lists) × (left ≡ behind_text us ++ end)

-- the first of those that are left, which is behind a comma
next_of : (lists : ℕ) (all front : Trees) (left next end : List ℕ) → left ≡ 44 ∷ next → Left lists all front left end
    → (u : Tree) × (us : Trees) × (all ≡ append_trees front (more u us)) × AreTyped (more u us) × (most_nested (more u us) ≤ lists) × (next ≡ tree_text u ++ (behind_text us ++ end))
next_of lists all front left next end comma (none, same, typed, deep, is) = absurd (apart 44 93 next end (sym comma ∙ is) (λ e. omega (arith, e)))
next_of lists all front left next end comma (more u us, same, typed, deep, is) =
    (u, us, same, typed, deep, tail_is 44 44 next _ (sym comma ∙ is) ∙ append_assoc (tree_text u) (behind_text us) end)

pub only_next : (lists : ℕ) (text left next after : List ℕ) (vs : List Value) (v : Value) → left ≡ 44 ∷ next → IsRead lists next v after → OnlySoFar lists text (forest vs) left → OnlySoFar lists text (forest (vs ++ v ∷ [])) after
only_next lists text left next after vs v comma read so_far t ts end typed deep spelt =
    let n = next_of lists (more t ts) (forest vs) left next end comma (so_far t ts end typed deep spelt) in
    let r = read n.0 (behind_text n.1 ++ end) n.3.0 (omega (arith, n.4)) (stops_behind n.1 end) n.5 in
    let same : append_trees (forest (vs ++ v ∷ [])) n.1 ≡ append_trees (forest vs) (more n.0 n.1) =
    ap (λ (us : Trees). append_trees us n.1) (forest-append vs (v ∷ [])) ∙ joined_more (forest vs) (tree v) n.1 ∙ ap (λ (u : Tree). append_trees (forest vs) (more u n.1)) r.0 in
    (n.1, n.2 ∙ sym same, n.3.1, omega (arith, n.4), r.1)

-- ---- where nothing is read

-- how a value that isn't read is none
abbrev pub IsUnread : ℕ → List ℕ → Unread → Type 0
IsUnread lists text e = (t : Tree) (rest : List ℕ) → IsTyped t → nested t ≤ lists → Stops rest → text ≡ tree_text t ++ rest → e ≡ OutOfMemory

-- what isn't read is unread for want of memory
pub by_error : (e : Unread) → Reads (λ (x : Unit {0}). Unit {0}) (Err e) → e ≡ OutOfMemory
by_error OutOfMemory reads = refl
by_error NoText reads = absurd reads

pub passed : {X : Type 0} (P : X → Type 0) (r : Result X Unread) (e : Unread) → IsErrAnd r (λ f. f ≡ e) → e ≡ OutOfMemory → Reads P r
passed P (Ok x) e is memory = absurd is
passed P (Err f) e is memory = subst (λ (g : Unread). Reads P (Err g)) (sym (is ∙ memory)) tt

pub unread_first : (lists : ℕ) (text : List ℕ) (e : Unread) → IsUnread lists text e → (t : Tree) (ts : Trees) (end : List ℕ) → AreTyped (more t ts) → most_nested (more t ts) ≤ lists → text ≡ inside_text (more t ts) ++ end → e ≡ OutOfMemory
unread_first lists text e unread t ts end typed deep spelt =
    unread t (behind_text ts ++ end) typed.0 (omega (arith, deep)) (stops_behind ts end) (spelt ∙ append_assoc (tree_text t) (behind_text ts) end)

pub unread_next : (lists : ℕ) (text left next : List ℕ) (front : Trees) (e : Unread) → left ≡ 44 ∷ next → IsUnread lists next e → OnlySoFar lists text front left
    → (t : Tree) (ts : Trees) (end : List ℕ) → AreTyped (more t ts) → most_nested (more t ts) ≤ lists → text ≡ inside_text (more t ts) ++ end → e ≡ OutOfMemory
unread_next lists text left next front e comma unread so_far t ts end typed deep spelt =
    let n = next_of lists (more t ts) front left next end comma (so_far t ts end typed deep spelt) in
    unread n.0 (behind_text n.1 ++ end) n.3.0 (omega (arith, n.4)) (stops_behind n.1 end) n.5

-- ---- the end of a list

not_left : (lists : ℕ) (all front : Trees) (left end : List ℕ) → ((rest : List ℕ) → left ≡ 44 ∷ rest → ⊥) → ((rest : List ℕ) → left ≡ 93 ∷ rest → ⊥) → Left lists all front left end → ⊥
not_left lists all front left end comma bracket (none, same, typed, deep, is) = bracket end is
not_left lists all front left end comma bracket (more u us, same, typed, deep, is) = comma ((tree_text u ++ behind_text us) ++ end) is

pub no_end : (lists : ℕ) (text left : List ℕ) (front : Trees) → ((rest : List ℕ) → left ≡ 44 ∷ rest → ⊥) → ((rest : List ℕ) → left ≡ 93 ∷ rest → ⊥) → OnlySoFar lists text front left
    → (t : Tree) (ts : Trees) (end : List ℕ) → AreTyped (more t ts) → most_nested (more t ts) ≤ lists → text ≡ inside_text (more t ts) ++ end → ⊥
no_end lists text left front comma bracket so_far t ts end typed deep spelt = not_left lists (more t ts) front left end comma bracket (so_far t ts end typed deep spelt)

end_of : (lists : ℕ) (all front : Trees) (left rest end : List ℕ) → left ≡ 93 ∷ rest → Left lists all front left end → (front ≡ all) × (rest ≡ end)
end_of lists all front left rest end is (none, same, typed, deep, spelt) = (sym (same ∙ joined-none front), tail_is 93 93 rest end (sym is ∙ spelt))
end_of lists all front left rest end is (more u us, same, typed, deep, spelt) = absurd (apart 93 44 rest _ (sym is ∙ spelt) (λ e. omega (arith, e)))

pub only_end : (lists : ℕ) (text left rest : List ℕ) (front : Trees) → left ≡ 93 ∷ rest → OnlySoFar lists text front left
    → (t : Tree) (ts : Trees) (end : List ℕ) → AreTyped (more t ts) → most_nested (more t ts) ≤ lists → text ≡ inside_text (more t ts) ++ end → (front ≡ more t ts) × (rest ≡ end)
only_end lists text left rest front is so_far t ts end typed deep spelt = end_of lists (more t ts) front left rest end is (so_far t ts end typed deep spelt)

pub found_end : (text left rest : List ℕ) (front : Trees) → left ≡ 93 ∷ rest → FoundSoFar text front left → text ≡ inside_text front ++ rest
found_end text left rest front is so_far = so_far none rest is ∙ ap (λ (us : Trees). inside_text us ++ rest) (joined-none front)

-- ---- by the first byte

pub by_unit : (P : Tree → Type 0) (t : Tree) (text rest : List ℕ) → 117 ∷ text ≡ tree_text t ++ rest → (text ≡ rest → P unit) → P t
by_unit P unit text rest spelt then = then (tail_is _ _ _ _ spelt)
by_unit P (int n) text rest spelt then = absurd (apart _ _ _ _ spelt (λ e. omega (arith, e)))
by_unit P (bytes bs) text rest spelt then = absurd (apart _ _ _ _ spelt (λ e. omega (arith, e)))
by_unit P (list ts) text rest spelt then = absurd (apart _ _ _ _ spelt (λ e. omega (arith, e)))
by_unit P (ref r) text rest spelt then = absurd (apart _ _ _ _ spelt (λ e. omega (arith, e)))

pub by_int : (P : Tree → Type 0) (t : Tree) (text rest : List ℕ) → IsTyped t → 105 ∷ text ≡ tree_text t ++ rest → ((n : ℤ) → FitsSigned w64 n → text ≡ signed_decimal n ++ rest → P (int n)) → P t
by_int P unit text rest typed spelt then = absurd (apart _ _ _ _ spelt (λ e. omega (arith, e)))
by_int P (int n) text rest typed spelt then = then n typed (tail_is _ _ _ _ spelt)
by_int P (bytes bs) text rest typed spelt then = absurd (apart _ _ _ _ spelt (λ e. omega (arith, e)))
by_int P (list ts) text rest typed spelt then = absurd (apart _ _ _ _ spelt (λ e. omega (arith, e)))
by_int P (ref r) text rest typed spelt then = absurd (apart _ _ _ _ spelt (λ e. omega (arith, e)))

pub by_bytes : (P : Tree → Type 0) (t : Tree) (text rest : List ℕ) → IsTyped t → 98 ∷ text ≡ tree_text t ++ rest → ((bs : List ℕ) → IsBytes bs → text ≡ encode_lower bs ++ rest → P (bytes bs)) → P t
by_bytes P unit text rest typed spelt then = absurd (apart _ _ _ _ spelt (λ e. omega (arith, e)))
by_bytes P (int n) text rest typed spelt then = absurd (apart _ _ _ _ spelt (λ e. omega (arith, e)))
by_bytes P (bytes bs) text rest typed spelt then = then bs typed (tail_is _ _ _ _ spelt)
by_bytes P (list ts) text rest typed spelt then = absurd (apart _ _ _ _ spelt (λ e. omega (arith, e)))
by_bytes P (ref r) text rest typed spelt then = absurd (apart _ _ _ _ spelt (λ e. omega (arith, e)))

pub by_rep : (P : Tree → Type 0) (t : Tree) (text rest : List ℕ) → IsTyped t → 114 ∷ text ≡ tree_text t ++ rest → ((r : WireRep) → IsSpace r.owner → r.index < 2 ^ 64 → text ≡ rep_text r ++ rest → P (ref r)) → P t
by_rep P unit text rest typed spelt then = absurd (apart _ _ _ _ spelt (λ e. omega (arith, e)))
by_rep P (int n) text rest typed spelt then = absurd (apart _ _ _ _ spelt (λ e. omega (arith, e)))
by_rep P (bytes bs) text rest typed spelt then = absurd (apart _ _ _ _ spelt (λ e. omega (arith, e)))
by_rep P (list ts) text rest typed spelt then = absurd (apart _ _ _ _ spelt (λ e. omega (arith, e)))
by_rep P (ref r) text rest typed spelt then = then r typed.0 typed.1 (tail_is _ _ _ _ spelt)

pub by_list : (P : Tree → Type 0) (t : Tree) (lists : ℕ) (text rest : List ℕ) → IsTyped t → nested t ≤ lists → 91 ∷ text ≡ tree_text t ++ rest → ((ts : Trees) → AreTyped ts → most_nested ts < lists → text ≡ inside_text ts ++ rest → P (list ts)) → P t
by_list P unit lists text rest typed deep spelt then = absurd (apart _ _ _ _ spelt (λ e. omega (arith, e)))
by_list P (int n) lists text rest typed deep spelt then = absurd (apart _ _ _ _ spelt (λ e. omega (arith, e)))
by_list P (bytes bs) lists text rest typed deep spelt then = absurd (apart _ _ _ _ spelt (λ e. omega (arith, e)))
by_list P (list ts) lists text rest typed deep spelt then = then ts typed (omega (arith, deep)) (tail_is _ _ _ _ spelt)
by_list P (ref r) lists text rest typed deep spelt then = absurd (apart _ _ _ _ spelt (λ e. omega (arith, e)))

pub by_none : (t : Tree) (first : ℕ) (text rest : List ℕ) → first ∷ text ≡ tree_text t ++ rest → (first ≡ 117 → ⊥) → (first ≡ 105 → ⊥) → (first ≡ 98 → ⊥) → (first ≡ 114 → ⊥) → (first ≡ 91 → ⊥) → ⊥
by_none unit first text rest spelt u i b r l = u (head_is _ _ _ _ spelt)
by_none (int n) first text rest spelt u i b r l = i (head_is _ _ _ _ spelt)
by_none (bytes bs) first text rest spelt u i b r l = b (head_is _ _ _ _ spelt)
by_none (list ts) first text rest spelt u i b r l = l (head_is _ _ _ _ spelt)
by_none (ref r) first text rest spelt u i b r' l = r' (head_is _ _ _ _ spelt)

-- a text that is a value's is not empty
pub some_text : (t : Tree) (rest : List ℕ) → [] ≡ tree_text t ++ rest → ⊥
some_text unit rest e = nothing _ _ e
some_text (int n) rest e = nothing _ _ e
some_text (bytes bs) rest e = nothing _ _ e
some_text (list ts) rest e = nothing _ _ e
some_text (ref r) rest e = nothing _ _ e

-- ---- the elements of a list

pub by_end : (ts : Trees) (text rest end : List ℕ) → text ≡ 93 ∷ rest → text ≡ inside_text ts ++ end → (ts ≡ none) × (rest ≡ end)
by_end none text rest end is spelt = (refl, tail_is 93 93 rest end (sym is ∙ spelt))
by_end (more unit ts) text rest end is spelt = absurd (apart 93 117 rest _ (sym is ∙ spelt) (λ e. omega (arith, e)))
by_end (more (int n) ts) text rest end is spelt = absurd (apart 93 105 rest _ (sym is ∙ spelt) (λ e. omega (arith, e)))
by_end (more (bytes bs) ts) text rest end is spelt = absurd (apart 93 98 rest _ (sym is ∙ spelt) (λ e. omega (arith, e)))
by_end (more (list us) ts) text rest end is spelt = absurd (apart 93 91 rest _ (sym is ∙ spelt) (λ e. omega (arith, e)))
by_end (more (ref r) ts) text rest end is spelt = absurd (apart 93 114 rest _ (sym is ∙ spelt) (λ e. omega (arith, e)))

pub by_elements : (P : Trees → Type 0) (ts : Trees) (text end : List ℕ) → ((rest : List ℕ) → text ≡ 93 ∷ rest → ⊥) → text ≡ inside_text ts ++ end
    → ((t : Tree) (us : Trees) → ts ≡ more t us → P (more t us)) → P ts
by_elements P none text end bracket spelt then = absurd (bracket end spelt)
by_elements P (more t us) text end bracket spelt then = then t us refl

-- ---- how deep the elements are

pub deep_more : (lists : ℕ) (vs : List Value) (v : Value) → most_nested (forest vs) ≤ lists → nested (tree v) ≤ lists → most_nested (forest (vs ++ v ∷ [])) ≤ lists
deep_more lists [] v all one = omega (arith, one)
deep_more lists (w ∷ vs) v all one = omega (arith, all, deep_more lists vs v (omega (arith, all)) one)

-- ---- their numbers

pub typed_more : (vs : List Value) (v : Value) → AreTyped (forest vs) → IsTyped (tree v) → AreTyped (forest (vs ++ v ∷ []))
typed_more [] v all one = (one, tt)
typed_more (w ∷ vs) v all one = (all.0, typed_more vs v all.1 one)

-- ---- the whole text

pub not_empty : (rest : List ℕ) (b : Bool) → rest ≡ [] → b ≡ (length rest == 0) → b ≡ false → ⊥
not_empty rest b no_rest is test = let empty : (length rest == 0) ≡ true = ap (λ (bs : List ℕ). length bs == 0) no_rest in cc
