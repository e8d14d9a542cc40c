-- The rows say which copies of a reference came.
use Rattle.std.proofs.Common.{◌≡◌, ◌&&◌, ◌||◌, ◌++◌, ℕ, Bool, true, false, cond, List, [], ◌∷◌, Option, Some, None, refl, sym, ap, subst, ◌∙◌}
use Rattle.std.specs.Prelude.{◌==◌, reverse}
use Rattle.std.specs.List.{list_any}
use Rattle.std.specs.Map.{lookup}
use Rattle.nob_ids.specs.Names.{is_same}
use Rattle.nob_ids.specs.declared.wire_rep.WireRep.{WireRep}
use Rattle.nob_item.specs.Kinds.{counted_in}
use Rattle.nob_item.specs.declared.item.Item.{Item}
use Rattle.nob_model_types.specs.declared.deed.Deed.{Deed}
use Rattle.nob_model_types.specs.declared.deed.Deed.TheVariants.{Act, Clean, Open}
use Rattle.nob_model_types.specs.Sessions.{number, item_at}
use Rattle.nob_model_types.specs.Turns.{turns}
use Rattle.nob_model_history.proofs.Dirtying.{same_self}
use Rattle.nob_model_journal.specs.Losses.{is_carried, sources}
use Rattle.nob_model_journal.specs.declared.losses.Source.{Source}
use Rattle.nob_check_tables.specs.Came.{item_in}
use Rattle.nob_check_tables.specs.Numbers.{number_in}
use Rattle.nob_check_tables.specs.Rows.{turns_in}
use Rattle.nob_check_tables.specs.Tables.{tables_of}
use Rattle.nob_check_tables.proofs.Looking.{put_at, put_twice, found_without}
use Rattle.nob_check_tables.proofs.Sessions.{number_is, item_is}
use Rattle.nob_check_tables.proofs.Turning.{turns_are}
use Rattle.nob_check_index.specs.Sources.{found_sources, sources_in, with_sources, with_source, with_copies, with_item, sources_with_clean, sources_of}
use Rattle.nob_check_index.proofs.Keys.{same_rep}
use Rattle.nob_check_index.proofs.Turned.{turned}

-- ---- rows

found_if : (b : Bool) (copies : List Source) (x : Option (List Source)) → found_sources (cond b (Some copies) x) ≡ cond b copies (found_sources x)
found_if true copies x = refl
found_if false copies x = refl

-- the copies of a reference once those of one are put in
sources_put : (r rep : WireRep) (copies : List Source) (rows : List (WireRep × List Source)) → sources_in r (with_sources rep copies rows) ≡ cond (is_same r rep) copies (sources_in r rows)
sources_put r rep copies rows =
    ap found_sources (put_at is_same same_rep same_self r rep copies rows)
    ∙ found_if (is_same r rep) copies (lookup (is_same r) rows)

-- the copies of a reference put in where it had none
pub row_put : (rep : WireRep) (copies : List Source) (rows : List (WireRep × List Source)) → with_sources rep copies (with_sources rep [] rows) ≡ with_sources rep copies rows
row_put rep copies rows = put_twice is_same same_self rep [] copies rows

-- the copies of a reference with one more, if it came
abbrev pub if_came : Source → Bool → List Source → List Source
if_came source came copies = cond came (copies ++ source ∷ []) copies

one_copy : (source : Source) (r rep : WireRep) (rows : List (WireRep × List Source)) → sources_in r (with_source source rep rows) ≡ if_came source (is_same r rep) (sources_in r rows)
one_copy source r rep rows = sources_put r rep (sources_in rep rows ++ source ∷ []) rows ∙ by (is_same r rep) refl
  where
    by : (b : Bool) → is_same r rep ≡ b → cond (is_same r rep) (sources_in rep rows ++ source ∷ []) (sources_in r rows) ≡ if_came source (is_same r rep) (sources_in r rows)
    by true here = ap (λ (x : WireRep). cond (is_same r rep) (sources_in x rows ++ source ∷ []) (sources_in r rows)) (sym (same_rep r rep here))
    by false other = ap (λ (b : Bool). cond b (sources_in rep rows ++ source ∷ []) (sources_in r rows)) other ∙ sym (ap (λ (b : Bool). if_came source b (sources_in r rows)) other)

copies : (source : Source) (r : WireRep) (reps : List WireRep) (rows : List (WireRep × List Source)) → sources_in r (with_copies source reps rows) ≡ if_came source (list_any (is_same r) reps) (sources_in r rows)
copies source r [] rows = refl
copies source r (rep ∷ reps) rows = by (copies source r reps rows) (list_any (is_same rep) reps) (is_same r rep) refl refl
  where
    came : List Source
    came = sources_in r rows

    before : List (WireRep × List Source)
    before = with_copies source reps rows

    by : sources_in r before ≡ if_came source (list_any (is_same r) reps) came → (a e : Bool) → list_any (is_same rep) reps ≡ a → is_same r rep ≡ e → sources_in r (with_copies source (rep ∷ reps) rows) ≡ if_came source (is_same r rep || list_any (is_same r) reps) came
    by rest true true there here =
        ap (λ (b : Bool). sources_in r (cond b before (with_source source rep before))) there
        ∙ rest
        ∙ ap (λ (b : Bool). if_came source b came) (subst (λ (x : WireRep). list_any (is_same x) reps ≡ true) (sym (same_rep r rep here)) there)
        ∙ sym (ap (λ (b : Bool). if_came source (b || list_any (is_same r) reps) came) here)
    by rest true false there other =
        ap (λ (b : Bool). sources_in r (cond b before (with_source source rep before))) there
        ∙ rest
        ∙ sym (ap (λ (b : Bool). if_came source (b || list_any (is_same r) reps) came) other)
    by rest false true none here =
        let first : sources_in r before ≡ came = rest ∙ ap (λ (b : Bool). if_came source b came) (subst (λ (x : WireRep). list_any (is_same x) reps ≡ false) (sym (same_rep r rep here)) none) in
        ap (λ (b : Bool). sources_in r (cond b before (with_source source rep before))) none
        ∙ one_copy source r rep before
        ∙ (λ i. if_came source (here i) (first i))
        ∙ sym (ap (λ (b : Bool). if_came source (b || list_any (is_same r) reps) came) here)
    by rest false false none other =
        ap (λ (b : Bool). sources_in r (cond b before (with_source source rep before))) none
        ∙ one_copy source r rep before
        ∙ ap (λ (b : Bool). if_came source b (sources_in r before)) other
        ∙ rest
        ∙ sym (ap (λ (b : Bool). if_came source (b || list_any (is_same r) reps) came) other)

item_copies : (source : Source) (r : WireRep) (item : Option Item) (rows : List (WireRep × List Source)) → sources_in r (with_item source item rows) ≡ if_came source (is_carried r item) (sources_in r rows)
item_copies source r None rows = refl
item_copies source r (Some item) rows = copies source r (counted_in item) rows

given_up : (r rep : WireRep) (asks : Bool) (rows : List (WireRep × List Source)) → sources_in r (sources_with_clean rep asks rows) ≡ cond (is_same r rep && asks) [] (sources_in r rows)
given_up r rep false rows = by (is_same r rep)
  where
    by : (b : Bool) → sources_in r rows ≡ cond (b && false) [] (sources_in r rows)
    by true = refl
    by false = refl
given_up r rep true rows = sources_put r rep [] rows ∙ by (is_same r rep)
  where
    by : (b : Bool) → cond b [] (sources_in r rows) ≡ cond (b && true) [] (sources_in r rows)
    by true = refl
    by false = refl

carried_last : (source : Source) (b : Bool) (came : List Source) → if_came source b (reverse came) ≡ reverse (cond b (source ∷ came) came)
carried_last source true came = sym (turned source came)
carried_last source false came = refl

none_turned : (b : Bool) (came : List Source) → cond b [] (reverse came) ≡ reverse (cond b [] came)
none_turned true came = refl
none_turned false came = refl

-- the turns of the reference that is given up
asks_of : (s n : ℕ) (r rep : WireRep) (D : List Deed) → (is_same r rep && (turns_in rep (tables_of s n D).rows).asks) ≡ (is_same r rep && (turns s n r D).asks)
asks_of s n r rep D = by (is_same r rep) refl
  where
    by : (b : Bool) → is_same r rep ≡ b → (b && (turns_in rep (tables_of s n D).rows).asks) ≡ (b && (turns s n r D).asks)
    by true here = ap (λ (x : WireRep). (turns_in x (tables_of s n D).rows).asks) (sym (same_rep r rep here)) ∙ (λ i. (turns_are s n r D i).asks)
    by false other = refl

-- where a copy comes from, by the session of that number
abbrev came_in : (p k session : ℕ) → Source
came_in p k session = record { from = p; session = session; number = k }

-- which copies of a reference came
pub sources_are : (s n : ℕ) (r : WireRep) (D : List Deed) → sources_in r (sources_of s n D) ≡ reverse (sources s n r D)
sources_are s n r [] = refl
sources_are s n r (Act p k ∷ D) =
    item_copies (came_in p k (number_in p (tables_of s n D).numbers)) r (item_in p k (tables_of s n D).came) (sources_of s n D)
    ∙ (λ i. if_came (came_in p k (number_is s n p D i)) (is_carried r (item_is s n p k D i)) (sources_are s n r D i))
    ∙ carried_last (came_in p k (number p D)) (is_carried r (item_at p k D)) (sources s n r D)
sources_are s n r (Clean rep ∷ D) =
    given_up r rep (turns_in rep (tables_of s n D).rows).asks (sources_of s n D)
    ∙ (λ i. cond (asks_of s n r rep D i) [] (sources_are s n r D i))
    ∙ none_turned (is_same r rep && (turns s n r D).asks) (sources s n r D)
sources_are s n r (Open q k ∷ D) =
    ap found_sources (found_without (is_same r) (λ (rep : WireRep). q == rep.owner) (q == r.owner) (λ rep is. ap (λ (x : WireRep). q == x.owner) (sym (same_rep r rep is))) (sources_of s n D))
    ∙ by (q == r.owner)
    ∙ ap (λ (came : List Source). cond (q == r.owner) [] came) (sources_are s n r D)
    ∙ none_turned (q == r.owner) (sources s n r D)
  where
    by : (b : Bool) → found_sources (cond b None (lookup (is_same r) (sources_of s n D))) ≡ cond b [] (sources_in r (sources_of s n D))
    by true = refl
    by false = refl
sources_are s n r (_ ∷ D) = sources_are s n r D
