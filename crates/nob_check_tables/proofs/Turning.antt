-- The tables say what was asked of the owner of each reference and answered.
use Rattle.std.proofs.Common.{◌≡◌, ◌&&◌, ◌||◌, not, ℕ, Bool, true, false, cond, List, [], ◌∷◌, Option, Some, None, refl, sym, ap, subst, ◌∙◌}
use Rattle.std.specs.Prelude.{◌==◌}
use Rattle.std.specs.List.{list_any}
use Rattle.std.specs.Map.{lookup}
use Rattle.nob_ids.specs.Names.{is_same}
use Rattle.nob_ids.specs.declared.wire_rep.WireRep.{WireRep}
use Rattle.nob_item.specs.Kinds.{counted_in}
use Rattle.nob_item.specs.declared.item.Item.{Item}
use Rattle.nob_item.specs.declared.item.Item.TheVariants as items
use Rattle.nob_model_types.specs.Sessions.{closed, is_peer}
use Rattle.nob_model_types.specs.Turns.{no_turns, is_standing, wants_dirty, with_dirty, with_answer, with_clean, turns_after, turns}
use Rattle.nob_model_types.specs.declared.deed.Deed.{Deed}
use Rattle.nob_model_types.specs.declared.deed.Deed.TheVariants.{Act, Clean, Open}
use Rattle.nob_model_types.specs.declared.turns.OwnerAnswer.TheVariants as said
use Rattle.nob_model_types.specs.declared.turns.Turns.{Turns}
use Rattle.nob_model_history.proofs.Dirtying.{same_self}
use Rattle.nob_model_history.proofs.Turning.{same_ref}
use Rattle.nob_check_tables.specs.Closed.{is_among}
use Rattle.nob_check_tables.specs.Came.{item_in}
use Rattle.nob_check_tables.specs.Rows.{found_turns, turns_in, with_turns, wants_dirty_by, rows_with_dirty, rows_with_dirties, with_item}
use Rattle.nob_check_tables.specs.Tables.{tables_of}
use Rattle.nob_check_tables.specs.Laws.{TablesLaw}
use Rattle.nob_check_tables.proofs.Looking.{put_at, found_without}
use Rattle.nob_check_tables.proofs.Sessions.{number_is, closed_is, taken_is, item_is}

found_if : (b : Bool) (t : Turns) (x : Option Turns) → found_turns (cond b (Some t) x) ≡ cond b t (found_turns x)
found_if true t x = refl
found_if false t x = refl

-- the turns of a reference once those of one are changed
changed : (f : Turns → Turns) (r rep : WireRep) (rows : List (WireRep × Turns)) → turns_in r (with_turns rep (f (turns_in rep rows)) rows) ≡ cond (is_same r rep) (f (turns_in r rows)) (turns_in r rows)
changed f r rep rows =
    ap found_turns (put_at is_same same_ref same_self r rep (f (turns_in rep rows)) rows)
    ∙ found_if (is_same r rep) (f (turns_in rep rows)) (lookup (is_same r) rows)
    ∙ by (is_same r rep) refl
  where
    by : (b : Bool) → is_same r rep ≡ b → cond (is_same r rep) (f (turns_in rep rows)) (turns_in r rows) ≡ cond (is_same r rep) (f (turns_in r rows)) (turns_in r rows)
    by true here = ap (λ (x : WireRep). cond (is_same r rep) (f (turns_in x rows)) (turns_in r rows)) (sym (same_ref r rep here))
    by false other = ap (λ (b : Bool). cond b (f (turns_in rep rows)) (turns_in r rows)) other ∙ sym (ap (λ (b : Bool). cond b (f (turns_in r rows)) (turns_in r rows)) other)

-- ---- items

module _ (s n : ℕ) (peers : List ℕ) (D : List Deed) (same : (p : ℕ) → is_among p peers ≡ closed p D) where
  wants_is : (rep : WireRep) (t : Turns) → wants_dirty_by s n peers rep t ≡ wants_dirty s n rep D t
  wants_is rep t = ap (λ (b : Bool). is_peer s n rep.owner && not b && not (is_standing t)) (same rep.owner)

  -- the turns of a reference with these before, if it is asked for
  abbrev pub if_asked : WireRep → Bool → Turns → Turns
  if_asked r carried t = cond (carried && wants_dirty s n r D t) (with_dirty t) t

  asked_is : (r rep : WireRep) (rows : List (WireRep × Turns)) → turns_in r (rows_with_dirty s n peers rep rows) ≡ if_asked r (is_same r rep) (turns_in r rows)
  asked_is r rep rows = by (wants_dirty_by s n peers rep (turns_in rep rows)) (is_same r rep) refl refl
    where
      t : Turns
      t = turns_in r rows

      new : List (WireRep × Turns)
      new = with_turns rep (with_dirty (turns_in rep rows)) rows

      wants_same : is_same r rep ≡ true → wants_dirty s n r D t ≡ wants_dirty_by s n peers rep (turns_in rep rows)
      wants_same here = sym (wants_is r t) ∙ ap (λ (x : WireRep). wants_dirty_by s n peers x (turns_in x rows)) (same_ref r rep here)

      by : (w e : Bool) → wants_dirty_by s n peers rep (turns_in rep rows) ≡ w → is_same r rep ≡ e → turns_in r (rows_with_dirty s n peers rep rows) ≡ if_asked r (is_same r rep) t
      by true true wants here =
          ap (λ (b : Bool). turns_in r (cond b new rows)) wants ∙ changed with_dirty r rep rows
          ∙ ap (λ (b : Bool). cond b (with_dirty t) t) here
          ∙ sym ((λ i. cond (here i && wants_dirty s n r D t) (with_dirty t) t) ∙ ap (λ (b : Bool). cond b (with_dirty t) t) (wants_same here ∙ wants))
      by true false wants other =
          ap (λ (b : Bool). turns_in r (cond b new rows)) wants ∙ changed with_dirty r rep rows
          ∙ ap (λ (b : Bool). cond b (with_dirty t) t) other
          ∙ sym (ap (λ (b : Bool). if_asked r b t) other)
      by false true wants here =
          ap (λ (b : Bool). turns_in r (cond b new rows)) wants
          ∙ sym ((λ i. cond (here i && wants_dirty s n r D t) (with_dirty t) t) ∙ ap (λ (b : Bool). cond b (with_dirty t) t) (wants_same here ∙ wants))
      by false false wants other =
          ap (λ (b : Bool). turns_in r (cond b new rows)) wants
          ∙ sym (ap (λ (b : Bool). if_asked r b t) other)

  all_asked_is : (r : WireRep) (reps : List WireRep) (rows : List (WireRep × Turns)) → turns_in r (rows_with_dirties s n peers reps rows) ≡ if_asked r (list_any (is_same r) reps) (turns_in r rows)
  all_asked_is r [] rows = refl
  all_asked_is r (rep ∷ reps) rows = by (all_asked_is r reps rows) (list_any (is_same rep) reps) (is_same r rep) refl refl
    where
      t : Turns
      t = turns_in r rows

      before : List (WireRep × Turns)
      before = rows_with_dirties s n peers reps rows

      by : turns_in r before ≡ if_asked r (list_any (is_same r) reps) t → (a e : Bool) → list_any (is_same rep) reps ≡ a → is_same r rep ≡ e → turns_in r (rows_with_dirties s n peers (rep ∷ reps) rows) ≡ if_asked r (is_same r rep || list_any (is_same r) reps) t
      by rest true true there here =
          ap (λ (b : Bool). turns_in r (cond b before (rows_with_dirty s n peers rep before))) there
          ∙ rest
          ∙ ap (λ (b : Bool). if_asked r b t) (subst (λ (x : WireRep). list_any (is_same x) reps ≡ true) (sym (same_ref r rep here)) there)
          ∙ sym (ap (λ (b : Bool). if_asked r (b || list_any (is_same r) reps) t) here)
      by rest true false there other =
          ap (λ (b : Bool). turns_in r (cond b before (rows_with_dirty s n peers rep before))) there
          ∙ rest
          ∙ sym (ap (λ (b : Bool). if_asked r (b || list_any (is_same r) reps) t) other)
      by rest false true none here =
          let first : turns_in r before ≡ t = rest ∙ ap (λ (b : Bool). if_asked r b t) (subst (λ (x : WireRep). list_any (is_same x) reps ≡ false) (sym (same_ref r rep here)) none) in
          ap (λ (b : Bool). turns_in r (cond b before (rows_with_dirty s n peers rep before))) none
          ∙ asked_is r rep before
          ∙ (λ i. if_asked r (here i) (first i))
          ∙ sym (ap (λ (b : Bool). if_asked r (b || list_any (is_same r) reps) t) here)
      by rest false false none other =
          ap (λ (b : Bool). turns_in r (cond b before (rows_with_dirty s n peers rep before))) none
          ∙ asked_is r rep before
          ∙ ap (λ (b : Bool). if_asked r b (turns_in r before)) other
          ∙ rest
          ∙ sym (ap (λ (b : Bool). if_asked r (b || list_any (is_same r) reps) t) other)

  item_turns : (p : ℕ) (r : WireRep) (item : Option Item) (rows : List (WireRep × Turns)) → turns_in r (with_item s n p item peers rows) ≡ turns_after s n p r item D (turns_in r rows)
  item_turns p r None rows = refl
  item_turns p r (Some (items.Call call target method value)) rows = all_asked_is r (counted_in (items.Call call target method value)) rows
  item_turns p r (Some (items.Reply call status value)) rows = all_asked_is r (counted_in (items.Reply call status value)) rows
  item_turns p r (Some (items.Settle item)) rows = refl
  item_turns p r (Some (items.Dirty index)) rows = refl
  item_turns p r (Some (items.DirtyOk index)) rows = changed (with_answer said.Granted) r (record { owner = p; index = index }) rows
  item_turns p r (Some (items.DirtyNo index)) rows = changed (with_answer said.Refused) r (record { owner = p; index = index }) rows
  item_turns p r (Some (items.Clean index)) rows = refl

-- the tables are of the space
here_is : (s n : ℕ) (D : List Deed) → (tables_of s n D).here ≡ record { space = s; n = n }
here_is s n [] = refl
here_is s n (deed ∷ D) = here_is s n D

-- the turns of a reference
pub turns_are : (s n : ℕ) (r : WireRep) (D : List Deed) → turns_in r (tables_of s n D).rows ≡ turns s n r D
turns_are s n r [] = refl
turns_are s n r (Act p k ∷ D) =
    (λ i. turns_in r (with_item (here_is s n D i).space (here_is s n D i).n p (item_in p k (tables_of s n D).came) (tables_of s n D).closed (tables_of s n D).rows))
    ∙ item_turns s n (tables_of s n D).closed D (λ q. closed_is s n q D) p r (item_in p k (tables_of s n D).came) (tables_of s n D).rows
    ∙ (λ i. turns_after s n p r (item_is s n p k D i) D (turns_are s n r D i))
turns_are s n r (Clean rep ∷ D) =
    changed with_clean r rep (tables_of s n D).rows
    ∙ ap (λ (t : Turns). cond (is_same r rep) (with_clean t) t) (turns_are s n r D)
turns_are s n r (Open q k ∷ D) =
    ap found_turns (found_without (is_same r) (λ (rep : WireRep). q == rep.owner) (q == r.owner) (λ rep is. ap (λ (x : WireRep). q == x.owner) (sym (same_ref r rep is))) (tables_of s n D).rows)
    ∙ by (q == r.owner)
    ∙ ap (λ (t : Turns). cond (q == r.owner) no_turns t) (turns_are s n r D)
  where
    by : (b : Bool) → found_turns (cond b None (lookup (is_same r) (tables_of s n D).rows)) ≡ cond b no_turns (turns_in r (tables_of s n D).rows)
    by true = refl
    by false = refl
turns_are s n r (_ ∷ D) = turns_are s n r D

-- the tables say what was done
pub tables_law : TablesLaw
tables_law s n D = record { numbered = λ p. number_is s n p D; closes = λ p. closed_is s n p D; taken = λ p. taken_is s n p D; came = λ p k. item_is s n p k D; asked = λ rep. turns_are s n rep D }
