-- What a table shows doesn't depend on what it keeps from outside, but that each of those references is used there.
use Rattle.std.proofs.Common.{◌≡◌, ℕ, ◌+◌, true, false, [], if◌then◌else◌, None, refl, sym, ap, subst, ◌∙◌, flat_map, List, Bool, ◌==◌}
use Rattle.nob_ids.specs.declared.wire_rep.WireRep.{WireRep}
use Rattle.nob_table_rows.specs.declared.standing.Standing.{Standing}
use Rattle.nob_table_rows.specs.Counts.{is_held}
use Rattle.nob_rows.specs.Rows.{row_at}
use Rattle.nob_table_rows.specs.Objects.{is_marked}
use Rattle.nob_table_rows.specs.Order.{place_in}
use Rattle.nob_table_rows.specs.Standings.{is_live, is_surrogate}
use Rattle.nob_table.specs.Table.{Table, stands, standing, is_kept, Unchanged}
use Rattle.nob_model_types.specs.Sessions.{closed}
use Rattle.nob_model_types.specs.Turns.{turns}
use Rattle.nob_model_history.specs.declared.history.History.{History}
use Rattle.nob_model_history.specs.declared.transit.SentItem.{SentItem}
use Rattle.nob_model_history.specs.Holds.{times}
use Rattle.nob_model_history.specs.Listing.{is_listed}
use Rattle.nob_item.specs.Kinds.{counted_in}
use Rattle.nob_model_history.specs.Transit as transit
use Rattle.nob_model.specs.Right.{own_ref}
use Rattle.nob_space_state.specs.Shows.{TableShows, AreUsed, behind, far_state}

-- the table without a mark
abbrev pub unmarked : Table → Table
unmarked t = record {
  me = t.me;
  exported = t.exported;
  dirties = t.dirties;
  objects = t.objects;
  kept = [];
  kept_surrogates = [];
  counted = t.counted;
  surrogates = t.surrogates;
  export_room = t.export_room;
  surrogate_room = t.surrogate_room;
}

-- keeps nothing from outside
pub none_kept : (t : Table) (rep : WireRep) → is_kept (unmarked t) rep ≡ true → ⊥
none_kept t rep kept = elim (rep.owner == t.me) as (λ b. is_marked (if b then row_at none rep else row_at none rep) ≡ true → ⊥) [ true ↦ λ e. absurd (let bad : false ≡ true = e in cc) | false ↦ λ e. absurd (let bad : false ≡ true = e in cc) ] kept
  where
    none : List (WireRep × Bool)
    none = []

-- a table has its own items
pub unchanged : (t : Table) → Unchanged t t
unchanged t = record { me = refl; exported = refl; objects = refl; counted = refl; surrogates = refl; dirties = refl }

-- tables with the same items have the same standings
pub same_standing : {t u : Table} → Unchanged t u → (rep : WireRep) → standing u rep ≡ standing t rep
same_standing same rep = λ i. stands (same.me i) (same.exported i) (same.objects i) (same.counted i) (same.surrogates i) rep

module _ {s n : ℕ} {t : Table} {h : History} {H L : WireRep → ℕ} where
  -- the table without a mark shows what the table does
  pub shows_unmarked : TableShows s n t h H L → TableShows s n (unmarked t) h H L
  shows_unmarked shows = record {
    me = shows.me;
    exported = shows.exported;
    live = shows.live;
    far = shows.far;
    hands = shows.hands;
    loans = shows.loans;
    passed = shows.passed;
    dirties = shows.dirties;
    places = shows.places;
    kept = λ rep kept none. absurd (none_kept t rep kept);
  }

  -- and so does the table with other marks, each of a reference that is used outside
  pub shows_marked : {u : Table} → Unchanged t u → AreUsed s u h → TableShows s n (unmarked t) h H L → TableShows s n u h H L
  shows_marked {u} same kept shows = record {
    me = same.me ∙ shows.me;
    exported = same.exported ∙ shows.exported;
    live = λ index. ap (λ (it : Standing). is_live it.state) (same_standing same (own_ref s index)) ∙ shows.live index;
    far = λ rep counted own. subst (λ (it : Standing). it.state ≡ far_state (closed rep.owner h.deeds) (is_held it.counts) (turns s n rep h.deeds)) (sym (same_standing same rep)) (shows.far rep counted own);
    hands = λ rep counted. ap (λ (it : Standing). it.counts.hand) (same_standing same rep) ∙ shows.hands rep counted;
    loans = λ rep counted. ap (λ (it : Standing). it.counts.lent) (same_standing same rep) ∙ shows.loans rep counted;
    passed = shows.passed;
    dirties = ap (λ k. shows.passed + k) same.dirties ∙ shows.dirties;
    places = λ rep. (λ i. behind shows.passed (place_in (same.surrogates i) rep)) ∙ shows.places rep ∙ ap (λ (it : Standing). if is_surrogate it.state then transit.place rep h else None) (sym (same_standing same rep));
    kept = kept;
  }

-- bundles that are the same pin the same
pub same_pins : (h h' : History) → transit.bundles h' ≡ transit.bundles h → (rep : WireRep) → transit.pins rep h ≡ transit.pins rep h'
same_pins h h' same rep = λ i. times rep (flat_map (λ (item : SentItem). counted_in item.item) (sym same i))

module _ (s : ℕ) (t u : Table) (h h' : History) where
  -- what is used is used where no more is kept, no pins are less, and the same clients are listed
  pub used_then : ((rep : WireRep) → is_kept u rep ≡ true → is_kept t rep ≡ true) → ((rep : WireRep) → transit.pins rep h' ≡ 0 → transit.pins rep h ≡ 0)
      → ((index client : ℕ) → is_listed s index client h'.deeds ≡ is_listed s index client h.deeds) → AreUsed s t h → AreUsed s u h'
  used_then marks pins listed used rep kept none = (let it = used rep (marks rep kept) (pins rep none) in (it.0, it.1, listed rep.index it.1 ∙ it.2))

  -- and so where the bundles are the same
  pub used_still : ((rep : WireRep) → is_kept u rep ≡ is_kept t rep) → transit.bundles h' ≡ transit.bundles h → ((index client : ℕ) → is_listed s index client h'.deeds ≡ is_listed s index client h.deeds) → AreUsed s t h → AreUsed s u h'
  used_still marks bundles listed used = used_then (λ rep kept. sym (marks rep) ∙ kept) (λ rep none. same_pins h h' bundles rep ∙ none) listed used
