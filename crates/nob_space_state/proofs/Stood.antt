-- A state that stands for a list stands for it with a quiet deed more, once its table does.
use Rattle.std.proofs.Common.{◌≡◌, ℕ, ◌+◌, true, List, ◌∷◌, length, map, if◌then◌else◌, None, refl, sym, ap, subst, ◌∙◌}
use Rattle.std.specs.List.{sum_by}
use Rattle.nob_ids.specs.Names.{is_counted}
use Rattle.nob_ids.specs.declared.limits.Limits.{Limits}
use Rattle.nob_ids.specs.declared.wire_rep.WireRep.{WireRep}
use Rattle.nob_session.specs.Onward.{StandsOnward}
use Rattle.nob_table_rows.specs.Counts.{is_held}
use Rattle.nob_table_rows.specs.Standings as standings
use Rattle.nob_table.specs.Table.{Table, standing}
use Rattle.nob_model_types.specs.declared.deed.Deed.{Deed}
use Rattle.nob_model_types.specs.Objects as objects
use Rattle.nob_model_types.specs.Turns.{turns}
use Rattle.nob_model_types.specs.Sessions.{closed}
use Rattle.nob_model_history.specs.Histories.{history_of}
use Rattle.nob_model_history.specs.Transit as transit
use Rattle.nob_model.specs.Lists.{IsRightDeed}
use Rattle.nob_space_state.specs.Parts.{State, with_table}
use Rattle.nob_space_state.specs.Shows.{TableShows, TableStands, far_state}
use Rattle.nob_space_state.specs.Stands.{Stands, bundle}
use Rattle.nob_space_state.proofs.Awaited.{same_lost, still_awaited}
use Rattle.nob_space_state.proofs.Quiet.{IsQuiet}
use Rattle.nob_space_state.proofs.Marked.{used_still}

module _ {s n : ℕ} {deed : Deed} {D : List Deed} (quiet : IsQuiet s n deed D) where
  -- what a table shows of a history it shows of one with a quiet deed more that changes no object
  pub shows_quiet : {t : Table} {H L : WireRep → ℕ} (H' L' : WireRep → ℕ) → TableShows s n t (history_of s n D) H L
      → objects.exports (deed ∷ D) ≡ objects.exports D → ((index : ℕ) → objects.is_live s index (deed ∷ D) ≡ objects.is_live s index D)
      → ((rep : WireRep) → is_counted rep ≡ true → H rep ≡ H' rep) → ((rep : WireRep) → is_counted rep ≡ true → L rep ≡ L' rep)
      → TableShows s n t (history_of s n (deed ∷ D)) H' L'
  shows_quiet {t} H' L' shows exports live hands loans = record {
    me = shows.me;
    exported = shows.exported ∙ ap length (sym exports);
    live = λ index. shows.live index ∙ sym (live index);
    far = λ rep counted own. shows.far rep counted own
        ∙ ap (λ b. far_state b (is_held (standing t rep).counts) (turns s n rep D)) (sym (quiet.closed rep.owner))
        ∙ ap (λ w. far_state (closed rep.owner (deed ∷ D)) (is_held (standing t rep).counts) w) (sym (quiet.turns rep));
    hands = λ rep counted. shows.hands rep counted ∙ hands rep counted;
    loans = λ rep counted. shows.loans rep counted ∙ loans rep counted;
    passed = shows.passed;
    dirties = shows.dirties ∙ ap length (sym quiet.dirties);
    places = λ rep. shows.places rep ∙ ap (λ reps. if standings.is_surrogate (standing t rep).state then transit.last_place rep reps else None) (sym quiet.dirties);
    kept = used_still s t t (history_of s n D) (history_of s n (deed ∷ D)) (λ rep. refl) quiet.bundles quiet.listed shows.kept;
  }

  -- a state with another table
  pub stands_quiet : {limits : Limits} {st : State} (t : Table) → Stands s n limits st D → TableStands s n t (history_of s n (deed ∷ D)) → IsRightDeed s n limits deed D → Stands s n limits (with_table t st) (deed ∷ D)
  stands_quiet {limits} {st} t stands table its = record {
    ends = record {
      each = stands.ends.each;
      ends = λ place end there. subst (λ calls. StandsOnward s (place + 1) limits end.end calls) (sym (quiet.calls (place + 1))) (stands.ends.ends place end there);
    };
    table = table;
    listed = λ index client. stands.listed index client ∙ sym (quiet.listed index client);
    pins = λ f. stands.pins f ∙ ap (λ items. sum_by f (map bundle items)) (sym quiet.bundles);
    work = stands.work ∙ sym quiet.work;
    awaited = still_awaited s n st.awaited st.work.waiting D (deed ∷ D) stands.awaited (λ rep. same_lost s n rep D (deed ∷ D) (quiet.closed rep.owner) (quiet.turns rep));
    calls = stands.calls ∙ sym quiet.calls_made;
    jobs = stands.jobs ∙ sym quiet.jobs_made;
    right = (its, stands.right);
  }
