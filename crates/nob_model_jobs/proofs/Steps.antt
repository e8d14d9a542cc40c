-- By a deed and the raised one lists in step stay so: objects, holds, sessions and references.
use Rattle.std.proofs.Common.{◌≡◌, ℕ, suc, ◌+◌, ◌-◌, ◌&&◌, ◌||◌, not, Bool, true, false, cond, List, [], ◌∷◌, ◌++◌, length, filter, Option, Some, None, sym, ap, ◌∙◌, arith}
use Rattle.std.specs.Prelude.{◌==◌}
use Rattle.nob_ids.specs.Names.{is_same, is_counted}
use Rattle.nob_ids.specs.declared.wire_rep.WireRep.{WireRep}
use Rattle.nob_pickle.specs.Spelling.{refs_in}
use Rattle.nob_item.specs.declared.item.Item.{Item}
use Rattle.nob_item.specs.declared.item.Item.TheVariants as items
use Rattle.nob_model_types.specs.declared.deed.Deed.{Deed}
use Rattle.nob_model_types.specs.declared.deed.Deed.TheVariants as did
use Rattle.nob_model_types.specs.declared.turns.OwnerAnswer.TheVariants as said
use Rattle.nob_model_types.specs.Sessions.{is_peer, closed, number, item_at}
use Rattle.nob_model_types.specs.Objects.{exports, is_withdrawn}
use Rattle.nob_model_types.specs.Turns.{no_turns, turns, turns_after, is_standing, wants_dirty, with_dirty, with_answer, with_clean, carries, names}
use Rattle.nob_model_history.specs.Holds.{times, gains, releases}
use Rattle.nob_model_history.specs.Transit.{is_settled, is_settle_of}
use Rattle.nob_model_history.specs.Listing.{is_entered, is_entered_after}
use Rattle.nob_model_holdings.proofs.Holdings.{times_append}
use Rattle.nob_model.specs.Right.{calls_made, jobs_made}
use Rattle.nob_model_jobs.specs.Raised.{raised_job}
use Rattle.nob_model_jobs.proofs.InStep.{AreInStep, alive_same, items_same}

-- a deed: the job that was claimed, or that ended, has the higher number
abbrev pub raised_deed : ℕ → Deed → Deed
raised_deed more (did.Claim job) = did.Claim (raised_job more job)
raised_deed more (did.Finish job outcome) = did.Finish (job + more) outcome
raised_deed more (did.DropReply job) = did.DropReply (job + more)
raised_deed more deed = deed

one_more : (rep other : WireRep) (reps : List WireRep) → times rep (other ∷ reps) ≡ cond (is_same rep other) 1 0 + times rep reps
one_more rep other reps = elim (is_same rep other) as (λ (b : Bool). length (cond b (other ∷ filter (is_same rep) reps) (filter (is_same rep) reps)) ≡ cond b 1 0 + times rep reps) [ true ↦ (let next : suc (times rep reps) ≡ 1 + times rep reps = omega arith in next) | false ↦ (let same : times rep reps ≡ 0 + times rep reps = omega arith in same) ]

module _ (s n more : ℕ) (D E : List Deed) (its : AreInStep s n more D E) where
  pub exported_step : (deed : Deed) → exports (deed ∷ D) ≡ exports (raised_deed more deed ∷ E)
  exported_step (did.Export rep) = ap (λ (reps : List WireRep). reps ++ rep ∷ []) its.exported
  exported_step deed = its.exported

  pub withdrawn_step : (deed : Deed) (index : ℕ) → is_withdrawn index (deed ∷ D) ≡ is_withdrawn index (raised_deed more deed ∷ E)
  withdrawn_step (did.Withdraw x) index = ap (λ (b : Bool). x == index || b) (its.withdrawn index)
  withdrawn_step deed index = its.withdrawn index

  came_step : (x a b c d : ℕ) → a + d ≡ c + b → (x + a) + d ≡ (x + c) + b
  came_step x a b c d same = omega (arith, same)

  gone_step : (x a b c d : ℕ) → a + d ≡ c + b → a + (x + d) ≡ c + (x + b)
  gone_step x a b c d same = omega (arith, same)

  pub balanced_step : (deed : Deed) (rep : WireRep) → is_counted rep ≡ true → times rep (gains (deed ∷ D)) + times rep (releases (raised_deed more deed ∷ E)) ≡ times rep (gains (raised_deed more deed ∷ E)) + times rep (releases (deed ∷ D))
  balanced_step (did.Export other) rep counted = (λ i. one_more rep other (gains D) i + times rep (releases E)) ∙ came_step (cond (is_same rep other) 1 0) (times rep (gains D)) (times rep (releases D)) (times rep (gains E)) (times rep (releases E)) (its.balanced rep counted) ∙ (λ i. sym (one_more rep other (gains E)) i + times rep (releases D))
  balanced_step (did.Dup other) rep counted = (λ i. one_more rep other (gains D) i + times rep (releases E)) ∙ came_step (cond (is_same rep other) 1 0) (times rep (gains D)) (times rep (releases D)) (times rep (gains E)) (times rep (releases E)) (its.balanced rep counted) ∙ (λ i. sym (one_more rep other (gains E)) i + times rep (releases D))
  balanced_step (did.Release other) rep counted = (λ i. times rep (gains D) + one_more rep other (releases E) i) ∙ gone_step (cond (is_same rep other) 1 0) (times rep (gains D)) (times rep (releases D)) (times rep (gains E)) (times rep (releases E)) (its.balanced rep counted) ∙ (λ i. times rep (gains E) + sym (one_more rep other (releases D)) i)
  balanced_step (did.TakeReply call status value) rep counted = (λ i. times_append rep (refs_in value) (gains D) i + times rep (releases E)) ∙ came_step (times rep (refs_in value)) (times rep (gains D)) (times rep (releases D)) (times rep (gains E)) (times rep (releases E)) (its.balanced rep counted) ∙ (λ i. sym (times_append rep (refs_in value) (gains E)) i + times rep (releases D))
  balanced_step deed rep counted = its.balanced rep counted

  pub settled_step : (deed : Deed) (p item : ℕ) → is_settled p item (deed ∷ D) ≡ is_settled p item (raised_deed more deed ∷ E)
  settled_step (did.Act q j) p item = λ i. (q == p && is_settle_of item (items_same s n more D E its q j i)) || its.settled p item i
  settled_step (did.Open q k) p item = λ i. cond (q == p) false (its.settled p item i)
  settled_step deed p item = its.settled p item

  entered_after_same : (index : ℕ) (found : Option Item) (before after : Bool) → before ≡ after → is_entered_after s index found D before ≡ is_entered_after s index found E after
  entered_after_same index None before after same = same
  entered_after_same index (Some (items.Call call target method value)) before after same = same
  entered_after_same index (Some (items.Reply call status value)) before after same = same
  entered_after_same index (Some (items.Settle item)) before after same = same
  entered_after_same index (Some (items.Dirty x)) before after same = λ i. cond (x == index) (alive_same s n more D E its x i) (same i)
  entered_after_same index (Some (items.DirtyOk x)) before after same = same
  entered_after_same index (Some (items.DirtyNo x)) before after same = same
  entered_after_same index (Some (items.Clean x)) before after same = λ i. cond (x == index) false (same i)

  pub entered_step : (deed : Deed) (index client : ℕ) → is_entered s index client (deed ∷ D) ≡ is_entered s index client (raised_deed more deed ∷ E)
  entered_step (did.Act p k) index client =
      ap (λ (found : Option Item). cond (p == client) (is_entered_after s index found D (is_entered s index client D)) (is_entered s index client D)) (items_same s n more D E its p k)
      ∙ (λ i. cond (p == client) (entered_after_same index (item_at p k E) (is_entered s index client D) (is_entered s index client E) (its.entered index client) i) (its.entered index client i))
  entered_step (did.Open q k) index client = λ i. cond (q == client) false (its.entered index client i)
  entered_step deed index client = its.entered index client

  pub shut_step : (deed : Deed) (p : ℕ) → closed p (deed ∷ D) ≡ closed p (raised_deed more deed ∷ E)
  shut_step (did.Open q k) p = λ i. cond (q == p) false (its.shut p i)
  shut_step (did.Closing q reason cause) p = λ i. q == p || its.shut p i
  shut_step deed p = its.shut p

  pub numbered_step : (deed : Deed) (p : ℕ) → number p (deed ∷ D) ≡ number p (raised_deed more deed ∷ E)
  numbered_step (did.Open q k) p = λ i. cond (q == p) k (its.numbered p i)
  numbered_step deed p = its.numbered p

  pub wants_same : (rep : WireRep) → wants_dirty s n rep D (turns s n rep D) ≡ wants_dirty s n rep E (turns s n rep E)
  wants_same rep = λ i. is_peer s n rep.owner && not (its.shut rep.owner i) && not (is_standing (its.turned rep i))

  turns_after_same : (p : ℕ) (rep : WireRep) (found : Option Item) → turns_after s n p rep found D (turns s n rep D) ≡ turns_after s n p rep found E (turns s n rep E)
  turns_after_same p rep None = its.turned rep
  turns_after_same p rep (Some (items.Call call target method value)) = λ i. cond (carries rep (items.Call call target method value) && wants_same rep i) (with_dirty (its.turned rep i)) (its.turned rep i)
  turns_after_same p rep (Some (items.Reply call status value)) = λ i. cond (carries rep (items.Reply call status value) && wants_same rep i) (with_dirty (its.turned rep i)) (its.turned rep i)
  turns_after_same p rep (Some (items.Settle item)) = its.turned rep
  turns_after_same p rep (Some (items.Dirty index)) = its.turned rep
  turns_after_same p rep (Some (items.DirtyOk index)) = λ i. cond (names rep p index) (with_answer said.Granted (its.turned rep i)) (its.turned rep i)
  turns_after_same p rep (Some (items.DirtyNo index)) = λ i. cond (names rep p index) (with_answer said.Refused (its.turned rep i)) (its.turned rep i)
  turns_after_same p rep (Some (items.Clean index)) = its.turned rep

  pub turned_step : (deed : Deed) (rep : WireRep) → turns s n rep (deed ∷ D) ≡ turns s n rep (raised_deed more deed ∷ E)
  turned_step (did.Act p k) rep =
      ap (λ (found : Option Item). turns_after s n p rep found D (turns s n rep D)) (items_same s n more D E its p k)
      ∙ turns_after_same p rep (item_at p k E)
  turned_step (did.Open q k) rep = λ i. cond (q == rep.owner) no_turns (its.turned rep i)
  turned_step (did.Clean other) rep = λ i. cond (is_same rep other) (with_clean (its.turned rep i)) (its.turned rep i)
  turned_step deed rep = its.turned rep

  pub called_step : (deed : Deed) → calls_made (deed ∷ D) ≡ calls_made (raised_deed more deed ∷ E)
  called_step (did.Call target method value call) = ap (λ (m : ℕ). m + 1) its.called
  called_step deed = its.called

  pub claimed_step : (deed : Deed) → jobs_made (raised_deed more deed ∷ E) ≡ jobs_made (deed ∷ D) + more
  claimed_step (did.Claim job) = (let claimed = its.claimed in let next : jobs_made E + 1 ≡ (jobs_made D + 1) + more = omega (arith, claimed) in next)
  claimed_step deed = its.claimed
