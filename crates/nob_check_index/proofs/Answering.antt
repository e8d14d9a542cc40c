-- The tables of a space answer each question about it as the words of the whole list do.
use Rattle.std.proofs.Common.{◌≡◌, ◌&&◌, not, ℕ, Bool, List, ap, ◌∙◌}
use Rattle.std.specs.Prelude.{reverse}
use Rattle.nob_ids.specs.declared.wire_rep.WireRep.{WireRep}
use Rattle.nob_model_types.specs.Objects.{is_exported, is_live}
use Rattle.nob_model_types.specs.Sessions.{closed, number, item_at}
use Rattle.nob_model_types.specs.Turns.{turns}
use Rattle.nob_model_types.specs.declared.deed.Deed.{Deed}
use Rattle.nob_model_history.specs.Holds.{times, gains, releases}
use Rattle.nob_model_history.specs.Transit.{is_settled}
use Rattle.nob_model_journal.specs.Losses.{sources}
use Rattle.nob_model_journal.specs.Tests.{sessions_in}
use Rattle.nob_check_tables.specs.Closed.{is_among}
use Rattle.nob_check_tables.specs.Came.{item_in}
use Rattle.nob_check_tables.specs.Numbers.{number_in}
use Rattle.nob_check_tables.specs.Rows.{turns_in}
use Rattle.nob_check_tables.proofs.Sessions.{number_is, closed_is, item_is}
use Rattle.nob_check_tables.proofs.Turning.{turns_are}
use Rattle.nob_check_index.specs.Exports.{is_export_of, is_withdrawal, is_left}
use Rattle.nob_check_index.specs.Counts.{count_in}
use Rattle.nob_check_index.specs.Settlements.{is_settlement}
use Rattle.nob_check_index.specs.Sources.{sources_in}
use Rattle.nob_check_index.specs.Lookups.{lookups_of}
use Rattle.nob_check_index.specs.declared.lookups.Lookups.{Lookups}
use Rattle.nob_check_index.proofs.Exporting.{export_is, withdrawal_is}
use Rattle.nob_check_index.proofs.Counting.{gain_is, release_is}
use Rattle.nob_check_index.proofs.Settling.{settled_is}
use Rattle.nob_check_index.proofs.Copies.{sources_are}
use Rattle.nob_check_index.proofs.Sessions.{sessions_are}

module _ (s n : ℕ) (D : List Deed) (lookups : Lookups) (are : lookups ≡ lookups_of s n D) where
  -- whether the session with p has closed
  pub closes : (p : ℕ) → is_among p lookups.tables.closed ≡ closed p D
  closes p = ap (λ (l : Lookups). is_among p l.tables.closed) are ∙ closed_is s n p D

  -- the number of the session with p
  pub numbered : (p : ℕ) → number_in p lookups.tables.numbers ≡ number p D
  numbered p = ap (λ (l : Lookups). number_in p l.tables.numbers) are ∙ number_is s n p D

  -- item k from p
  pub item_came : (p k : ℕ) → item_in p k lookups.tables.came ≡ item_at p k D
  item_came p k = ap (λ (l : Lookups). item_in p k l.tables.came) are ∙ item_is s n p k D

  -- the turns of a reference
  pub turned : (rep : WireRep) → turns_in rep lookups.tables.rows ≡ turns s n rep D
  turned rep = ap (λ (l : Lookups). turns_in rep l.tables.rows) are ∙ turns_are s n rep D

  -- whether an index was exported
  pub exports_it : (index : ℕ) → is_export_of s index lookups.more.objects.exports ≡ is_exported s index D
  exports_it index = ap (λ (l : Lookups). is_export_of s index l.more.objects.exports) are ∙ export_is (record { owner = s; index = index }) D

  -- whether an index is live
  pub lives : (index : ℕ) → is_left s index lookups.more.objects.exports lookups.more.objects.withdrawals ≡ is_live s index D
  lives index =
      ap (λ (b : Bool). b && not (is_withdrawal index lookups.more.objects.withdrawals)) (exports_it index)
      ∙ ap (λ (b : Bool). is_exported s index D && not b) (ap (λ (l : Lookups). is_withdrawal index l.more.objects.withdrawals) are ∙ withdrawal_is index D)

  -- how often a reference came into the hand
  pub gained : (rep : WireRep) → count_in rep lookups.more.hand.gains ≡ times rep (gains D)
  gained rep = ap (λ (l : Lookups). count_in rep l.more.hand.gains) are ∙ gain_is rep D

  -- how often a reference was released
  pub released : (rep : WireRep) → count_in rep lookups.more.hand.releases ≡ times rep (releases D)
  released rep = ap (λ (l : Lookups). count_in rep l.more.hand.releases) are ∙ release_is rep D

  -- whether item k to p was settled
  pub settles : (p k : ℕ) → is_settlement p k lookups.more.traffic.settlements ≡ is_settled p k D
  settles p k = ap (λ (l : Lookups). is_settlement p k l.more.traffic.settlements) are ∙ settled_is s n p k D

  -- which copies of a reference came
  pub copied : (rep : WireRep) → sources_in rep lookups.more.traffic.sources ≡ reverse (sources s n rep D)
  copied rep = ap (λ (l : Lookups). sources_in rep l.more.traffic.sources) are ∙ sources_are s n rep D

  -- in which sessions items were acted on
  pub acted_in : lookups.more.traffic.sessions ≡ reverse (sessions_in D)
  acted_in = ap (λ (l : Lookups). l.more.traffic.sessions) are ∙ sessions_are s n D
