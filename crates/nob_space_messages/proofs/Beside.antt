-- What stands beside the messages after a change.
use Rattle.std.proofs.Common.{◌≡◌, ℕ, ◌≤◌, ◌==◌, true, false, not, List, [], ◌∷◌, ◌++◌, length, filter, Option, Some, None, refl, sym, ap, ◌∙◌, arith, if◌then◌else◌, eqb-true}
use Rattle.std.proofs.lemmas.Bool.{ne_eqb, eqb-false}
use Rattle.std.proofs.lemmas.Option.{same_Some}
use Rattle.std.specs.Map.{remove_entry}
use Rattle.std.specs.Option.{option_map}
use Rattle.nob_space_messages.specs.declared.entry.Entry.{Entry}
use Rattle.nob_model_acting.specs.Candidates.{target_of}
use Rattle.nob_slots.specs.Slots.{item_at, is_number, IsAbove, IsRising}
use Rattle.nob_space_messages.specs.declared.links.Link.{Link}
use Rattle.nob_space_messages.specs.InLine.{target_at, with_at}
use Rattle.nob_space_messages.specs.Rows.{SameTargets, message_target}
use Rattle.nob_queues.proofs.Found.{is_above, none_over, pushed_by, removed_by}
use Rattle.nob_space_messages.proofs.Joined.{no_link}

-- ---- the targets
module _ (links new : List (ℕ × Link)) (rows : List (ℕ × Entry)) (same : SameTargets links rows) where
  -- the links stand below what the messages stand below
  pub links_above : (n : ℕ) → IsAbove rows n → IsAbove links n
  links_above n above = is_above n links (λ s le. no_link links s (same s ∙ ap (option_map (λ (m : Entry). target_of m.message.item)) (none_over n s rows above le)))

  pub pushed_targets : (n t : ℕ) (m : Entry) → IsAbove rows n → t ≡ target_of m.message.item → ((k : ℕ) → target_at new k ≡ with_at (target_at links) n (Some t) k) → SameTargets new (rows ++ (n, m) ∷ [])
  pushed_targets n t m above its is k =
      is k ∙ ap (λ (o : Option ℕ). if n == k then Some t else o) (same k) ∙ ap (λ (u : ℕ). if n == k then Some u else message_target rows k) its
      ∙ sym (pushed_by (option_map (λ (e : Entry). target_of e.message.item)) n m rows k above)

  pub taken_targets : (n : ℕ) → IsRising rows → ((k : ℕ) → target_at new k ≡ with_at (target_at links) n None k) → SameTargets new (remove_entry (is_number n) rows)
  taken_targets n rising is k = is k ∙ ap (λ (o : Option ℕ). if n == k then None else o) (same k) ∙ sym (removed_by (option_map (λ (e : Entry). target_of e.message.item)) n rows k rising)

  -- a link has the target of its message
  pub same_target : (n : ℕ) (link : Link) (m : Entry) → item_at links n ≡ Some link → item_at rows n ≡ Some m → link.target ≡ target_of m.message.item
  same_target n link m at there = same_Some link.target (target_of m.message.item) (sym (ap (option_map (λ (l : Link). l.target)) at) ∙ same n ∙ ap (option_map (λ (e : Entry). target_of e.message.item)) there)
