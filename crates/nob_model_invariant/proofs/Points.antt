-- The points of the invariant.
use Rattle.std.proofs.Common.{◌≡◌, ◌||◌, Bool, true, false, refl}
use Rattle.std.proofs.lemmas.Bool.{both_ways}
use Rattle.nob_model_types.specs.Sessions.{closed, acted}
use Rattle.nob_model_work.specs.Work.{work}
use Rattle.nob_model.proofs.Waiting.{all_weaker}
use Rattle.nob_model_journal.specs.Journals.{deeds_at}
use Rattle.nob_model_invariant.specs.Settles.{is_in}
use Rattle.nob_model_invariant.proofs.Entries.{right_deeds_at}
use Rattle.nob_model_invariant.proofs.Settling.{settles_of}
use Rattle.nob_model_invariant.specs.Copies.{carries_any, is_waiting}
use Rattle.nob_model_invariant.specs.LossLaws.{SettledLaw, WaitingLaw, DenialsLaw, CopiesLaw}
use Rattle.nob_model_invariant.proofs.Done.{IsDone, all_done}
use Rattle.nob_model_invariant.proofs.Known.{all_known}
use Rattle.nob_model_invariant.proofs.Denied.{denied_in}
use Rattle.nob_model_invariant.proofs.Copied.{are_copied}
use Rattle.nob_model_invariant.proofs.Excused.{refused_excused}

-- on a session that is open
while_open : (waits shut settled : Bool) → shut ≡ false → ((waits || shut) || settled) ≡ true → (waits || settled) ≡ true
while_open true shut settled up either = refl
while_open false true settled up either = absurd (both_ways true up refl)
while_open false false settled up either = either

pub settled : SettledLaw
settled n limits J run = record {
  each = λ a b up. all_weaker (IsDone b n a (deeds_at b J)) (λ pair. carries_any pair.1 ≡ true → (is_waiting a pair.0 (work b n (deeds_at b J)).waiting || is_in pair.0 (settles_of b n a (deeds_at b J))) ≡ true)
      (λ pair done some. while_open (is_waiting a pair.0 (work b n (deeds_at b J)).waiting) (closed a (deeds_at b J)) (is_in pair.0 (settles_of b n a (deeds_at b J))) up (done some))
      (acted a (deeds_at b J)) (all_done b n (limits b) a (deeds_at b J) (right_deeds_at n limits J run b));
}

pub waiting : WaitingLaw
waiting n limits J run = record { known = λ b. all_known b n (limits b) (deeds_at b J) (right_deeds_at n limits J run b) }

pub denials : DenialsLaw
denials n limits J run = record { settled = λ o b x session refuses. denied_in o n (limits o) b x session (deeds_at o J) (right_deeds_at n limits J run o) refuses }

pub copied : CopiesLaw
copied n limits J run typed = record {
  none_without = λ b rep peer up idle. (are_copied b n (limits b) rep (deeds_at b J) (right_deeds_at n limits J run b)).none peer up idle;
  pending_wait = λ b rep up pending. (are_copied b n (limits b) rep (deeds_at b J) (right_deeds_at n limits J run b)).wait up pending;
  refused_excused = refused_excused n limits J run typed;
}
