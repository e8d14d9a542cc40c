-- An Open: the words of its peer begin anew, and those of each other peer are as before.
use Rattle.std.proofs.Common.{◌≡◌, ℕ, ◌&&◌, ◌||◌, not, Bool, true, false, cond, List, [], ◌∷◌, map, None, Ok, refl, sym, ap, subst, ◌∙◌}
use Rattle.std.specs.Prelude.{◌==◌, option_and_then}
use Rattle.std.proofs.lemmas.Bool.{eq-eqb, both_ways}
use Rattle.nob_ids.specs.declared.wire_rep.WireRep.{WireRep}
use Rattle.nob_model_session.specs.declared.entry.EndEntry.{EndEntry}
use Rattle.nob_model_session.specs.declared.entry.EndEntry.TheVariants as ends
use Rattle.nob_model_types.specs.declared.event.Event.TheVariants as events
use Rattle.nob_model_types.specs.declared.answer.Answer.TheVariants as answers
use Rattle.nob_model_types.specs.declared.entry.Entry.{Entry}
use Rattle.nob_model_types.specs.declared.deed.Deed.{Deed}
use Rattle.nob_model_types.specs.declared.deed.Deed.TheVariants as did
use Rattle.nob_model_types.specs.Deeds.{deeds}
use Rattle.nob_model_types.specs.Sessions.{is_peer, closed, number, accepted_from, payload_at, item_spelt, item_at, acted}
use Rattle.nob_model_types.specs.declared.message.Loan.{Loan}
use Rattle.nob_model_types.specs.declared.message.Loan.TheVariants as loans
use Rattle.nob_model_types.specs.declared.message.RefCopy.{RefCopy}
use Rattle.nob_model_types.specs.declared.message.Message.{Message}
use Rattle.nob_model_types.specs.Messages.{loan_after, copy_after, message_after}
use Rattle.nob_model_types.specs.declared.turns.Turns.{Turns}
use Rattle.nob_model_types.specs.Turns.{no_turns, turns, is_own, is_granted, is_refused, is_usable, is_lost, is_resolved}
use Rattle.nob_model_work.specs.declared.work.Outstanding.{Outstanding}
use Rattle.nob_model_work.specs.declared.work.Run.{Run}
use Rattle.nob_model_work.specs.Work.{work, work_after, with_loans, run_after}
use Rattle.nob_model_work.specs.Gifts.{gifts, gifts_of}
use Rattle.nob_model_history.specs.Histories.{history, history_of}
use Rattle.nob_model_history.specs.Ends.{items_to, with_sends, calls_at}
use Rattle.nob_model_history.specs.Transit.{is_settled, sent, dirties, by_last_dirty}
use Rattle.nob_model_history.specs.Listing.{is_entered, is_listed}
use Rattle.nob_model_history.specs.Anew.{IsNewEnd, BeginsAnew}

-- ---- its own peer

-- an end that was opened anew is as at first
pub new_end : (k : ℕ) (calls : List EndEntry) → IsNewEnd k (ends.Reopen k (Ok tt) ∷ calls)
new_end k calls = record { numbered = refl; is_up = refl; none_handed = refl; first_lowest = refl; none_transmitted = refl; none_counted = refl; no_payload = λ j. refl; none_accepted = refl; none_taken = refl; none_ticked = refl; none_arrived = refl; owes_none = refl }

-- the calls on the end with p are opened anew by an Open of p, which gives nothing
opened_calls : (s n p k : ℕ) (D : List Deed) (own : Bool) → own ≡ true → cond own (ends.Reopen k (Ok tt) ∷ with_sends (items_to p (gifts s n (did.Open p k) D (work s n D))) (calls_at p (history_of s n D))) (with_sends (items_to p (gifts s n (did.Open p k) D (work s n D))) (calls_at p (history_of s n D))) ≡ ends.Reopen k (Ok tt) ∷ calls_at p (history_of s n D)
unfolding gifts gifts_of
opened_calls s n p k D true is = refl
opened_calls s n p k D false is = cc

-- an Open is one call on the end with its peer
pub calls_opened : (s n p k : ℕ) (D : List Deed) → calls_at p (history_of s n (did.Open p k ∷ D)) ≡ ends.Reopen k (Ok tt) ∷ calls_at p (history_of s n D)
calls_opened s n p k D = opened_calls s n p k D (p == p) (eq-eqb p p refl)

anew : (p : ℕ) {A : Type 0} (first before : A) → cond (p == p) first before ≡ first
anew p first before = ap (λ (b : Bool). cond b first before) (eq-eqb p p refl)

-- right after an Open of p every word that is read for p is a new session's
pub begins_anew_after : (s n p k : ℕ) (D : List Deed) → BeginsAnew s n p k (history_of s n (did.Open p k ∷ D))
begins_anew_after s n p k D = record {
  is_open = anew p false (closed p D);
  numbered = anew p k (number p D);
  none_accepted = anew p 0 (accepted_from p D);
  no_payload = λ j. anew p None (payload_at p j D);
  none_acted = anew p [] (acted p D);
  none_settled = λ j. anew p false (is_settled p j D);
  none_entered = λ index. anew p false (is_entered s index p D);
  none_listed = λ index. ap (λ (b : Bool). not (closed p (did.Open p k ∷ D)) && b) (anew p false (is_entered s index p D)) ∙ and_false (not (closed p (did.Open p k ∷ D)));
  none_asked = λ rep own. ap (λ (b : Bool). cond b no_turns (turns s n rep D)) (eq-eqb p rep.owner (sym own));
  end_is_new = subst (IsNewEnd k) (sym (calls_opened s n p k D)) (new_end k (calls_at p (history_of s n D)));
}
  where
    and_false : (b : Bool) → (b && false) ≡ false
    and_false true = refl
    and_false false = refl

-- so it is right after an Opened
pub begins_anew : (s n p k : ℕ) (L : List Entry) → BeginsAnew s n p k (history s n (record { space = s; event = events.Open p; result = Ok (answers.Opened k) } ∷ L))
begins_anew s n p k L = begins_anew_after s n p k (deeds L)

-- ---- the other peers

-- whether the session with another peer has closed is as before
pub closed_other : (p q k : ℕ) (D : List Deed) → (q == p) ≡ false → closed p (did.Open q k ∷ D) ≡ closed p D
closed_other p q k D other = ap (λ (b : Bool). cond b false (closed p D)) other

-- its number is
pub number_other : (p q k : ℕ) (D : List Deed) → (q == p) ≡ false → number p (did.Open q k ∷ D) ≡ number p D
number_other p q k D other = ap (λ (b : Bool). cond b k (number p D)) other

-- how many items were accepted from it is
pub accepted_other : (p q k : ℕ) (D : List Deed) → (q == p) ≡ false → accepted_from p (did.Open q k ∷ D) ≡ accepted_from p D
accepted_other p q k D other = ap (λ (b : Bool). cond b 0 (accepted_from p D)) other

-- each payload from it is
pub payload_other : (p q k j : ℕ) (D : List Deed) → (q == p) ≡ false → payload_at p j (did.Open q k ∷ D) ≡ payload_at p j D
payload_other p q k j D other = ap (λ (b : Bool). cond b None (payload_at p j D)) other

-- each item from it is
pub item_other : (p q k j : ℕ) (D : List Deed) → (q == p) ≡ false → item_at p j (did.Open q k ∷ D) ≡ item_at p j D
item_other p q k j D other = ap (option_and_then item_spelt) (payload_other p q k j D other)

-- what was acted on from it is
pub acted_other : (p q k : ℕ) (D : List Deed) → (q == p) ≡ false → acted p (did.Open q k ∷ D) ≡ acted p D
acted_other p q k D other = ap (λ (b : Bool). cond b [] (acted p D)) other

-- what it settled is
pub settled_other : (p q k j : ℕ) (D : List Deed) → (q == p) ≡ false → is_settled p j (did.Open q k ∷ D) ≡ is_settled p j D
settled_other p q k j D other = ap (λ (b : Bool). cond b false (is_settled p j D)) other

-- what it is entered for is
pub entered_other : (s index p q k : ℕ) (D : List Deed) → (q == p) ≡ false → is_entered s index p (did.Open q k ∷ D) ≡ is_entered s index p D
entered_other s index p q k D other = ap (λ (b : Bool). cond b false (is_entered s index p D)) other

-- and what it is listed for
pub listed_other : (s index p q k : ℕ) (D : List Deed) → (q == p) ≡ false → is_listed s index p (did.Open q k ∷ D) ≡ is_listed s index p D
listed_other s index p q k D other = ap (λ (b : Bool). not (cond b false (closed p D)) && cond b false (is_entered s index p D)) other

-- the turns for a reference of another owner are as before
pub turns_other : (s n q k : ℕ) (rep : WireRep) (D : List Deed) → (q == rep.owner) ≡ false → turns s n rep (did.Open q k ∷ D) ≡ turns s n rep D
turns_other s n q k rep D other = ap (λ (b : Bool). cond b no_turns (turns s n rep D)) other

-- whether it is usable is
pub usable_other : (s n q k : ℕ) (rep : WireRep) (D : List Deed) → (q == rep.owner) ≡ false → is_usable s n rep (did.Open q k ∷ D) ≡ is_usable s n rep D
usable_other s n q k rep D other = ap (λ (b : Bool). is_granted (cond b no_turns (turns s n rep D)) && not (cond b false (closed rep.owner D))) other

-- whether it is lost is
pub lost_other : (s n q k : ℕ) (rep : WireRep) (D : List Deed) → (q == rep.owner) ≡ false → is_lost s n rep (did.Open q k ∷ D) ≡ is_lost s n rep D
lost_other s n q k rep D other = ap (λ (b : Bool). not (is_own s rep) && (not (is_peer s n rep.owner) || cond b false (closed rep.owner D) || is_refused (cond b no_turns (turns s n rep D)))) other

-- and whether it is resolved
pub resolved_other : (s n q k : ℕ) (rep : WireRep) (D : List Deed) → (q == rep.owner) ≡ false → is_resolved s n rep (did.Open q k ∷ D) ≡ is_resolved s n rep D
resolved_other s n q k rep D other = ap (λ (b : Bool). is_own s rep || b || is_lost s n rep (did.Open q k ∷ D)) (usable_other s n q k rep D other) ∙ ap (λ (b : Bool). is_own s rep || is_usable s n rep D || b) (lost_other s n q k rep D other)

other_calls : (s n p q k : ℕ) (D : List Deed) (own : Bool) → own ≡ false → cond own (ends.Reopen k (Ok tt) ∷ with_sends (items_to p (gifts s n (did.Open q k) D (work s n D))) (calls_at p (history_of s n D))) (with_sends (items_to p (gifts s n (did.Open q k) D (work s n D))) (calls_at p (history_of s n D))) ≡ calls_at p (history_of s n D)
unfolding gifts gifts_of
other_calls s n p q k D true is = cc
other_calls s n p q k D false is = refl

-- the calls on the end with another peer are as before
pub calls_other : (s n p q k : ℕ) (D : List Deed) → (q == p) ≡ false → calls_at p (history_of s n (did.Open q k ∷ D)) ≡ calls_at p (history_of s n D)
calls_other s n p q k D other = other_calls s n p q k D (q == p) other

-- ---- what is of no session

-- an Open sends nothing
pub sent_opened : (s n q k : ℕ) (D : List Deed) → sent (history_of s n (did.Open q k ∷ D)) ≡ sent (history_of s n D)
unfolding gifts gifts_of
sent_opened s n q k D = refl

-- so the Dirties that were sent are as before
pub dirties_opened : (s n q k : ℕ) (D : List Deed) → dirties (history_of s n (did.Open q k ∷ D)) ≡ dirties (history_of s n D)
unfolding gifts gifts_of
dirties_opened s n q k D = refl

-- and their order
pub order_opened : (s n q k : ℕ) (D : List Deed) → by_last_dirty (history_of s n (did.Open q k ∷ D)) ≡ by_last_dirty (history_of s n D)
unfolding gifts gifts_of
order_opened s n q k D = refl

-- ---- what is outstanding

opened_usable : (b : Bool) (t : Turns) (ended : Bool) → (is_granted (cond b no_turns t) && not (cond b false ended)) ≡ true → (is_granted t && not ended) ≡ true
opened_usable true t ended usable = cc
opened_usable false t ended usable = usable

-- an Open makes nothing usable
pub usable_before : (s n q k : ℕ) (rep : WireRep) (D : List Deed) → is_usable s n rep (did.Open q k ∷ D) ≡ true → is_usable s n rep D ≡ true
usable_before s n q k rep D usable = opened_usable (q == rep.owner) (turns s n rep D) (closed rep.owner D) usable

again : {A : Type 0} (f g : A → A) → ((x : A) → f (g x) ≡ g x) → (xs : List A) → map f (map g xs) ≡ map g xs
again f g same [] = refl
again {A} f g same (x ∷ xs) = ap (λ (y : A). y ∷ map f (map g xs)) (same x) ∙ ap (λ (ys : List A). g x ∷ ys) (again f g same xs)

loan_again : (later now : Bool) (loan : Loan) → (later ≡ true → now ≡ true) → loan_after later (loan_after now loan) ≡ loan_after now loan
loan_again later true loans.Due before = refl
loan_again true false loans.Due before = absurd (both_ways false refl (before refl))
loan_again false false loans.Due before = refl
loan_again later now loans.Lent before = refl
loan_again later now loans.Never before = refl

own_or : (own later now : Bool) → (later ≡ true → now ≡ true) → (own || later) ≡ true → (own || now) ≡ true
own_or true later now before either = refl
own_or false later now before either = before either

copy_again : (s n q k : ℕ) (D : List Deed) (copy : RefCopy) → copy_after s n (did.Open q k ∷ D) (copy_after s n D copy) ≡ copy_after s n D copy
unfolding copy_after
copy_again s n q k D copy = ap (λ (loan : Loan). record { rep = copy.rep; loan = loan }) (loan_again (is_own s copy.rep || is_usable s n copy.rep (did.Open q k ∷ D)) (is_own s copy.rep || is_usable s n copy.rep D) copy.loan (own_or (is_own s copy.rep) _ _ (usable_before s n q k copy.rep D)))

message_again : (s n q k : ℕ) (D : List Deed) (message : Message) → message_after s n (did.Open q k ∷ D) (message_after s n D message) ≡ message_after s n D message
unfolding message_after
message_again s n q k D message = ap (λ (copies : List RefCopy). record { from = message.from; session = message.session; number = message.number; item = message.item; copies = copies }) (again (λ copy. copy_after s n (did.Open q k ∷ D) copy) (λ copy. copy_after s n D copy) (copy_again s n q k D) message.copies)

run_again : (s n q k : ℕ) (D : List Deed) (run : Run) → run_after s n (did.Open q k ∷ D) (run_after s n D run) ≡ run_after s n D run
unfolding run_after
run_again s n q k D run = ap (λ (message : Message). record { job = run.job; message = message }) (message_again s n q k D run.message)

loans_again : (s n q k : ℕ) (D : List Deed) (W : Outstanding) → with_loans s n (did.Open q k ∷ D) (with_loans s n D W) ≡ with_loans s n D W
unfolding with_loans
loans_again s n q k D W =
    let messages = λ (ms : List Message). again (λ message. message_after s n (did.Open q k ∷ D) message) (λ message. message_after s n D message) (message_again s n q k D) ms in
    let runs = again (λ run. run_after s n (did.Open q k ∷ D) run) (λ run. run_after s n D run) (run_again s n q k D) W.running in
    λ i. record { waiting = messages W.waiting i; ready = messages W.ready i; running = runs i; replies = messages W.replies i; calls = W.calls }

-- an Open leaves what is outstanding
pub work_opened : (s n q k : ℕ) (D : List Deed) → work s n (did.Open q k ∷ D) ≡ work s n D
unfolding work_after with_loans
work_opened s n q k [] = refl
work_opened s n q k (deed ∷ D) = loans_again s n q k (deed ∷ D) (work_after s n deed D (work s n D))
