-- The end with a peer is in the session whose number the deeds tell.
use Rattle.std.proofs.Common.{◌≡◌, ℕ, ◌+◌, ◌&&◌, Bool, true, false, cond, List, [], ◌∷◌, length, Ok, refl, ap, ◌∙◌}
use Rattle.std.specs.Prelude.{◌==◌}
use Rattle.std.proofs.lemmas.Bool.{eqb-true}
use Rattle.nob_ids.specs.declared.reason.Reason.{Reason}
use Rattle.nob_item.specs.declared.item.Item.{Item}
use Rattle.nob_model_session.specs.Frame.{Frame}
use Rattle.nob_model_session.specs.End.{handed, is_present}
use Rattle.nob_model_session.specs.End as end
use Rattle.nob_model_session.specs.declared.entry.EndEntry.{EndEntry}
use Rattle.nob_model_session.specs.declared.entry.EndEntry.TheVariants as ends
use Rattle.nob_model_types.specs.declared.deed.Deed.{Deed}
use Rattle.nob_model_types.specs.declared.deed.Deed.TheVariants as did
use Rattle.nob_model_types.specs.declared.deed.Cause.{Cause}
use Rattle.nob_model_types.specs.declared.deed.Cause.TheVariants as causes
use Rattle.nob_model_types.specs.Sessions.{number, is_from}
use Rattle.nob_model_work.specs.declared.gifts.Gift.{Gift}
use Rattle.nob_model_work.specs.Gifts.{all_gifts}
use Rattle.nob_model_history.specs.Histories.{history_of}
use Rattle.nob_model_history.specs.Ends.{items_to, payload_of, kind_of, with_sends, own_calls, call_of_closing, calls_of, calls_at}

-- a send opens no session
pub sends_number : (items : List Item) (calls : List EndEntry) → end.number (with_sends items calls) ≡ end.number calls
sends_number [] calls = refl
sends_number (item ∷ items) calls = sends_number items (ends.Send (payload_of item) (kind_of item) (Ok (length (handed calls) + 1)) ∷ calls)

-- whether a deed opens the session with p anew
abbrev pub opens : ℕ → Deed → Bool
opens p (did.Open q k) = q == p
opens p (_) = false

-- no other deed changes the number of the session with p
pub number_kept : (p : ℕ) (deed : Deed) (D : List Deed) → opens p deed ≡ false → number p (deed ∷ D) ≡ number p D
number_kept p (did.Open q k) D other = ap (λ (b : Bool). cond b k (number p D)) other
number_kept p deed D other = refl

-- such a deed is an Open of p
pub opened : (p : ℕ) (deed : Deed) → opens p deed ≡ true → (k : ℕ) × (deed ≡ did.Open p k)
opened p (did.Open q k) own = (k, ap (λ (r : ℕ). did.Open r k) (eqb-true q p own))
opened p deed own = cc

if_number : (b : Bool) (call : EndEntry) (calls : List EndEntry) (k : ℕ) → end.number (call ∷ calls) ≡ end.number calls → end.number calls ≡ k → end.number (cond b (call ∷ calls) calls) ≡ k
if_number true call calls k same is = same ∙ is
if_number false call calls k same is = is

if_opened : (b : Bool) (k m : ℕ) (calls : List EndEntry) → end.number calls ≡ m → end.number (cond b (ends.Reopen k (Ok tt) ∷ calls) calls) ≡ cond b k m
if_opened true k m calls is = refl
if_opened false k m calls is = is

closing_number : (p : ℕ) (reason : Reason) (cause : Cause) (calls : List EndEntry) → end.number (call_of_closing p reason cause ∷ calls) ≡ end.number calls
closing_number p reason causes.Item calls = refl
closing_number p reason (causes.Frame frame) calls = refl
closing_number p reason causes.Ticks calls = refl
closing_number p reason causes.Asked calls = refl

own_number : (p : ℕ) (deed : Deed) (D : List Deed) (calls : List EndEntry) → end.number calls ≡ number p D → end.number (own_calls p deed calls) ≡ number p (deed ∷ D)
own_number p (did.Act q j) D calls is = if_number (q == p) _ calls (number p D) refl is
own_number p (did.Transmit q frames) D calls is = if_number (q == p) _ calls (number p D) refl is
own_number p (did.Arrive frame count) D calls is = if_number (frame.from == p) _ calls (number p D) refl is
own_number p (did.Tick q) D calls is = if_number (q == p) _ calls (number p D) refl is
own_number p (did.Closing q reason cause) D calls is = if_number (q == p) _ calls (number p D) (closing_number p reason cause calls) is
own_number p (did.Open q k) D calls is = if_opened (q == p) k (number p D) calls is
own_number p deed D calls is = is

-- whatever was given, the calls on the end with p are of the session with p
pub calls_number : (p : ℕ) (D : List Deed) (G : List (List Gift)) → end.number (calls_of p D G) ≡ number p D
calls_number p [] G = refl
calls_number p (deed ∷ D) [] = own_number p deed D (calls_of p D []) (calls_number p D [])
calls_number p (deed ∷ D) (gifts ∷ G) = own_number p deed D (with_sends (items_to p gifts) (calls_of p D G)) (sends_number (items_to p gifts) (calls_of p D G) ∙ calls_number p D G)

-- so are those in a history
pub number_is : (s n p : ℕ) (D : List Deed) → end.number (calls_at p (history_of s n D)) ≡ number p D
number_is s n p D = calls_number p D (all_gifts s n D)

-- a frame from p is of the session that its end is in exactly where it is of the session with p
pub present_is : (s n p : ℕ) (frame : Frame) (D : List Deed) → (frame.from == p && is_present frame (calls_at p (history_of s n D))) ≡ is_from p frame D
present_is s n p frame D = ap (λ (k : ℕ). frame.from == p && frame.session == k) (number_is s n p D)
