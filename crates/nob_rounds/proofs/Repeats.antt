-- How the entries of asking a space again and again are made up.
use Rattle.std.proofs.Common.{◌≡◌, OnOk, ℕ, suc, Bool, true, false, is_ok, List, [], ◌∷◌, ◌++◌, Result, Ok, Err, refl, sym, ap, subst, ◌∙◌, append_assoc}
use Rattle.nob_model_types.specs.declared.answer.Answer.{Answer}
use Rattle.nob_model_types.specs.declared.refusal.Refusal.{Refusal}
use Rattle.nob_model_types.specs.declared.event.Event.{Event}
use Rattle.nob_model_types.specs.declared.entry.Entry.{Entry}
use Rattle.nob_rounds.specs.Rounds.{Asked, AfterResult, UntilRefused, AskedUntilRefused}

-- a refusal ends it
after_refused : (r : Result Answer Refusal) (goes_on ends : Type 0) → is_ok r ≡ false → ends → AfterResult r goes_on ends
after_refused (Ok answer) goes_on ends isnt given = (let clash : true ≡ false = isnt in absurd (cc))
after_refused (Err refusal) goes_on ends isnt given = given

-- after what was done it goes on
after_done : (r : Result Answer Refusal) (goes_on ends : Type 0) → is_ok r ≡ true → goes_on → AfterResult r goes_on ends
after_done (Ok answer) goes_on ends is given = given
after_done (Err refusal) goes_on ends is given = (let clash : false ≡ true = is in absurd (cc))

-- asked once, and refused
pub stopped : (less most space : ℕ) (event : Event) (done : Bool) (old new : List Entry) → most ≡ suc less → done ≡ false → Asked space event done old new → AskedUntilRefused most space event old new
stopped less most space event done old new counted isnt asked = subst (λ (k : ℕ). AskedUntilRefused k space event old new) (sym counted) (record { more = asked.entry ∷ []; added = asked.added; are = (asked.is_of, after_refused asked.entry.result (UntilRefused less space event []) ([] ≡ []) (sym asked.is_done ∙ isnt) refl) })

-- asked once, and then again until it is refused
pub gone_on : (less most space : ℕ) (event : Event) (done : Bool) (old middle new : List Entry) → most ≡ suc less → done ≡ true → Asked space event done old middle → AskedUntilRefused less space event middle new → AskedUntilRefused most space event old new
gone_on less most space event done old middle new counted is asked rest = subst (λ (k : ℕ). AskedUntilRefused k space event old new) (sym counted) (record { more = asked.entry ∷ rest.more; added = rest.added ∙ ap (λ (xs : List Entry). xs ++ rest.more) asked.added ∙ append_assoc old (asked.entry ∷ []) rest.more; are = (asked.is_of, after_done asked.entry.result (UntilRefused less space event rest.more) (rest.more ≡ []) (sym asked.is_done ∙ is) rest.are) })

-- the same where memory may have failed it
pub gone_on_ok : {E : Type 0} (r : Result (Unit {0}) E) (less most space : ℕ) (event : Event) (done : Bool) (old middle new : List Entry) → most ≡ suc less → done ≡ true → Asked space event done old middle → OnOk r (AskedUntilRefused less space event middle new) → OnOk r (AskedUntilRefused most space event old new)
gone_on_ok (Ok _) less most space event done old middle new counted is asked rest = gone_on less most space event done old middle new counted is asked rest
gone_on_ok (Err error) less most space event done old middle new counted is asked rest = rest
