-- A deed by two steps.
use Rattle.std.proofs.Common.{◌≡◌, ℕ, List, ◌∷◌, Option, Some, None, refl}
use Rattle.nob_item.specs.declared.item.Item.{Item}
use Rattle.nob_model_types.specs.declared.deed.Deed.{Deed}
use Rattle.nob_model_types.specs.declared.deed.Deed.TheVariants.{Act}
use Rattle.nob_model_types.specs.Sessions.{number, item_at}
use Rattle.nob_model_work.specs.Work.{after_act, work_after}
use Rattle.nob_model_work.specs.declared.work.Outstanding.{Outstanding}
use Rattle.nob_check_ledgers.specs.Acting.{fresh_message, acted_on, after_acted, after_other}

-- an item that is acted on
act_law : (s n p k session : ℕ) (D : List Deed) (item : Option Item) (work : Outstanding) → after_acted s n (Act p k ∷ D) (fresh_message p session k item) work ≡ after_act s n p k D item work
unfolding after_acted after_act
act_law s n p k session D None work = refl
act_law s n p k session D (Some item) work = refl

-- the two steps are the deed
pub acted_law : (s n : ℕ) (deed : Deed) (D : List Deed) (work : Outstanding) → after_acted s n (deed ∷ D) (acted_on deed D) (after_other s n deed D work) ≡ work_after s n deed D work
unfolding after_acted after_other work_after
acted_law s n (Act p k) D work = act_law s n p k (number p D) D (item_at p k D) work
acted_law s n (_) D work = refl
