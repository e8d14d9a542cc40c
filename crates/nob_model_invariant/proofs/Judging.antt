-- The four promises read the same where more spaces are counted, and so does the verdict.
use Rattle.std.proofs.Common.{◌≡◌, ◌≤◌, ℕ, ◌&&◌, not, true, false, List, [], ◌∷◌, map, filter, find, Option, Some, None, if◌then◌else◌, refl, sym, ap, subst, ◌∙◌}
use Rattle.std.specs.Prelude.{◌==◌}
use Rattle.std.specs.List.{AllByRecursion, list_any}
use Rattle.nob_ids.specs.declared.limits.Limits.{Limits}
use Rattle.nob_ids.specs.declared.wire_rep.WireRep.{WireRep}
use Rattle.nob_item.specs.declared.item.Item.{Item}
use Rattle.nob_item.specs.declared.item.Item.TheVariants as items
use Rattle.nob_model_session.specs.Pair.{IsBeginning}
use Rattle.nob_model_types.specs.declared.entry.Entry.{Entry}
use Rattle.nob_model_types.specs.declared.deed.Deed.{Deed}
use Rattle.nob_model_types.specs.declared.deed.Deed.TheVariants as did
use Rattle.nob_model_types.specs.declared.turns.Turns.{Turns}
use Rattle.nob_model_types.specs.Sessions.{closed, number, item_at}
use Rattle.nob_model_types.specs.Turns.{turns, is_own, is_refused, carries}
use Rattle.nob_model_work.specs.declared.gifts.Gift.{Gift}
use Rattle.nob_model_work.specs.declared.work.Outstanding.{Outstanding}
use Rattle.nob_model_work.specs.Work.{work}
use Rattle.nob_model_work.specs.Gifts.{gifts, all_gifts}
use Rattle.nob_model_history.specs.declared.history.History.{History}
use Rattle.nob_model_history.specs.declared.transit.SentItem.{SentItem}
use Rattle.nob_model_history.specs.Histories.{history_of}
use Rattle.nob_model_history.specs.Holds.{is_held}
use Rattle.nob_model_history.specs.Transit.{is_sent_to, sent}
use Rattle.nob_model.specs.Right.{own_ref}
use Rattle.nob_model.proofs.Waiting.{all_weaker}
use Rattle.nob_model_journal.specs.declared.verdict.Promise.TheVariants as promises
use Rattle.nob_model_journal.specs.declared.verdict.Verdict.{Verdict}
use Rattle.nob_model_journal.specs.declared.verdict.Verdict.TheVariants.{Yes, No}
use Rattle.nob_model_journal.specs.Journals.{Each, deeds_at, number_at, both_open, acted_in}
use Rattle.nob_model_journal.specs.Runs.{WorldRun}
use Rattle.nob_model_journal.specs.Fronts.{with_numbers, SendsWhileOpen, Fronts}
use Rattle.nob_model_journal.specs.Safety.{reaches_owner, is_open_copy, NoneNeeds, SafeWithdraw}
use Rattle.nob_model_journal.specs.Losses.{is_carried, sources, is_loss, is_source, was_with_owner, is_excuse, LosesExcused, NoFalseLoss}
use Rattle.nob_model_journal.specs.declared.losses.Source.{Source}
use Rattle.nob_model_journal.specs.Verdicts.{IsVerdict, most_spaces}
use Rattle.nob_model_invariant.specs.Typed.{AreOfTypes}
use Rattle.nob_model_invariant.specs.FirstSpaces.{AmongFirst}
use Rattle.nob_model_invariant.specs.AlikeLaws.{HistoriesLaw, VerdictsLaw, AlikeLaw}
use Rattle.nob_model_invariant.proofs.AlikeReading.{turns_alike, work_alike}
use Rattle.nob_model_invariant.proofs.AlikeGiving.{all_gifts_alike, sources_alike}
use Rattle.nob_model_invariant.proofs.Speaking.{first}

-- ---- what reads alike

-- what space s did reads the same whether n spaces are counted or m
pub record ReadsAlike (s n m : ℕ) (D : List Deed) : Type 0 where
  pub histories : history_of s n D ≡ history_of s m D
  pub turned : (rep : WireRep) → turns s n rep D ≡ turns s m rep D
  pub came_from : (rep : WireRep) → sources s n rep D ≡ sources s m rep D

-- all spaces do
abbrev pub AllAlike : (n m : ℕ) → List Entry → Type 0
AllAlike n m J = (s : ℕ) → ReadsAlike s n m (deeds_at s J)

-- before each entry too
abbrev pub EachAlike : (n m : ℕ) → List Entry → Type 0
EachAlike n m J = Each (λ entry before. AllAlike n m before) J

back : (s n m : ℕ) (D : List Deed) → ReadsAlike s n m D → ReadsAlike s m n D
back s n m D alike = record { histories = sym alike.histories; turned = λ rep. sym (alike.turned rep); came_from = λ rep. sym (alike.came_from rep) }

each_back : (n m : ℕ) (J : List Entry) → EachAlike n m J → EachAlike m n J
each_back n m [] alike = tt
each_back n m (entry ∷ J) alike = (λ s. back s n m (deeds_at s J) (alike.0 s), each_back n m J alike.1)

first_alike : (s n m : ℕ) → n ≤ m → (D : List Deed) → AmongFirst n D → ReadsAlike s n m D
first_alike s n m wider D speaks =
    let make : Outstanding → List (List Gift) → History = λ W G. record { deeds = D; work = W; all_gifts = G } in
    record {
      histories = ap (λ W. make W (all_gifts s n D)) (work_alike s n m wider D speaks) ∙ ap (make (work s m D)) (all_gifts_alike s n m wider D speaks);
      turned = λ rep. turns_alike s n m wider rep D speaks;
      came_from = λ rep. sources_alike s n m wider rep D speaks;
    }

run_alike : (n m : ℕ) (limits : ℕ → Limits) (J : List Entry) → n ≤ m → WorldRun n limits J → AreOfTypes J → AllAlike n m J
run_alike n m limits J wider run typed s = first_alike s n m wider (deeds_at s J) (first n limits J run typed s)

each_alike : (n m : ℕ) (limits : ℕ → Limits) (J : List Entry) → n ≤ m → WorldRun n limits J → AreOfTypes J → EachAlike n m J
each_alike n m limits [] wider run typed = tt
each_alike n m limits (entry ∷ J) wider run typed = (run_alike n m limits J wider run.1 typed.1, each_alike n m limits J wider run.1 typed.1)

-- ---- fronts

same_head : {X : Type 0} (x y : X) (xs ys : List X) → x ∷ xs ≡ y ∷ ys → x ≡ y
same_head x y xs ys e = cc

same_rest : {X : Type 0} (x y : X) (xs ys : List X) → x ∷ xs ≡ y ∷ ys → xs ≡ ys
same_rest x y xs ys e = cc

sends_alike : (s n m : ℕ) (D : List Deed) → all_gifts s n D ≡ all_gifts s m D → SendsWhileOpen s n D → SendsWhileOpen s m D
sends_alike s n m [] same sends = tt
sends_alike s n m (deed ∷ D) same sends = (
  subst (AllByRecursion (λ (gift : Gift). closed gift.to D ≡ false)) (same_head (gifts s n deed D (work s n D)) (gifts s m deed D (work s m D)) (all_gifts s n D) (all_gifts s m D) same) sends.0,
  sends_alike s n m D (same_rest (gifts s n deed D (work s n D)) (gifts s m deed D (work s m D)) (all_gifts s n D) (all_gifts s m D) same) sends.1,
)

fronts_alike : (n m : ℕ) (J : List Entry) → AllAlike n m J → Fronts n J → Fronts m J
fronts_alike n m J alike fronts = record {
  order = λ a b k. subst (λ (h : History). IsBeginning (acted_in a b k J) (with_numbers 1 (map (λ (one : SentItem). one.item) (filter (is_sent_to b k) (sent h))))) (alike a).histories (fronts.order a b k);
  acts = fronts.acts;
  sends = λ s. sends_alike s n m (deeds_at s J) (ap (λ (h : History). h.all_gifts) (alike s).histories) (fronts.sends s);
}

-- ---- withdrawals

needs_alike : (n m : ℕ) (rep : WireRep) (J : List Entry) → AllAlike n m J → NoneNeeds n rep J → NoneNeeds m rep J
needs_alike n m rep J alike none s =
    subst (λ (h : History). ((is_held s rep h && reaches_owner s rep J) ≡ false) × (list_any (is_open_copy s rep J) (sent h) ≡ false)) (alike s).histories (none s)

withdraws_alike : (n m : ℕ) (J : List Entry) → EachAlike n m J → SafeWithdraw n J → SafeWithdraw m J
withdraws_alike n m [] alike safe = tt
withdraws_alike n m (entry ∷ J) alike safe = (λ index is. needs_alike n m (own_ref entry.space index) J alike.0 (safe.0 index is), withdraws_alike n m J alike.1 safe.1)

-- ---- losses

loss_alike : (s n m p : ℕ) (rep : WireRep) (found : Option Item) (D : List Deed) → turns s n rep D ≡ turns s m rep D → is_loss s n p rep found D ≡ is_loss s m p rep found D
loss_alike s n m p rep None D same = refl
loss_alike s n m p rep (Some (items.Call call target method value)) D same = ap (λ (t : Turns). carries rep (items.Call call target method value) && is_refused t) same
loss_alike s n m p rep (Some (items.Reply call status value)) D same = ap (λ (t : Turns). carries rep (items.Reply call status value) && is_refused t) same
loss_alike s n m p rep (Some (items.Settle item)) D same = refl
loss_alike s n m p rep (Some (items.Dirty index)) D same = refl
loss_alike s n m p rep (Some (items.DirtyOk index)) D same = refl
loss_alike s n m p rep (Some (items.DirtyNo index)) D same = refl
loss_alike s n m p rep (Some (items.Clean index)) D same = refl

-- the copies that came, that of an item that is acted on too
source_alike : (s n m p k : ℕ) (rep : WireRep) (D : List Deed) → sources s n rep D ≡ sources s m rep D → sources s n rep (did.Act p k ∷ D) ≡ sources s m rep (did.Act p k ∷ D)
source_alike s n m p k rep D same = ap (λ (rest : List Source). if is_carried rep (item_at p k D) then record { from = p; session = number p D; number = k } ∷ rest else rest) same

-- what a space sent that came to s in a copy
excuse_alike : (s n m : ℕ) (rep : WireRep) (J : List Entry) → AllAlike n m J → (copy : Source) → is_excuse n s rep J copy ≡ is_excuse m s rep J copy
excuse_alike s n m rep J alike copy =
    ap (λ (h : History). not (is_own copy.from rep) && not ((copy.session == number_at copy.from s J && both_open copy.from s J) && (was_with_owner copy.from rep J (find (is_source s copy) (sent h)) && both_open copy.from rep.owner J)))
    (alike copy.from).histories

excused_alike : (n m : ℕ) (entry : Entry) (J : List Entry) → AllAlike n m J → LosesExcused n entry J → LosesExcused m entry J
excused_alike n m entry J alike excused p k rep is lost =
    let s : ℕ = entry.space in
    let D : List Deed = deeds_at s J in
    all_weaker (λ copy. is_excuse n s rep J copy ≡ true) (λ copy. is_excuse m s rep J copy ≡ true) (λ copy own. sym (excuse_alike s n m rep J alike copy) ∙ own) (sources s m rep (did.Act p k ∷ D))
    (subst (AllByRecursion (λ copy. is_excuse n s rep J copy ≡ true)) (source_alike s n m p k rep D ((alike s).came_from rep))
    (excused p k rep is (loss_alike s n m p rep (item_at p k D) D ((alike s).turned rep) ∙ lost)))

losses_alike : (n m : ℕ) (J : List Entry) → EachAlike n m J → NoFalseLoss n J → NoFalseLoss m J
losses_alike n m [] alike none = tt
losses_alike n m (entry ∷ J) alike none = (excused_alike n m entry J alike.0 none.0, losses_alike n m J alike.1 none.1)

-- ---- verdicts

verdict_alike : (n m : ℕ) (J : List Entry) → AllAlike n m J → EachAlike n m J → (verdict : Verdict) → IsVerdict n J verdict → IsVerdict m J verdict
verdict_alike n m J now each Yes its = (fronts_alike n m J now its.0, withdraws_alike n m J each its.1, losses_alike n m J each its.2, its.3)
verdict_alike n m J now each (No promises.Fronts) broken = λ fronts. broken (fronts_alike m n J (λ s. back s n m (deeds_at s J) (now s)) fronts)
verdict_alike n m J now each (No promises.Withdraws) its = (fronts_alike n m J now its.0, λ safe. its.1 (withdraws_alike m n J (each_back n m J each) safe))
verdict_alike n m J now each (No promises.Losses) its = (fronts_alike n m J now its.0, withdraws_alike n m J each its.1, λ none. its.2 (losses_alike m n J (each_back n m J each) none))
verdict_alike n m J now each (No promises.Found) its = (fronts_alike n m J now its.0, withdraws_alike n m J each its.1, losses_alike n m J each its.2, its.3)

pub histories : HistoriesLaw
histories n m limits J wider run typed s = (run_alike n m limits J wider run typed s).histories

pub verdicts : VerdictsLaw
verdicts n m limits J wider run typed verdict =
    let now : AllAlike n m J = run_alike n m limits J wider run typed in
    let each : EachAlike n m J = each_alike n m limits J wider run typed in
    (verdict_alike n m J now each verdict, verdict_alike m n J (λ s. back s n m (deeds_at s J) (now s)) (each_back n m J each) verdict)

pub alike : AlikeLaw
alike n limits J few run typed = verdicts n most_spaces limits J few run typed
