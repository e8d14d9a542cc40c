use Rattle.std.proofs.Common.{◌≡◌, ℕ, ◌+◌, ◌<◌, Bool, true, true≢false, List, [], ◌∷◌, ◌++◌, length, take, sym, ap, subst, ◌∙◌, arith}
use lib.ListN.{set}
use Rattle.std.proofs.lemmas.List.{take_more, length-set}
use Rattle.std.proofs.lemmas.Nat.{mod_below}
use Rattle.nob_model.specs.Next as next
use Rattle.nob_kept.specs.Accounts as accounts
use Rattle.nob_keeper.specs.Desks as desks
use Rattle.nob_keeper.proofs.Marked.{marks_more, marks_push}
use Rattle.nob_keeper.proofs.held.ready_places.Goals.{then-reply_ready, else-reply_ready}
use Rattle.nob_keeper.proofs.held.ready_places.Goals as goal

pub loop-call-preserved : goal.loop-call-preserved
loop-call-preserved c =
    let waiting = c.args.waiting.now in
    let i = c.loop-call.call-index in
    let call = c.call-item.result in
    let places = c.loop-call.places in
    let ready : ℕ → Bool = λ call. next.reply_ready call (accounts.history_in c.args.kept.now) in
    let more : take (i + 1) waiting ≡ take i waiting ++ call ∷ [] = take_more waiting i call c.loop-call-test.true ∙ ap (λ (x : ℕ). take i waiting ++ x ∷ []) (sym c.call-item.is) in
    let low : desks.place_of call < length places = subst (λ (k : ℕ). desks.place_of call < k) (sym c.loop-call.invariant.0) (mod_below call 32 (omega (arith))) in
    elim c.if-reply_ready.branch [
      | then-reply_ready w ↦
          subst (λ (ps : List Bool). (length ps ≡ 32) × desks.AreMarked ready ps (take (i + 1) waiting)) (sym w.places-is) (
            length-set places w.reply_place.result true ∙ c.loop-call.invariant.0,
            subst (λ (k : ℕ). desks.AreMarked ready (set places k true) (take (i + 1) waiting)) (sym w.reply_place.ensures.place)
                (subst (λ (calls : List ℕ). desks.AreMarked ready (set places (desks.place_of call) true) calls) (sym more) (marks_more ready places (take i waiting) call low c.loop-call.invariant.1)),
          )
      | else-reply_ready w ↦
          subst (λ (ps : List Bool). (length ps ≡ 32) × desks.AreMarked ready ps (take (i + 1) waiting)) (sym w.places-is) (
            c.loop-call.invariant.0,
            subst (λ (calls : List ℕ). desks.AreMarked ready places calls) (sym more)
                (marks_push ready places (take i waiting) call c.loop-call.invariant.1 (λ is. absurd (true≢false (sym is ∙ (sym c.reply_ready.ensures ∙ w.if-reply_ready.false))))),
          )
    ]
