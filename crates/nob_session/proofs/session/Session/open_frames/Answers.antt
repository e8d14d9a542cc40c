use Rattle.std.proofs.Common.{◌≡◌, ◌+◌, ◌<◌, ◌≤◌, ◌^◌, length, take, arith, subst, sym, ap}
use Rattle.std.proofs.lemmas.List.{length-take-le}
use Rattle.std.proofs.lemmas.Result.{IfOk-weaker}
use Rattle.std.specs.List.{AllByRecursion}
use Rattle.nob_frame.specs.declared.version.Version.TheVariants.{Two}
use Rattle.nob_frame.specs.Spelling.{Fits}
use Rattle.nob_session.specs.Items.{IsItem}
use Rattle.nob_session.specs.Stands.{Roomy}
use Rattle.nob_session.proofs.Sizes.{all_taken}
use Rattle.nob_session.proofs.Given.{few_given}
use Rattle.nob_session.proofs.Spelt.{IsNumber, window_fits}
use Rattle.nob_session.proofs.session.Session.open_frames.Goals as goal

pub returns-then-count-gt0-clause-few : goal.returns-then-count-gt0-clause-few
returns-then-count-gt0-clause-few c =
    let e = c.args.self.now.end in
    let count = c.in_window-count.result in
    let long : length (take count e.unacknowledged) ≡ count = length-take-le count e.unacknowledged c.in_window-count.ensures.there in
    let few = few_given e.me e.peer e.number (c.self.inside.accepted + 1) e.lowest e.transmitted count e.data_arrived (take count e.unacknowledged) long c.if-count-gt0.true in
    IfOk-weaker c.item_frames.result _ _ (λ v h. omega (arith, few, ap length h, c.in_window-count.ensures.few)) (c.item_frames.ensures e.data_arrived)

pub returns-then-count-gt0-clause-spelt : goal.returns-then-count-gt0-clause-spelt
returns-then-count-gt0-clause-spelt c pair =
    let e = c.args.self.now.end in
    let sound = c.self.invariant in
    let count = c.in_window-count.result in
    let long : length (take count e.unacknowledged) ≡ count = length-take-le count e.unacknowledged c.in_window-count.ensures.there in
    let sizes : AllByRecursion IsItem e.unacknowledged = subst (λ (r : Roomy). AllByRecursion IsItem r.end.unacknowledged) c.self.view_is sound.sizes in
    let low : 1 ≤ e.lowest = subst (λ (r : Roomy). 1 ≤ r.end.lowest) c.self.view_is sound.lowest_positive in
    let numbered : IsNumber e.number = (subst (λ (r : Roomy). 1 ≤ r.end.number) c.self.view_is sound.number_positive, subst (λ (r : Roomy). r.end.number < 2 ^ 32) c.self.view_is sound.number_limit) in
    let given : e.transmitted ≤ e.handed = subst (λ (r : Roomy). r.end.transmitted ≤ r.end.handed) c.self.view_is sound.transmitted_handed in
    let high : e.handed ≤ 2 ^ 40 = subst (λ (r : Roomy). r.end.handed ≤ 2 ^ 40) c.self.view_is sound.handed_limit in
    IfOk-weaker c.item_frames.result _ _
    (λ v h. subst (AllByRecursion (Fits Two)) (sym h)
    (window_fits e.me e.peer e.number (c.self.inside.accepted + 1) e.lowest e.transmitted count e.data_arrived (take count e.unacknowledged) pair.0 pair.1 pair.2 numbered (omega arith) (omega (arith, sound.accepted_limit)) low (omega (arith, c.in_window-count.ensures.last, high)) (omega (arith, given, high)) c.if-count-gt0.true long (all_taken IsItem count e.unacknowledged sizes)))
    (c.item_frames.ensures e.data_arrived)
