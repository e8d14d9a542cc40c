use Rattle.std.proofs.Common.{◌≡◌, List, ℕ, length, ap, sym, subst, ◌∙◌}
use Rattle.nob_demo_scripts.specs.Log.{Log, AreCounted, all_frames}
use Rattle.nob_demo_scripts.proofs.Logs.{first_more, second_more}
use Rattle.nob_demo_scripts.proofs.log.FrameLog.add_item.Goals as goal

pub invariant_of-self-in-First : goal.invariant_of-self-in-First
invariant_of-self-in-First c =
    let s = c.self.inside in
    let h = first_more s.first.items s.second.items c.args.item 0 s.rows.items c.self.invariant.0 in
    subst (λ (xs : List (List ℕ)). AreCounted xs s.second.items 0 s.rows.items × (s.count ≡ length (all_frames xs s.second.items s.rows.items))) (sym c.in_ok-push-in-First.ensures.items)
    (h.0, c.self.invariant.1 ∙ ap length (sym h.1))

pub returns-in_ok-push-in-First : goal.returns-in_ok-push-in-First
returns-in_ok-push-in-First c =
    let s = c.self.inside in
    let h = first_more s.first.items s.second.items c.args.item 0 s.rows.items c.self.invariant.0 in
    ap (λ (xs : List (List ℕ)). all_frames xs s.second.items s.rows.items) c.in_ok-push-in-First.ensures.items ∙ h.1 ∙ ap (λ (log : Log). log.frames) c.self.view_is

pub invariant_of-self-in-Second : goal.invariant_of-self-in-Second
invariant_of-self-in-Second c =
    let s = c.self.inside in
    let h = second_more s.first.items s.second.items c.args.item 0 s.rows.items c.self.invariant.0 in
    subst (λ (xs : List (List ℕ)). AreCounted s.first.items xs 0 s.rows.items × (s.count ≡ length (all_frames s.first.items xs s.rows.items))) (sym c.in_ok-push-in-Second.ensures.items)
    (h.0, c.self.invariant.1 ∙ ap length (sym h.1))

pub returns-in_ok-push-in-Second : goal.returns-in_ok-push-in-Second
returns-in_ok-push-in-Second c =
    let s = c.self.inside in
    let h = second_more s.first.items s.second.items c.args.item 0 s.rows.items c.self.invariant.0 in
    ap (λ (xs : List (List ℕ)). all_frames s.first.items xs s.rows.items) c.in_ok-push-in-Second.ensures.items ∙ h.1 ∙ ap (λ (log : Log). log.frames) c.self.view_is
