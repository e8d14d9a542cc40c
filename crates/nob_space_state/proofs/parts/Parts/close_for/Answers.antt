use Rattle.std.proofs.Common.{◌≡◌, ℕ, ◌-◌, true, false, Ok, get_or, refl, subst, ◌∙◌}
use lib.ListN.{set}
use Rattle.nob_model_session.specs.declared.entry.EndEntry.TheVariants as ends
use Rattle.nob_session.proofs.Alike.{called_onward}
use Rattle.nob_model_types.specs.declared.deed.Cause.{Cause}
use Rattle.nob_model_types.specs.declared.deed.Cause.TheVariants as causes
use Rattle.nob_model_history.specs.Ends.{call_of_closing}
use Rattle.nob_model_history.specs.Histories.{history_of}
use Rattle.nob_space_state.specs.Closing.{ClosesDown, Closes}
use Rattle.nob_space_state.specs.Parts.{state_of, with_sessions}
use Rattle.nob_space_state.proofs.Closings.{vain_lent, open_end, ended_stands}
use Rattle.nob_space_state.proofs.Ends.{end_there}
use Rattle.nob_space_state.proofs.Passing.{same_space}
use Rattle.nob_space_state.proofs.parts.Parts.close_for.Goals as goal

pub close_down-requires : goal.close_down-requires
close_down-requires c = vain_lent c.requires.state.2 c.in-Ok.closed.peer

pub unreachable-requires : goal.unreachable-requires
unreachable-requires c =
    let is : c.index_mut.result.now ≡ get_or c.args.self.now.sessions.items (c.args.peer - 1) c.index_mut.result.now = subst (λ k. c.index_mut.result.now ≡ get_or c.args.self.now.sessions.items k c.index_mut.result.now) c.place.ensures.value c.index_mut.ensures.value in
    let there = end_there c.args.self.now.here.space c.args.self.now.here.n c.requires.state.0 c.args.self.now.sessions.items (history_of c.args.self.now.here.space c.args.self.now.here.n c.requires.state.1) c.args.peer c.index_mut.result.now c.requires.state.2.ends c.requires.peer is in
    let bad : false ≡ true = (c.in-Err.ensures {u = tt}).open ∙ open_end c.args.self.now.sessions.items c.args.peer c.index_mut.result.now there.0 there.1 c.requires.open in
    cc

closed_by : (c : goal.After-close_down) (cause : Cause) → call_of_closing c.args.peer c.args.reason cause ≡ ends.Close c.args.reason (Ok (record { peer = c.args.peer; reason = c.args.reason })) → Closes c.args.peer c.args.reason cause c.args.self.now c.close_down.new.self
closed_by c cause call_is = λ limits D stands its.
    let is : c.index_mut.result.now ≡ get_or c.args.self.now.sessions.items (c.args.peer - 1) c.index_mut.result.now = subst (λ k. c.index_mut.result.now ≡ get_or c.args.self.now.sessions.items k c.index_mut.result.now) c.place.ensures.value c.index_mut.ensures.value in
    same_space c.close_down.new.self.here c.args.self.now.here c.close_down.ensures.here (ended_stands stands c.args.peer c.args.reason cause (λ e. ends.Close c.args.reason (Ok e)) call_is c.index_mut.result.now c.close.new.self (state_of c.close_down.new.self) c.in-Ok.closed c.requires.peer is
    (c.in-Ok.ensures {u = tt}).reason (c.in-Ok.ensures {u = tt}).ends.1
    (λ before. (called_onward (ends.Close c.args.reason (Ok c.in-Ok.closed)) before (λ M stood. (c.in-Ok.ensures {u = tt}).answer c.args.self.now.here.space c.args.peer limits M stood)).1)
    (subst (λ (k : ℕ). ClosesDown c.args.self.now.here.space c.in-Ok.closed.peer (with_sessions (set c.args.self.now.sessions.items k c.close.new.self) (state_of c.args.self.now)) (state_of c.close_down.new.self)) c.place.ensures.value c.close_down.ensures.closes) its)

pub returns-clause-item : goal.returns-clause-item
returns-clause-item c = closed_by c causes.Item refl

pub returns-clause-asked : goal.returns-clause-asked
returns-clause-asked c = closed_by c causes.Asked refl
