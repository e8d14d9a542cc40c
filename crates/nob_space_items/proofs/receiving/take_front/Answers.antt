use Rattle.std.proofs.Common.{◌-◌, ◌<◌, length, get_or, set, refl, ap, ◌∙◌, arith}
use Rattle.std.proofs.lemmas.Option.{slice_get_read}
use Rattle.nob_space_items.proofs.receiving.take_front.Goals as goal

pub take-requires : goal.take-requires
take-requires c =
    let within : c.args.peer - 1 < length c.args.sessions.now.items = (let low = c.place.ensures.next in let same = c.place.ensures.value in omega (arith, c.requires.peer, low, same)) in
    c.requires.front c.index_mut-session.result.now
    (slice_get_read c.args.sessions.now.items (length c.args.sessions.now.items) (c.args.peer - 1) c.index_mut-session.result.now refl within
    (c.index_mut-session.ensures.value ∙ ap (λ k. get_or c.args.sessions.now.items k c.index_mut-session.result.now) c.place.ensures.value))

pub returns : goal.returns
returns c = record {
  before = c.index_mut-session.result.now;
  after = c.take.new.self;
  was =
      let within : c.args.peer - 1 < length c.args.sessions.now.items = (let low = c.place.ensures.next in let same = c.place.ensures.value in omega (arith, c.requires.peer, low, same)) in
      slice_get_read c.args.sessions.now.items (length c.args.sessions.now.items) (c.args.peer - 1) c.index_mut-session.result.now refl within
      (c.index_mut-session.ensures.value ∙ ap (λ k. get_or c.args.sessions.now.items k c.index_mut-session.result.now) c.place.ensures.value);
  is = ap (λ k. set c.args.sessions.now.items k c.take.new.self) c.place.ensures.value;
  answer = λ me peer limits L stands. (c.take.ensures.answer me peer limits L stands).1;
}
