use Rattle.std.proofs.Common.{refl}
use Rattle.nob_space_items.proofs.Noted.{clean_stands}
use Rattle.nob_space_items.proofs.Taken.{waits_there}
use Rattle.nob_space_items.proofs.notes.act_on_clean.Goals as goal

pub take-requires : goal.take-requires
take-requires c = waits_there c.requires.state.2 (c.requires.front c.requires.state.0 c.requires.state.1 c.requires.state.2) c.place.result c.place.ensures.value c.index_mut.result.now c.index_mut.ensures.value

pub returns : goal.returns
returns c = record {
  stands = λ limits D stands. clean_stands stands c.place.result c.place.ensures.value c.index_mut.result.now c.take.new.self c.index_mut.ensures.value (λ me peer limits L before. (c.take.ensures.answer me peer limits L before).1) c.args.index (c.requires.front limits D stands) c.unlist.new.dirty c.unlist.ensures.listed c.unlist.new.table c.unlist.ensures.table.items c.unlist.ensures.kept;
  here = refl;
}
