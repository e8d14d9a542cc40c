use Rattle.nob_space_state.proofs.Unpinned.{shut_unpinned}
use Rattle.nob_space_state.proofs.parts.Parts.shut.Goals as goal

pub end-requires : goal.end-requires
end-requires c = shut_unpinned c.close_all.new.self c.close_all.ensures
