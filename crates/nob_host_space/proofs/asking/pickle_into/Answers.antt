-- Where no pickle was made, the error says which fault the value has, or that memory was wanted.
use Rattle.std.proofs.Common.{ℕ, sym, subst}
use Rattle.nob_pickle.specs.Writing.{pickle_of}
use Rattle.nob_host_space.specs.Numbers.{is_wanted}
use Rattle.nob_host_space.specs.Asked.{Pickles}
use Rattle.nob_host_space.proofs.Results.{pickles_err}
use Rattle.nob_host_space.proofs.asking.pickle_into.Goals as goal

pub returns-in-Err : goal.returns-in-Err
returns-in-Err c = let bytes = c.args.answer.now in
    subst (λ (n : ℕ). Pickles (is_wanted n) n bytes bytes (pickle_of c.args.value.now)) (sym c.pickle_number.ensures)
    (pickles_err c.in-Err.error bytes c.args.value.now c.in-Err.ensures.exact c.in-Err.ensures.memory)
