-- Words that clap faults are not taken.
use Rattle.std.proofs.Common.{◌≡◌, false, [], ◌∷◌, refl}
use Rattle.clap.specs.Kinds.{Kinds, IsAmong}
use Rattle.clap.specs.declared.error.kind.ErrorKind.{ErrorKind}
use Rattle.nob_demo_spaces.specs.Words.{takes_words}

pub not_taken : (k : ErrorKind) (ks : Kinds) → IsAmong k ks → takes_words ks ≡ false
not_taken k [] among = absurd among
not_taken k (x ∷ xs) among = refl
