use Rattle.std.proofs.Common.{length}
use Rattle.nob_drawing.proofs.captions.+behind_words.Given as goal

abbrev pub decreases-behind_words : goal.decreases-behind_words
decreases-behind_words l = length l.frames.now
