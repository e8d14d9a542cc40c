use Rattle.nob_drawing.proofs.writing.titled_start.Goals as goal

pub returns : goal.returns
returns c = rw (← c.class_name-class.ensures) c.format.ensures.ok
