-- The text of a drawing: one line for each shape.
use Rattle.std.specs.Prelude.{ℕ, List, [], ◌∷◌, ◌++◌, flat_map, codes, ◌==◌, if◌then◌else◌}
use Rattle.std.specs.Fmt.{decimal}
use Rattle.nob_drawing.specs.declared.shape.Point.{Point}
use Rattle.nob_drawing.specs.declared.shape.Style.{Style}
use Rattle.nob_drawing.specs.declared.shape.Style.TheVariants as styles
use Rattle.nob_drawing.specs.declared.shape.Shape.{Shape}
use Rattle.nob_drawing.specs.declared.shape.Shape.TheVariants as shapes
use Rattle.nob_drawing.specs.declared.writing.TheConstants.{LOOKS}

-- the name of a style, to which the drawing's first lines give its looks
abbrev pub class_name : Style → List ℕ
class_name styles.Life = codes "life"
class_name styles.Guide = codes "guide"
class_name styles.Name = codes "name"
class_name styles.Number = codes "number"
class_name styles.Title = codes "title"
class_name styles.Shown = codes "shown"
class_name styles.Gloss = codes "gloss"
class_name styles.Answered = codes "answered"
class_name styles.Refused = codes "refused"
class_name styles.Closing = codes "closing"
class_name styles.Fault = codes "fault"
class_name styles.Sent = codes "sent"
class_name styles.Again = codes "sent again"
class_name styles.TookNothing = codes "sent took-nothing"
class_name styles.TookNothingAgain = codes "sent took-nothing again"
class_name styles.Part = codes "sent part"
class_name styles.PartTookNothing = codes "sent took-nothing part"
class_name styles.Open = codes "sent open"
class_name styles.OpenTookNothing = codes "sent took-nothing open"
class_name styles.Lost = codes "lost"
class_name styles.LostAgain = codes "lost again"
class_name styles.Cross = codes "cross"
class_name styles.Stray = codes "sent stray"
class_name styles.Void = codes "void"
class_name styles.Live = codes "live"
class_name styles.Listed = codes "listed"
class_name styles.Pinned = codes "pinned"
class_name styles.Held = codes "held"
class_name styles.Before = codes "words before"
class_name styles.Behind = codes "words"

-- a byte of a text: the three that mean something in a drawing's text are spelt out
abbrev pub escaped_byte : ℕ → List ℕ
escaped_byte byte = if byte == 38 then codes "&amp;" else if byte == 60 then codes "&lt;" else if byte == 62 then codes "&gt;" else byte ∷ []

-- a text
abbrev pub escaped : List ℕ → List ℕ
escaped text = flat_map escaped_byte text

-- a line
abbrev pub line_text : Style → Point → Point → List ℕ
line_text style from to = codes "<line class='" ++ (class_name style ++ (codes "' x1='" ++ (decimal from.x ++ (codes "' y1='" ++ (decimal from.y ++ (codes "' x2='" ++ (decimal to.x ++ (codes "' y2='" ++ (decimal to.y ++ codes "'/>\n")))))))))

-- a box
abbrev pub rectangle_text : Style → Point → (width height : ℕ) → List ℕ
rectangle_text style corner width height = codes "<rect class='" ++ (class_name style ++ (codes "' x='" ++ (decimal corner.x ++ (codes "' y='" ++ (decimal corner.y ++ (codes "' width='" ++ (decimal width ++ (codes "' height='" ++ (decimal height ++ codes "'/>\n")))))))))

-- what stands before the words of a box that has some
abbrev pub titled_start : Style → Point → (width height : ℕ) → List ℕ
titled_start style corner width height = codes "<rect class='" ++ (class_name style ++ (codes "' x='" ++ (decimal corner.x ++ (codes "' y='" ++ (decimal corner.y ++ (codes "' width='" ++ (decimal width ++ (codes "' height='" ++ (decimal height ++ codes "'><title>")))))))))

-- what stands before a text
abbrev pub text_start : Style → Point → List ℕ
text_start style at = codes "<text class='" ++ (class_name style ++ (codes "' x='" ++ (decimal at.x ++ (codes "' y='" ++ (decimal at.y ++ codes "'>")))))

-- what stands before a text with a note, up to the note
abbrev pub noted_start : Style → Point → List ℕ
noted_start style at = codes "<text class='" ++ (class_name style ++ (codes "' x='" ++ (decimal at.x ++ (codes "' y='" ++ (decimal at.y ++ codes "' data-lives='")))))

-- what stands before a text that goes downwards
abbrev pub turned_start : Style → Point → List ℕ
turned_start style at = codes "<text class='" ++ (class_name style ++ (codes "' transform='translate(" ++ (decimal at.x ++ (codes " " ++ (decimal at.y ++ codes ") rotate(90)'>")))))

-- a shape
abbrev pub shape_text : Shape → List ℕ
shape_text (shapes.Line style from to) = line_text style from to
shape_text (shapes.Rectangle style corner width height) = rectangle_text style corner width height
shape_text (shapes.Titled style corner width height words) = titled_start style corner width height ++ (escaped words ++ codes "</title></rect>\n")
shape_text (shapes.Text style at words) = text_start style at ++ (escaped words ++ codes "</text>\n")
shape_text (shapes.Noted style at note words) = noted_start style at ++ (escaped note ++ (codes "'>" ++ (escaped words ++ codes "</text>\n")))
shape_text (shapes.Turned style at words) = turned_start style at ++ (escaped words ++ codes "</text>\n")

-- the first line: how wide and how high the drawing is
abbrev pub head_text : (width height : ℕ) → List ℕ
head_text width height = codes "<svg xmlns='http://www.w3.org/2000/svg' width='" ++ (decimal width ++ (codes "' height='" ++ (decimal height ++ (codes "' viewBox='0 0 " ++ (decimal width ++ (codes " " ++ (decimal height ++ codes "'>\n")))))))

-- a drawing so wide and so high
abbrev pub svg_text : (width height : ℕ) → List Shape → List ℕ
svg_text width height drawing = head_text width height ++ (LOOKS.now ++ (flat_map shape_text drawing ++ codes "</svg>\n"))
