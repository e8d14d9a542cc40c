-- What a drawing says of itself: of which run it is, and what of that it shows.
use Rattle.std.specs.Prelude.{ℕ, ◌+◌, ◌-◌, Bool, true, false, ◌&&◌, ◌==◌, List, [], ◌∷◌, ◌++◌, codes, Option, Some, None, if◌then◌else◌}
use Rattle.std.specs.Fmt.{decimal}
use Rattle.nob_drawing.specs.declared.page.Page.{Page}

-- so many: the word for one, or for more
abbrev pub counted : ℕ → (one many : List ℕ) → List ℕ
counted number one many = decimal number ++ 32 ∷ (if number == 1 then one else many)

-- whether the run is accepted, and else which entry is wrong
abbrev pub verdict_words : (accepted : Bool) → Option ℕ → List ℕ
verdict_words true fault = codes "accepted"
verdict_words false None = codes "not accepted"
verdict_words false (Some row) = codes "not accepted: number " ++ (decimal row ++ codes " is wrong")

-- of which run it is
abbrev pub title_words : Page → List ℕ
title_words page = counted page.n (codes "space") (codes "spaces") ++ (codes ", " ++ (counted page.entries (codes "entry") (codes "entries") ++ (codes ", " ++ verdict_words page.accepted page.fault)))

-- whether all of it is shown
abbrev pub is_whole : Page → Bool
is_whole page = page.from == 1 && page.to == page.entries

-- how many rows are shown
abbrev pub count_shown : Page → ℕ
count_shown page = page.to + 1 - page.from

-- whose life
abbrev pub life_words : (owner index : Option ℕ) → List ℕ
life_words None None = []
life_words (Some owner) None = codes ", the lives of objects of space " ++ decimal owner
life_words None (Some index) = codes ", the lives of objects of index " ++ decimal index
life_words (Some owner) (Some index) = codes ", the life of " ++ (decimal owner ++ 46 ∷ decimal index)

-- which space
abbrev pub space_words : Option ℕ → List ℕ
space_words None = []
space_words (Some space) = codes ", space " ++ (decimal space ++ codes " and what goes to and from it")

-- what is small
abbrev pub brief_words : Bool → List ℕ
brief_words false = []
brief_words true = codes ", without what is refused and Acks alone"

-- which rows
abbrev pub part_words : (first last entries : ℕ) → List ℕ
part_words first last entries = if first == 1 && last == entries then [] else codes ", of rows " ++ (decimal first ++ (codes " to " ++ decimal last))

-- why rows aren't shown
abbrev pub choice_words : Page → List ℕ
choice_words page = life_words page.choice.owner page.choice.index ++ (space_words page.choice.space ++ (brief_words page.choice.brief ++ part_words page.first page.last page.entries))

-- what of the run is shown
abbrev pub shown_words : Page → List ℕ
shown_words page = codes "shown: " ++ (decimal (count_shown page) ++ (codes " of " ++ (counted page.entries (codes "row") (codes "rows") ++ choice_words page)))
