-- The words that the program takes.
use Rattle.std.specs.Prelude.{◌≡◌, ◌&&◌, ◌||◌, ℕ, Bool, true, false, List, [], ◌∷◌, codes, Option, Some, None, if◌then◌else◌}
use Rattle.std.specs.Str.{bytes_eq}
use Rattle.clap.specs.Words.{App, Row, Text, with_subcommand, fault_of, subcommand_of}
use Rattle.clap.specs.Simple.{new_shape}
use Rattle.clap.specs.Kinds.{Kinds}
use Rattle.nob_keeper.specs.Keep.{Keep}
use Rattle.nob_keeper.specs.Keep.TheVariants.{All, Nothing}
use Rattle.nob_demo_spaces.specs.Options.{excerpt_in, draw_shape, spaces_shape, setting_in, AreWithin}
use Rattle.nob_demo_spaces.specs.declared.fault.Fault.{Fault}
use Rattle.nob_demo_spaces.specs.declared.fault.Fault.TheVariants.{Words, Read, Write, Memory}
use Rattle.nob_demo_spaces.specs.declared.command_line.Subcommand.{Subcommand}
use Rattle.nob_demo_spaces.specs.declared.command_line.Subcommand.TheVariants.{Pair, Script, Check, Draw, Spaces}

-- the command `nobj` with the subcommand `pair` alone, as clap sees it: it has a version
abbrev pub nobj_with_pair : App
nobj_with_pair = with_subcommand (record { top = record (new_shape (codes "nobj")) { has_version = true }; subs = [] }) (new_shape (codes "pair"))

-- the same command with the subcommand `script` too
abbrev pub nobj_with_script : App
nobj_with_script = with_subcommand nobj_with_pair (new_shape (codes "script"))

-- the same command with the subcommand `check` too
abbrev pub nobj_with_check : App
nobj_with_check = with_subcommand nobj_with_script (new_shape (codes "check"))

-- the same command with the subcommand `draw` too, with its options
abbrev pub nobj_with_draw : App
nobj_with_draw = with_subcommand nobj_with_check draw_shape

-- the command `nobj`: it has the subcommand `spaces` too, with its options, by what the nodes of a scene keep
abbrev pub nobj : Keep → App
nobj keep = with_subcommand nobj_with_draw (spaces_shape keep)

-- whether a word says that nothing is kept: `--keep=nothing`, or `nothing` behind the word `--keep`
abbrev pub says_nothing : (after_keep : Bool) → (word : List ℕ) → Bool
says_nothing after_keep word = bytes_eq word (codes "--keep=nothing") || after_keep && bytes_eq word (codes "nothing")

-- whether one of these words says so, before which `--keep` may stand
abbrev pub say_nothing : (after_keep : Bool) → List (List ℕ) → Bool
say_nothing after_keep [] = false
say_nothing after_keep (word ∷ rest) = if says_nothing after_keep word then true else say_nothing (bytes_eq word (codes "--keep")) rest

-- what the nodes of a scene are to keep by words of which the first is the program's name: nothing where the others say so, else all
abbrev pub keep_in : List (List ℕ) → Keep
keep_in [] = All
keep_in (program ∷ words) = if say_nothing false words then Nothing else All

-- the kinds of error that clap may answer to these words, of which the first is the program's name: none where it takes them
abbrev pub word_faults : List (List ℕ) → Kinds
word_faults words = fault_of (nobj (keep_in words)) words

-- whether clap takes the words
abbrev pub takes_words : Kinds → Bool
takes_words [] = true
takes_words (k ∷ ks) = false

-- the subcommand of this name: `script`, `check`, `draw` or `spaces`, of whose options clap found these rows and whose nodes keep this, or `pair`
abbrev pub subcommand_named : Keep → (name : Text) → List Row → Subcommand
subcommand_named keep name rows = if bytes_eq name (codes "script") then Script else (if bytes_eq name (codes "check") then Check else (if bytes_eq name (codes "draw") then Draw (excerpt_in rows) else (if bytes_eq name (codes "spaces") then Spaces (setting_in keep rows) else Pair)))

-- the subcommand that clap met, with the rows of its options: `pair` where it met none
abbrev pub subcommand_by : Keep → Option (Text × List Row) → Subcommand
subcommand_by keep None = Pair
subcommand_by keep (Some met) = subcommand_named keep met.0 met.1

-- what these words run, where clap takes them
abbrev pub subcommand_in : List (List ℕ) → Subcommand
subcommand_in words = subcommand_by (keep_in words) (subcommand_of (nobj (keep_in words)) words)

-- why the words aren't taken: clap refuses them, or memory ran out
abbrev pub IsWordsFault : Fault → (taken : Bool) → Type 0
IsWordsFault (Words text) taken = taken ≡ false
IsWordsFault Read taken = ⊥
IsWordsFault Memory taken = Unit {0}
IsWordsFault Write taken = ⊥

-- where clap takes words that name a subcommand, the numbers of its options are in range
abbrev pub TakenAreWithin : Type 0
TakenAreWithin = (words : List (List ℕ)) (name : Text) (rows : List Row) → takes_words (word_faults words) ≡ true → subcommand_of (nobj (keep_in words)) words ≡ Some (name, rows) → AreWithin (keep_in words) name rows
