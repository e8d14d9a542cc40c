-- What is written for the entries of a journal: the verdict on them.
use Rattle.std.specs.Prelude.{◌≡◌, ℕ, ◌+◌, List, [], ◌∷◌, ◌++◌, codes}
use Rattle.std.specs.Fmt.{decimal}
use Rattle.nob_ids.specs.Names.{IsSpace}
use Rattle.nob_frame.specs.declared.version.Version.{Version}
use Rattle.nob_model_types.specs.declared.entry.Entry.{Entry}
use Rattle.nob_model_reading.specs.declared.opening.Opening.{Opening}
use Rattle.nob_model_reading.specs.Scripts.{opening_text, IsOpening}
use Rattle.nob_model_journal.specs.Verdicts.{most_spaces}
use Rattle.nob_trace.specs.declared.stamped.Stamped.{Stamped}
use Rattle.nob_trace.specs.Entries.{entry_text, IsTracedEvent, IsTracedResult}
use Rattle.nob_script_text.specs.Verdicts.{SaysVerdict}
use Rattle.nob_script_text.specs.Scripts.{IsNoOpening}

-- an entry as one of a trace, with its space for a stamp
abbrev pub stamped_of : Entry → Stamped
stamped_of entry = record { stamp = entry.space; event = entry.event; result = entry.result }

-- the line of an entry, its frames spelt in a version: that of a trace, with its space for a stamp
abbrev pub entry_line : Version → Entry → List ℕ
entry_line version entry = entry_text version (stamped_of entry)

-- an entry that a line can spell in a version
abbrev pub IsEntry : Version → Entry → Type 0
IsEntry version entry = IsSpace entry.space × IsTracedEvent version entry.event × IsTracedResult version entry.result

-- the line spells the entry, in whichever version
abbrev pub Spells : List ℕ → Entry → Type 0
Spells line entry = (version : Version) × IsEntry version entry × (line ≡ entry_line version entry)

-- a line that spells no entry
abbrev pub IsNoEntry : List ℕ → Type 0
IsNoEntry line = (entry : Entry) → Spells line entry → ⊥

-- what is written where line n isn't what it should be
abbrev pub bad_entry_text : ℕ → List ℕ
bad_entry_text n = codes "line " ++ (decimal n ++ codes ": bad entry\n")

-- what is written from line n of a journal on, which is this one, after these entries; from the next line on it is as `from_next` has it
pub data FromEntry (n : ℕ) (J : List Entry) (line : List ℕ) (from_next : List Entry → List ℕ → Type 0) (text : List ℕ) : Type 0 where
  -- the line is an entry
  read : (entry : Entry) → Spells line entry → from_next (entry ∷ J) text → FromEntry n J line from_next text
  -- the line is no entry, and nothing is judged
  bad : IsNoEntry line → text ≡ bad_entry_text n → FromEntry n J line from_next text

-- what is written from these lines of a journal on, the first being line n, after these entries, the newest FIRST: the verdict on all of them
abbrev pub FromEntries : ℕ → List Entry → List (List ℕ) → List ℕ → Type 0
FromEntries n J [] text = SaysVerdict most_spaces J text
FromEntries n J (line ∷ lines) text = FromEntry n J line (λ next rest. FromEntries (n + 1) next lines rest) text

-- what is written for a journal whose first line is this one
pub data FromFirstLine (line : List ℕ) (lines : List (List ℕ)) (text : List ℕ) : Type 0 where
  -- it is as a script has it, and is followed by the entries
  opened : (opening : Opening) → IsOpening opening → line ≡ opening_text opening → FromEntries 2 [] lines text → FromFirstLine line lines text
  -- it is no first line, and nothing is judged
  bad : IsNoOpening line → text ≡ bad_entry_text 1 → FromFirstLine line lines text

-- what is written for a journal of these lines
abbrev pub FromJournal : List (List ℕ) → List ℕ → Type 0
FromJournal [] text = text ≡ bad_entry_text 1
FromJournal (line ∷ lines) text = FromFirstLine line lines text
