-- The lines of a journal that are read, and those that are left.
use Rattle.std.proofs.Common.{◌≡◌, ℕ, ◌+◌, List, [], ◌∷◌, Option, Some, None, Result, Ok, Err, IfOk, sym, ap, subst, arith, ◌≤◌}
use Rattle.nob_frame.specs.declared.version.Version.{Version}
use Rattle.nob_frame.specs.declared.version.Version.TheVariants.{One, Two}
use Rattle.nob_model_types.specs.declared.entry.Entry.{Entry}
use Rattle.nob_model_reading.specs.declared.opening.Opening.{Opening}
use Rattle.nob_model_reading.specs.Scripts.{opening_text, IsOpening}
use Rattle.nob_model_text.specs.declared.unread.Unread.{Unread}
use Rattle.nob_model_text.specs.declared.unread.Unread.TheVariants.{NoText, OutOfMemory}
use Rattle.nob_model_text.specs.Reading as reading
use Rattle.nob_trace.specs.declared.stamped.Stamped.{Stamped}
use Rattle.nob_trace.specs.Entries.{IsTraced}
use Rattle.nob_trace.proofs.OneTrace.{one_entry}
use Rattle.test_definitions.specs.Journals.{stamped_of, IsEntry, Spells, IsNoEntry, bad_entry_text, FromEntry, FromEntries, FromFirstLine, FromJournal, entry_line}

-- what is written for the lines that are left is written for all
abbrev pub Reads : ℕ → List Entry → List (List ℕ) → List (List ℕ) → Type 0
Reads number J left all = (text : List ℕ) → FromEntries number J left text → FromEntries 2 [] all text

-- a line is an entry
pub reads_on : (number : ℕ) (J next : List Entry) (line : List ℕ) (left all : List (List ℕ)) (entry : Entry) → Reads number J (line ∷ left) all → Spells line entry → next ≡ entry ∷ J → Reads (number + 1) next left all
reads_on number J next line left all entry so_far spelt more text from =
    so_far text (FromEntry.read entry spelt (subst (λ (K : List Entry). FromEntries (number + 1) K left text) more from))

-- a line that is read as no entry is none
pub no_entry : (line : List ℕ) (found : Option Entry) → found ≡ None → ((entry : Entry) → Spells line entry → found ≡ Some entry) → IsNoEntry line
no_entry line found none only entry spelt = let some = only entry spelt in absurd cc

-- what is written for a line that is no entry is written for all lines
pub bad_so : {X E : Type 0} (view : X → List ℕ) (r : Result X E) (number : ℕ) (J : List Entry) (line : List ℕ) (left all : List (List ℕ)) → Reads number J (line ∷ left) all → IsNoEntry line
    → IfOk r (λ text. view text ≡ bad_entry_text number) → IfOk r (λ text. FromEntries 2 [] all (view text))
bad_so view (Ok text) number J line left all so_far none is = so_far (view text) (FromEntry.bad none is)
bad_so view (Err e) number J line left all so_far none is = tt

-- an entry that a line can spell is one that a trace can have, with its space for a stamp
pub traced : (version : Version) (entry : Entry) → IsEntry version entry → IsTraced version (stamped_of entry)
traced version entry is = let few : entry.space ≤ 32 = is.0.1 in (omega (arith, few), is.1, is.2)

-- an entry of a stamped one
entry_in : Stamped → Entry
entry_in stamped = record { space = stamped.stamp; event = stamped.event; result = stamped.result }

-- a line spells one entry, in whichever version
pub one_spelt : (line : List ℕ) (entry twin : Entry) → Spells line entry → Spells line twin → entry ≡ twin
unfolding entry_in
one_spelt line entry twin (version, is, spelt) (other, was, again) =
    ap entry_in (one_entry line version other (stamped_of entry) (stamped_of twin) (traced version entry is) (traced other twin was) spelt again)

-- what is found in version 2 is all that the line spells
pub found_first : (line : List ℕ) (entry twin : Entry) → IsEntry Two entry × (line ≡ entry_line Two entry) → Spells line twin → Some entry ≡ Some twin
found_first line entry twin found spelt = ap Some (one_spelt line entry twin (Two, found.0, found.1) spelt)

-- what isn't found in version 2 is spelt in version 1
found_then : (line : List ℕ) (found first : Option Entry) → found ≡ None → ((entry : Entry) → IsEntry Two entry → line ≡ entry_line Two entry → found ≡ Some entry) → ((entry : Entry) → IsEntry One entry → line ≡ entry_line One entry → first ≡ Some entry)
    → (entry : Entry) → Spells line entry → first ≡ Some entry
found_then line found first none only then entry (One, is, spelt) = then entry is spelt
found_then line found first none only then entry (Two, is, spelt) = let some = only entry is spelt in absurd cc

-- what was read in version 1, where nothing was found in version 2, is all that the line spells
pub found_rest : {E : Type 0} (line : List ℕ) (found : Option Entry) (r : Result (Option Entry) E) → found ≡ None → ((entry : Entry) → IsEntry Two entry → line ≡ entry_line Two entry → found ≡ Some entry)
    → IfOk r (λ first. (entry : Entry) → IsEntry One entry → line ≡ entry_line One entry → first ≡ Some entry) → IfOk r (λ first. (entry : Entry) → Spells line entry → first ≡ Some entry)
found_rest line found (Ok first) none only then = found_then line found first none only then
found_rest line found (Err e) none only then = tt

-- nothing is read where a text spells nothing
pub is_unread : {X : Type 0} (P : X → Type 0) (e : Unread) → e ≡ NoText → reading.Reads P (Err e) → ⊥
is_unread P NoText is h = h
is_unread P OutOfMemory is h = cc

-- what is written for the entries is written for the journal, where its first line is read
pub journal_so : {X E : Type 0} (view : X → List ℕ) (r : Result X E) (lines rest : List (List ℕ)) (line : List ℕ) (opening : Opening) → lines ≡ line ∷ rest → IsOpening opening × (line ≡ opening_text opening) → IfOk r (λ text. FromEntries 2 [] rest (view text)) → IfOk r (λ text. FromJournal lines (view text))
journal_so view (Ok text) lines rest line opening parts found from = subst (λ (ls : List (List ℕ)). FromJournal ls (view text)) (sym parts) (FromFirstLine.opened opening found.0 found.1 from)
journal_so view (Err e) lines rest line opening parts found from = tt
