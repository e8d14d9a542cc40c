-- What one line makes of what was read, and what it is refused for.
use Rattle.std.proofs.Common.{◌≡◌, ℕ, ◌<◌, ◌^◌, ◌+◌, ◌-◌, Bool, true, false, nat_lt, List, refl, sym, ap, subst, ◌∙◌, arith}
use Rattle.std.specs.Prelude.{◌≢◌, if◌then◌else◌, Option, Some, None}
use Rattle.std.proofs.lemmas.Bool.Decides.{nat_tests}
use Rattle.nob_frame.specs.declared.version.Version.{Version}
use Rattle.nob_trace.specs.declared.stamped.Stamped.{Stamped}
use Rattle.nob_trace.specs.Entries.{entry_text, IsTraced}
use Rattle.nob_chain.specs.declared.seal.Seal.{Seal}
use Rattle.nob_chain.specs.declared.fault.ChainFault.{ChainFault}
use Rattle.nob_chain.specs.declared.fault.ChainFault.TheVariants as faults
use Rattle.nob_chain.specs.declared.fault.ChainError.{ChainError}
use Rattle.nob_chain.specs.declared.fault.ChainError.TheVariants.{Fault, OutOfMemory}
use Rattle.nob_chain.specs.Seals.{seal_text, IsSeal}
use Rattle.nob_chain.specs.Chains.{ChainLine, begins, has, ends, opening_text}
use Rattle.nob_chain.specs.Openings.{OpeningFault}
use Rattle.nob_chain.specs.Reading.{Explains}
use Rattle.nob_recall.specs.declared.dated.Dated.{Dated}
use Rattle.nob_lines.specs.declared.first.FirstLine.{FirstLine}
use Rattle.nob_lines.specs.declared.first.FirstLine.TheVariants.{OfChain, OfTrace}
use Rattle.nob_lines.specs.declared.reached.Reached.{Reached}
use Rattle.nob_lines.specs.declared.reached.Reached.TheVariants.{Between, Within}
use Rattle.nob_lines.specs.declared.reached.LineDue.{LineDue}
use Rattle.nob_lines.specs.declared.reached.LineDue.TheVariants as dues
use Rattle.nob_lines.specs.declared.taking.LinesRead.{LinesRead}
use Rattle.nob_lines.specs.Steps.{version_of, space_of, n_of, IsFirst, due_of, CanFollow, line_text, Rises, IsRefusedFor, next_of, segment_of, dated_of, sealed_by, IsKept, HasRead, IsLineFault, IsEntryFault}

-- a fault of one kind is one of another
pub explained : (F G : ChainFault → Type 0) (e : ChainError) → ((f : ChainFault) → F f → G f) → Explains F e → Explains G e
explained F G (Fault f) to is = to f is
explained F G OutOfMemory to is = tt

-- a line that is due by another name
due_line : (read : LinesRead) (due : LineDue) (line : ChainLine) → due_of read.first read.reached ≡ due → CanFollow read.first due line → CanFollow read.first (due_of read.first read.reached) line
due_line read due line is can = subst (λ (d : LineDue). CanFollow read.first d line) (sym is) can

line_due : (read : LinesRead) (due : LineDue) (line : ChainLine) → due_of read.first read.reached ≡ due → CanFollow read.first (due_of read.first read.reached) line → CanFollow read.first due line
line_due read due line is can = subst (λ (d : LineDue). CanFollow read.first d line) is can

-- ---- first lines of segments

tested : (b : Bool) → (if b then dues.Segment else dues.Nothing) ≡ dues.Segment → b ≡ true
tested true e = refl
tested false e = absurd cc

small_at : (first : FirstLine) (behind last : ℕ) → IsFirst first → due_of first (Between behind last) ≡ dues.Segment → behind + 1 < 2 ^ 64
small_at (OfChain head) behind last is due =
    let less = tested (nat_lt behind head.count) due in
    let few = is.count in
    grind (arith, nat_tests, less, few)
small_at (OfTrace head) behind last is due = absurd cc

pub opened : (read : LinesRead) (behind last count : ℕ) (text : List ℕ) → IsKept read → due_of read.first read.reached ≡ dues.Segment → read.reached ≡ Between behind last → 0 < count → count < 2 ^ 64 → text ≡ opening_text (behind + 1) count
    → HasRead read (record { first = read.first; reached = Within (behind + 1) last count; held = read.held }) text None
opened read behind last count text kept due at some few is =
    let line : ChainLine = begins (behind + 1) count in
    let small = small_at read.first behind last kept.first (subst (λ (r : Reached). due_of read.first r ≡ dues.Segment) at due) in (
      line,
      record {
        can = due_line read dues.Segment line due (small, few);
        text_is = is;
        rises = subst (λ (r : Reached). Rises r line) (sym at) (omega arith, some);
        told_is = refl;
        new_is = ap (λ (r : Reached). record { first = read.first; reached = next_of r line; held = read.held }) (sym at);
      },
    )

no_opening : (first : FirstLine) (behind : ℕ) (text : List ℕ) → OpeningFault behind text faults.Entry → (line : ChainLine) → CanFollow first dues.Segment line → text ≢ line_text first line
no_opening first behind text none (begins number count) can is = none number count can.0 can.1 is
no_opening first behind text none (has entry) can is = can
no_opening first behind text none (ends seal) can is = can

pub unopened : (read : LinesRead) (behind last : ℕ) (text : List ℕ) (fault : ChainFault) → due_of read.first read.reached ≡ dues.Segment → read.reached ≡ Between behind last → OpeningFault behind text fault → IsLineFault read text fault
unopened read behind last text faults.Entry due at fault = (λ none. absurd (let both = sym due ∙ none in cc), λ line can. no_opening read.first behind text fault line (line_due read dues.Segment line due can))
unopened read behind last text faults.Segment due at fault =
    let line : ChainLine = begins fault.0 fault.1 in
    (line, due_line read dues.Segment line due (fault.2, fault.3), fault.4, subst (λ (r : Reached). IsRefusedFor r line faults.Segment) (sym at) fault.5)
unopened read behind last text faults.Short due at fault = absurd fault
unopened read behind last text faults.Stamp due at fault = absurd fault
unopened read behind last text faults.Trailing due at fault = absurd fault

-- ---- entries

pub entered : (read : LinesRead) (number last missing : ℕ) (entry : Stamped) (text : List ℕ) → due_of read.first read.reached ≡ dues.Entry → read.reached ≡ Within number last missing → IsTraced (version_of read.first) entry → text ≡ entry_text (version_of read.first) entry → last < entry.stamp
    → HasRead read (record { first = read.first; reached = Within number entry.stamp (missing - 1); held = Some (dated_of (space_of read.first) entry) }) text read.held
entered read number last missing entry text due at is spelt above =
    let line : ChainLine = has entry in (
      line,
      record {
        can = due_line read dues.Entry line due is;
        text_is = spelt;
        rises = subst (λ (r : Reached). Rises r line) (sym at) above;
        told_is = refl;
        new_is = ap (λ (r : Reached). record { first = read.first; reached = next_of r line; held = Some (dated_of (space_of read.first) entry) }) (sym at);
      },
    )

no_entry : (first : FirstLine) (text : List ℕ) → IsEntryFault (version_of first) 0 text faults.Entry → (line : ChainLine) → CanFollow first dues.Entry line → text ≢ line_text first line
no_entry first text none (has entry) can is = none entry can is
no_entry first text none (begins number count) can is = can
no_entry first text none (ends seal) can is = can

pub unentered : (read : LinesRead) (number last missing : ℕ) (text : List ℕ) (fault : ChainFault) → due_of read.first read.reached ≡ dues.Entry → read.reached ≡ Within number last missing → IsEntryFault (version_of read.first) last text fault → IsLineFault read text fault
unentered read number last missing text faults.Entry due at fault = (λ none. absurd (let both = sym due ∙ none in cc), λ line can. no_entry read.first text fault line (line_due read dues.Entry line due can))
unentered read number last missing text faults.Stamp due at fault =
    let line : ChainLine = has fault.0 in
    (line, due_line read dues.Entry line due fault.1, fault.2, subst (λ (r : Reached). IsRefusedFor r line faults.Stamp) (sym at) fault.3)
unentered read number last missing text faults.Short due at fault = absurd fault
unentered read number last missing text faults.Segment due at fault = absurd fault
unentered read number last missing text faults.Trailing due at fault = absurd fault

-- ---- seals

pub closed : (read : LinesRead) (number last missing : ℕ) (seal : Seal) (text : List ℕ) → due_of read.first read.reached ≡ dues.Seal → read.reached ≡ Within number last missing → IsSeal (space_of read.first) (n_of read.first) seal → text ≡ seal_text seal
    → HasRead read (record { first = read.first; reached = Between number last; held = None }) text (sealed_by number seal read.held)
closed read number last missing seal text due at is spelt =
    let line : ChainLine = ends seal in (
      line,
      record {
        can = due_line read dues.Seal line due is;
        text_is = spelt;
        rises = subst (λ (r : Reached). Rises r line) (sym at) tt;
        told_is = ap (λ (r : Reached). sealed_by (segment_of r) seal read.held) (sym at);
        new_is = ap (λ (r : Reached). record { first = read.first; reached = next_of r line; held = None }) (sym at);
      },
    )

-- a text spells no seal that is due
abbrev pub IsNoSeal : FirstLine → List ℕ → ChainFault → Type 0
IsNoSeal first text fault = (fault ≡ faults.Entry) × ((seal : Seal) → IsSeal (space_of first) (n_of first) seal → text ≡ seal_text seal → ⊥)

no_seal : (first : FirstLine) (text : List ℕ) → ((seal : Seal) → IsSeal (space_of first) (n_of first) seal → text ≡ seal_text seal → ⊥) → (line : ChainLine) → CanFollow first dues.Seal line → text ≢ line_text first line
no_seal first text none (ends seal) can is = none seal can is
no_seal first text none (begins number count) can is = can
no_seal first text none (has entry) can is = can

pub unclosed : (read : LinesRead) (text : List ℕ) (fault : ChainFault) → due_of read.first read.reached ≡ dues.Seal → IsNoSeal read.first text fault → IsLineFault read text fault
unclosed read text fault due is =
    let entry : IsLineFault read text faults.Entry = (λ none. absurd (let both = sym due ∙ none in cc), λ line can. no_seal read.first text is.1 line (line_due read dues.Seal line due can)) in
    subst (λ (f : ChainFault). IsLineFault read text f) (sym is.0) entry

-- ---- the same, as the functions come to it

pub entered_by : (read : LinesRead) (number last missing space : ℕ) (version : Version) (entry : Stamped) (dated : Dated) (before : Option Dated) (text : List ℕ) → due_of read.first read.reached ≡ dues.Entry → read.reached ≡ Within number last missing
    → version ≡ version_of read.first → space ≡ space_of read.first → dated ≡ dated_of space entry → before ≡ read.held → IsTraced version entry × (text ≡ entry_text version entry) × (last < entry.stamp)
    → HasRead read (record { first = read.first; reached = Within number entry.stamp (missing - 1); held = Some dated }) text before
entered_by read number last missing space version entry dated before text due at of in_space made kept is =
    let one = entered read number last missing entry text due at (subst (λ (v : Version). IsTraced v entry) of is.0) (subst (λ (v : Version). text ≡ entry_text v entry) of is.1) is.2 in
    let same : dated ≡ dated_of (space_of read.first) entry = made ∙ ap (λ (k : ℕ). dated_of k entry) in_space in
    subst (λ (x : Option Dated). HasRead read (record { first = read.first; reached = Within number entry.stamp (missing - 1); held = Some dated }) text x) (sym kept)
    (subst (λ (d : Dated). HasRead read (record { first = read.first; reached = Within number entry.stamp (missing - 1); held = Some d }) text read.held) (sym same) one)

pub unentered_by : (read : LinesRead) (number last missing : ℕ) (version : Version) (text : List ℕ) (error : ChainError) → due_of read.first read.reached ≡ dues.Entry → read.reached ≡ Within number last missing → version ≡ version_of read.first
    → Explains (λ f. IsEntryFault version last text f) error → Explains (λ f. IsLineFault read text f) error
unentered_by read number last missing version text error due at of is =
    explained (λ f. IsEntryFault version last text f) (λ f. IsLineFault read text f) error (λ f fault. unentered read number last missing text f due at (subst (λ (v : Version). IsEntryFault v last text f) of fault)) is

pub closed_by : (read : LinesRead) (number last missing own n : ℕ) (seal : Seal) (before left told : Option Dated) (text : List ℕ) → due_of read.first read.reached ≡ dues.Seal → read.reached ≡ Within number last missing
    → own ≡ space_of read.first → n ≡ n_of read.first → before ≡ read.held → left ≡ None → told ≡ sealed_by number seal before → IsSeal own n seal × (text ≡ seal_text seal)
    → HasRead read (record { first = read.first; reached = Between number last; held = left }) text told
closed_by read number last missing own n seal before left told text due at in_space of kept none made is =
    let sealed = subst (λ (a : ℕ). IsSeal a (n_of read.first) seal) in_space (subst (λ (b : ℕ). IsSeal own b seal) of is.0) in
    let one = closed read number last missing seal text due at sealed is.1 in
    subst (λ (x : Option Dated). HasRead read (record { first = read.first; reached = Between number last; held = x }) text told) (sym none)
    (subst (λ (d : Option Dated). HasRead read (record { first = read.first; reached = Between number last; held = None }) text d) (sym (made ∙ ap (λ (d : Option Dated). sealed_by number seal d) kept)) one)

-- a text spells no seal of this space, of n
abbrev pub IsNoSealBy : (own n : ℕ) → List ℕ → ChainFault → Type 0
IsNoSealBy own n text fault = (fault ≡ faults.Entry) × ((seal : Seal) → IsSeal own n seal → text ≡ seal_text seal → ⊥)

pub unclosed_by : (read : LinesRead) (own n : ℕ) (text : List ℕ) (error : ChainError) → due_of read.first read.reached ≡ dues.Seal → own ≡ space_of read.first → n ≡ n_of read.first
    → Explains (λ f. IsNoSealBy own n text f) error → Explains (λ f. IsLineFault read text f) error
unclosed_by read own n text error due in_space of is =
    explained (λ f. IsNoSealBy own n text f) (λ f. IsLineFault read text f) error (λ f fault. unclosed read text f due (subst (λ (a : ℕ). IsNoSealBy a (n_of read.first) text f) in_space (subst (λ (b : ℕ). IsNoSealBy own b text f) of fault))) is
