-- Entries that were read so far, and the lines that are left.
use Rattle.std.proofs.Common.{◌≡◌, ◌≢◌, ℕ, suc, ◌+◌, ◌-◌, ◌<◌, ◌≤◌, List, [], ◌∷◌, ◌++◌, length, refl, sym, ap, subst, arith, ◌∙◌, append_assoc, length-append, Result, Ok, Err}
use Rattle.std.specs.Prelude.{IsErrAnd}
use Rattle.std.specs.List.{AllByRecursion}
use Rattle.nob_frame.specs.declared.version.Version.TheVariants.{Two}
use Rattle.nob_trace.specs.declared.stamped.Stamped.{Stamped}
use Rattle.nob_trace.specs.Stamps.{Rise, last_stamp}
use Rattle.nob_trace.specs.Entries.{entry_text, IsTraced}
use Rattle.nob_trace.specs.Reading.{BeginsWithLine, Lacks, IsNoEntry}
use Rattle.nob_trace.proofs.Rising.{rise_push, last_push}
use Rattle.nob_chain.specs.declared.head.ChainHead.{ChainHead}
use Rattle.nob_chain.specs.declared.fault.ChainFault.{ChainFault}
use Rattle.nob_chain.specs.declared.fault.ChainFault.TheVariants as faults
use Rattle.nob_chain.specs.declared.fault.ChainError.{ChainError}
use Rattle.nob_chain.specs.declared.fault.ChainError.TheVariants.{Fault, OutOfMemory}
use Rattle.nob_chain.specs.Chains.{ChainLine, begins, has, ends, line_text, lines_text, entry_lines}
use Rattle.nob_chain.specs.Reading.{Stage, within, Waits, CanStand, after, Go, LineFault, GoesWrong, Answers, Explains}
use Rattle.nob_chain.proofs.Leads.{lines_both, go_both, after_both, go_entries, after_entries, last_low}

-- ---- errors

-- a fault as another statement of it
pub map_fault : {X : Type 0} (P : X → Type 0) (F G : ChainFault → Type 0) (r : Result X ChainError) (e : ChainError) → IsErrAnd r (λ f. f ≡ e) → Explains F e → ((fault : ChainFault) → F fault → G fault) → Answers P G r
map_fault P F G (Ok x) e is wrong map = absurd is
map_fault P F G (Err f) (Fault fault) is wrong map = subst (λ (g : ChainError). Answers P G (Err g)) (sym is) (map fault wrong)
map_fault P F G (Err f) OutOfMemory is wrong map = subst (λ (g : ChainError). Answers P G (Err g)) (sym is) tt

-- behind lines that go on, what goes wrong does
pub wrong_behind : (h : ChainHead) (stage there : Stage) (ls : List ChainLine) (text left : List ℕ) (f : ChainFault) → Go h stage ls → after stage ls ≡ there → text ≡ lines_text ls ++ left → GoesWrong h there left f → GoesWrong h stage text f
wrong_behind h stage there ls text left f go to is wrong =
    let ms = wrong.0 in
    let back = sym to in
    let led : after stage (ls ++ ms) ≡ after there ms = after_both stage ls ms ∙ ap (λ (x : Stage). after x ms) to in (
      ls ++ ms,
      wrong.1,
      record {
        go = go_both h stage ls ms go (subst (λ (x : Stage). Go h x ms) back wrong.2.go);
        text_is = is ∙ ap (λ (bs : List ℕ). lines_text ls ++ bs) wrong.2.text_is ∙ sym (append_assoc (lines_text ls) (lines_text ms) wrong.1) ∙ ap (λ (bs : List ℕ). bs ++ wrong.1) (sym (lines_both ls ms));
        waits = subst (λ (x : Stage). Waits h x) (sym led) wrong.2.waits;
        fault_is = subst (λ (x : Stage). LineFault h x wrong.1 f) (sym led) wrong.2.fault_is;
      },
    )

-- a line's fault, where a line is due
pub wrong_here : (h : ChainHead) (stage : Stage) (text : List ℕ) (f : ChainFault) → Waits h stage → LineFault h stage text f → GoesWrong h stage text f
wrong_here h stage text f waits fault = ([], text, record { go = tt; text_is = refl; waits = waits; fault_is = fault })

-- ---- one entry

-- a line that spells no entry spells nothing that is due
no_entry : (h : ChainHead) (number low missing : ℕ) (line : List ℕ) → IsNoEntry Two line → (l : ChainLine) → CanStand h (within number low (suc missing)) l → line ≢ line_text l
no_entry h number low missing line none (has e) can = none e can
no_entry h number low missing line none (begins n c) can = absurd can
no_entry h number low missing line none (ends s) can = absurd can

-- where an entry is due
abbrev pub EntryFault : ℕ → List ℕ → ChainFault → Type 0
EntryFault low text fault = (h : ChainHead) (number missing : ℕ) → LineFault h (within number low (missing + 1)) text fault

to_next : (P : ℕ → Type 0) (missing : ℕ) → P (suc missing) → P (missing + 1)
to_next P missing p = let same : suc missing ≡ missing + 1 = omega arith in subst P same p

pub cut_entry : (low : ℕ) (text : List ℕ) → Lacks 10 text → EntryFault low text faults.Short
cut_entry low text lacks h number missing = lacks

bad_entry : (low : ℕ) (text line rest : List ℕ) (f : ChainFault) → BeginsWithLine text line rest → (f ≡ faults.Entry) × IsNoEntry Two line → EntryFault low text f
bad_entry low text line rest f starts wrong h number missing =
    to_next (λ m. LineFault h (within number low m) text f) missing (subst (λ (x : ChainFault). LineFault h (within number low (suc missing)) text x) (sym wrong.0) (line, rest, starts, no_entry h number low missing line wrong.1))

pub entry_error : {X : Type 0} (P : X → Type 0) (low : ℕ) (text line rest : List ℕ) (r : Result X ChainError) (e : ChainError) → BeginsWithLine text line rest → IsErrAnd r (λ f. f ≡ e) → Explains (λ fault. (fault ≡ faults.Entry) × IsNoEntry Two line) e → Answers P (EntryFault low text) r
entry_error P low text line rest r e starts is wrong = map_fault P (λ fault. (fault ≡ faults.Entry) × IsNoEntry Two line) (EntryFault low text) r e is wrong (λ f w. bad_entry low text line rest f starts w)

pub low_stamp : (low : ℕ) (text line rest : List ℕ) (e : Stamped) → BeginsWithLine text line rest → IsTraced Two e × (line ≡ entry_text Two e) → e.stamp ≤ low → EntryFault low text faults.Stamp
low_stamp low text line rest e starts one below h number missing =
    to_next (λ m. LineFault h (within number low m) text faults.Stamp) missing (has e, rest, one.0, starts.1 ∙ ap (λ (bs : List ℕ). bs ++ 10 ∷ rest) one.1, below)

pub entry_found : (text line rest : List ℕ) (e : Stamped) → BeginsWithLine text line rest → line ≡ entry_text Two e → text ≡ entry_text Two e ++ 10 ∷ rest
entry_found text line rest e starts is = starts.1 ∙ ap (λ (bs : List ℕ). bs ++ 10 ∷ rest) is

-- ---- entries one after the other

pub record FoundSoFar (last : ℕ) (text : List ℕ) (count : ℕ) (done : List Stamped) (left : List ℕ) (low : ℕ) : Type 0 where
  pub few : length done ≤ count
  pub rise : Rise last done
  pub traced : AllByRecursion (IsTraced Two) done
  pub text_is : text ≡ lines_text (entry_lines done) ++ left
  pub low_is : low ≡ last_stamp last done

all_push : {A : Type 0} (P : A → Type 0) (done : List A) (e : A) → AllByRecursion P done → P e → AllByRecursion P (done ++ e ∷ [])
all_push P [] e all one = (one, tt)
all_push P (x ∷ done) e all one = (all.0, all_push P done e all.1 one)

lines_push : (done : List Stamped) (e : Stamped) (rest : List ℕ) → lines_text (entry_lines done) ++ (entry_text Two e ++ 10 ∷ rest) ≡ lines_text (entry_lines (done ++ e ∷ [])) ++ rest
lines_push [] e rest = sym (append_assoc (entry_text Two e) (10 ∷ []) rest)
lines_push (x ∷ done) e rest =
    append_assoc (entry_text Two x) (10 ∷ lines_text (entry_lines done)) (entry_text Two e ++ 10 ∷ rest)
    ∙ ap (λ (bs : List ℕ). entry_text Two x ++ 10 ∷ bs) (lines_push done e rest)
    ∙ sym (append_assoc (entry_text Two x) (10 ∷ lines_text (entry_lines (done ++ e ∷ []))) rest)

pub found_next : (last : ℕ) (text : List ℕ) (count : ℕ) (done : List Stamped) (left rest : List ℕ) (low : ℕ) (e : Stamped) → length done < count → IsTraced Two e × (low < e.stamp) × (left ≡ entry_text Two e ++ 10 ∷ rest)
    → FoundSoFar last text count done left low → FoundSoFar last text count (done ++ e ∷ []) rest e.stamp
found_next last text count done left rest low e less one so_far = record {
  few = omega (arith, less, length-append done (e ∷ []));
  rise = rise_push last done e so_far.rise (subst (λ (n : ℕ). n < e.stamp) so_far.low_is one.1);
  traced = all_push (IsTraced Two) done e so_far.traced one.0;
  text_is = so_far.text_is ∙ ap (λ (bs : List ℕ). lines_text (entry_lines done) ++ bs) one.2 ∙ lines_push done e rest;
  low_is = sym (last_push last done e);
}

-- the next entry's stamp is above the last one of those that were read
pub above : (last : ℕ) (text : List ℕ) (count : ℕ) (done : List Stamped) (left : List ℕ) (low stamp : ℕ) → low < stamp → FoundSoFar last text count done left low → last_stamp 0 done < stamp
above last text count done left low stamp more so_far =
    let is = so_far.low_is in
    let under = last_low last done in
    omega (arith, is, under, more)

-- where entries are due
abbrev pub EntriesFault : ℕ → List ℕ → ℕ → ChainFault → Type 0
EntriesFault last text count fault = (h : ChainHead) (number : ℕ) → GoesWrong h (within number last count) text fault

wrong_entry : (last : ℕ) (text : List ℕ) (count : ℕ) (done : List Stamped) (left : List ℕ) (low : ℕ) (f : ChainFault) → length done < count → FoundSoFar last text count done left low → EntryFault low left f → EntriesFault last text count f
wrong_entry last text count done left low f less so_far wrong h number =
    let missing = count - length done - 1 in
    let long : count ≡ length done + (missing + 1) = omega (arith, less) in
    let fault = subst (λ (n : ℕ). LineFault h (within number n (missing + 1)) left f) so_far.low_is (wrong h number missing) in
    wrong_behind h (within number last count) (within number (last_stamp last done) (missing + 1)) (entry_lines done) text left f (go_entries h number last done count (missing + 1) long so_far.rise so_far.traced) (after_entries number last done count (missing + 1) long) so_far.text_is
    (wrong_here h (within number (last_stamp last done) (missing + 1)) left f tt fault)

pub entries_error : {X : Type 0} (P : X → Type 0) (last : ℕ) (text : List ℕ) (count : ℕ) (done : List Stamped) (left : List ℕ) (low : ℕ) (r : Result X ChainError) (e : ChainError) → length done < count → FoundSoFar last text count done left low
    → IsErrAnd r (λ f. f ≡ e) → Explains (EntryFault low left) e → Answers P (EntriesFault last text count) r
entries_error P last text count done left low r e less so_far is wrong = map_fault P (EntryFault low left) (EntriesFault last text count) r e is wrong (λ f w. wrong_entry last text count done left low f less so_far w)
