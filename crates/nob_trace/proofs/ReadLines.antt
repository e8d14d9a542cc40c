-- Entries that were read so far, and the lines that are left.
use Rattle.std.proofs.Common.{◌≡◌, ℕ, ◌<◌, ◌≤◌, List, [], ◌∷◌, ◌++◌, length, refl, sym, ap, subst, arith, ◌∙◌, append_assoc, length-append, Result, Ok, Err}
use Rattle.std.specs.Prelude.{IsErrAnd}
use Rattle.std.specs.List.{AllByRecursion}
use Rattle.std.proofs.lemmas.List.{append-nil}
use Rattle.nob_frame.specs.declared.version.Version.{Version}
use Rattle.nob_trace.specs.declared.stamped.Stamped.{Stamped}
use Rattle.nob_trace.specs.declared.fault.TraceFault.{TraceFault}
use Rattle.nob_trace.specs.declared.fault.TraceFault.TheVariants as faults
use Rattle.nob_trace.specs.declared.fault.TraceError.{TraceError}
use Rattle.nob_trace.specs.declared.fault.TraceError.TheVariants.{Fault, OutOfMemory}
use Rattle.nob_trace.specs.Stamps.{Rise, last_stamp}
use Rattle.nob_trace.specs.Entries.{entry_text, IsTraced}
use Rattle.nob_trace.specs.Traces.{entries_text}
use Rattle.nob_trace.specs.Reading.{Answers, BeginsWithLine, Breaks, EntriesFault, Explains, IsNoEntry, Lacks}
use Rattle.nob_trace.proofs.Parting.{has_one, one_parting}
use Rattle.nob_trace.proofs.Signs as signs
use Rattle.nob_trace.proofs.Rising.{rise_push}

-- the lines are those of the entries and the rest
pub record FoundSoFar (version : Version) (text : List ℕ) (count : ℕ) (done : List Stamped) (left : List ℕ) : Type 0 where
  pub few : length done ≤ count
  pub rise : Rise 0 done
  pub traced : AllByRecursion (IsTraced version) done
  pub text_is : text ≡ entries_text version done ++ left

-- whatever entries the lines spell, they are those that were read and others that the rest spells
abbrev pub Left : Version → List Stamped → List ℕ → List Stamped → List ℕ → Type 0
Left version done left all rest = (others : List Stamped) × (all ≡ done ++ others) × Rise (last_stamp 0 done) others × AllByRecursion (IsTraced version) others × (left ≡ entries_text version others ++ rest)

abbrev pub OnlySoFar : Version → List ℕ → ℕ → List Stamped → List ℕ → Type 0
OnlySoFar version text count done left = (all : List Stamped) (rest : List ℕ) → length all ≡ count → Rise 0 all → AllByRecursion (IsTraced version) all → text ≡ entries_text version all ++ rest → Left version done left all rest

all_push : (P : Stamped → Type 0) (done : List Stamped) (e : Stamped) → AllByRecursion P done → P e → AllByRecursion P (done ++ e ∷ [])
all_push P [] e all one = (one, tt)
all_push P (x ∷ done) e all one = (all.0, all_push P done e all.1 one)

entries_push : (version : Version) (done : List Stamped) (e : Stamped) (after : List ℕ) → entries_text version done ++ (entry_text version e ++ 10 ∷ after) ≡ entries_text version (done ++ e ∷ []) ++ after
entries_push version [] e after = sym (append_assoc (entry_text version e) (10 ∷ []) after)
entries_push version (x ∷ done) e after =
    append_assoc (entry_text version x) (10 ∷ entries_text version done) (entry_text version e ++ 10 ∷ after)
    ∙ ap (λ (bs : List ℕ). entry_text version x ++ 10 ∷ bs) (entries_push version done e after)
    ∙ sym (append_assoc (entry_text version x) (10 ∷ entries_text version (done ++ e ∷ [])) after)

pub found_next : (version : Version) (text : List ℕ) (count : ℕ) (done : List Stamped) (left line rest : List ℕ) (e : Stamped) → length done < count → BeginsWithLine left line rest → IsTraced version e × (line ≡ entry_text version e) → last_stamp 0 done < e.stamp
    → FoundSoFar version text count done left → FoundSoFar version text count (done ++ e ∷ []) rest
found_next version text count done left line rest e less begins one above so_far = record {
  few = omega (arith, less, length-append done (e ∷ []));
  rise = rise_push 0 done e so_far.rise above;
  traced = all_push (IsTraced version) done e so_far.traced one.0;
  text_is = so_far.text_is ∙ ap (λ (bs : List ℕ). entries_text version done ++ bs) (begins.1 ∙ ap (λ (bs : List ℕ). bs ++ 10 ∷ rest) one.1) ∙ entries_push version done e rest;
}

-- the first entry of those that are left, and its line
next_of : (version : Version) (done : List Stamped) (left : List ℕ) (all : List Stamped) (rest : List ℕ) (count : ℕ) → length done < count → length all ≡ count → Left version done left all rest
    → (u : Stamped) × (more : List Stamped) × (all ≡ done ++ u ∷ more) × (last_stamp 0 done < u.stamp) × Rise u.stamp more × IsTraced version u × AllByRecursion (IsTraced version) more × (left ≡ entry_text version u ++ 10 ∷ (entries_text version more ++ rest))
next_of version done left all rest count less long ([], same, rise, traced, is) = absurd (let l = ap length same in omega (arith, l, less, long, length-append done []))
next_of version done left all rest count less long (u ∷ more, same, rise, traced, is) =
    (u, more, same, rise.0, rise.1, traced.0, traced.1, is ∙ append_assoc (entry_text version u) (10 ∷ entries_text version more) rest)

last_of : (last : ℕ) (done : List Stamped) (e : Stamped) → last_stamp last (done ++ e ∷ []) ≡ e.stamp
last_of last [] e = refl
last_of last (x ∷ done) e = last_of x.stamp done e

pub only_next : (version : Version) (text : List ℕ) (count : ℕ) (done : List Stamped) (left line after : List ℕ) (e : Stamped) → length done < count → BeginsWithLine left line after → ((entry : Stamped) → IsTraced version entry → line ≡ entry_text version entry → e ≡ entry)
    → OnlySoFar version text count done left → OnlySoFar version text count (done ++ e ∷ []) after
only_next version text count done left line after e less begins read so_far all rest long rise traced spelt =
    let n = next_of version done left all rest count less long (so_far all rest long rise traced spelt) in
    let u = n.0 in
    let more = n.1 in
    let parts = one_parting 10 line (entry_text version u) after (entries_text version more ++ rest) begins.0 (signs.entry version u n.5) (sym begins.1 ∙ n.7) in
    let same = read u n.5 parts.0 in (
      more,
      n.2 ∙ ap (λ (x : Stamped). done ++ x ∷ more) (sym same) ∙ sym (append_assoc done (e ∷ []) more),
      subst (λ (k : ℕ). Rise k more) (sym (last_of 0 done e ∙ ap (λ (x : Stamped). x.stamp) same)) n.4,
      n.6,
      parts.1,
    )

-- ---- where nothing is read

pub no_line : (version : Version) (text : List ℕ) (count : ℕ) (done : List Stamped) (left : List ℕ) → length done < count → Lacks 10 left → OnlySoFar version text count done left
    → (all : List Stamped) (rest : List ℕ) → length all ≡ count → Rise 0 all → AllByRecursion (IsTraced version) all → text ≡ entries_text version all ++ rest → ⊥
no_line version text count done left less lacks so_far all rest long rise traced spelt =
    let n = next_of version done left all rest count less long (so_far all rest long rise traced spelt) in
    has_one 10 left (entry_text version n.0) _ lacks n.7

pub no_stamp : (version : Version) (text : List ℕ) (count : ℕ) (done : List Stamped) (left line after : List ℕ) (e : Stamped) → length done < count → BeginsWithLine left line after → ((entry : Stamped) → IsTraced version entry → line ≡ entry_text version entry → e ≡ entry)
    → e.stamp ≤ last_stamp 0 done → OnlySoFar version text count done left
    → (all : List Stamped) (rest : List ℕ) → length all ≡ count → Rise 0 all → AllByRecursion (IsTraced version) all → text ≡ entries_text version all ++ rest → ⊥
no_stamp version text count done left line after e less begins read low so_far all rest long rise traced spelt =
    let n = next_of version done left all rest count less long (so_far all rest long rise traced spelt) in
    let parts = one_parting 10 line (entry_text version n.0) after (entries_text version n.1 ++ rest) begins.0 (signs.entry version n.0 n.5) (sym begins.1 ∙ n.7) in
    let same : e.stamp ≡ n.0.stamp = ap (λ (x : Stamped). x.stamp) (read n.0 n.5 parts.0) in
    let above = n.3 in
    omega (arith, low, above, same)

-- what isn't found is unfound for want of memory
pub by_error : (e : TraceError) → Explains (λ (f : TraceFault). ⊥) e → e ≡ OutOfMemory
by_error OutOfMemory finds = refl
by_error (Fault fault) finds = absurd finds

pub passed : {X : Type 0} (P : X → Type 0) (F : TraceFault → Type 0) (r : Result X TraceError) (e : TraceError) → IsErrAnd r (λ f. f ≡ e) → e ≡ OutOfMemory → Answers P F r
passed P F (Ok x) e is memory = absurd is
passed P F (Err f) e is memory = subst (λ (g : TraceError). Answers P F (Err g)) (sym (is ∙ memory)) tt

pub unread_next : (version : Version) (text : List ℕ) (count : ℕ) (done : List Stamped) (left line after : List ℕ) (e : TraceError) → length done < count → BeginsWithLine left line after → ((entry : Stamped) → IsTraced version entry → line ≡ entry_text version entry → e ≡ OutOfMemory)
    → OnlySoFar version text count done left
    → (all : List Stamped) (rest : List ℕ) → length all ≡ count → Rise 0 all → AllByRecursion (IsTraced version) all → text ≡ entries_text version all ++ rest → e ≡ OutOfMemory
unread_next version text count done left line after e less begins unread so_far all rest long rise traced spelt =
    let n = next_of version done left all rest count less long (so_far all rest long rise traced spelt) in
    let parts = one_parting 10 line (entry_text version n.0) after (entries_text version n.1 ++ rest) begins.0 (signs.entry version n.0 n.5) (sym begins.1 ∙ n.7) in
    unread n.0 n.5 parts.0

-- ---- at the end

end_of : (version : Version) (done : List Stamped) (left : List ℕ) (all : List Stamped) (rest : List ℕ) (count : ℕ) → count ≤ length done → length all ≡ count → Left version done left all rest → (done ≡ all) × (left ≡ rest)
end_of version done left all rest count full long ([], same, rise, traced, is) = (sym (same ∙ append-nil done), is)
end_of version done left all rest count full long (u ∷ more, same, rise, traced, is) = absurd (let l = ap length same in omega (arith, l, full, long, length-append done (u ∷ more)))

pub only_end : (version : Version) (text : List ℕ) (count : ℕ) (done : List Stamped) (left : List ℕ) → count ≤ length done → OnlySoFar version text count done left
    → (all : List Stamped) (rest : List ℕ) → length all ≡ count → Rise 0 all → AllByRecursion (IsTraced version) all → text ≡ entries_text version all ++ rest → (done ≡ all) × (left ≡ rest)
only_end version text count done left full so_far all rest long rise traced spelt = end_of version done left all rest count full long (so_far all rest long rise traced spelt)

-- ---- faults

pub breaks : (version : Version) (text : List ℕ) (count : ℕ) (done : List Stamped) (left : List ℕ) → length done < count → FoundSoFar version text count done left → Breaks version text count done left
breaks version text count done left less so_far = record { few = less; rise = so_far.rise; traced = so_far.traced; lines_are = so_far.text_is }

-- a line's fault is that of the lines
entry_fault : (version : Version) (text : List ℕ) (count : ℕ) (done : List Stamped) (left line rest : List ℕ) (fault : TraceFault) → Breaks version text count done left → BeginsWithLine left line rest → (fault ≡ faults.Entry) × IsNoEntry version line → EntriesFault version text count fault
entry_fault version text count done left line rest fault breaks begins wrong = subst (EntriesFault version text count) (sym wrong.0) (done, left, line, rest, breaks, begins, wrong.1)

pub line_fault : (version : Version) {X : Type 0} (P : X → Type 0) (text : List ℕ) (count : ℕ) (done : List Stamped) (left line rest : List ℕ) (r : Result X TraceError) (e : TraceError) → Breaks version text count done left → BeginsWithLine left line rest
    → IsErrAnd r (λ f. f ≡ e) → Explains (λ fault. (fault ≡ faults.Entry) × IsNoEntry version line) e → Answers P (EntriesFault version text count) r
line_fault version P text count done left line rest (Ok x) e breaks begins is wrong = absurd is
line_fault version P text count done left line rest (Err f) (Fault fault) breaks begins is wrong = subst (λ (g : TraceError). Answers P (EntriesFault version text count) (Err g)) (sym is) (entry_fault version text count done left line rest fault breaks begins wrong)
line_fault version P text count done left line rest (Err f) OutOfMemory breaks begins is wrong = subst (λ (g : TraceError). Answers P (EntriesFault version text count) (Err g)) (sym is) tt
