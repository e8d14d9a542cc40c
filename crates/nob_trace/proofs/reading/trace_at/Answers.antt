use Rattle.std.proofs.Common.{◌≡◌, ap, sym, refl, length, subst, ◌++◌}
use Rattle.std.specs.List.{AllByRecursion}
use Rattle.nob_frame.specs.declared.version.Version.{Version}
use Rattle.nob_trace.specs.Entries.{IsTraced}
use Rattle.nob_trace.specs.Traces.{head_of, entries_text}
use Rattle.nob_trace.specs.Reading.{AtEntry, AtLine, TextFault}
use Rattle.nob_model_text.proofs.Parting.{same_found, not_none}
use Rattle.nob_trace.proofs.ReadLines.{by_error, passed}
use Rattle.nob_trace.proofs.ReadTraces.{at_entry, lines_fault, lines_of, map_there, no_line}
use Rattle.nob_trace.proofs.reading.trace_at.Goals as goal

pub returns-in_default-clause-only : goal.returns-in_default-clause-only
returns-in_default-clause-only c trace rest is spelt = no_line c.args.text.now trace rest c.in_default.ensures spelt

pub returns-in_default-head_of-clause-found : goal.returns-in_default-head_of-clause-found
returns-in_default-head_of-clause-found c =
    TextFault.bad c.in-Some.line.now c.in-Some.lines.now c.in-Some.ensures (λ head is spelt. not_none _ _ c.in_default-head_of.is (c.head_of.ensures.only head is spelt)) refl

pub returns-in_default-head_of-clause-only : goal.returns-in_default-head_of-clause-only
returns-in_default-head_of-clause-only c trace rest is spelt =
    let lines = lines_of c.args.text.now c.in-Some.line.now c.in-Some.lines.now trace rest c.in-Some.ensures is spelt in
    not_none _ _ c.in_default-head_of.is (c.head_of.ensures.only (head_of trace) is.head lines.0)

pub returns-in_err-entries-clause-found : goal.returns-in_err-entries-clause-found
returns-in_err-entries-clause-found c =
    lines_fault _ c.args.text.now c.in-Some.line.now c.in-Some.lines.now c.in-Some-head_of.head c.from_residual.result c.in_err-entries.field-0.0 c.in-Some.ensures c.in-Some-head_of.ensures.found c.from_residual.ensures.1 c.in_err-entries.ensures.found

pub returns-in_err-entries-clause-only : goal.returns-in_err-entries-clause-only
returns-in_err-entries-clause-only c trace rest is spelt =
    let lines = lines_of c.args.text.now c.in-Some.line.now c.in-Some.lines.now trace rest c.in-Some.ensures is spelt in
    let head = same_found _ _ _ c.in-Some-head_of.is (c.head_of.ensures.only (head_of trace) is.head lines.0) in
    let count : length trace.entries ≡ c.in-Some-head_of.head.count = sym (ap (λ h. h.count) head) in
    let version : trace.version ≡ c.in-Some-head_of.head.version = sym (ap (λ h. h.version) head) in
    let are = subst (λ (v : Version). AllByRecursion (IsTraced v) trace.entries) version is.entries in
    let left = subst (λ (v : Version). c.in-Some.lines.now ≡ entries_text v trace.entries ++ rest) version lines.1 in
    passed _ _ c.from_residual.result c.in_err-entries.field-0.0 c.from_residual.ensures.1
    (by_error _ (c.in_err-entries.ensures.only trace.entries rest count is.rise are left))

pub returns-in_err-entries-clause-memory : goal.returns-in_err-entries-clause-memory
returns-in_err-entries-clause-memory c =
    map_there (AtLine c.in-Some-head_of.head.version c.in-Some.lines.now c.in-Some-head_of.head.count) (AtEntry c.args.text.now) c.from_residual.result c.in_err-entries.field-0.0 c.from_residual.ensures.1 c.in_err-entries.ensures.memory
    (at_entry c.args.text.now c.in-Some.line.now c.in-Some.lines.now c.in-Some-head_of.head c.in-Some.ensures c.in-Some-head_of.ensures.found)

pub returns-clause-only : goal.returns-clause-only
returns-clause-only c trace rest is spelt =
    let lines = lines_of c.args.text.now c.in-Some.line.now c.in-Some.lines.now trace rest c.in-Some.ensures is spelt in
    let head = same_found _ _ _ c.in-Some-head_of.is (c.head_of.ensures.only (head_of trace) is.head lines.0) in
    let count : length trace.entries ≡ c.in-Some-head_of.head.count = sym (ap (λ h. h.count) head) in
    let version : trace.version ≡ c.in-Some-head_of.head.version = sym (ap (λ h. h.version) head) in
    let are = subst (λ (v : Version). AllByRecursion (IsTraced v) trace.entries) version is.entries in
    let left = subst (λ (v : Version). c.in-Some.lines.now ≡ entries_text v trace.entries ++ rest) version lines.1 in
    let entries = c.in_ok-entries.ensures.only trace.entries rest count is.rise are left in
    (rw (head, entries.0) refl, entries.1)
