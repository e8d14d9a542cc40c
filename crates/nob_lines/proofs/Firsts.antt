-- First lines of traces, by the numbers of a chain's.
use Rattle.std.proofs.Common.{◌≡◌, List, ℕ, ◌++◌, codes, refl, sym, ap, ◌∙◌}
use Rattle.std.specs.Prelude.{Option, Some}
use Rattle.nob_frame.specs.declared.version.Version.{Version}
use Rattle.nob_frame.specs.declared.version.Version.TheVariants.{One, Two}
use Rattle.nob_trace.specs.declared.head.Head.{Head}
use Rattle.nob_trace.specs.Traces as traces
use Rattle.nob_chain.specs.declared.head.ChainHead.{ChainHead}
use Rattle.nob_chain.specs.Chains as chains
use Rattle.nob_chain.specs.Inputs.{BeginsAsChain}
use Rattle.nob_trace.proofs.OneTrace.{same_head}
use Rattle.nob_lines.specs.declared.first.FirstLine.{FirstLine}
use Rattle.nob_lines.specs.declared.first.FirstLine.TheVariants.{OfChain, OfTrace}
use Rattle.nob_lines.specs.Steps.{traced, IsFirst, first_text}

-- the numbers of a trace's first line
abbrev pub untraced : Head → ChainHead
untraced head = record { space = head.space; n = head.n; limits = head.limits; count = head.count }

pub is_traced : (version : Version) (head : ChainHead) → chains.IsHead head → traces.IsHead (traced version head)
is_traced version head is = record { space = is.space; n = is.n; limits = is.limits; count = is.count }

pub is_untraced : (head : Head) → traces.IsHead head → chains.IsHead (untraced head)
is_untraced head is = record { space = is.space; n = is.n; limits = is.limits; count = is.count }

-- this version is that of the word with which a line begins
abbrev pub IsVersionIn : List ℕ → Version → Type 0
IsVersionIn line version = ((rest : List ℕ) → line ≡ codes "trace " ++ rest → version ≡ One) × ((rest : List ℕ) → line ≡ codes "trace2 " ++ rest → version ≡ Two)

version_is : (line rest : List ℕ) (version w : Version) → IsVersionIn line version → line ≡ traces.head_word w ++ rest → version ≡ w
version_is line rest version One is spelt = is.0 rest spelt
version_is line rest version Two is spelt = is.1 rest spelt

-- where a line doesn't begin as chains do, what is found of a trace is all
pub only_trace : (line : List ℕ) (version : Version) (r : Option FirstLine) → (BeginsAsChain line → ⊥) → IsVersionIn line version
    → ((head : ChainHead) → chains.IsHead head → line ≡ traces.head_text (traced version head) → r ≡ Some (OfTrace (traced version head)))
    → (first : FirstLine) → IsFirst first → line ≡ first_text first → r ≡ Some first
only_trace line version r never in_line only (OfChain head) is spelt = absurd (never (_, spelt))
only_trace line version r never in_line only (OfTrace head) is spelt =
    let same = same_head (traced version (untraced head)) head (version_is line _ version head.version in_line spelt) refl refl refl refl in
    only (untraced head) (is_untraced head is) (spelt ∙ sym (ap (λ (h : Head). traces.head_text h) same)) ∙ ap (λ (h : Head). Some (OfTrace h)) same
