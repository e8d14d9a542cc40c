-- A chain of one segment with one entry: what stands where its seal is due is the seal.
use Rattle.std.proofs.Common.{◌≡◌, ℕ, ◌<◌, ◌^◌, List, [], ◌∷◌, ◌++◌, length, codes, refl, sym, ap, subst, ◌∙◌, append_assoc, arith}
use Rattle.std.specs.Prelude.{Option, Some, None, Result, Ok, Err}
use Rattle.std.specs.List.{AllByRecursion}
use Rattle.std.specs.Fmt.{decimal}
use Rattle.nob_ids.specs.Names.{IsSpace}
use Rattle.nob_ids.specs.declared.limits.Limits.{Limits}
use Rattle.nob_frame.specs.declared.version.Version.TheVariants.{Two}
use Rattle.nob_model_types.specs.declared.event.Event.TheVariants as events
use Rattle.nob_model_types.specs.declared.refusal.Refusal.TheVariants as refusals
use Rattle.nob_trace.specs.declared.stamped.Stamped.{Stamped}
use Rattle.nob_trace.specs.Entries.{entry_text, IsTraced}
use Rattle.nob_trace.proofs.Parting.{one_parting}
use Rattle.nob_trace.proofs.OneEvent.{behind}
use Rattle.nob_trace.proofs.OneValue.{number_is}
use Rattle.nob_trace.proofs.Sides.{last_same}
use Rattle.nob_trace.proofs.Signs as trace_signs
use Rattle.nob_chain.specs.declared.seal.Seal.{Seal}
use Rattle.nob_chain.specs.declared.segment.Segment.{Segment}
use Rattle.nob_chain.specs.declared.head.ChainHead.{ChainHead}
use Rattle.nob_chain.specs.declared.chain.ChainParts.{ChainParts}
use Rattle.nob_chain.specs.Seals.{seal_text, IsSeal}
use Rattle.nob_chain.specs.Chains.{opening_text, lines_text, entry_lines, seal_lines, segments_lines, head_text, head_of, chain_text, IsHead, IsSealed, IsSegment, IsChain}
use Rattle.nob_chain.proofs.Signs as signs
use Rattle.nob_chain.proofs.OneLine.{head_is}
use Rattle.nob_chain.specs.declared.fault.ChainFault.{ChainFault}
use Rattle.nob_chain.specs.declared.fault.ChainFault.TheVariants as faults
use Rattle.nob_chain.specs.declared.fault.ChainError.{ChainError}
use Rattle.nob_chain.specs.declared.fault.ChainError.TheVariants.{Fault}
use Rattle.nob_chain.specs.Reading.{Answers, Explains}
use Rattle.nob_lines.specs.Sealed.{small_head, segment_front, small_text}

-- its entry
abbrev claimed : Stamped
claimed = record { stamp = 1; event = events.Claim; result = Err refusals.Nothing }

claimed_is : IsTraced Two claimed
claimed_is = (omega arith, tt, tt)

small_head_is : (limits : Limits) (own n : ℕ) → IsSpace own → IsSpace n → IsHead (small_head limits own n)
small_head_is limits own n is of = record { space = is; n = of; limits = (limits.window_in_range.0, limits.window_in_range.1, limits.retry_in_range.0, limits.retry_in_range.1); count = omega arith }

-- the segment with this seal
abbrev pub small_segment : Seal → Segment
small_segment seal = record { entries = claimed ∷ []; seal = Some seal }

-- the chain with this seal
abbrev pub small_chain : Limits → (own n : ℕ) → Seal → ChainParts
small_chain limits own n seal = record { space = own; n = n; limits = limits; segments = small_segment seal ∷ [] }

pub small_is : (limits : Limits) (own n : ℕ) (seal : Seal) → IsSpace own → IsSpace n → IsSeal own n seal → IsChain (small_chain limits own n seal)
small_is limits own n seal is of sealed = record {
  head = small_head_is limits own n is of;
  rise = (omega arith, tt);
  segments = (record { filled = omega arith; few = omega arith; entries = (claimed_is, tt); seal = sealed }, tt);
}

-- its lines behind the first one, with this line for the seal's
abbrev small_lines : List ℕ → List ℕ
small_lines line = opening_text 1 1 ++ 10 ∷ (entry_text Two claimed ++ 10 ∷ (line ++ 10 ∷ []))

segment_form : (rest : List ℕ) → segment_front ++ rest ≡ 10 ∷ (opening_text 1 1 ++ 10 ∷ (entry_text Two claimed ++ 10 ∷ rest))
segment_form rest =
    let last : (decimal 1 ++ codes " claim = S10\n") ++ rest ≡ entry_text Two claimed ++ 10 ∷ rest = append_assoc (decimal 1) (codes " claim = S10\n") rest ∙ sym (append_assoc (decimal 1) (codes " claim = S10") (10 ∷ rest)) in
    let count : (decimal 1 ++ 10 ∷ (decimal 1 ++ codes " claim = S10\n")) ++ rest ≡ decimal 1 ++ 10 ∷ (entry_text Two claimed ++ 10 ∷ rest) = append_assoc (decimal 1) _ rest ∙ ap (λ (xs : List ℕ). decimal 1 ++ 10 ∷ xs) last in
    let number : (decimal 1 ++ (codes " entries " ++ (decimal 1 ++ 10 ∷ (decimal 1 ++ codes " claim = S10\n")))) ++ rest ≡ decimal 1 ++ (codes " entries " ++ (decimal 1 ++ 10 ∷ (entry_text Two claimed ++ 10 ∷ rest))) = append_assoc (decimal 1) _ rest ∙ ap (λ (xs : List ℕ). decimal 1 ++ (codes " entries " ++ xs)) count in
    let back : opening_text 1 1 ++ 10 ∷ (entry_text Two claimed ++ 10 ∷ rest) ≡ codes "segment " ++ (decimal 1 ++ (codes " entries " ++ (decimal 1 ++ 10 ∷ (entry_text Two claimed ++ 10 ∷ rest)))) = ap (λ (xs : List ℕ). codes "segment " ++ xs) (append_assoc (decimal 1) (codes " entries " ++ decimal 1) _) in
    ap (λ (xs : List ℕ). codes "\nsegment " ++ xs) number ∙ sym (ap (λ (xs : List ℕ). 10 ∷ xs) back)

small_form : (limits : Limits) (own n : ℕ) (line : List ℕ) → small_text limits own n line ≡ head_text (small_head limits own n) ++ 10 ∷ small_lines line
small_form limits own n line = append_assoc (head_text (small_head limits own n)) segment_front (line ++ 10 ∷ []) ∙ ap (λ (xs : List ℕ). head_text (small_head limits own n) ++ xs) (segment_form (line ++ 10 ∷ []))

pub small_spelt : (limits : Limits) (own n : ℕ) (line : List ℕ) (seal : Seal) → line ≡ seal_text seal → small_text limits own n line ≡ chain_text (small_chain limits own n seal)
small_spelt limits own n line seal is = small_form limits own n line ∙ ap (λ (xs : List ℕ). head_text (small_head limits own n) ++ 10 ∷ small_lines xs) is

-- ---- back

nothing : (b : ℕ) (ys : List ℕ) → [] ≡ b ∷ ys → ⊥
nothing b ys e = cc

-- what a line is where a seal is due
at_seal : (own n : ℕ) (line : List ℕ) (seal : Option Seal) → IsSealed own n seal → line ++ 10 ∷ [] ≡ lines_text (seal_lines seal ++ []) → (q : Seal) × IsSeal own n q × (line ≡ seal_text q) × (seal ≡ Some q)
at_seal own n line None is same = absurd is
at_seal own n line (Some q) is same = (q, is, (last_same line (seal_text q) 10 10 same).0, refl)

-- the same behind an entry
at_entries : (own n : ℕ) (line : List ℕ) (entries : List Stamped) (seal : Option Seal) → 1 ≡ length entries → AllByRecursion (IsTraced Two) entries → IsSealed own n seal
    → entry_text Two claimed ++ 10 ∷ (line ++ 10 ∷ []) ≡ lines_text ((entry_lines entries ++ seal_lines seal) ++ []) → (q : Seal) × IsSeal own n q × (line ≡ seal_text q) × (seal ≡ Some q)
at_entries own n line [] seal one are is same = absurd (omega (arith, one))
at_entries own n line (e ∷ []) seal one are is same =
    at_seal own n line seal is (one_parting 10 (entry_text Two claimed) (entry_text Two e) _ _ (trace_signs.entry Two claimed claimed_is) (trace_signs.entry Two e are.0) same).1
at_entries own n line (e ∷ f ∷ es) seal one are is same = absurd (omega (arith, one))

one_opening : (k : ℕ) → k < 2 ^ 64 → opening_text 1 1 ≡ opening_text 1 k → 1 ≡ k
one_opening k few same = number_is 1 k (omega arith) few (behind (codes " entries ") (decimal 1) (decimal k) (behind (decimal 1) _ _ (behind (codes "segment ") _ _ same)))

-- the same in a segment
at_segment : (own n : ℕ) (line : List ℕ) (segment : Segment) → IsSegment own n segment → small_lines line ≡ lines_text (segments_lines 1 (segment ∷ [])) → (q : Seal) × IsSeal own n q × (line ≡ seal_text q) × (segment.seal ≡ Some q)
at_segment own n line segment is same =
    let parts = one_parting 10 (opening_text 1 1) (opening_text 1 (length segment.entries)) _ _ (signs.opening 1 1 (omega arith) (omega arith)) (signs.opening 1 (length segment.entries) (omega arith) is.few) same in
    at_entries own n line segment.entries segment.seal (one_opening (length segment.entries) is.few parts.0) is.entries is.seal parts.1

-- the same in segments of which there is one
at_segments : (own n : ℕ) (line : List ℕ) (segments : List Segment) → 1 ≡ length segments → AllByRecursion (IsSegment own n) segments → small_lines line ≡ lines_text (segments_lines 1 segments)
    → (segment : Segment) × (q : Seal) × IsSeal own n q × (line ≡ seal_text q) × (segments ≡ segment ∷ []) × (segment.seal ≡ Some q)
at_segments own n line [] one are same = absurd (omega (arith, one))
at_segments own n line (segment ∷ []) one are same =
    let found = at_segment own n line segment are.0 same in
    (segment, found.0, found.1, found.2, refl, found.3)
at_segments own n line (s ∷ t ∷ ss) one are same = absurd (omega (arith, one))

-- where the whole is a chain, the line is a seal, and the chain has it alone
read_back : (limits : Limits) (own n : ℕ) (line : List ℕ) (chain : ChainParts) → IsSpace own → IsSpace n → IsChain chain → small_text limits own n line ≡ chain_text chain
    → (segment : Segment) × (q : Seal) × IsSeal own n q × (line ≡ seal_text q) × (chain.segments ≡ segment ∷ []) × (segment.seal ≡ Some q)
read_back limits own n line chain is of are same =
    let parts = one_parting 10 (head_text (small_head limits own n)) (head_text (head_of chain)) (small_lines line) (lines_text (segments_lines 1 chain.segments)) (signs.head (small_head limits own n) (small_head_is limits own n is of)) (signs.head (head_of chain) are.head) (sym (small_form limits own n line) ∙ same) in
    let head = head_is (small_head limits own n) (head_of chain) (small_head_is limits own n is of) are.head parts.0 in
    let space : own ≡ chain.space = ap (λ (h : ChainHead). h.space) head in
    let last : n ≡ chain.n = ap (λ (h : ChainHead). h.n) head in
    let count : 1 ≡ length chain.segments = ap (λ (h : ChainHead). h.count) head in
    let here : AllByRecursion (IsSegment own n) chain.segments = subst (λ (s : ℕ). AllByRecursion (IsSegment s n) chain.segments) (sym space) (subst (λ (k : ℕ). AllByRecursion (IsSegment chain.space k) chain.segments) (sym last) are.segments) in
    at_segments own n line chain.segments count here parts.1

-- a line spells no seal of a chain of this space, of n
abbrev pub SpellsNoSeal : (own n : ℕ) → List ℕ → Type 0
SpellsNoSeal own n line = (seal : Seal) → IsSeal own n seal → line ≡ seal_text seal → ⊥

-- what is read of it
pub seal_read : (limits : Limits) (own n : ℕ) (line text : List ℕ) (chain : ChainParts) (r : Result Seal ChainError) → IsSpace own → IsSpace n → text ≡ small_text limits own n line → IsChain chain × (text ≡ chain_text chain)
    → ((segment : Segment) (seal : Seal) → chain.segments ≡ segment ∷ [] → segment.seal ≡ Some seal → r ≡ Ok seal)
    → Answers (λ seal. IsSeal own n seal × (line ≡ seal_text seal)) (λ fault. (fault ≡ faults.Entry) × SpellsNoSeal own n line) r
seal_read limits own n line text chain r is of made are gives =
    let back = read_back limits own n line chain is of are.0 (sym made ∙ are.1) in
    subst (λ (x : Result Seal ChainError). Answers (λ seal. IsSeal own n seal × (line ≡ seal_text seal)) (λ fault. (fault ≡ faults.Entry) × SpellsNoSeal own n line) x) (sym (gives back.0 back.1 back.4 back.5)) (back.2, back.3)

-- where no chain is read, it spells none
pub none_read : (limits : Limits) (own n : ℕ) (line text : List ℕ) (error : ChainError) (fault : ChainFault) → IsSpace own → IsSpace n → text ≡ small_text limits own n line → error ≡ Fault fault
    → ((chain : ChainParts) → IsChain chain → text ≡ chain_text chain → Explains (λ f. ⊥) error) → SpellsNoSeal own n line
none_read limits own n line text error fault is of made named only seal sealed spelt =
    subst (λ (e : ChainError). Explains (λ f. ⊥) e) named (only (small_chain limits own n seal) (small_is limits own n seal is of sealed) (made ∙ small_spelt limits own n line seal spelt))
