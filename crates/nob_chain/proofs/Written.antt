-- Entries, segments and peers that were written so far, and those that are left.
use Rattle.std.proofs.Common.{◌≡◌, ℕ, suc, ◌+◌, ◌<◌, List, [], ◌∷◌, ◌++◌, length, drop, get_or, codes, refl, sym, ap, subst, ◌∙◌, append_assoc, arith, Result, Ok, Err}
use Rattle.std.specs.Prelude.{IsErrAnd, Option, Some, None}
use Rattle.std.specs.List.{AllByRecursion}
use Rattle.std.specs.Fmt.{decimal}
use Rattle.nob_model_text.proofs.Ahead.{first_ahead}
use Rattle.nob_ids.specs.declared.reason.Reason.{Reason}
use Rattle.nob_ids.specs.Reasons.{reason_number}
use Rattle.nob_frame.specs.declared.version.Version.TheVariants.{Two}
use Rattle.nob_trace.specs.declared.stamped.Stamped.{Stamped}
use Rattle.nob_trace.specs.Entries.{entry_text, HasSpelling}
use Rattle.nob_chain.specs.declared.seal.PeerSeal.{PeerSeal}
use Rattle.nob_chain.specs.declared.seal.Seal.{Seal}
use Rattle.nob_chain.specs.declared.segment.Segment.{Segment}
use Rattle.nob_chain.specs.declared.fault.ChainError.{ChainError}
use Rattle.nob_chain.specs.declared.fault.ChainError.TheVariants.{Fault, OutOfMemory}
use Rattle.nob_chain.specs.Seals.{ending_text, peer_text, peers_text}
use Rattle.nob_chain.specs.Chains.{ChainLine, opening_text, lines_text, entry_lines, seal_lines, segment_lines, segments_lines}
use Rattle.nob_chain.specs.Writing.{HasSeal, IsSpeakable, Refuses, Writes}
use Rattle.nob_chain.proofs.Leads.{lines_both}

-- what isn't written for a part's fault isn't written for the whole's
part_fault : (All One : Type 0) (e : ChainError) → Refuses One e → (All → One) → Refuses All e
part_fault All One (Fault fault) refuses of = (refuses.0, λ all. refuses.1 (of all))
part_fault All One OutOfMemory refuses of = tt

pub passed : {X : Type 0} (whole : X → Type 0) (All One : Type 0) (r : Result X ChainError) (e : ChainError) → IsErrAnd r (λ f. f ≡ e) → Refuses One e → (All → One) → Writes whole All r
passed whole All One (Ok x) e is refuses of = absurd is
passed whole All One (Err f) e is refuses of = subst (Refuses All) (sym is) (part_fault All One e refuses of)

pub entry_next : (es : List Stamped) (i : ℕ) (e : Stamped) (now line next all : List ℕ) → i < length es → e ≡ get_or es i e → line ≡ now ++ entry_text Two e → next ≡ line ++ 10 ∷ [] → now ++ lines_text (entry_lines (drop i es)) ≡ all → next ++ lines_text (entry_lines (drop (i + 1) es)) ≡ all
entry_next es i e now line next all lt same first one so_far =
    let left : List ℕ = lines_text (entry_lines (drop (i + 1) es)) in
    ap (λ (bs : List ℕ). bs ++ left) (one ∙ ap (λ (bs : List ℕ). bs ++ 10 ∷ []) first)
    ∙ append_assoc (now ++ entry_text Two e) (10 ∷ []) left
    ∙ append_assoc now (entry_text Two e) (10 ∷ left)
    ∙ ap (λ (gs : List Stamped). now ++ lines_text (entry_lines gs)) (sym (first_ahead es i e lt same))
    ∙ so_far

pub segment_next : (ss : List Segment) (i number : ℕ) (s : Segment) (now next all : List ℕ) → i < length ss → s ≡ get_or ss i s → next ≡ now ++ lines_text (segment_lines number s) → now ++ lines_text (segments_lines number (drop i ss)) ≡ all → next ++ lines_text (segments_lines (number + 1) (drop (i + 1) ss)) ≡ all
segment_next ss i number s now next all lt same one so_far =
    let others : List ChainLine = segments_lines (number + 1) (drop (i + 1) ss) in
    let here : List ChainLine = segment_lines number s in
    let count : number + 1 ≡ suc number = omega arith in
    ap (λ (bs : List ℕ). bs ++ lines_text others) one
    ∙ append_assoc now (lines_text here) (lines_text others)
    ∙ ap (λ (bs : List ℕ). now ++ bs) (sym (lines_both here others))
    ∙ ap (λ (n : ℕ). now ++ lines_text (here ++ segments_lines n (drop (i + 1) ss))) count
    ∙ ap (λ (gs : List Segment). now ++ lines_text (segments_lines number gs)) (sym (first_ahead ss i s lt same))
    ∙ so_far

-- ---- peers

ending_then : (c : Option Reason) (rest : List ℕ) → ending_text c [] ++ rest ≡ ending_text c rest
ending_then None rest = refl
ending_then (Some r) rest = ap (λ (bs : List ℕ). codes " closed " ++ bs) (append_assoc (decimal (reason_number r)) [] rest)

number_then : (word : List ℕ) (n : ℕ) (more rest all : List ℕ) → more ++ rest ≡ all → (decimal n ++ (word ++ more)) ++ rest ≡ decimal n ++ (word ++ all)
number_then word n more rest all is = append_assoc (decimal n) (word ++ more) rest ∙ ap (λ (bs : List ℕ). decimal n ++ bs) (append_assoc word more rest ∙ ap (λ (bs : List ℕ). word ++ bs) is)

pub peer_then : (p : PeerSeal) (rest : List ℕ) → peer_text p [] ++ rest ≡ peer_text p rest
peer_then p rest =
    let ending = append_assoc (decimal p.acted) (ending_text p.closed []) rest ∙ ap (λ (bs : List ℕ). decimal p.acted ++ bs) (ending_then p.closed rest) in
    let sent = number_then (codes " acted ") p.sent (decimal p.acted ++ ending_text p.closed []) rest (decimal p.acted ++ ending_text p.closed rest) ending in
    let session = number_then (codes " sent ") p.session _ rest _ sent in
    ap (λ (bs : List ℕ). codes " peer " ++ bs) (number_then (codes " session ") p.peer _ rest _ session)

pub peer_next : (ps : List PeerSeal) (i : ℕ) (p : PeerSeal) (now next all : List ℕ) → i < length ps → p ≡ get_or ps i p → next ≡ now ++ peer_text p [] → now ++ peers_text (drop i ps) ≡ all → next ++ peers_text (drop (i + 1) ps) ≡ all
peer_next ps i p now next all lt same one so_far =
    let left : List ℕ = peers_text (drop (i + 1) ps) in
    ap (λ (bs : List ℕ). bs ++ left) one
    ∙ append_assoc now (peer_text p []) left
    ∙ ap (λ (bs : List ℕ). now ++ bs) (peer_then p left)
    ∙ ap (λ (qs : List PeerSeal). now ++ peers_text qs) (sym (first_ahead ps i p lt same))
    ∙ so_far

-- ---- a segment

opening_then : (n c : ℕ) → opening_text n c ++ 10 ∷ [] ≡ codes "segment " ++ (decimal n ++ (codes " entries " ++ (decimal c ++ 10 ∷ [])))
opening_then n c = ap (λ (bs : List ℕ). codes "segment " ++ bs) (append_assoc (decimal n) (codes " entries " ++ decimal c) (10 ∷ []))

-- a segment's text, put behind a text part by part
pub segment_put : (number : ℕ) (s : Segment) (first opened entered sealed opening : List ℕ) → opening ≡ codes "segment " ++ (decimal number ++ (codes " entries " ++ (decimal (length s.entries) ++ 10 ∷ []))) → opened ≡ first ++ opening → entered ≡ opened ++ lines_text (entry_lines s.entries) → sealed ≡ entered ++ lines_text (seal_lines s.seal)
    → sealed ≡ first ++ lines_text (segment_lines number s)
segment_put number s first opened entered sealed opening is one two three =
    let es = entry_lines s.entries in
    let ls = seal_lines s.seal in
    let spelt = opening_text number (length s.entries) in
    three ∙ ap (λ (bs : List ℕ). bs ++ lines_text ls) (two ∙ ap (λ (bs : List ℕ). bs ++ lines_text es) (one ∙ ap (λ (bs : List ℕ). first ++ bs) (is ∙ sym (opening_then number (length s.entries)))))
    ∙ append_assoc (first ++ (spelt ++ 10 ∷ [])) (lines_text es) (lines_text ls)
    ∙ append_assoc first (spelt ++ 10 ∷ []) (lines_text es ++ lines_text ls)
    ∙ ap (λ (bs : List ℕ). first ++ bs) (append_assoc spelt (10 ∷ []) (lines_text es ++ lines_text ls) ∙ ap (λ (bs : List ℕ). spelt ++ 10 ∷ bs) (sym (lines_both es ls)))

part_seal : (All Seal : Type 0) (e : ChainError) → Refuses Seal e → (All → Seal) → Refuses All e
part_seal All Seal (Fault fault) refuses of = (refuses.0, λ all. refuses.1 (of all))
part_seal All Seal OutOfMemory refuses of = tt

-- behind entries that have spellings, a segment is written as its seal is
pub sealed_put : {X : Type 0} (s : Segment) (P Q : X → Type 0) (r : Result X ChainError) → AllByRecursion (HasSpelling Two) s.entries → ((x : X) → P x → Q x) → Writes P (HasSeal s.seal) r → Writes Q (IsSpeakable s) r
sealed_put s P Q (Ok x) spelt map wrote = ((spelt, wrote.0), map x wrote.1)
sealed_put s P Q (Err e) spelt map wrote = part_seal (IsSpeakable s) (HasSeal s.seal) e wrote (λ all. all.1)
