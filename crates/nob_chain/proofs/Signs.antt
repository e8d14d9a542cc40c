-- No newline stands in the lines of a chain.
use Rattle.std.proofs.Common.{ℕ, suc, ◌<◌, ◌^◌, List, [], ◌∷◌, codes, arith, rules}
use Prim.Native.Nat.{zero}
use Rattle.std.specs.Prelude.{Option, Some, None}
use Rattle.std.specs.List.{AllByRecursion}
use Rattle.std.specs.Fmt.{decimal}
use Rattle.nob_ids.specs.Reasons.{reason_number}
use Rattle.nob_ids.specs.declared.reason.Reason.{Reason}
use Rattle.nob_ids.specs.declared.reason.Reason.TheVariants as reasons
use Rattle.nob_frame.specs.declared.version.Version.TheVariants.{Two}
use Rattle.nob_trace.specs.Reading.{Lacks}
use Rattle.nob_trace.proofs.Signs as signs
use Rattle.nob_chain.specs.declared.seal.PeerSeal.{PeerSeal}
use Rattle.nob_chain.specs.declared.seal.Seal.{Seal}
use Rattle.nob_chain.specs.declared.head.ChainHead.{ChainHead}
use Rattle.nob_chain.specs.Seals.{ending_text, peer_text, peers_text, seal_text, IsPeerSeal, IsSeal}
use Rattle.nob_chain.specs.Chains.{ChainLine, begins, has, ends, opening_text, line_text, head_text, IsHead}
use Rattle.nob_chain.specs.Reading.{Stage, between, within, CanStand}

pub reason_small : (r : Reason) → reason_number r < 2 ^ 64
reason_small reasons.Asked = omega arith
reason_small reasons.PeerClosed = omega arith
reason_small reasons.RetriesUsedUp = omega arith
reason_small reasons.BadItem = omega arith
reason_small reasons.BadReference = omega arith
reason_small reasons.OutOfPlace = omega arith

ending : (c : Option Reason) (rest : List ℕ) → signs.HasNone rest → signs.HasNone (ending_text c rest)
ending None rest none = signs.word (codes " open") rest (search rules) none
ending (Some r) rest none = signs.word (codes " closed ") _ (search rules) (signs.both (decimal (reason_number r)) rest (signs.number (reason_number r) (reason_small r)) none)

peer : (p : PeerSeal) (rest : List ℕ) → IsPeerSeal p → signs.HasNone rest → signs.HasNone (peer_text p rest)
peer p rest is none =
    signs.word (codes " peer ") _ (search rules) (signs.both (decimal p.peer) _ (signs.space p.peer is.named)
    (signs.word (codes " session ") _ (search rules) (signs.both (decimal p.session) _ (signs.number p.session (let low = is.session in omega (arith, low)))
    (signs.word (codes " sent ") _ (search rules) (signs.both (decimal p.sent) _ (signs.number p.sent is.sent)
    (signs.word (codes " acted ") _ (search rules) (signs.both (decimal p.acted) _ (signs.number p.acted is.acted) (ending p.closed rest none))))))))

peers : (ps : List PeerSeal) → AllByRecursion IsPeerSeal ps → signs.HasNone (peers_text ps)
peers [] are = tt
peers (p ∷ ps) are = peer p (peers_text ps) are.0 (peers ps are.1)

pub seal : (own n : ℕ) (s : Seal) → IsSeal own n s → Lacks 10 (seal_text s)
seal own n s is =
    signs.lacks_newline (seal_text s)
    (signs.word (codes "seal ") _ (search rules) (signs.both (decimal s.stamp) _ (signs.number s.stamp is.stamp)
    (signs.word (codes " live ") _ (search rules) (signs.both (decimal s.live) _ (signs.number s.live is.live) (peers s.peers is.peers)))))

pub opening : (n c : ℕ) → n < 2 ^ 64 → c < 2 ^ 64 → Lacks 10 (opening_text n c)
opening n c small little =
    signs.lacks_newline (opening_text n c)
    (signs.word (codes "segment ") _ (search rules) (signs.both (decimal n) _ (signs.number n small)
    (signs.word (codes " entries ") (decimal c) (search rules) (signs.number c little))))

-- no newline stands in a line that is due
pub line : (h : ChainHead) (stage : Stage) (l : ChainLine) → CanStand h stage l → Lacks 10 (line_text l)
line h (between behind last) (begins n c) can = opening n c can.0 can.1
line h (within n last (suc missing)) (has e) can = signs.entry Two e can
line h (within n last zero) (ends s) can = seal h.space h.n s can
line h stage l can = absurd can

-- nor in a first line
pub head : (h : ChainHead) → IsHead h → Lacks 10 (head_text h)
head h is =
    signs.lacks_newline (head_text h)
    (signs.word (codes "chain ") _ (search rules) (signs.both (decimal h.space) _ (signs.space h.space is.space)
    (signs.word (codes " of ") _ (search rules) (signs.both (decimal h.n) _ (signs.space h.n is.n)
    (signs.word (codes " window ") _ (search rules) (signs.both (decimal h.limits.window) _ (signs.number h.limits.window (let low = is.limits.1 in omega (arith, low)))
    (signs.word (codes " retry ") _ (search rules) (signs.both (decimal h.limits.retry) _ (signs.number h.limits.retry (let low = is.limits.3 in omega (arith, low)))
    (signs.word (codes " segments ") (decimal h.count) (search rules) (signs.number h.count is.count))))))))))
