-- A line spells one thing of those that are due.
use Rattle.std.proofs.Common.{◌≡◌, ℕ, suc, ◌<◌, ◌^◌, List, [], ◌∷◌, ◌++◌, codes, refl, sym, ap, ◌∙◌, arith}
use Prim.Native.Nat.{zero}
use Rattle.std.specs.Prelude.{Option, Some, None}
use Rattle.std.specs.List.{AllByRecursion}
use Rattle.std.specs.Fmt.{decimal}
use Rattle.nob_ids.specs.Reasons.{reason_number}
use Rattle.nob_ids.specs.declared.reason.Reason.{Reason}
use Rattle.nob_ids.specs.declared.reason.Reason.TheVariants as reasons
use Rattle.nob_ids.specs.declared.limits.Limits.{Limits}
use Rattle.nob_frame.specs.declared.version.Version.TheVariants.{Two}
use Rattle.nob_model_text.specs.Fronts.{Stops}
use Rattle.nob_trace.proofs.OneValue.{one_number, one_space, number_is}
use Rattle.nob_trace.proofs.OneEvent.{behind, key}
use Rattle.nob_trace.proofs.OneTrace.{entry_is, same_limits}
use Rattle.nob_chain.specs.declared.seal.PeerSeal.{PeerSeal}
use Rattle.nob_chain.specs.declared.seal.Seal.{Seal}
use Rattle.nob_chain.specs.declared.head.ChainHead.{ChainHead}
use Rattle.nob_chain.specs.Seals.{ending_text, peer_text, peers_text, seal_text, IsPeerSeal, IsSeal}
use Rattle.nob_chain.specs.Chains.{ChainLine, begins, has, ends, line_text, head_text, IsHead}
use Rattle.nob_chain.specs.Reading.{Stage, between, within, CanStand}
use Rattle.nob_chain.proofs.Signs.{reason_small}

-- ---- seals

pub stops_ending : (c : Option Reason) (rest : List ℕ) → Stops (ending_text c rest)
stops_ending None rest = refl
stops_ending (Some r) rest = refl

pub stops_peers : (ps : List PeerSeal) → Stops (peers_text ps)
stops_peers [] = tt
stops_peers (p ∷ ps) = refl

reason_is : (r s : Reason) → reason_number r ≡ reason_number s → r ≡ s
reason_is reasons.Asked reasons.Asked same = refl
reason_is reasons.PeerClosed reasons.PeerClosed same = refl
reason_is reasons.RetriesUsedUp reasons.RetriesUsedUp same = refl
reason_is reasons.BadItem reasons.BadItem same = refl
reason_is reasons.BadReference reasons.BadReference same = refl
reason_is reasons.OutOfPlace reasons.OutOfPlace same = refl
reason_is r s same = absurd (omega (arith, same))

pub one_reason : (r s : Reason) (rest left : List ℕ) → Stops rest → Stops left → decimal (reason_number r) ++ rest ≡ decimal (reason_number s) ++ left → (r ≡ s) × (rest ≡ left)
one_reason r s rest left stops halts same =
    let parts = one_number (reason_number r) (reason_number s) rest left (reason_small r) (reason_small s) stops halts same in
    (reason_is r s parts.0, parts.1)

one_ending : (c d : Option Reason) (rest left : List ℕ) → Stops rest → Stops left → ending_text c rest ≡ ending_text d left → (c ≡ d) × (rest ≡ left)
one_ending None None rest left stops halts same = (refl, behind (codes " open") rest left same)
one_ending (Some r) (Some s) rest left stops halts same =
    let parts = one_reason r s rest left stops halts (behind (codes " closed ") _ _ same) in
    (ap (λ (x : Reason). Some x) parts.0, parts.1)
one_ending None (Some s) rest left stops halts same = absurd (let k = ap key same in omega (arith, k))
one_ending (Some r) None rest left stops halts same = absurd (let k = ap key same in omega (arith, k))

same_peer : (p q : PeerSeal) → p.peer ≡ q.peer → p.session ≡ q.session → p.sent ≡ q.sent → p.acted ≡ q.acted → p.closed ≡ q.closed → p ≡ q
same_peer p q named session sent acted closed =
    let made : ℕ → ℕ → ℕ → ℕ → Option Reason → PeerSeal = λ n k a b c. record { peer = n; session = k; sent = a; acted = b; closed = c } in
    ap (λ (x : ℕ). made x p.session p.sent p.acted p.closed) named
    ∙ ap (λ (x : ℕ). made q.peer x p.sent p.acted p.closed) session
    ∙ ap (λ (x : ℕ). made q.peer q.session x p.acted p.closed) sent
    ∙ ap (λ (x : ℕ). made q.peer q.session q.sent x p.closed) acted
    ∙ ap (λ (x : Option Reason). made q.peer q.session q.sent q.acted x) closed

pub one_peer : (p q : PeerSeal) (rest left : List ℕ) → IsPeerSeal p → IsPeerSeal q → Stops rest → Stops left → peer_text p rest ≡ peer_text q left → (p ≡ q) × (rest ≡ left)
one_peer p q rest left is was stops halts same =
    let small = is.session in
    let little = was.session in
    let named = one_space p.peer q.peer _ _ is.named was.named refl refl (behind (codes " peer ") _ _ same) in
    let session = one_number p.session q.session _ _ (omega (arith, small)) (omega (arith, little)) refl refl (behind (codes " session ") _ _ named.1) in
    let sent = one_number p.sent q.sent _ _ is.sent was.sent refl refl (behind (codes " sent ") _ _ session.1) in
    let acted = one_number p.acted q.acted (ending_text p.closed rest) (ending_text q.closed left) is.acted was.acted (stops_ending p.closed rest) (stops_ending q.closed left) (behind (codes " acted ") _ _ sent.1) in
    let closed = one_ending p.closed q.closed rest left stops halts acted.1 in
    (same_peer p q named.0 session.0 sent.0 acted.0 closed.0, closed.1)

nothing : (b : ℕ) (ys : List ℕ) → [] ≡ b ∷ ys → ⊥
nothing b ys e = cc

peers_are : (ps qs : List PeerSeal) → AllByRecursion IsPeerSeal ps → AllByRecursion IsPeerSeal qs → peers_text ps ≡ peers_text qs → ps ≡ qs
peers_are [] [] are were same = refl
peers_are [] (q ∷ qs) are were same = absurd (nothing _ _ same)
peers_are (p ∷ ps) [] are were same = absurd (nothing _ _ (sym same))
peers_are (p ∷ ps) (q ∷ qs) are were same =
    let first = one_peer p q (peers_text ps) (peers_text qs) are.0 were.0 (stops_peers ps) (stops_peers qs) same in
    let others = peers_are ps qs are.1 were.1 first.1 in
    ap (λ (x : PeerSeal). x ∷ ps) first.0 ∙ ap (λ (xs : List PeerSeal). q ∷ xs) others

pub seal_is : (own n : ℕ) (s t : Seal) → IsSeal own n s → IsSeal own n t → seal_text s ≡ seal_text t → s ≡ t
seal_is own n s t is was same =
    let stamp = one_number s.stamp t.stamp _ _ is.stamp was.stamp refl refl (behind (codes "seal ") _ _ same) in
    let live = one_number s.live t.live (peers_text s.peers) (peers_text t.peers) is.live was.live (stops_peers s.peers) (stops_peers t.peers) (behind (codes " live ") _ _ stamp.1) in
    let peers = peers_are s.peers t.peers is.peers was.peers live.1 in
    let made : ℕ → ℕ → List PeerSeal → Seal = λ a l ps. record { stamp = a; live = l; peers = ps } in
    ap (λ (x : ℕ). made x s.live s.peers) stamp.0 ∙ ap (λ (x : ℕ). made t.stamp x s.peers) live.0 ∙ ap (λ (x : List PeerSeal). made t.stamp t.live x) peers

-- ---- lines

one_opening : (n k c d : ℕ) → n < 2 ^ 64 → k < 2 ^ 64 → c < 2 ^ 64 → d < 2 ^ 64 → line_text (begins n c) ≡ line_text (begins k d) → begins n c ≡ begins k d
one_opening n k c d small little low less same =
    let number = one_number n k _ _ small little refl refl (behind (codes "segment ") _ _ same) in
    let count = number_is c d low less (behind (codes " entries ") _ _ number.1) in
    ap (λ (x : ℕ). begins x c) number.0 ∙ ap (λ (x : ℕ). begins k x) count

pub line_is : (h : ChainHead) (stage : Stage) (l m : ChainLine) → CanStand h stage l → CanStand h stage m → line_text l ≡ line_text m → l ≡ m
line_is h (between behind last) (begins n c) (begins k d) is was same = one_opening n k c d is.0 was.0 is.1 was.1 same
line_is h (within n last (suc missing)) (has e) (has f) is was same = ap (λ x. has x) (entry_is Two Two e f is was same)
line_is h (within n last zero) (ends s) (ends t) is was same = ap (λ x. ends x) (seal_is h.space h.n s t is was same)
line_is h (between behind last) (begins n c) m is was same = absurd was
line_is h (within n last (suc missing)) (has e) m is was same = absurd was
line_is h (within n last zero) (ends s) m is was same = absurd was
line_is h stage l m is was same = absurd is

-- ---- first lines

pub same_head : (h k : ChainHead) → h.space ≡ k.space → h.n ≡ k.n → h.limits ≡ k.limits → h.count ≡ k.count → h ≡ k
same_head h k space n limits count =
    let made : ℕ → ℕ → Limits → ℕ → ChainHead = λ s m l c. record { space = s; n = m; limits = l; count = c } in
    ap (λ (x : ℕ). made x h.n h.limits h.count) space
    ∙ ap (λ (x : ℕ). made k.space x h.limits h.count) n
    ∙ ap (λ (x : Limits). made k.space k.n x h.count) limits
    ∙ ap (λ (x : ℕ). made k.space k.n k.limits x) count

pub head_is : (h k : ChainHead) → IsHead h → IsHead k → head_text h ≡ head_text k → h ≡ k
head_is h k is was same =
    let small = is.limits in
    let little = was.limits in
    let space = one_space h.space k.space _ _ is.space was.space refl refl (behind (codes "chain ") _ _ same) in
    let n = one_space h.n k.n _ _ is.n was.n refl refl (behind (codes " of ") _ _ space.1) in
    let window = one_number h.limits.window k.limits.window _ _ (omega (arith, small.1)) (omega (arith, little.1)) refl refl (behind (codes " window ") _ _ n.1) in
    let retry = one_number h.limits.retry k.limits.retry _ _ (omega (arith, small.3)) (omega (arith, little.3)) refl refl (behind (codes " retry ") _ _ window.1) in
    let count = number_is h.count k.count is.count was.count (behind (codes " segments ") _ _ retry.1) in
    same_head h k space.0 n.0 (same_limits h.limits k.limits window.0 retry.0) count
