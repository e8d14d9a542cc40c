-- Each birth that is in range is reached: calls are made and jobs done in the sessions with one peer, the space comes to rest, and sessions open anew.
use Rattle.std.proofs.Common.{◌≡◌, ℕ, zero, suc, ◌+◌, ◌-◌, ◌*◌, ◌≤◌, ◌<◌, ◌&&◌, not, max, Bool, true, false, cond, List, [], ◌∷◌, ◌++◌, length, Option, refl, sym, ap, subst, ◌∙◌, arith, ◌⊎◌, inl, inr}
use Rattle.std.specs.Prelude.{◌==◌, ⊤, min, is_none}
use Rattle.std.proofs.lemmas.Bool.{eqb-true, eq-eqb}
use Rattle.nob_ids.specs.declared.limits.Limits.{Limits}
use Rattle.nob_ids.specs.declared.reason.Reason.{Reason}
use Rattle.nob_ids.specs.declared.wire_rep.WireRep.{WireRep}
use Rattle.nob_item.specs.Spelling.{spelling}
use Rattle.nob_model_session.specs.End.{last_item, last_session, seen}
use Rattle.nob_model_session.specs.declared.entry.EndEntry.{EndEntry}
use Rattle.nob_model_types.specs.declared.deed.Deed.{Deed}
use Rattle.nob_model_types.specs.declared.deed.Deed.TheVariants as did
use Rattle.nob_model_types.specs.declared.event.Outcome.TheVariants as outcomes
use Rattle.nob_model_types.specs.declared.turns.Turns.{Turns}
use Rattle.nob_pickle.specs.declared.value.Value.TheVariants as values
use Rattle.nob_model_types.specs.Sessions.{is_peer, closed, number}
use Rattle.nob_model_types.specs.Turns.{no_turns, turns, is_standing}
use Rattle.nob_model_work.specs.Work.{no_work}
use Rattle.nob_model_history.specs.Histories.{history, history_of}
use Rattle.nob_model_history.specs.Ends.{calls_at}
use Rattle.nob_model_history.specs.Anew.{IsNewEnd, BeginsAnew}
use Rattle.nob_model_history.proofs.Anew.{begins_anew_after, work_opened}
use Rattle.nob_model.specs.Opening.{next_number}
use Rattle.nob_model.specs.Right.{last_number, calls_made, jobs_made}
use Rattle.nob_model_lives.specs.Births.{Birth, IsBorn, CanHaveHad, IsNewBirth, IsLaterBirth}
use Rattle.nob_model_births.specs.Reached.{ReachedLaw}
use Rattle.nob_model_lives.proofs.Begin.{new_law}
use Rattle.nob_model_births.proofs.Leads.{Leads, stays, leads_by, leads_on, leads_as, led_alone, entries_behind}
use Rattle.nob_model_lives.proofs.Shown.{Shown, shown_by}
use Rattle.nob_model_lives.proofs.Still.{AreGone}
use Rattle.nob_model_lives.proofs.Withdraws.{Waits}
use Rattle.nob_model_lives.proofs.Peers.{strangers_unasked}
use Rattle.nob_model_lives.proofs.Opens.{open_right, open_shows, next_of, next_shown}
use Rattle.nob_model_lives.proofs.Passes.{idle_call}
use Rattle.nob_model_lives.proofs.Born.{HasWords, rest_all, reach_none, open_all, born_by, Reaches}
use Rattle.nob_model_births.proofs.Words.{Stands, acknowledgement, parcel}
use Rattle.nob_model_births.proofs.Trips.{Talks, none_keeps, asked_keeps, asked, reply, asked_here, reply_spelt, asked_spelt, job_from, frames_to, transmits, is_acknowledged, is_brought, brought_first, calls_one, reply_comes, takes_reply, job_comes, claims, finishes}

module _ (s n : ℕ) (limits : Limits) (p : ℕ) (peer : is_peer s n p ≡ true) (g : ℕ → ℕ) where
  -- in the open session with p as many items went each way, all are acknowledged, and nothing is outstanding
  abbrev pub Rested : (m calls jobs : ℕ) → List Deed → Type 0
  Rested m calls jobs D = Talks s n limits p peer g m m (m + 1) m m calls jobs no_work D

  -- ---- one trip

  -- a call is made, its reply comes and is taken
  call_trip : (m calls jobs : ℕ) (D : List Deed) → 1 ≤ limits.window → m < last_item → calls < last_number → Rested m calls jobs D → Leads (Rested (m + 1) (calls + 1) jobs) D
  call_trip m calls jobs D some room more its =
      let call : ℕ = calls_made D + 1 in
      let bytes : List ℕ = spelling (reply call) in
      let E : List Deed = idle_call p call ∷ D in
      let F : List Deed = did.Transmit p (frames_to s n limits p peer g E) ∷ E in
      let G : List Deed = did.Arrive (acknowledgement s p (g p) (m + 1 + 1)) 0 ∷ F in
      let H : List Deed = did.Arrive (parcel s p (g p) (m + 1) bytes) 1 ∷ G in
      let one = calls_one s n limits p peer g m m calls jobs D room more its in
      let two = transmits s n limits p peer g m m m (calls + 1) jobs (asked p call) E some (asked_keeps s n p call) one in
      let three = is_acknowledged s n limits p peer g (m + 1) m m (calls + 1) jobs (asked p call) F (asked_keeps s n p call) two in
      let next : m + 1 ≤ last_item = omega (arith, room) in
      let four = is_brought s n limits p peer g (m + 1) m (calls + 1) jobs (asked p call) bytes G (asked_keeps s n p call) next three in
      let front = brought_first s n limits p peer g (m + 1) m (calls + 1) jobs (asked p call) bytes G next three in
      let made = its.made in
      let five = reply_comes s n limits p peer g (m + 1) m (calls + 1) jobs call bytes H (reply_spelt call (omega arith) (omega (arith, made, more))) front four in
      let six = takes_reply s n limits p peer g (m + 1) (m + 1) (m + 1) (calls + 1) jobs call (did.Act p (m + 1) ∷ H) five in
      (did.TakeReply call 0 values.Unit ∷ did.Act p (m + 1) ∷ did.Arrive (parcel s p (g p) (m + 1) bytes) 1 ∷ did.Arrive (acknowledgement s p (g p) (m + 1 + 1)) 0 ∷ did.Transmit p (frames_to s n limits p peer g E) ∷ idle_call p call ∷ [], six)

  -- a job comes, runs and ends, and its reply is acknowledged
  job_trip : (m calls jobs : ℕ) (D : List Deed) → 1 ≤ limits.window → m < last_item → jobs < last_number → Rested m calls jobs D → Leads (Rested (m + 1) calls (jobs + 1)) D
  job_trip m calls jobs D some room more its =
      let bytes : List ℕ = spelling asked_here in
      let next : m + 1 ≤ last_item = omega (arith, room) in
      let E : List Deed = did.Arrive (parcel s p (g p) (m + 1) bytes) 1 ∷ D in
      let F : List Deed = did.Act p (m + 1) ∷ E in
      let j : ℕ = jobs_made F + 1 in
      let G : List Deed = did.Claim (job_from p j) ∷ F in
      let H : List Deed = did.Finish j (outcomes.Answer values.Unit) ∷ G in
      let K : List Deed = did.Transmit p (frames_to s n limits p peer g H) ∷ H in
      let one = is_brought s n limits p peer g m m calls jobs no_work bytes D (none_keeps s n) next its in
      let front = brought_first s n limits p peer g m m calls jobs no_work bytes D next its in
      let two = job_comes s n limits p peer g m m calls jobs bytes E asked_spelt front one in
      let three = claims s n limits p peer g m (m + 1) (m + 1) calls jobs F more two in
      let four = finishes s n limits p peer g m (m + 1) (m + 1) j calls (jobs + 1) G room three in
      let five = transmits s n limits p peer g m (m + 1) (m + 1) calls (jobs + 1) no_work H some (none_keeps s n) four in
      let six = is_acknowledged s n limits p peer g (m + 1) (m + 1) (m + 1) calls (jobs + 1) no_work K (none_keeps s n) five in
      (did.Arrive (acknowledgement s p (g p) (m + 1 + 1)) 0 ∷ did.Transmit p (frames_to s n limits p peer g H) ∷ did.Finish j (outcomes.Answer values.Unit) ∷ did.Claim (job_from p j) ∷ did.Act p (m + 1) ∷ did.Arrive (parcel s p (g p) (m + 1) bytes) 1 ∷ [], six)

  -- ---- many trips

  rested_as : (m m' calls calls' jobs jobs' : ℕ) (D : List Deed) → m ≡ m' → calls ≡ calls' → jobs ≡ jobs' → Rested m calls jobs D → Rested m' calls' jobs' D
  rested_as m m' calls calls' jobs jobs' D a b c its =
      subst (λ (x : ℕ). Rested x calls' jobs' D) a (subst (λ (x : ℕ). Rested m x jobs' D) b (subst (λ (x : ℕ). Rested m calls x D) c its))

  call_trips : (more m calls jobs : ℕ) (D : List Deed) → 1 ≤ limits.window → m + more ≤ last_item → calls + more ≤ last_number → Rested m calls jobs D → Leads (Rested (m + more) (calls + more) jobs) D
  call_trips zero m calls jobs D some room last its = stays (Rested (m + zero) (calls + zero) jobs) D (rested_as m (m + zero) calls (calls + zero) jobs jobs D (omega arith) (omega arith) refl its)
  call_trips (suc more) m calls jobs D some room last its =
      leads_on (Rested (m + 1) (calls + 1) jobs) (Rested (m + suc more) (calls + suc more) jobs) D (call_trip m calls jobs D some (omega (arith, room)) (omega (arith, last)) its)
      (λ E one. leads_as (Rested ((m + 1) + more) ((calls + 1) + more) jobs) (Rested (m + suc more) (calls + suc more) jobs) E
      (λ F all. rested_as ((m + 1) + more) (m + suc more) ((calls + 1) + more) (calls + suc more) jobs jobs F (omega arith) (omega arith) refl all)
      (call_trips more (m + 1) (calls + 1) jobs E some (omega (arith, room)) (omega (arith, last)) one))

  job_trips : (more m calls jobs : ℕ) (D : List Deed) → 1 ≤ limits.window → m + more ≤ last_item → jobs + more ≤ last_number → Rested m calls jobs D → Leads (Rested (m + more) calls (jobs + more)) D
  job_trips zero m calls jobs D some room last its = stays (Rested (m + zero) calls (jobs + zero)) D (rested_as m (m + zero) calls calls jobs (jobs + zero) D (omega arith) refl (omega arith) its)
  job_trips (suc more) m calls jobs D some room last its =
      leads_on (Rested (m + 1) calls (jobs + 1)) (Rested (m + suc more) calls (jobs + suc more)) D (job_trip m calls jobs D some (omega (arith, room)) (omega (arith, last)) its)
      (λ E one. leads_as (Rested ((m + 1) + more) calls ((jobs + 1) + more)) (Rested (m + suc more) calls (jobs + suc more)) E
      (λ F all. rested_as ((m + 1) + more) (m + suc more) calls calls ((jobs + 1) + more) (jobs + suc more) F (omega arith) refl (omega arith) all)
      (job_trips more (m + 1) calls (jobs + 1) E some (omega (arith, room)) (omega (arith, last)) one))

  -- calls and then jobs in one session
  pub trips : (c j calls jobs : ℕ) (D : List Deed) → 1 ≤ limits.window → c + j ≤ last_item → calls + c ≤ last_number → jobs + j ≤ last_number → Rested 0 calls jobs D → Leads (Rested (c + j) (calls + c) (jobs + j)) D
  trips c j calls jobs D some room last_call last_job its =
      leads_on (Rested (0 + c) (calls + c) jobs) (Rested (c + j) (calls + c) (jobs + j)) D (call_trips c 0 calls jobs D some (omega (arith, room)) last_call its)
      (λ E one. leads_as (Rested ((0 + c) + j) (calls + c) (jobs + j)) (Rested (c + j) (calls + c) (jobs + j)) E
      (λ F all. rested_as ((0 + c) + j) (c + j) (calls + c) (calls + c) (jobs + j) (jobs + j) F (omega arith) refl refl all)
      (job_trips j (0 + c) (calls + c) jobs E some (omega (arith, room)) last_job one))

-- ---- a session begins

new_stands : (k : ℕ) (calls : List EndEntry) → IsNewEnd k calls → Stands k 0 0 1 0 0 calls
new_stands k calls its = record {
  numbered = its.numbered;
  up = ap (λ (e : Option Reason). is_none e) its.is_up;
  given = ap length its.none_handed;
  out = its.none_transmitted;
  low = its.first_lowest;
  came = its.none_counted;
  kept = ap length its.none_accepted;
  taken = its.none_taken;
  none_later = λ j later. its.no_payload j;
}

-- each session with a peer is in number 1 at first
abbrev ones : ℕ → ℕ
ones q = 1

first_rested : (s n : ℕ) (limits : Limits) (p : ℕ) (peer : is_peer s n p ≡ true) → Rested s n limits p peer ones 0 0 0 []
first_rested s n limits p peer = record {
  right = tt;
  up = refl;
  given = λ q. refl;
  unasked = λ rep. refl;
  outstanding = refl;
  indexes = refl;
  made = refl;
  claimed = refl;
  heard = λ q. omega arith;
  stands = new_stands 1 [] ((new_law s n limits).sessions p peer).end_is_new;
}

-- the session with p in another number
abbrev opened_as : (p k : ℕ) → (ℕ → ℕ) → ℕ → ℕ
opened_as p k g q = cond (p == q) k (g q)

module _ (s n : ℕ) (limits : Limits) (p : ℕ) (peer : is_peer s n p ≡ true) where
  none_standing : (t : Turns) (own shut : Bool) → (own ≡ true → ⊤) → (own ≡ false → (t ≡ no_turns) ⊎ (shut ≡ true)) → (is_standing (cond own no_turns t) && not (cond own false shut)) ≡ false
  none_standing t true shut a b = refl
  none_standing t false shut a b = by_either (b refl)
    where
      by_either : (t ≡ no_turns) ⊎ (shut ≡ true) → (is_standing t && not shut) ≡ false
      by_either (inl none) = ap (λ (u : Turns). is_standing u && not shut) none
      by_either (inr is) = ap (λ (c : Bool). is_standing t && not c) is ∙ never (is_standing t)
        where
          never : (c : Bool) → (c && false) ≡ false
          never true = refl
          never false = refl

  opened_own : (a b : ℕ) → cond (p == p) a b ≡ a
  opened_own a b = ap (λ (c : Bool). cond c a b) (eq-eqb p p refl)

  -- at a space at rest the session with p opens in the next number
  pub opens_rested : (g : ℕ → ℕ) (x : Shown) (D : List Deed) → Waits s n limits x D → ((q : ℕ) → x.given q ≡ g q) → ((q : ℕ) → x.heard q ≤ g q) → x.indexes ≡ 0 → g p + 1 ≤ last_session → Leads (Rested s n limits p peer (opened_as p (g p + 1) g) 0 x.calls x.jobs) D
  opens_rested g x D its given heard indexes room =
      let k : ℕ = next_number p (history_of s n D) in
      let next : k ≡ g p + 1 = next_shown s n p x D its.shows ∙ next_is (x.given p) (x.heard p) (g p) (given p) (heard p) in
      let anew = begins_anew_after s n p k D in
      let low : k ≤ last_session = omega (arith, next, room) in
      leads_by (Rested s n limits p peer (opened_as p (g p + 1) g) 0 x.calls x.jobs) (did.Open p k) D record {
        right = (open_right s n limits p D its.still peer (its.shut p peer) low, its.still.right);
        up = anew.is_open;
        given = λ q. ap (λ (m : ℕ). cond (p == q) m (number q D)) next ∙ ap (λ (m : ℕ). cond (p == q) (g p + 1) m) (ap (λ (one : Shown). one.given q) its.shows ∙ given q);
        unasked = λ rep. none_standing (turns s n rep D) (p == rep.owner) (closed rep.owner D) (λ own. tt) (λ other. by_peer rep (is_peer s n rep.owner) refl);
        outstanding = work_opened s n p k D ∙ its.still.none_outstanding;
        indexes = ap (λ (one : Shown). one.indexes) its.shows ∙ indexes;
        made = ap (λ (one : Shown). one.calls) its.shows;
        claimed = ap (λ (one : Shown). one.jobs) its.shows;
        heard = λ q. heard_as q (p == q) refl k next;
        stands = subst (λ (m : ℕ). Stands m 0 0 1 0 0 (calls_at p (history_of s n (did.Open p k ∷ D)))) (next ∙ sym (opened_own (g p + 1) (g p))) (new_stands k (calls_at p (history_of s n (did.Open p k ∷ D))) anew.end_is_new);
      }
    where
      next_is : (number heard m : ℕ) → number ≡ m → heard ≤ m → max (number + 1) heard ≡ m + 1
      next_is number heard m same low = omega (arith, same, low)

      by_peer : (rep : WireRep) (is : Bool) → is_peer s n rep.owner ≡ is → (turns s n rep D ≡ no_turns) ⊎ (closed rep.owner D ≡ true)
      by_peer rep true is = inr (its.shut rep.owner is)
      by_peer rep false is = inl (strangers_unasked s n limits rep D its.still.right is)

      heard_before : (q : ℕ) → seen (calls_at q (history_of s n D)) ≤ g q
      heard_before q = (let same = ap (λ (one : Shown). one.heard q) its.shows in let low = heard q in omega (arith, same, low))

      heard_open : (q k : ℕ) → seen (calls_at q (history_of s n (did.Open p k ∷ D))) ≡ seen (calls_at q (history_of s n D))
      heard_open q k = ap (λ (one : Shown). one.heard q) (open_shows s n p k D)

      heard_as : (q : ℕ) (own : Bool) → (p == q) ≡ own → (k : ℕ) → k ≡ g p + 1 → seen (calls_at q (history_of s n (did.Open p k ∷ D))) ≤ cond own (g p + 1) (g q)
      heard_as q true same k next = (let one = heard_open q k in let two = heard_before q in let three : g p ≡ g q = ap g (eqb-true p q same) in omega (arith, one, two, three))
      heard_as q false same k next = (let one = heard_open q k in let two = heard_before q in omega (arith, one, two))

  -- ---- in one session after the other

  -- a space at rest that made so many calls and did so many jobs, in so many more numbers of the session with p at most
  record HasDone (calls jobs : ℕ) (g : ℕ → ℕ) (x : Shown) : Type 0 where
    indexes : x.indexes ≡ 0
    calls_are : x.calls ≡ calls
    jobs_are : x.jobs ≡ jobs
    given : (q : ℕ) → x.given q ≡ g q
    heard : (q : ℕ) → x.heard q ≤ g q

  abbrev AtRest : (calls jobs : ℕ) → (ℕ → ℕ) → List Deed → Type 0
  AtRest calls jobs g E = (x : Shown) × HasDone calls jobs g x × Waits s n limits x E × AreGone s E

  -- after trips it comes to rest
  rests : (g : ℕ → ℕ) (m calls jobs : ℕ) (D : List Deed) → Rested s n limits p peer g m calls jobs D → Leads (AtRest calls jobs g) D
  rests g m calls jobs D its =
      leads_as (λ E. Waits s n limits (shown_by s n D) E × AreGone s E) (AtRest calls jobs g) D
      (λ E there. (shown_by s n D, record { indexes = its.indexes; calls_are = its.made; jobs_are = its.claimed; given = its.given; heard = its.heard }, there.0, there.1))
      (led_alone (λ E. Waits s n limits (shown_by s n D) E × AreGone s E) D (rest_all s n limits D its.right))

  -- the numbers of the others are still theirs, and that of p is at most so high
  record IsWithin (top : ℕ) (g : ℕ → ℕ) : Type 0 where
    own : g p ≤ top
    others : (q : ℕ) → (p == q) ≡ false → g q ≡ 1

  abbrev Done : (calls jobs top : ℕ) → List Deed → Type 0
  Done calls jobs top E = (g : ℕ → ℕ) × IsWithin top g × AtRest calls jobs g E

  -- ---- numbers

  -- what is done in one session, and what is left for the others
  parts : (c j rounds : ℕ) → c + j ≤ last_item * (suc rounds + 1) → (now : ℕ) × (rest : ℕ) × (now ≤ c) × (rest ≤ j) × (now + rest ≤ last_item) × ((c - now) + (j - rest) ≤ last_item * (rounds + 1))
  parts c j rounds few = (min c last_item, min j (last_item - min c last_item), omega arith, omega arith, omega arith, left_few c j rounds few)
    where
      left_few : (c j rounds : ℕ) → c + j ≤ last_item * (suc rounds + 1) → (c - min c last_item) + (j - min j (last_item - min c last_item)) ≤ last_item * (rounds + 1)
      left_few c j rounds few = omega (arith, few)

  part_room : (made now c last : ℕ) → now ≤ c → made + c ≤ last → made + now ≤ last
  part_room made now c last low room = omega (arith, low, room)

  left_room : (made now c last : ℕ) → now ≤ c → made + c ≤ last → (made + now) + (c - now) ≤ last
  left_room made now c last low room = omega (arith, low, room)

  both_parts : (made now c : ℕ) → now ≤ c → (made + now) + (c - now) ≡ made + c
  both_parts made now c low = omega (arith, low)

  next_room : (own rounds top last : ℕ) → own + suc rounds ≤ top → top ≤ last → own + 1 ≤ last
  next_room own rounds top last low high = omega (arith, low, high)

  own_low : (own next rounds top : ℕ) → next ≡ own + 1 → own + suc rounds ≤ top → next ≤ top
  own_low own next rounds top is low = omega (arith, is, low)

  own_later : (own next rounds top : ℕ) → next ≡ own + 1 → own + suc rounds ≤ top → next + rounds ≤ top
  own_later own next rounds top is low = omega (arith, is, low)

  done_as : (calls calls' jobs jobs' top : ℕ) (E : List Deed) → calls ≡ calls' → jobs ≡ jobs' → Done calls jobs top E → Done calls' jobs' top E
  done_as calls calls' jobs jobs' top E a b its = subst (λ (x : ℕ). Done x jobs' top E) a (subst (λ (x : ℕ). Done calls x top E) b its)

  -- so many calls and jobs more in so many sessions more
  does_all : (rounds c j top calls jobs : ℕ) (g : ℕ → ℕ) (D : List Deed) → 1 ≤ limits.window → c + j ≤ last_item * (rounds + 1) → calls + c ≤ last_number → jobs + j ≤ last_number → IsWithin top g → g p + rounds ≤ top → top ≤ last_session → Rested s n limits p peer g 0 calls jobs D → Leads (Done (calls + c) (jobs + j) top) D
  does_all zero c j top calls jobs g D some few last_call last_job within low high its =
      leads_on (Rested s n limits p peer g (c + j) (calls + c) (jobs + j)) (Done (calls + c) (jobs + j) top) D
      (trips s n limits p peer g c j calls jobs D some (omega (arith, few)) last_call last_job its)
      (λ E all. leads_as (AtRest (calls + c) (jobs + j) g) (Done (calls + c) (jobs + j) top) E (λ F there. (g, within, there)) (rests g (c + j) (calls + c) (jobs + j) E all))
  does_all (suc rounds) c j top calls jobs g D some few last_call last_job within low high its =
      let part = parts c j rounds few in
      let now : ℕ = part.0 in
      let rest : ℕ = part.1 in
      let a = part.2 in
      let b = part.3 in
      leads_on (Rested s n limits p peer g (now + rest) (calls + now) (jobs + rest)) (Done (calls + c) (jobs + j) top) D
      (trips s n limits p peer g now rest calls jobs D some part.4 (part_room calls now c last_number a last_call) (part_room jobs rest j last_number b last_job) its)
      (λ E all. leads_on (AtRest (calls + now) (jobs + rest) g) (Done (calls + c) (jobs + j) top) E (rests g (now + rest) (calls + now) (jobs + rest) E all)
      (λ F there. leads_on (Rested s n limits p peer (opened_as p (g p + 1) g) 0 there.0.calls there.0.jobs) (Done (calls + c) (jobs + j) top) F
      (opens_rested g there.0 F there.2 there.1.given there.1.heard there.1.indexes (next_room (g p) rounds top last_session low high))
      (λ G one. leads_as (Done ((calls + now) + (c - now)) ((jobs + rest) + (j - rest)) top) (Done (calls + c) (jobs + j) top) G
      (λ H done. done_as ((calls + now) + (c - now)) (calls + c) ((jobs + rest) + (j - rest)) (jobs + j) top H (both_parts calls now c a) (both_parts jobs rest j b) done)
      (does_all rounds (c - now) (j - rest) top (calls + now) (jobs + rest) (opened_as p (g p + 1) g) G some part.5 (left_room calls now c last_number a last_call) (left_room jobs rest j last_number b last_job)
      (record { own = own_low (g p) (opened_as p (g p + 1) g p) rounds top (opened_own (g p + 1) (g p)) low; others = λ q other. ap (λ (b : Bool). cond b (g p + 1) (g q)) other ∙ within.others q other })
      (own_later (g p) (opened_as p (g p + 1) g p) rounds top (opened_own (g p + 1) (g p)) low) high
      (rested_as s n limits p peer (opened_as p (g p + 1) g) 0 0 there.0.calls (calls + now) there.0.jobs (jobs + rest) G refl there.1.calls_are there.1.jobs_are one)))))

-- ---- born

module _ (s n : ℕ) (limits : Limits) (birth : Birth) (later : IsLaterBirth s n birth) where
  -- from rest, with so many calls and jobs and no session beyond its number, each session opens
  born_from : (x : Shown) (D : List Deed) → Waits s n limits x D → AreGone s D → x.indexes ≡ 0 → x.calls ≡ birth.calls → x.jobs ≡ birth.jobs → ((q : ℕ) → is_peer s n q ≡ true → next_of x q ≤ birth.session q) → Leads (HasWords s n limits birth) D
  born_from x D waits gone indexes calls jobs below =
      leads_on (Reaches s n limits birth 0) (HasWords s n limits birth) D
      (led_alone (Reaches s n limits birth 0) D (reach_none s n limits birth x D waits gone (omega (arith, indexes)) later.indexes calls jobs below))
      (λ E reach. led_alone (HasWords s n limits birth) E (open_all s n limits birth E (λ q peer. (later.sessions q peer).1) reach))

  next_within : (number heard m top : ℕ) → number ≡ m → heard ≤ m → m + 1 ≤ top → max (number + 1) heard ≤ top
  next_within number heard m top same low room = omega (arith, same, low, room)

  none_before : birth.calls + birth.jobs ≡ 0 → Leads (HasWords s n limits birth) []
  none_before none =
      leads_on (λ E. Waits s n limits (shown_by s n []) E × AreGone s E) (HasWords s n limits birth) [] (led_alone (λ E. Waits s n limits (shown_by s n []) E × AreGone s E) [] (rest_all s n limits [] tt))
      (λ E there. born_from (shown_by s n []) E there.0 there.1 refl (omega (arith, none)) (omega (arith, none)) (λ q peer. let low = (later.sessions q peer).0 in next_within 1 0 1 (birth.session q) refl (omega arith) (omega (arith, low))))

  some_before : (p : ℕ) → is_peer s n p ≡ true → birth.calls + birth.jobs ≤ last_item * (birth.session p - 1) → 1 ≤ limits.window → Leads (HasWords s n limits birth) []
  some_before p peer few some =
      let top : ℕ = birth.session p - 1 in
      let low = (later.sessions p peer).0 in
      let high = (later.sessions p peer).1 in
      let last_call = later.calls in
      let last_job = later.jobs in
      leads_on (Done s n limits p peer (0 + birth.calls) (0 + birth.jobs) top) (HasWords s n limits birth) []
      (does_all s n limits p peer (birth.session p - 2) birth.calls birth.jobs top 0 0 ones [] some (enough (birth.calls + birth.jobs) (birth.session p) low few) (omega (arith, last_call)) (omega (arith, last_job))
      (record { own = (omega (arith, low)); others = λ q other. refl }) (omega (arith, low)) (omega (arith, high)) (first_rested s n limits p peer))
      (λ E done. born_from done.2.0 E done.2.2 done.2.3 done.2.1.indexes (let is = done.2.1.calls_are in omega (arith, is)) (let is = done.2.1.jobs_are in omega (arith, is))
      (λ q other. next_within (done.2.0.given q) (done.2.0.heard q) (done.0 q) (birth.session q) (done.2.1.given q) (done.2.1.heard q) (below done.0 done.1 q other)))
    where
      enough : (total session : ℕ) → 2 ≤ session → total ≤ last_item * (session - 1) → total ≤ last_item * ((session - 2) + 1)
      enough total session low few = (let same : session - 1 ≡ (session - 2) + 1 = omega (arith, low) in subst (λ (m : ℕ). total ≤ last_item * m) same few)

      below : (g : ℕ → ℕ) → IsWithin s n limits p peer (birth.session p - 1) g → (q : ℕ) → is_peer s n q ≡ true → g q + 1 ≤ birth.session q
      below g within q other = elim (p == q) as (λ (b : Bool). (p == q) ≡ b → g q + 1 ≤ birth.session q) [
        | true ↦ λ same. subst (λ (r : ℕ). g r + 1 ≤ birth.session r) (eqb-true p q same) (let own = within.own in let low = (later.sessions p peer).0 in omega (arith, own, low))
        | false ↦ λ apart. (let one = within.others q apart in let low = (later.sessions q other).0 in omega (arith, one, low))
      ] refl

  reached_later : 1 ≤ limits.window → CanHaveHad s n birth → Leads (HasWords s n limits birth) []
  reached_later some (inl none) = none_before none
  reached_later some (inr with_peer) = some_before with_peer.0 with_peer.1 with_peer.2 some

-- the birth of a new space
reached_new : (s n : ℕ) (limits : Limits) (birth : Birth) → IsNewBirth s n birth → IsBorn s n limits birth []
reached_new s n limits birth is =
    let first = new_law s n limits in record {
      right = tt;
      indexes = sym is.indexes;
      calls = sym is.calls;
      jobs = sym is.jobs;
      none_live = first.none_live;
      none_in_hand = first.none_in_hand;
      none_outstanding = first.none_outstanding;
      none_listed = first.none_listed;
      none_pinned = first.none_pinned;
      none_asked = first.none_asked;
      sessions = λ q peer. subst (λ (k : ℕ). BeginsAnew s n q k (history s n [])) (sym (is.sessions q peer)) (first.sessions q peer);
      none_higher = λ q peer. omega arith;
    }

-- each birth that is in range is reached
pub reached_law : ReachedLaw
reached_law s n limits birth some (inl new) = ([], reached_new s n limits birth new)
reached_law s n limits birth some (inr later) =
    let lead = reached_later s n limits birth later some later.earlier in
    let found = entries_behind s n limits [] tt lead.0 lead.1.right in
    (found.0 ++ [], born_by s n limits birth (found.0 ++ []) (lead.0 ++ []) found.1 found.2 lead.1)
