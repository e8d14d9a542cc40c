-- Calls and Replies: what is read of them is spelled so, and what is spelled so is read.
use Rattle.std.proofs.Common.{◌≡◌, ℕ, ◌^◌, ◌<◌, List, [], ◌∷◌, ◌++◌, Ok, refl, sym, ap, subst, ◌∙◌, arith}
use Rattle.byteorder.specs.Endian.{big_bytes}
use Rattle.nob_pickle.specs.Limits.{Spelt as PickleSpelt}
use Rattle.nob_pickle.specs.Spelling.{spelling as pickle}
use Rattle.nob_pickle.specs.declared.value.Value.{Value}
use Rattle.nob_item.specs.declared.fault.ItemFault.TheVariants as faults
use Rattle.nob_item.specs.declared.item.Item.{Item}
use Rattle.nob_item.specs.declared.item.Item.TheVariants as items
use Rattle.nob_item.specs.Spelling.{IsCallNumber, IsStatus, Spelt}
use Rattle.nob_item.specs.Judging.{◌>>=◌, is_status}
use Rattle.nob_item.specs.Reading.{number_at, call_number_at, status_at, call_front, reply_front}
use Rattle.nob_item.proofs.Choices.{bind_ok, ended_ok, ok_is}
use Rattle.nob_bytes.proofs.Lists.{IsBytes}
use Rattle.nob_bytes.proofs.Numbers.{back_2, back_8}
use Rattle.nob_item.proofs.Numbers.{number_takes, number_again, call_number_takes, call_number_again, status_is, status_passes}

-- two lists that are one begin alike and go on alike
pub first_is : (a b : ℕ) (xs ys : List ℕ) → a ∷ xs ≡ b ∷ ys → a ≡ b
first_is a b xs ys e = cc

pub rest_is : (a b : ℕ) (xs ys : List ℕ) → a ∷ xs ≡ b ∷ ys → xs ≡ ys
rest_is a b xs ys e = cc

-- ---- Calls

-- what is read of a Call: its number, target and method, and the bytes after them
abbrev pub CallParts : Type 0
CallParts = ℕ × ℕ × ℕ × List ℕ

-- such parts stand in the bytes
pub record CallTaken (bs : List ℕ) (x : CallParts) : Type 0 where
  pub parts : bs ≡ big_bytes 8 x.0 ++ (big_bytes 8 x.1 ++ (big_bytes 2 x.2 ++ x.3))
  pub call : IsCallNumber x.0
  pub target : x.1 < 2 ^ 64
  pub method : x.2 < 2 ^ 16

call_taken : (bs : List ℕ) (x : CallParts) → IsBytes bs → call_front bs ≡ Ok x → CallTaken bs x
unfolding call_front
call_taken bs x fits e =
    let a = bind_ok (call_number_at bs) (λ call. number_at 8 call.1 >>= λ target. number_at 2 target.1 >>= λ method. Ok (call.0, target.0, method.0, method.1)) x e in
    let call = a.0 in
    let b = bind_ok (number_at 8 call.1) (λ target. number_at 2 target.1 >>= λ method. Ok (call.0, target.0, method.0, method.1)) x a.2 in
    let target = b.0 in
    let d = bind_ok (number_at 2 target.1) (λ method. Ok (call.0, target.0, method.0, method.1)) x b.2 in
    let method = d.0 in
    let one = call_number_takes bs call fits a.1 in
    let two = number_takes 8 call.1 target.0 target.1 back_8 one.0.rest_fits b.1 in
    let three = number_takes 2 target.1 method.0 method.1 back_2 two.0.rest_fits d.1 in
    let whole : bs ≡ big_bytes 8 call.0 ++ (big_bytes 8 target.0 ++ (big_bytes 2 method.0 ++ method.1)) =
    one.0.parts ∙ ap (λ (r : List ℕ). big_bytes 8 call.0 ++ r) (two.0.parts ∙ ap (λ (r : List ℕ). big_bytes 8 target.0 ++ r) three.0.parts) in
    subst (λ (y : CallParts). CallTaken bs y) (ok_is (call.0, target.0, method.0, method.1) x d.2) (record { parts = whole; call = one.1; target = two.1; method = three.1 })

call_again : (call target method : ℕ) (rest : List ℕ) → IsCallNumber call → target < 2 ^ 64 → method < 2 ^ 16
    → call_front (big_bytes 8 call ++ (big_bytes 8 target ++ (big_bytes 2 method ++ rest))) ≡ Ok (call, target, method, rest)
unfolding call_front
call_again call target method rest h t m =
    rw (call_number_again call (big_bytes 8 target ++ (big_bytes 2 method ++ rest)) h, number_again 8 target (big_bytes 2 method ++ rest) t, number_again 2 method rest m) refl

-- what is read of a Call and its value is spelled so
pub call_spelt : (bs : List ℕ) (x : CallParts) (value : Value) → IsBytes bs → call_front bs ≡ Ok x → PickleSpelt x.3 value → Spelt (1 ∷ bs) (items.Call x.0 x.1 x.2 value)
call_spelt bs x value fits e s =
    let t = call_taken bs x fits e in (
      (t.call, t.target, t.method, s.fits),
      ap (λ (r : List ℕ). 1 ∷ r) (t.parts ∙ ap (λ (r : List ℕ). big_bytes 8 x.0 ++ (big_bytes 8 x.1 ++ (big_bytes 2 x.2 ++ r))) s.is_spelling),
    )

-- an item that is spelled with a Call's first byte is a Call, and is read so
pub call_is : (bs : List ℕ) (item : Item) → Spelt (1 ∷ bs) item
    → (x : CallParts) × (value : Value) × (call_front bs ≡ Ok x) × (item ≡ items.Call x.0 x.1 x.2 value) × PickleSpelt x.3 value
call_is bs (items.Call call target method value) s =
    let is : bs ≡ big_bytes 8 call ++ (big_bytes 8 target ++ (big_bytes 2 method ++ pickle value)) = rest_is 1 1 _ _ s.1 in
    let f = s.0 in (
      (call, target, method, pickle value),
      value,
      ap call_front is ∙ call_again call target method (pickle value) f.0 f.1 f.2,
      refl,
      record { fits = f.3; is_spelling = refl },
    )
call_is bs (items.Reply call status value) s = let e : 1 ≡ 2 = first_is 1 2 _ _ s.1 in absurd (omega (arith, e))
call_is bs (items.Settle item) s = let e : 1 ≡ 3 = first_is 1 3 _ _ s.1 in absurd (omega (arith, e))
call_is bs (items.Dirty index) s = let e : 1 ≡ 4 = first_is 1 4 _ _ s.1 in absurd (omega (arith, e))
call_is bs (items.DirtyOk index) s = let e : 1 ≡ 5 = first_is 1 5 _ _ s.1 in absurd (omega (arith, e))
call_is bs (items.DirtyNo index) s = let e : 1 ≡ 6 = first_is 1 6 _ _ s.1 in absurd (omega (arith, e))
call_is bs (items.Clean index) s = let e : 1 ≡ 7 = first_is 1 7 _ _ s.1 in absurd (omega (arith, e))

-- the same where it is known what was read
pub call_only : (bs : List ℕ) (x : CallParts) (item : Item) → call_front bs ≡ Ok x → Spelt (1 ∷ bs) item
    → (value : Value) × (item ≡ items.Call x.0 x.1 x.2 value) × PickleSpelt x.3 value
call_only bs x item e s =
    let is = call_is bs item s in
    subst (λ (y : CallParts). (value : Value) × (item ≡ items.Call y.0 y.1 y.2 value) × PickleSpelt y.3 value) (ok_is is.0 x (sym is.2 ∙ e)) (is.1, is.3, is.4)

-- ---- Replies

-- what is read of a Reply: its number and its status, and the bytes after them
abbrev pub ReplyParts : Type 0
ReplyParts = ℕ × ℕ × List ℕ

-- such parts stand in the bytes
pub record ReplyTaken (bs : List ℕ) (x : ReplyParts) : Type 0 where
  pub parts : bs ≡ big_bytes 8 x.0 ++ (x.1 ∷ x.2)
  pub call : IsCallNumber x.0
  pub status : IsStatus x.1

status_taken : (bs : List ℕ) (x : ℕ × List ℕ) → status_at bs ≡ Ok x → (bs ≡ x.0 ∷ x.1) × IsStatus x.0
unfolding status_at
status_taken [] x e = absurd cc
status_taken (status ∷ bs) x e =
    let h = ended_ok (is_status status) faults.Status (status, bs) x e in
    subst (λ (y : ℕ × List ℕ). (status ∷ bs ≡ y.0 ∷ y.1) × IsStatus y.0) h.1 (refl, status_is status h.0)

reply_taken : (bs : List ℕ) (x : ReplyParts) → IsBytes bs → reply_front bs ≡ Ok x → ReplyTaken bs x
unfolding reply_front
reply_taken bs x fits e =
    let a = bind_ok (call_number_at bs) (λ call. status_at call.1 >>= λ status. Ok (call.0, status.0, status.1)) x e in
    let call = a.0 in
    let b = bind_ok (status_at call.1) (λ status. Ok (call.0, status.0, status.1)) x a.2 in
    let status = b.0 in
    let one = call_number_takes bs call fits a.1 in
    let two = status_taken call.1 status b.1 in
    subst (λ (y : ReplyParts). ReplyTaken bs y) (ok_is (call.0, status.0, status.1) x b.2) (record { parts = one.0.parts ∙ ap (λ (r : List ℕ). big_bytes 8 call.0 ++ r) two.0; call = one.1; status = two.1 })

reply_again : (call status : ℕ) (rest : List ℕ) → IsCallNumber call → IsStatus status → reply_front (big_bytes 8 call ++ (status ∷ rest)) ≡ Ok (call, status, rest)
unfolding reply_front status_at
reply_again call status rest h t = rw (call_number_again call (status ∷ rest) h, status_passes status t) refl

-- what is read of a Reply and its value is spelled so
pub reply_spelt : (bs : List ℕ) (x : ReplyParts) (value : Value) → IsBytes bs → reply_front bs ≡ Ok x → PickleSpelt x.2 value → Spelt (2 ∷ bs) (items.Reply x.0 x.1 value)
reply_spelt bs x value fits e s =
    let t = reply_taken bs x fits e in (
      (t.call, t.status, s.fits),
      ap (λ (r : List ℕ). 2 ∷ r) (t.parts ∙ ap (λ (r : List ℕ). big_bytes 8 x.0 ++ (x.1 ∷ r)) s.is_spelling),
    )

-- an item that is spelled with a Reply's first byte is a Reply, and is read so
pub reply_is : (bs : List ℕ) (item : Item) → Spelt (2 ∷ bs) item
    → (x : ReplyParts) × (value : Value) × (reply_front bs ≡ Ok x) × (item ≡ items.Reply x.0 x.1 value) × PickleSpelt x.2 value
reply_is bs (items.Reply call status value) s =
    let is : bs ≡ big_bytes 8 call ++ (status ∷ pickle value) = rest_is 2 2 _ _ s.1 in
    let f = s.0 in (
      (call, status, pickle value),
      value,
      ap reply_front is ∙ reply_again call status (pickle value) f.0 f.1,
      refl,
      record { fits = f.2; is_spelling = refl },
    )
reply_is bs (items.Call call target method value) s = let e : 2 ≡ 1 = first_is 2 1 _ _ s.1 in absurd (omega (arith, e))
reply_is bs (items.Settle item) s = let e : 2 ≡ 3 = first_is 2 3 _ _ s.1 in absurd (omega (arith, e))
reply_is bs (items.Dirty index) s = let e : 2 ≡ 4 = first_is 2 4 _ _ s.1 in absurd (omega (arith, e))
reply_is bs (items.DirtyOk index) s = let e : 2 ≡ 5 = first_is 2 5 _ _ s.1 in absurd (omega (arith, e))
reply_is bs (items.DirtyNo index) s = let e : 2 ≡ 6 = first_is 2 6 _ _ s.1 in absurd (omega (arith, e))
reply_is bs (items.Clean index) s = let e : 2 ≡ 7 = first_is 2 7 _ _ s.1 in absurd (omega (arith, e))

-- the same where it is known what was read
pub reply_only : (bs : List ℕ) (x : ReplyParts) (item : Item) → reply_front bs ≡ Ok x → Spelt (2 ∷ bs) item
    → (value : Value) × (item ≡ items.Reply x.0 x.1 value) × PickleSpelt x.2 value
reply_only bs x item e s =
    let is = reply_is bs item s in
    subst (λ (y : ReplyParts). (value : Value) × (item ≡ items.Reply y.0 y.1 value) × PickleSpelt y.2 value) (ok_is is.0 x (sym is.2 ∙ e)) (is.1, is.3, is.4)
