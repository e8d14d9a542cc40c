-- Numbers as they are read and written.
use Rattle.std.proofs.Common.{true, cond, ◌≡◌, ℕ, ◌^◌, ◌<◌, List, ◌++◌, Ok, Err, refl, subst, arith}
use Rattle.byteorder.specs.Endian.{big_bytes}
use Rattle.nob_bytes.proofs.Lists.{IsBytes}
use Rattle.nob_bytes.proofs.Numbers as numbers
use Rattle.nob_bytes.proofs.Numbers.{ReadsBack, back_8, Takes}
use Rattle.nob_item.specs.declared.fault.ItemFault.TheVariants.{Short, Number}
use Rattle.std.proofs.lemmas.Bool.Decides.{nat_tests}
use Rattle.nob_item.specs.Spelling.{IsCallNumber, IsItemNumber, IsStatus}
use Rattle.nob_item.specs.Judging.{is_call_number, is_item_number, is_status}
use Rattle.nob_item.specs.Reading.{number_at, call_number_at, item_number_at}
use Rattle.nob_item.proofs.Choices.{bind_ok, ended_ok}

pub number_takes : (size : ℕ) (bytes : List ℕ) (n : ℕ) (rest : List ℕ) → ReadsBack size → IsBytes bytes → number_at size bytes ≡ Ok (n, rest) → Takes bytes (big_bytes size n) rest × (n < 256 ^ size)
number_takes size bytes n rest back fits e = numbers.number_takes Short size bytes (n, rest) back fits e

pub number_again : (size n : ℕ) (rest : List ℕ) → n < 256 ^ size → number_at size (big_bytes size n ++ rest) ≡ Ok (n, rest)
number_again size n rest lt = numbers.number_again Short size n rest lt

-- ---- the tests

call_is : (n : ℕ) → is_call_number n ≡ true → IsCallNumber n
call_is n e = (grind (arith, nat_tests), grind (arith, nat_tests))

call_passes : (n : ℕ) → IsCallNumber n → is_call_number n ≡ true
call_passes n h = grind (arith, nat_tests)

item_is : (n : ℕ) → is_item_number n ≡ true → IsItemNumber n
item_is n e = (grind (arith, nat_tests), grind (arith, nat_tests))

item_passes : (n : ℕ) → IsItemNumber n → is_item_number n ≡ true
item_passes n h = grind (arith, nat_tests)

pub status_is : (n : ℕ) → is_status n ≡ true → IsStatus n
status_is n e = grind (arith, nat_tests)

pub status_passes : (n : ℕ) → IsStatus n → is_status n ≡ true
status_passes n h = grind (arith, nat_tests)

-- ---- numbers that are judged

pub call_number_takes : (bs : List ℕ) (x : ℕ × List ℕ) → IsBytes bs → call_number_at bs ≡ Ok x → Takes bs (big_bytes 8 x.0) x.1 × IsCallNumber x.0
unfolding call_number_at
call_number_takes bs x fits e =
    let b = bind_ok (number_at 8 bs) (λ n. cond (is_call_number n.0) (Ok n) (Err Number)) x e in
    let n = b.0 in
    let h = ended_ok (is_call_number n.0) Number n x b.2 in
    let t = number_takes 8 bs n.0 n.1 back_8 fits b.1 in
    subst (λ (p : ℕ × List ℕ). Takes bs (big_bytes 8 p.0) p.1 × IsCallNumber p.0) h.1 (t.0, call_is n.0 h.0)

pub call_number_again : (n : ℕ) (rest : List ℕ) → IsCallNumber n → call_number_at (big_bytes 8 n ++ rest) ≡ Ok (n, rest)
unfolding call_number_at
call_number_again n rest h = rw (number_again 8 n rest (omega (arith, h.1)), call_passes n h) refl

pub item_number_takes : (bs : List ℕ) (x : ℕ × List ℕ) → IsBytes bs → item_number_at bs ≡ Ok x → Takes bs (big_bytes 8 x.0) x.1 × IsItemNumber x.0
unfolding item_number_at
item_number_takes bs x fits e =
    let b = bind_ok (number_at 8 bs) (λ n. cond (is_item_number n.0) (Ok n) (Err Number)) x e in
    let n = b.0 in
    let h = ended_ok (is_item_number n.0) Number n x b.2 in
    let t = number_takes 8 bs n.0 n.1 back_8 fits b.1 in
    subst (λ (p : ℕ × List ℕ). Takes bs (big_bytes 8 p.0) p.1 × IsItemNumber p.0) h.1 (t.0, item_is n.0 h.0)

pub item_number_again : (n : ℕ) (rest : List ℕ) → IsItemNumber n → item_number_at (big_bytes 8 n ++ rest) ≡ Ok (n, rest)
unfolding item_number_at
item_number_again n rest h = rw (number_again 8 n rest (omega (arith, h.1)), item_passes n h) refl
