-- What a reader has left, and what a writer holds, one call after the other.
use Rattle.std.proofs.Common.{◌≡◌, ℕ, ◌+◌, ◌<◌, List, [], ◌++◌, length, Option, Some, None, IfSome, refl, sym, ap, subst, ◌∙◌, append_assoc, arith}
use Rattle.std.specs.Io.KnownBytes.{Appends, Consumes, IsAtEnd, Keeps}
use Rattle.std.proofs.lemmas.List.{append-nil, length-append}

pub consumes_more : (a b c : Option (List ℕ)) (xs ys : List ℕ) → Consumes a b xs → Consumes b c ys → Consumes a c (xs ++ ys)
consumes_more None b c xs ys h k = tt
consumes_more (Some ws) None c xs ys h k = absurd h
consumes_more (Some ws) (Some bs) None xs ys h k = absurd k
consumes_more (Some ws) (Some bs) (Some cs) xs ys h k = h ∙ ap (λ (zs : List ℕ). xs ++ zs) k ∙ sym (append_assoc xs ys cs)

pub consumed_all : (a b : Option (List ℕ)) (xs : List ℕ) → Consumes a b xs → IsAtEnd b → IfSome a (λ bytes. xs ≡ bytes)
consumed_all None b xs h end = tt
consumed_all (Some ws) None xs h end = absurd h
consumed_all (Some ws) (Some bs) xs h end = sym (h ∙ ap (λ (zs : List ℕ). xs ++ zs) end ∙ append-nil xs)

pub consumed_many : (a b : Option (List ℕ)) (xs : List ℕ) (n : ℕ) → Consumes a b xs → n < length xs → IfSome a (λ bytes. n < length bytes)
consumed_many None b xs n h less = tt
consumed_many (Some ws) None xs n h less = absurd h
consumed_many (Some ws) (Some bs) xs n h less = let len : length ws ≡ length xs + length bs = ap length h ∙ length-append xs bs in omega (arith, len, less)

pub consumed_count : (a b : Option (List ℕ)) (xs : List ℕ) (n : ℕ) → Consumes a b xs → length xs ≡ n → IfSome a (λ all. IfSome b (λ left. length all ≡ n + length left))
consumed_count None b xs n h count = tt
consumed_count (Some ws) None xs n h count = absurd h
consumed_count (Some ws) (Some bs) xs n h count = let len : length ws ≡ length xs + length bs = ap length h ∙ length-append xs bs in omega (arith, len, count)

pub none_counted : (a : Option (List ℕ)) (n : ℕ) → n ≡ 0 → IfSome a (λ all. IfSome a (λ left. length all ≡ n + length left))
none_counted None n e = tt
none_counted (Some ws) n e = omega (arith, e)

pub consumes_none : (a : Option (List ℕ)) → Consumes a a []
consumes_none None = tt
consumes_none (Some ws) = refl

pub appends_more : (a b c : Option (List ℕ)) (xs ys : List ℕ) → Appends a b xs → Appends b c ys → Appends a c (xs ++ ys)
appends_more None b c xs ys h k = tt
appends_more (Some ws) None c xs ys h k = absurd h
appends_more (Some ws) (Some bs) None xs ys h k = absurd k
appends_more (Some ws) (Some bs) (Some cs) xs ys h k = k ∙ ap (λ (zs : List ℕ). zs ++ ys) h ∙ append_assoc ws xs ys

pub appends_none : (a : Option (List ℕ)) (xs : List ℕ) → xs ≡ [] → Appends a a xs
appends_none None xs e = tt
appends_none (Some ws) xs e = subst (λ (ys : List ℕ). ws ≡ ws ++ ys) (sym e) (sym (append-nil ws))

pub keeps_same : (a : Option (List ℕ)) → Keeps a a
keeps_same None = tt
keeps_same (Some ws) = refl

pub kept_then_appends : (a b c : Option (List ℕ)) (xs : List ℕ) → Keeps a b → Appends b c xs → Appends a c xs
kept_then_appends None b c xs h k = tt
kept_then_appends (Some ws) None c xs h k = absurd h
kept_then_appends (Some ws) (Some bs) None xs h k = absurd k
kept_then_appends (Some ws) (Some bs) (Some cs) xs h k = k ∙ ap (λ (zs : List ℕ). zs ++ xs) h
