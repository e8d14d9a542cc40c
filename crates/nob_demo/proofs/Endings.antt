-- How a run ends after its attempt.
use Rattle.std.proofs.Common.{◌≡◌, Bool, true, false, ℕ, List, refl, codes}
use Rattle.std.specs.Io.KnownBytes.{Appends}
use Rattle.nob_demo.specs.Program.{Run, Goes, OutKept, ErrKept, IsRefused, IsUnread, MayStop}

either : {P : Type 0} (b : Bool) → (b ≡ false → P) → (b ≡ true → P) → P
either true f t = t refl
either false f t = f refl

pub refused_goes : (r : Run) (text : List ℕ) → IsRefused r.attempt → OutKept r.attempt → (r.err_failed ≡ false → Appends r.err_before r.err_after text × (r.status ≡ 2)) → (r.err_failed ≡ true → r.status ≡ 1) → Goes r
refused_goes r text refused kept ok err = either r.err_failed (λ e. Goes.refused text refused kept (ok e).0 e (ok e).1) (λ e. Goes.refused_unsaid refused e kept (err e))

pub unread_goes : (r : Run) → IsUnread r.attempt → OutKept r.attempt → (r.err_failed ≡ false → Appends r.err_before r.err_after (codes "read fault\n") × (r.status ≡ 1)) → (r.err_failed ≡ true → r.status ≡ 1) → Goes r
unread_goes r unread kept ok err = either r.err_failed (λ e. Goes.unread unread kept (ok e).0 e (ok e).1) (λ e. Goes.unread_unsaid unread e kept (err e))

pub stopped_goes : (r : Run) → MayStop r.attempt → ErrKept r → (r.attempt.out_failed ≡ false → Appends r.attempt.out_before r.attempt.out_after (codes "memory\n") × (r.status ≡ 1)) → (r.attempt.out_failed ≡ true → r.status ≡ 1) → Goes r
stopped_goes r may kept ok err = either r.attempt.out_failed (λ e. Goes.stopped may (ok e).0 e kept (ok e).1) (λ e. Goes.stopped_unsaid may e kept (err e))
