-- `days::lent_to` meets its contract: as many records as are wanted, and at most eight.
use Prim.Native.Nat.{ℕ, min}
use native.Mathlib.Omega.{arith}
use native.Mathlib.Decide.{dec_lt}
use native.Mathlib.Nat.{min-eq_left, min-eq_right}
use mathlib.Core.Logic.{by_cases}
use mathlib.Core.Path.{◌≡◌, sym, ap, ◌∙◌}
use mathlib.Core.Bool.{cond}
use lib.Dec.{ltb}
use borrow.Author.Tests.{lt-ltb, le-ltb}
use Rattle.days.specs.Asking.{lent_to}
use Rattle.days.proofs.lent_to.Goals as goal

at_most : (n : ℕ) → min n 8 ≡ cond (ltb n 8) n 8
at_most n =
    by_cases (dec_lt n 8)
    (λ h. min-eq_left (omega (arith, h)) ∙ sym (ap (λ b. cond b n 8) (lt-ltb n 8 h)))
    (λ h. min-eq_right (omega (arith, h)) ∙ sym (ap (λ b. cond b n 8) (le-ltb n 8 (omega (arith, h)))))

pub returns : goal.returns
unfolding lent_to
returns c =
    let day = c.args.day in
    c.min.ensures ∙ at_most c.wanted.result ∙ ap (λ n. cond (ltb n 8) n 8) c.wanted.ensures
