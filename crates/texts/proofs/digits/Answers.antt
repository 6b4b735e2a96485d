use Prim.Native.Nat.{ℕ, suc, ◌+◌, ◌-◌, ◌/◌, ◌<◌}
use native.Mathlib.Omega.{arith}
use mathlib.Core.List.{List}
use mathlib.Core.Path.{◌≡◌, sym, ap, ◌∙◌}
use lib.ListN.{length, set, length-set}
use Rattle.texts.specs.Decimal.{last_digit, trailing_digits}
use Rattle.texts.specs.Laying.{with_text}
use Rattle.texts.proofs.Numerals.{length_last_digits}
use Rattle.texts.proofs.Laying.{laid_nothing, laid_last}
use Rattle.texts.proofs.digits.Goals as goal

-- the last digit stored, and those before it laid, are all of them laid
laid-digit : (out : List ℕ) (at j rest : ℕ) → at + j < length out
    → with_text (set out (at + j) (last_digit rest)) at (trailing_digits j (rest / 10)) ≡ with_text out at (trailing_digits (suc j) rest)
laid-digit out at j rest h =
    let l = length_last_digits j (rest / 10) in
    ap (λ k. with_text (set out (at + k) (last_digit rest)) at (trailing_digits j (rest / 10))) (sym l)
    ∙ laid_last out at (trailing_digits j (rest / 10)) (last_digit rest) (omega arith)

pub loop-i-preserved : goal.loop-i-preserved
loop-i-preserved c =
    let loop = c.loop-i in
    let at = c.args.at in
    let i : suc (loop.i - 1) ≡ loop.i = omega arith in (
      simp length-set (omega arith),
      laid-digit loop.out at (loop.i - 1) loop.rest (omega arith)
          ∙ ap (λ k. with_text loop.out at (trailing_digits k loop.rest)) i
          ∙ loop.invariant.1,
    )

pub returns : goal.returns
returns c =
    let loop = c.loop-i in
    let at = c.args.at in
    let none : 0 ≡ loop.i = omega arith in
    sym (laid_nothing loop.out at) ∙ ap (λ k. with_text loop.out at (trailing_digits k loop.rest)) none ∙ loop.invariant.1
