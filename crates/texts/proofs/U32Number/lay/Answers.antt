use Prim.Native.Nat.{ℕ, ◌≤◌}
use native.Mathlib.Omega.{arith}
use mathlib.Core.Path.{◌≡◌, sym, ap, ◌∙◌}
use lib.ListN.{length}
use Rattle.texts.specs.Decimal.{decimal, trailing_digits}
use Rattle.texts.proofs.Numerals.{decimal_digit, decimal_short, length_last_digits}
use Rattle.texts.proofs.Laying.{lays_as}
use Rattle.texts.proofs.U32Number.lay.Goals as goal

-- as many digits as the numeral has, and at most ten
count : (n r : ℕ) → decimal n ≡ trailing_digits r n → r ≤ 10
count n r e =
    let same = ap length e ∙ length_last_digits r n in
    omega (arith, decimal_short n)

pub returns-then-self-lt10-clause-laid : goal.returns-then-self-lt10-clause-laid
returns-then-self-lt10-clause-laid c = lays_as (sym (decimal_digit _ c.if-self-lt10.true)) c.byte.ensures

pub numeral-requires : goal.numeral-requires
numeral-requires c = let few = count c.args.self c.places.result c.places.ensures in omega arith

pub returns : goal.returns
returns c =
    let n = c.args.self in
    let laid = lays_as (ap (trailing_digits c.places.result) c.from.ensures ∙ sym c.places.ensures) c.numeral.ensures in
    let end = laid.laid.end in
    record { laid = laid; upper_bound = omega (arith, decimal_short n, end) }
