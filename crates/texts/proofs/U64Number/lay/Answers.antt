use Prim.Native.Nat.{ℕ, ◌+◌, ◌%◌, ◌^◌, ◌≤◌, ◌<◌, ◌*◌}
use native.Mathlib.Nat.{pow-suc}
use native.Mathlib.Numerals.{add-one}
use native.Mathlib.Omega.{arith}
use mathlib.Core.Path.{◌≡◌, sym, ap, ◌∙◌}
use mathlib.Core.List.{[], ◌∷◌}
use Rattle.texts.specs.Decimal.{long_decimal, trailing_digits}
use Rattle.texts.proofs.Numerals.{long_digit, long_places, long_short}
use Rattle.texts.proofs.Laying.{lays_as}
use Rattle.texts.proofs.U64Number.lay.Goals as goal

-- one digit
one : (n : ℕ) → n < 10 → long_decimal n ≡ (48 + n) ∷ []
one n h = long_digit n h ∙ (let same : n % 10 ≡ n = omega arith in ap (λ d. (48 + d) ∷ []) same)

-- or one more than its logarithm
digits_of : (p n : ℕ) → p < 20 → 10 ^ p ≤ n → n < 10 * 10 ^ p → long_decimal n ≡ trailing_digits (p + 1) n
digits_of p n few least most =
    long_places p n (omega arith) least (omega (arith, pow-suc 10 p)) ∙ ap (λ k. trailing_digits k n) (sym (add-one p))

pub returns-then-n-lt10-clause-laid : goal.returns-then-n-lt10-clause-laid
returns-then-n-lt10-clause-laid c = lays_as (sym (one c.args.self c.if-n-lt10.true)) c.byte.ensures

pub returns : goal.returns
returns c =
    let n = c.args.self in
    let log = c.ilog10.ensures in
    let laid = lays_as (sym (digits_of c.ilog10.result n log.bound log.power_le log.next_power_gt)) c.numeral.ensures in
    let end = laid.laid.end in
    record { laid = laid; upper_bound = omega (arith, long_short n, end) }
