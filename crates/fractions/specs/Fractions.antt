-- Fractions in lowest terms (document 02, K5).
use Rattle.std.specs.Prelude.{ℕ, zero, suc, ◌+◌, ◌*◌, ◌/◌, ◌%◌, ◌≤◌, ◌≡◌, Bool, cond, ◌&&◌, eqb}
use Rattle.std.specs.Int.{◌∣◌}
use Rattle.fractions.specs.declared.Fraction.{Fraction}

-- whether d divides both a and b
abbrev pub divides_both : (d a b : ℕ) → Bool
divides_both d a b = eqb (a % d) 0 && eqb (b % d) 0

-- the greatest of 1 to most that divides both, or 0 where none of them does
abbrev pub greatest_up_to : (most a b : ℕ) → ℕ
greatest_up_to zero a b = 0
greatest_up_to (suc most) a b = cond (divides_both (suc most) a b) (suc most) (greatest_up_to most a b)

-- the greatest common divisor, which is looked for from the sum down; of 0 and 0 it is 0
unfoldable pub greatest_divisor : ℕ → ℕ → ℕ
greatest_divisor a b = greatest_up_to (a + b) a b

-- a over b with both divided by it
unfoldable pub lowest_terms : (a b : ℕ) → Fraction
lowest_terms a b =
    let g = greatest_divisor a b in
    record { numerator = a / g; denominator = b / g }

-- ---- what is claimed of these (proofs/Divisors)

-- g is the greatest common divisor of a and b, not both 0, however it is found
pub record IsGreatestDivisor (g a b : ℕ) : Type 0 where
  pub left : g ∣ a
  pub right : g ∣ b
  pub greatest : (d : ℕ) → d ∣ a → d ∣ b → d ≤ g

-- f is a over b, not 0, "in lowest terms": the same share, its denominator not 0, and no number above 1 divides both its parts
pub record IsLowest (f : Fraction) (a b : ℕ) : Type 0 where
  pub same : f.numerator * b ≡ a * f.denominator
  pub over : 1 ≤ f.denominator
  pub lowest : (d : ℕ) → d ∣ f.numerator → d ∣ f.denominator → d ≤ 1
