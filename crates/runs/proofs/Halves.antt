-- A product that may have more than 64 bits, compared by the lower 32 bits of one factor and the upper ones; and two words a value.
use Prim.Native.Nat.{ℕ, ◌+◌, ◌-◌, ◌*◌, ◌/◌, ◌%◌, ◌≤◌, ◌<◌}
use native.Mathlib.Nat.{mul-le-mul, mod-add-div'}
use native.Mathlib.Decide.{dec_lt}
use native.Mathlib.Omega.{arith}
use mathlib.Core.Path.{◌≡◌, sym, ap, ◌∙◌}
use mathlib.Core.Logic.{by_cases}
use lib.Dec.{ltb}
use Rattle.snapshot.specs.Values.{page_places}
use borrow.Author.Tests.{lt-ltb, le-ltb}

-- a product of two numbers of 32 bits
pub half_product : (a b : ℕ) → a < 4294967296 → b < 4294967296 → a * b < 18446744073709551616
half_product a b l m =
    let x : a ≤ 4294967295 = omega (arith, l) in
    let y : b ≤ 4294967295 = omega (arith, m) in
    let z : a * b ≤ 4294967295 * 4294967295 = mul-le-mul x y in
    omega (arith, z)

module _ (t p : ℕ) where
  product_of_halves : t * p ≡ t % 4294967296 * p + t / 4294967296 * p * 4294967296
  product_of_halves =
      sym (ap (λ x. x * p) (mod-add-div' t 4294967296))
      ∙ (let e : (t % 4294967296 + t / 4294967296 * 4294967296) * p ≡ t % 4294967296 * p + t / 4294967296 * p * 4294967296
      = omega arith in e)

  pub low_lacks : (w : ℕ) → w < t % 4294967296 * p → w < t * p
  low_lacks w l = let e = product_of_halves in omega (arith, l, e)

  -- where the words suffice for the lower part, what is left of them decides
  pub high_lacks : (w : ℕ) → t % 4294967296 * p ≤ w →
      ltb ((w - t % 4294967296 * p) / 4294967296) (t / 4294967296 * p) ≡ ltb w (t * p)
  high_lacks w l =
      let e = product_of_halves in
      let d = w - t % 4294967296 * p in
      let m = t / 4294967296 * p in
      by_cases (dec_lt (d / 4294967296) m)
      (λ h. lt-ltb (d / 4294967296) m h ∙ sym (lt-ltb w (t * p) (omega (arith, e, h, l))))
      (λ h. le-ltb (d / 4294967296) m (omega (arith, h)) ∙ sym (le-ltb w (t * p) (omega (arith, e, h, l))))

-- where each of t turns asks for p values of two words, w words are too few if half of them are fewer than the values
pub half_lacks : (t p w : ℕ) → ltb (w / 2) (t * p) ≡ ltb w (t * page_places p)
half_lacks t p w =
    let twice : t * page_places p ≡ 2 * (t * p) = omega arith in
    by_cases (dec_lt (w / 2) (t * p))
    (λ h. lt-ltb (w / 2) (t * p) h ∙ sym (lt-ltb w (t * page_places p) (omega (arith, twice, h))))
    (λ h. le-ltb (w / 2) (t * p) (omega (arith, h)) ∙ sym (le-ltb w (t * page_places p) (omega (arith, twice, h))))
