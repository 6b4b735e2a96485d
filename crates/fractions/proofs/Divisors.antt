-- The greatest common divisor is one (`greatest-is`), Euclid's division keeps it (`euclid`), and a fraction that is divided by it is
-- in lowest terms (`lowest-is`).
use Prim.Native.Nat.{ℕ, zero, suc, ◌+◌, ◌*◌, ◌/◌, ◌%◌, ◌≤◌, ◌∣◌}
use native.Mathlib.Nat.{dvd_refl, dvd-zero, dvd-mod_iff, le_of_dvd, pos_of_dvd_of_pos, mod-eq-zero_of_dvd, dvd_of_mod-eq-zero}
use native.Mathlib.Nat.{one-dvd, div-mul_cancel, mul-dvd-mul_right, le_of_mul-le-mul_right, mul_assoc, mul_right_comm, le_antisymm}
use native.Mathlib.Decide.{ℕ_discrete}
use native.Mathlib.Omega.{arith}
use mathlib.Core.Path.{◌≡◌, refl, sym, ap, ◌∙◌, subst}
use mathlib.Core.Logic.{by_cases}
use mathlib.Core.Bool.{Bool, true, false, cond, ◌&&◌}
use lib.Dec.{eqb}
use borrow.Author.Tests.{eqb-true, eqb-false}
use Rattle.fractions.specs.Fractions.{greatest_up_to, greatest_divisor, lowest_terms, IsGreatestDivisor, IsLowest}

-- ---- the one that is looked for

module _ (a b : ℕ) where
  -- the greatest of 1 to most
  record Greatest (most g : ℕ) : Type 0 where
    pub left : g ∣ a
    pub right : g ∣ b
    pub greatest : (d : ℕ) → d ∣ a → d ∣ b → d ≤ most → d ≤ g

  -- one that does not divide both is not the greatest; 1 does
  lower : (most g : ℕ) → ((suc most ∣ a) → (suc most ∣ b) → ⊥) → (1 ≤ most → Greatest most g) → Greatest (suc most) g
  lower zero g neither below = absurd (neither (one-dvd a) (one-dvd b))
  lower (suc most) g neither below =
      let r = below (omega arith) in
      record {
        left = r.left;
        right = r.right;
        greatest = λ d u v m.
            by_cases (ℕ_discrete d (suc (suc most)))
            (λ e. absurd (neither (subst (λ k. k ∣ a) e u) (subst (λ k. k ∣ b) e v)))
            (λ e. r.greatest d u v (omega (arith, m, e)));
      }

  -- by whether suc most divides a, and b
  looked : (most g : ℕ) (p q : Bool) → eqb (a % suc most) 0 ≡ p → eqb (b % suc most) 0 ≡ q → (1 ≤ most → Greatest most g) →
      Greatest (suc most) (cond (p && q) (suc most) g)
  looked most g true true e f below =
      record {
        left = dvd_of_mod-eq-zero (suc most) (eqb-true _ _ e);
        right = dvd_of_mod-eq-zero (suc most) (eqb-true _ _ f);
        greatest = λ d u v m. m;
      }
  looked most g true false e f below = lower most g (λ u v. eqb-false _ _ f (mod-eq-zero_of_dvd (suc most) v)) below
  looked most g false q e f below = lower most g (λ u v. eqb-false _ _ e (mod-eq-zero_of_dvd (suc most) u)) below

  found : (most : ℕ) → 1 ≤ most → Greatest most (greatest_up_to most a b)
  found zero l = absurd (omega (arith, l))
  found (suc most) l = looked most (greatest_up_to most a b) (eqb (a % suc most) 0) (eqb (b % suc most) 0) refl refl (found most)

  -- no divisor of both is above their sum
  pub greatest_is : 1 ≤ a + b → IsGreatestDivisor (greatest_divisor a b) a b
  unfolding greatest_divisor
  greatest_is some =
      let f = found (a + b) some in
      record { left = f.left; right = f.right; greatest = λ d u v. f.greatest d u v (within d u v) }
    where
      within : (d : ℕ) → d ∣ a → d ∣ b → d ≤ a + b
      within d u v =
          by_cases (ℕ_discrete a 0)
          (λ z. let l = le_of_dvd (omega (arith, some, z)) v in omega (arith, l))
          (λ z. let l = le_of_dvd (omega (arith, z)) u in omega (arith, l))

-- there is only one
greatest_only : {g h a b : ℕ} → IsGreatestDivisor g a b → IsGreatestDivisor h a b → g ≡ h
greatest_only {g} {h} p q = le_antisymm (q.greatest g p.left p.right) (p.greatest h q.left q.right)

-- ---- Euclid's division

module _ (a b : ℕ) (some : 1 ≤ b) where
  -- what divides b divides a if and only if it divides the rest
  rest_greatest : {g : ℕ} → IsGreatestDivisor g a b → IsGreatestDivisor g b (a % b)
  rest_greatest {g} p =
      record {
        left = p.right;
        right = (dvd-mod_iff g {m = a} {n = b} p.right).1 p.left;
        greatest = λ d u v. p.greatest d ((dvd-mod_iff d {m = a} {n = b} u).0 v) u;
      }

  pub euclid : greatest_divisor b (a % b) ≡ greatest_divisor a b
  euclid =
      greatest_only (greatest_is b (a % b) (omega (arith, some))) (rest_greatest (greatest_is a b (omega (arith, some))))

-- where nothing is left, it is found
pub euclid_ends : (a : ℕ) → greatest_divisor a 0 ≡ a
unfolding greatest_divisor
euclid_ends zero = refl
euclid_ends (suc a) =
    greatest_only (greatest_is (suc a) 0 (omega arith))
    (record { left = dvd_refl (suc a); right = dvd-zero (suc a); greatest = λ d u v. le_of_dvd (omega arith) u })

-- ---- lowest terms

module _ (a b : ℕ) (some : 1 ≤ b) where
  abbrev g : ℕ
  g = greatest_divisor a b

  is : IsGreatestDivisor g a b
  is = greatest_is a b (omega (arith, some))

  positive : 1 ≤ g
  positive = pos_of_dvd_of_pos is.right some

  top : a / g * g ≡ a
  top = div-mul_cancel g is.left

  bottom : b / g * g ≡ b
  bottom = div-mul_cancel g is.right

  over : 1 ≤ b / g
  over =
      by_cases (ℕ_discrete (b / g) 0)
      (λ z. let e = sym bottom ∙ ap (λ k. k * g) z in absurd (omega (arith, e, some)))
      (λ z. omega (arith, z))

  pub lowest_is : IsLowest (lowest_terms a b) a b
  unfolding lowest_terms
  lowest_is =
      record {
        same = ap (λ k. a / g * k) (sym bottom) ∙ sym (mul_assoc (a / g) (b / g) g) ∙ mul_right_comm (a / g) (b / g) g
            ∙ ap (λ k. k * (b / g)) top;
        over = over;
        lowest = λ d u v.
            let l = is.greatest (d * g) (subst (λ k. d * g ∣ k) top (mul-dvd-mul_right d u g))
            (subst (λ k. d * g ∣ k) bottom (mul-dvd-mul_right d v g)) in
            let m : d * g ≤ 1 * g = omega (arith, l) in
            le_of_mul-le-mul_right m positive;
      }
