-- Where a search through collects side by side stops: at the first process that passes its test.
use Prim.Native.Nat.{ℕ, zero, suc, ◌≤◌, ◌<◌}
use mathlib.Core.Path.{◌≡◌, refl, sym, ap, ◌∙◌}
use mathlib.Core.Bool.{Bool, false, not, cond, ◌&&◌}
use mathlib.Core.Logic.{by_cases}
use mathlib.Core.List.{List, [], ◌∷◌}
use native.Mathlib.Omega.{arith}
use native.Mathlib.Decide.{dec_lt}
use lib.Dec.{eqb}
use lib.ListN.{length, get_or, take}
use lib.Seq.{length-take-le}
use borrow.Author.Tests.{lt-ltb, le-ltb}
use Rattle.std.specs.List.{zip, position, position_or_len}
use Rattle.std.specs.Prelude.{None, Some}
use Rattle.std.specs.Option.{unwrap_or}
use Rattle.std.proofs.lemmas.List.{get_or-take}
use Rattle.std.proofs.lemmas.List.Sums.{fails_before_first, passes_at_first}
use Rattle.snapshot.specs.Lists.{first_below}
use Rattle.snapshot.specs.Marks.{lends, is_moved}
use Rattle.snapshot.proofs.Lists.{first_below_is}
use Rattle.unbounded.specs.declared.Register.{Register}
use Rattle.unbounded.specs.Registers.{no_register, ascending, differs}

-- the first element that passes, or the length, is the first index at which f holds, where f tells of each element whether it passes
first_found : {X : Type 0} (p : X → Bool) (f : ℕ → Bool) (d : X) (xs : List X) (n : ℕ) → length xs ≡ n →
    ((i : ℕ) → i < n → p (get_or xs i d) ≡ f i) → unwrap_or (position p xs) n ≡ first_below n f
first_found p f d xs n long same =
    let q = position_or_len p xs in
    let at : Bool → ℕ = λ b. unwrap_or (cond b (Some q) None) n in
    by_cases (dec_lt q (length xs))
    (λ l. ap at (lt-ltb q (length xs) l)
    ∙ sym (first_below_is f n q (omega arith) (λ i h. sym (same i (omega arith)) ∙ fails_before_first p xs i d h)
    (λ h. sym (same q h) ∙ passes_at_first p xs d l)))
    (λ l. ap at (le-ltb q (length xs) (omega (arith, l)))
    ∙ sym (first_below_is f n n (omega arith)
    (λ i h. sym (same i h) ∙ fails_before_first p xs i d (omega (arith, l))) (λ h. absurd (omega arith))))

-- two lists side by side
get_or_zip : {X Y : Type 0} (xs : List X) (ys : List Y) (i : ℕ) (d : X) (e : Y) → i < length xs → i < length ys →
    get_or (zip xs ys) i (d, e) ≡ (get_or xs i d, get_or ys i e)
get_or_zip [] ys i d e l m = absurd (omega arith)
get_or_zip (x ∷ xs) [] i d e l m = absurd (omega arith)
get_or_zip (x ∷ xs) (y ∷ ys) zero d e l m = refl
get_or_zip (x ∷ xs) (y ∷ ys) (suc i) d e l m = get_or_zip xs ys i d e (omega arith) (omega arith)

length_zip : {X Y : Type 0} (xs : List X) (ys : List Y) → length xs ≡ length ys → length (zip xs ys) ≡ length xs
length_zip [] ys h = refl
length_zip (x ∷ xs) [] h = absurd (omega arith)
length_zip (x ∷ xs) (y ∷ ys) h = ap suc (length_zip xs ys (omega arith))

module _ (n : ℕ) (a b : List Register) (few : n ≤ length a) (many : n ≤ length b) where
  abbrev both : List (Register × Register)
  both = zip (take n a) (take n b)

  n_long : length both ≡ n
  n_long =
      let first = length-take-le n a few in
      let second = length-take-le n b many in
      length_zip (take n a) (take n b) (omega arith) ∙ first

  both_at : (i : ℕ) → i < n → get_or both i (no_register, no_register) ≡ (get_or a i no_register, get_or b i no_register)
  both_at i h =
      let first = length-take-le n a few in
      let second = length-take-le n b many in
      get_or_zip (take n a) (take n b) i no_register no_register (omega arith) (omega arith)
      ∙ (λ t. (get_or-take n a i no_register h t, get_or-take n b i no_register h t))

  -- whose seq differs
  pub moved_first : unwrap_or (position (λ (x, y). not (eqb x.seq y.seq)) both) n ≡ first_below n (differs ascending a b)
  unfolding differs
  moved_first =
      first_found (λ (x, y). not (eqb x.seq y.seq)) (differs ascending a b) (no_register, no_register) both n n_long
      (λ i h. ap (λ (x, y). not (eqb x.seq y.seq)) (both_at i h))

  -- who lends
  pub lender_first : (ms : List Bool) → n ≤ length ms →
      unwrap_or (position (λ ((x, y), m). not (eqb x.seq y.seq) && m) (zip both (take n ms))) n
      ≡ first_below n (lends (differs ascending a b) ms)
  unfolding differs lends is_moved
  lender_first ms all =
      let third = length-take-le n ms all in
      first_found (λ ((x, y), m). not (eqb x.seq y.seq) && m) (lends (differs ascending a b) ms)
      ((no_register, no_register), false) (zip both (take n ms)) n
      (length_zip both (take n ms) (n_long ∙ sym third) ∙ n_long)
      (λ i h. ap (λ ((x, y), m). not (eqb x.seq y.seq) && m)
      (get_or_zip both (take n ms) i (no_register, no_register) false (omega (arith, n_long)) (omega arith)
      ∙ (λ t. (both_at i h t, get_or-take n ms i false h t))))
