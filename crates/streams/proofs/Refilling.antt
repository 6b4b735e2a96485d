-- What filling up the input buffer comes to: what was left lies at the front, and what a read gave stands behind it.
use Prim.Native.Nat.{ℕ, ◌+◌, ◌-◌}
use native.Mathlib.Omega.{arith}
use mathlib.Core.Path.{◌≡◌, sym, ap, ap₂, subst, ◌∙◌}
use mathlib.Core.Bool.{true, false}
use mathlib.Core.List.{List, [], ◌∷◌, ◌++◌}
use lib.ListN.{length, take, drop, length-drop}
use lib.Seq.{length-take-le, take_at, take-add}
use lib.Dec.{eqb}
use borrow.Author.Tests.{eq-eqb, ne_eqb}
use Rattle.std.specs.List.{copy_within}
use Rattle.streams.specs.declared.input.Input.{Input}
use Rattle.std.specs.Prelude.{Result, Ok, Err}
use Rattle.streams.specs.declared.system.Stop.{Stop}
use Rattle.streams.specs.declared.system.Stop.TheVariants.{Interrupted, Failed}
use Rattle.streams.specs.System.{AtMost}
use Rattle.streams.specs.Input.{Within, input_left, came, interrupted, fault, is_nothing, input_by, IsRefill}

-- how many bytes lie in an input buffer
pub left_long : (i : Input) (bytes : List ℕ) → Within i (length bytes) → length (input_left i bytes) ≡ i.end - i.at
left_long i bytes w =
    let d = length-drop i.at bytes in let a = w.start in let b = w.stop in
    length-take-le (i.end - i.at) (drop i.at bytes) (omega (arith, d, a, b))

nothing_is : (k : ℕ) (c : List ℕ) → length c ≡ k → eqb k 0 ≡ is_nothing c
nothing_is k [] e = eq-eqb k 0 (sym e)
nothing_is k (x ∷ c) e = ne_eqb k 0 (λ q. omega (arith, e, q))

module _ (i : Input) (b after : List ℕ) (w : Within i (length b)) (long : length after ≡ length b) where
  abbrev n : ℕ
  n = i.end - i.at

  module _ (kept : take n after ≡ input_left i b) where
    left_kept : take (n - 0) (drop 0 after) ≡ input_left i b
    left_kept = let e : n - 0 ≡ n = omega arith in ap (λ k. take k after) e ∙ kept

    left_more : (k : ℕ) → take (n + k - 0) (drop 0 after) ≡ input_left i b ++ take k (drop n after)
    left_more k =
        let e : n + k - 0 ≡ n + k = omega arith in
        ap (λ m. take m after) e ∙ take-add n k after ∙ ap (λ l. l ++ take k (drop n after)) kept

    refilled : (t : Result ℕ Stop) → AtMost (length b - n) t → Within (input_by n t) (length after) × IsRefill i b (input_by n t) after
    unfolding input_by
    refilled (Ok k) few =
        let s = w.start in let z = w.stop in
        let c = take k (drop n after) in
        let is : length c ≡ k = length-take-le k (drop n after) (let d = length-drop n after in omega (arith, d, few, long)) in (
          record { start = omega arith; stop = omega (arith, few, long, s, z) },
          (came c, ap₂ (λ l e. record { left = l; last = e; failed = false }) (left_more k) (nothing_is k c is)),
        )
    refilled (Err Interrupted) few =
        let s = w.start in let z = w.stop in (
          record { start = omega arith; stop = omega (arith, long, s, z) },
          (interrupted, ap (λ l. record { left = l; last = false; failed = false }) left_kept),
        )
    refilled (Err Failed) few =
        let s = w.start in let z = w.stop in (
          record { start = omega arith; stop = omega (arith, long, s, z) },
          (fault, ap (λ l. record { left = l; last = true; failed = true }) left_kept),
        )

    pub refill_is : (t : Result ℕ Stop) → AtMost (length b - n) t → (j : Input) → j ≡ input_by n t →
        Within j (length after) × IsRefill i b j after
    refill_is t few j e = subst (λ k. Within k (length after) × IsRefill i b k after) (sym e) (refilled t few)

  -- what was moved to the front is what was left
  pub kept_is : (mid : List ℕ) → mid ≡ copy_within b i.at i.end 0 → take n after ≡ take n mid → take n after ≡ input_left i b
  kept_is mid moved kept = kept ∙ ap (take n) moved ∙ take_at (input_left i b) (drop (0 + n) b) n (left_long i b w)
