-- A word read a byte at a time: what is read so far and the rest stay what the whole word is.
use Prim.Native.Nat.{ℕ, ◌+◌, ◌-◌, ◌*◌, ◌≤◌, ◌<◌, min}
use native.Mathlib.Nat.{min-eq_left, min-eq_right}
use native.Mathlib.Decide.{dec_le}
use native.Mathlib.Omega.{arith}
use mathlib.Core.Path.{◌≡◌, refl, sym, ap, ap₂, ◌∙◌}
use mathlib.Core.Logic.{by_cases}
use mathlib.Core.Bool.{Bool, cond, not, ◌&&◌}
use mathlib.Core.List.{List, [], ◌∷◌}
use lib.Dec.{leb}
use lib.ListN.{length}
use borrow.Author.Tests.{eq-eqb, ne_eqb, le-leb, lt-leb}
use Rattle.texts.specs.Ascii.{ascii}
use Rattle.texts.specs.Decimal.{value_after}
use Rattle.std.specs.Prelude.{Option, Some, None}
use Rattle.day_figures.specs.Counts.{all_digits, word_of, with_digit}

-- the word, where a number v was read of it and bs is left
abbrev pub word_from : ℕ → List ℕ → Option ℕ
word_from v bs = cond (all_digits bs) (Some (min 9 (value_after v bs))) None

value_grows : (v : ℕ) (bs : List ℕ) → v ≤ value_after v bs
value_grows v [] = omega arith
value_grows v (b ∷ bs) = let more = value_grows (v * 10 + (b - 48)) bs in omega (arith, more)

-- what is above 9 stays so
capped : (v : ℕ) (bs : List ℕ) → min 9 (value_after (min 9 v) bs) ≡ min 9 (value_after v bs)
capped v bs =
    by_cases (dec_le v 9)
    (λ l. ap (λ k. min 9 (value_after k bs)) (min-eq_right l))
    (λ g.
    let nine : min 9 v ≡ 9 = min-eq_left (omega (arith, g)) in
    let low = value_grows (min 9 v) bs in
    let high = value_grows v bs in
    min-eq_left (omega (arith, nine, low)) ∙ sym (min-eq_left (omega (arith, g, high))))

module _ (v b : ℕ) (bs : List ℕ) where
  abbrev tests : Bool → Bool → Option ℕ
  tests low high = cond (low && high && all_digits bs) (Some (min 9 (value_after v (b ∷ bs)))) None

  pub one_digit : 48 ≤ b → b ≤ 57 → word_from (with_digit v b) bs ≡ word_from v (b ∷ bs)
  one_digit l h =
      ap (λ k. cond (all_digits bs) (Some k) None) (capped (v * 10 + (b - 48)) bs)
      ∙ sym (ap₂ tests (le-leb 48 b l) (le-leb b 57 h))

module _ (text : List ℕ) where
  pub no_bytes : length text ≡ 0 → None ≡ word_of text
  unfolding word_of
  no_bytes none =
      sym (ap (λ e. cond (not e && all_digits text) (Some (min 9 (value_after 0 text))) None) (eq-eqb (length text) 0 none))

  pub some_bytes : (length text ≡ 0 → ⊥) → word_from 0 text ≡ word_of text
  unfolding word_of
  some_bytes some =
      sym (ap (λ e. cond (not e && all_digits text) (Some (min 9 (value_after 0 text))) None) (ne_eqb (length text) 0 some))

pub all_read : (v : ℕ) → v ≤ 9 → Some v ≡ word_from v []
all_read v l = ap Some (sym (min-eq_right l))

-- ---- computed

pub words :
    (word_of (ascii "2") ≡ Some 2)
    × (word_of (ascii "08") ≡ Some 8)
    × (word_of (ascii "9") ≡ Some 9)
    × (word_of (ascii "4294967298") ≡ Some 9)
    × (word_of (ascii "2:") ≡ None)
    × (word_of (ascii "/2") ≡ None)
    × (word_of [] ≡ None)
unfolding word_of
words = (refl, refl, refl, refl, refl, refl, refl)
