-- The desk count that is asked for, as the first argument writes it.
use Rattle.std.specs.Prelude.{ℕ, min, Bool, true, cond, not, ◌&&◌, List, [], ◌∷◌, Option, Some, None, eqb, leb, length}
use Rattle.texts.specs.Decimal.{value_after}

-- whether all bytes are from "0" to "9"
abbrev pub all_digits : List ℕ → Bool
all_digits [] = true
all_digits (b ∷ bs) = leb 48 b && leb b 57 && all_digits bs

-- the number that a word of digits writes, 9 for all above, which are alike (figures/proofs/Claims, `above_eight`); any other word is
-- none
unfoldable pub word_of : List ℕ → Option ℕ
word_of text = cond (not (eqb (length text) 0) && all_digits text) (Some (min 9 (value_after 0 text))) None

-- a number that is at most 9, with one digit more behind it
abbrev pub with_digit : (value byte : ℕ) → ℕ
with_digit v b = min 9 (value_after v (b ∷ []))
