-- Numbers as text: decimal, without leading zeros, in ASCII.
use Rattle.std.specs.Prelude.{ℕ, zero, suc, ◌+◌, ◌-◌, ◌*◌, ◌/◌, ◌%◌, ◌≤◌, ◌<◌, ◌≡◌, cond, List, [], ◌∷◌, ◌++◌, ltb, length, get_or}

-- the byte of the last digit of n; 48 is "0"
abbrev pub last_digit : ℕ → ℕ
last_digit n = 48 + n % 10

-- the numeral of n in at most k + 1 digits: below ten its digit, else the numeral of n / 10 and the last digit after it
abbrev pub numeral : ℕ → ℕ → List ℕ
numeral zero n = last_digit n ∷ []
numeral (suc k) n =
    let more = numeral k (n / 10) ++ (last_digit n ∷ []) in
    cond (ltb n 10) (last_digit n ∷ []) more

-- the decimal numeral of n; ten digits are enough below 2 ^ 32
unfoldable pub decimal : ℕ → List ℕ
decimal n = numeral 9 n

-- and twenty below 2 ^ 64
unfoldable pub long_decimal : ℕ → List ℕ
long_decimal n = numeral 19 n

-- the last k digits of n, with zeros in front where n has fewer
abbrev pub trailing_digits : ℕ → ℕ → List ℕ
trailing_digits zero n = []
trailing_digits (suc k) n = trailing_digits k (n / 10) ++ (last_digit n ∷ [])

-- ---- what a decimal numeral is, however it is made

-- the number that digits write, where those before them write v
abbrev pub value_after : ℕ → List ℕ → ℕ
value_after v [] = v
value_after v (d ∷ ds) = value_after (v * 10 + (d - 48)) ds

-- a byte from "0" to "9"
abbrev pub Digit : ℕ → Type 0
Digit d = (48 ≤ d) × (d ≤ 57)

-- text is the numeral of n: digits alone, that write n, and the first of several is not "0"
pub record IsNumeral (n : ℕ) (text : List ℕ) : Type 0 where
  pub value : value_after 0 text ≡ n
  pub nonempty : 1 ≤ length text
  pub digits : (i : ℕ) → i < length text → Digit (get_or text i 0)
  pub leading : 1 < length text → 49 ≤ get_or text 0 0
