-- The decimal numeral: its digits, its length and its value.
use Prim.Native.Nat.{ℕ, zero, suc, ◌+◌, ◌-◌, ◌*◌, ◌/◌, ◌%◌, ◌^◌, ◌≤◌, ◌<◌}
use native.Mathlib.Nat.{pow-suc, one-le-pow, not-suc-le-zero}
use native.Mathlib.Decide.{dec_lt}
use native.Mathlib.Omega.{arith}
use mathlib.Core.Path.{◌≡◌, refl, sym, ap, ◌∙◌}
use mathlib.Core.Logic.{by_cases}
use mathlib.Core.List.{List, [], ◌∷◌, ◌++◌}
use borrow.Author.Tests.{lt-ltb, le-ltb}
use lib.ListN.{length, get_or, length-append, get_or-append}
use lib.Seq.{get_or_at}
use Rattle.texts.specs.Decimal.{last_digit, numeral, decimal, long_decimal, trailing_digits, value_after, Digit, IsNumeral}

-- ---- the two cases of a numeral

numeral_digit : (k n : ℕ) → n < 10 → numeral k n ≡ last_digit n ∷ []
numeral_digit zero n h = refl
numeral_digit (suc k) n h = simp (lt-ltb n 10 h)

numeral_more : (k n : ℕ) → 10 ≤ n → numeral (suc k) n ≡ numeral k (n / 10) ++ (last_digit n ∷ [])
numeral_more k n h = simp (le-ltb n 10 h)

-- ---- its digits and its length

numeral_places : (k j n : ℕ) → j ≤ k → 10 ^ j ≤ n → n < 10 ^ suc j → numeral k n ≡ trailing_digits (suc j) n
numeral_places k zero n l g h = numeral_digit k n h
numeral_places zero (suc j) n l g h = absurd (not-suc-le-zero l)
numeral_places (suc k) (suc j) n l g h =
    let ten : 10 ≤ n = omega (arith, pow-suc 10 j, one-le-pow j 10 (omega arith)) in
    numeral_more k n ten
    ∙ ap (λ s. s ++ (last_digit n ∷ []))
    (numeral_places k j (n / 10) (omega arith) (omega (arith, pow-suc 10 j)) (omega (arith, pow-suc 10 (suc j))))

pub decimal_digit : (n : ℕ) → n < 10 → decimal n ≡ (48 + n) ∷ []
unfolding decimal
decimal_digit n h = numeral_digit 9 n h ∙ (let same : n % 10 ≡ n = omega arith in ap (λ d. (48 + d) ∷ []) same)

-- a number of j + 1 digits is its last j + 1 digits
pub decimal_places : (j n : ℕ) → j ≤ 9 → 10 ^ j ≤ n → n < 10 ^ suc j → decimal n ≡ trailing_digits (suc j) n
unfolding decimal
decimal_places j n l g h = numeral_places 9 j n l g h

-- and so where it has up to twenty
pub long_digit : (n : ℕ) → n < 10 → long_decimal n ≡ trailing_digits 1 n
unfolding long_decimal
long_digit n h = numeral_digit 19 n h

pub long_places : (j n : ℕ) → j ≤ 19 → 10 ^ j ≤ n → n < 10 ^ suc j → long_decimal n ≡ trailing_digits (suc j) n
unfolding long_decimal
long_places j n l g h = numeral_places 19 j n l g h

-- more digits than a number has change nothing
numeral_enough : (k j n : ℕ) → k ≤ j → n < 10 ^ suc k → numeral j n ≡ numeral k n
numeral_enough zero j n l h = numeral_digit j n (omega arith)
numeral_enough (suc k) zero n l h = absurd (not-suc-le-zero l)
numeral_enough (suc k) (suc j) n l h =
    by_cases (dec_lt n 10)
    (λ d. numeral_digit (suc j) n d ∙ sym (numeral_digit (suc k) n d))
    (λ g.
    let ten : 10 ≤ n = omega arith in
    numeral_more j n ten
    ∙ ap (λ s. s ++ (last_digit n ∷ [])) (numeral_enough k j (n / 10) (omega arith) (omega (arith, pow-suc 10 (suc k))))
    ∙ sym (numeral_more k n ten))

-- a number of 32 bits is the same in both
pub long_is_decimal : (n : ℕ) → n < 2 ^ 32 → long_decimal n ≡ decimal n
unfolding decimal long_decimal
long_is_decimal n h = numeral_enough 9 19 n (omega arith) (omega arith)

pub length_last_digits : (k n : ℕ) → length (trailing_digits k n) ≡ k
length_last_digits zero n = refl
length_last_digits (suc k) n =
    length-append (trailing_digits k (n / 10)) (last_digit n ∷ []) ∙ (let r = length_last_digits k (n / 10) in omega arith)

numeral_short : (k n : ℕ) → length (numeral k n) ≤ suc k
numeral_short zero n = omega arith
numeral_short (suc k) n =
    by_cases (dec_lt n 10)
    (λ l. rw (numeral_digit (suc k) n l) (omega arith))
    (λ g.
    let ten : 10 ≤ n = omega arith in
    let r = numeral_short k (n / 10) in
    rw (numeral_more k n ten) (simp length-append (omega arith)))

pub decimal_short : (n : ℕ) → length (decimal n) ≤ 10
unfolding decimal
decimal_short n = numeral_short 9 n

pub long_short : (n : ℕ) → length (long_decimal n) ≤ 20
unfolding long_decimal
long_short n = numeral_short 19 n

-- ---- its value

value_snoc : (v : ℕ) (s : List ℕ) (d : ℕ) → value_after v (s ++ (d ∷ [])) ≡ value_after v s * 10 + (d - 48)
value_snoc v [] d = refl
value_snoc v (e ∷ s) d = value_snoc (v * 10 + (e - 48)) s d

-- one digit more
digits_snoc : (s : List ℕ) (d : ℕ) → ((i : ℕ) → i < length s → Digit (get_or s i 0)) → Digit d
    → (i : ℕ) → i < length (s ++ (d ∷ [])) → Digit (get_or (s ++ (d ∷ [])) i 0)
digits_snoc s d all last i h =
    by_cases (dec_lt i (length s))
    (λ l. rw (get_or-append s (d ∷ []) 0 i l) (all i l))
    (λ g. rw (get_or_at s d [] 0 i (omega (arith, length-append s (d ∷ [])))) last)

numeral_of_digit : (n : ℕ) → n < 10 → IsNumeral n (last_digit n ∷ [])
numeral_of_digit n h =
    record {
      value = omega arith;
      digits = digits_snoc [] (last_digit n) (λ i l. absurd (not-suc-le-zero l)) (omega arith);
      nonempty = omega arith;
      leading = λ l. absurd (omega arith);
    }

first_digit : (n : ℕ) (s : List ℕ) → 1 ≤ n → IsNumeral n s → 49 ≤ get_or s 0 0
first_digit n [] h r = absurd (not-suc-le-zero r.nonempty)
first_digit n (d ∷ []) h r = let v = r.value in omega arith
first_digit n (d ∷ e ∷ s) h r = r.leading (omega arith)

-- the numeral of n / 10 and the last digit of n
numeral_of_more : (n : ℕ) (s : List ℕ) → 10 ≤ n → IsNumeral (n / 10) s → IsNumeral n (s ++ (last_digit n ∷ []))
numeral_of_more n s h r =
    record {
      value = value_snoc 0 s (last_digit n) ∙ (let v = r.value in omega arith);
      digits = digits_snoc s (last_digit n) r.digits (omega arith);
      nonempty = simp length-append (omega arith);
      leading = λ l. rw (get_or-append s (last_digit n ∷ []) 0 0 r.nonempty) (first_digit (n / 10) s (omega arith) r);
    }

numeral_is : (k n : ℕ) → n < 10 ^ suc k → IsNumeral n (numeral k n)
numeral_is zero n h = numeral_of_digit n (omega arith)
numeral_is (suc k) n h =
    by_cases (dec_lt n 10)
    (λ l. rw (numeral_digit (suc k) n l) (numeral_of_digit n l))
    (λ g.
    let ten : 10 ≤ n = omega arith in
    rw (numeral_more k n ten)
    (numeral_of_more n (numeral k (n / 10)) ten (numeral_is k (n / 10) (omega (arith, pow-suc 10 (suc k))))))

-- what stands in the lines is the ordinary numeral
pub decimal_is_numeral : (n : ℕ) → n < 2 ^ 32 → IsNumeral n (decimal n)
unfolding decimal
decimal_is_numeral n h = numeral_is 9 n (omega arith)

pub long_decimal_is_numeral : (n : ℕ) → n < 2 ^ 64 → IsNumeral n (long_decimal n)
unfolding long_decimal
long_decimal_is_numeral n h = numeral_is 19 n (omega arith)
