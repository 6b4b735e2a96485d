-- Laws of the list shapes of specs/Lists, and of counting the indices at which a test holds.
use Prim.Native.Nat.{ℕ, zero, suc, ◌+◌, ◌-◌, ◌≤◌, ◌<◌}
use native.Mathlib.Nat.{not-suc-le-zero}
use native.Mathlib.Numerals.{add-one}
use native.Mathlib.Omega.{arith}
use native.Mathlib.Decide.{ℕ_discrete, dec_lt}
use mathlib.Core.Path.{◌≡◌, refl, sym, ap, ap₂, ◌∙◌}
use mathlib.Core.Logic.{by_cases}
use mathlib.Core.Bool.{Bool, true, false, cond, ◌||◌, true≢false}
use mathlib.Core.List.{List, [], ◌∷◌, ◌++◌, map}
use lib.ListN.{length, get_or, take, drop, set, replicate, length-append, length-drop, length-replicate, get_or-replicate}
use lib.ListN.{get_or-append}
use lib.Seq.{take_at, drop_at, take_all, get_or_at, get_or-append-add, get_or-drop, get_or-take, ext_get_or, drop-cons, set_at}
use lib.Seq.{length-take-le, append_snoc, take-suc, take-take, sets}
pub use Rattle.std.proofs.lemmas.List.{map-set as map_set, get_or-map as get_d_map_below, take-replicate as take_replicate}
use Rattle.snapshot.proofs.Booleans.{or_neither}
use Rattle.snapshot.specs.Lists.{sum_of, over, each_from, each, first_from, first_below, some_of}

-- ---- the first n places of a over those of b

module _ {A : Type 0} (n : ℕ) (a b : List A) where
  pub take_over : length (take n a) ≡ n → take n (over n a b) ≡ take n a
  take_over l = take_at (take n a) (drop n b) n l

  pub take_over_all : length a ≡ n → take n (over n a b) ≡ a
  take_over_all l = take_over (length-take-le n a (omega arith)) ∙ take_all n a (omega arith)

  pub length_over : length (take n a) ≡ n → n ≤ length b → length (over n a b) ≡ length b
  length_over l m = simp (length-append, length-drop) (omega arith)

  pub get_d_over : (i : ℕ) (z : A) → length (take n a) ≡ n → i < n → get_or (over n a b) i z ≡ get_or a i z
  get_d_over i z l m = get_or-append (take n a) (drop n b) z i (omega arith) ∙ get_or-take n a i z m

  pub get_d_over_at : (z : A) → n ≤ length a → n < length b → get_or (over n a b) n z ≡ get_or b n z
  get_d_over_at z l m =
      ap (λ t. get_or (take n a ++ t) n z) (drop-cons b n z m)
      ∙ get_or_at (take n a) (get_or b n z) (drop (suc n) b) z n (length-take-le n a l)

  pub get_d_over_past : (i : ℕ) (z : A) → n ≤ length a → n ≤ i → get_or (over n a b) i z ≡ get_or b i z
  get_d_over_past i z l m =
      ap (λ k. get_or (over n a b) k z) (let q = length-take-le n a l in omega arith)
      ∙ get_or-append-add (take n a) (drop n b) (i - n) z ∙ get_or-drop n b (i - n) z ∙ ap (λ k. get_or b k z) (omega arith)

  pub drop_over : n ≤ length a → drop n (over n a b) ≡ drop n b
  drop_over l = drop_at (take n a) (drop n b) n (length-take-le n a l)

  pub over_take : over n (take n a) b ≡ over n a b
  over_take = ap (λ t. t ++ drop n b) (take-take n n a (omega arith))

  -- one place more
  pub over_more : (z : A) → n < length a → n < length b → set (over n a b) n (get_or a n z) ≡ over (n + 1) a b
  over_more z l m =
      ap (λ t. set (take n a ++ t) n (get_or a n z)) (drop-cons b n z m)
      ∙ set_at (take n a) (get_or b n z) (drop (suc n) b) (get_or a n z) n (length-take-le n a (omega arith))
      ∙ sym (append_snoc (take n a) (get_or a n z) (drop (suc n) b))
      ∙ ap (λ t. t ++ drop (suc n) b) (sym (take-suc a n z l))
      ∙ ap (λ k. over k a b) (sym (add-one n))

-- ---- each

pub length_each_from : {A : Type 0} (f : ℕ → A) (k j : ℕ) → length (each_from f k j) ≡ k
length_each_from f zero j = refl
length_each_from f (suc k) j = ap suc (length_each_from f k (suc j))

get_d_each_from : {A : Type 0} (f : ℕ → A) (k j i : ℕ) (z : A) → i < k → get_or (each_from f k j) i z ≡ f (j + i)
get_d_each_from f zero j i z l = absurd (not-suc-le-zero l)
get_d_each_from f (suc k) j zero z l = ap f (omega arith)
get_d_each_from f (suc k) j (suc i) z l = get_d_each_from f k (suc j) i z (omega arith) ∙ ap f (omega arith)

pub length_each : {A : Type 0} (n : ℕ) (f : ℕ → A) → length (each n f) ≡ n
length_each n f = length_each_from f n 0

pub get_d_each : {A : Type 0} (n : ℕ) (f : ℕ → A) (i : ℕ) (z : A) → i < n → get_or (each n f) i z ≡ f i
get_d_each n f i z l = get_d_each_from f n 0 i z l ∙ ap f (omega arith)

each_from_cong : {A : Type 0} (f g : ℕ → A) (k j : ℕ) → ((i : ℕ) → i < j + k → f i ≡ g i) → each_from f k j ≡ each_from g k j
each_from_cong f g zero j h = refl
each_from_cong {A} f g (suc k) j h =
    ap₂ {C = List A} (λ x r. x ∷ r) (h j (omega arith)) (each_from_cong f g k (suc j) (λ i l. h i (omega arith)))

pub each_cong : {A : Type 0} (n : ℕ) (f g : ℕ → A) → ((i : ℕ) → i < n → f i ≡ g i) → each n f ≡ each n g
each_cong n f g h = each_from_cong f g n 0 (λ i l. h i (omega arith))

pub each_replicate : {A : Type 0} (n : ℕ) (f : ℕ → A) (a : A) → ((i : ℕ) → i < n → f i ≡ a) → each n f ≡ replicate n a
each_replicate n f a h =
    ext_get_or a (each n f) (replicate n a) (length_each n f ∙ sym (length-replicate n a))
    (λ i l.
    let m : i < n = omega (arith, length_each n f) in
    get_d_each n f i a m ∙ h i m ∙ sym (get_or-replicate n i a a m))

-- a list of n elements is what stands at each index
pub list_is_each : {A : Type 0} (n : ℕ) (z : A) (l : List A) → length l ≡ n → l ≡ each n (λ i. get_or l i z)
list_is_each n z l q =
    ext_get_or z l (each n (λ i. get_or l i z)) (q ∙ sym (length_each n (λ i. get_or l i z)))
    (λ i h. sym (get_d_each n (λ j. get_or l j z) i z (omega arith)))

-- ---- a map, and one place stored

pub map_replicate : {A B : Type 0} (f : A → B) (n : ℕ) (a : A) → map f (replicate n a) ≡ replicate n (f a)
map_replicate f zero a = refl
map_replicate {B = B} f (suc n) a = ap {B = List B} (λ r. f a ∷ r) (map_replicate f n a)

pub map_constant : {A B : Type 0} (b : B) (l : List A) → map (λ a. b) l ≡ replicate (length l) b
map_constant b [] = refl
map_constant {B = B} b (x ∷ l) = ap {B = List B} (λ r. b ∷ r) (map_constant b l)

-- a test that fails at every index fails of the list
pub some_of_none : {A : Type 0} (f : A → Bool) (l : List A) (z : A) → ((i : ℕ) → i < length l → f (get_or l i z) ≡ false) →
    some_of f l ≡ false
some_of_none f [] z h = refl
some_of_none f (x ∷ l) z h = ap (λ b. b || some_of f l) (h 0 (omega arith)) ∙ some_of_none f l z (λ i w. h (suc i) (omega arith))

pub some_of_false : {A : Type 0} (f : A → Bool) (l : List A) (z : A) → some_of f l ≡ false → (i : ℕ) → i < length l →
    f (get_or l i z) ≡ false
some_of_false f [] z h i w = absurd (not-suc-le-zero w)
some_of_false f (x ∷ l) z h zero w = (or_neither (f x) (some_of f l) h).0
some_of_false f (x ∷ l) z h (suc i) w = some_of_false f l z (or_neither (f x) (some_of f l) h).1 i (omega arith)

-- ---- searches

module _ (f : ℕ → Bool) where
  first_le : (k j : ℕ) → first_from f k j ≤ j + k
  first_le zero j = omega arith
  first_le (suc k) j = go (f j) (first_le k (suc j))
    where
      go : (b : Bool) → first_from f k (suc j) ≤ suc j + k → cond b j (first_from f k (suc j)) ≤ j + suc k
      go true h = omega arith
      go false h = omega arith

  first_before : (k j i : ℕ) → j ≤ i → i < first_from f k j → f i ≡ false
  first_before zero j i l h = absurd (omega arith)
  first_before (suc k) j i l h = go (f j) refl (first_before k (suc j) i) h
    where
      go : (b : Bool) → f j ≡ b → (suc j ≤ i → i < first_from f k (suc j) → f i ≡ false) →
          i < cond b j (first_from f k (suc j)) → f i ≡ false
      go true q r m = absurd (omega arith)
      go false q r m =
          by_cases (ℕ_discrete i j) (λ e. ap f e ∙ q) (λ e. r (omega arith) m)

  first_holds : (k j : ℕ) → first_from f k j < j + k → f (first_from f k j) ≡ true
  first_holds zero j h = absurd (omega arith)
  first_holds (suc k) j h = go (f j) refl (first_holds k (suc j)) h
    where
      go : (b : Bool) → f j ≡ b → (first_from f k (suc j) < suc j + k → f (first_from f k (suc j)) ≡ true) →
          cond b j (first_from f k (suc j)) < j + suc k → f (cond b j (first_from f k (suc j))) ≡ true
      go true q r m = q
      go false q r m = r (omega arith)

  pub first_below_le : (n : ℕ) → first_below n f ≤ n
  first_below_le n = let h = first_le n 0 in omega arith

  pub first_below_before : (n i : ℕ) → i < first_below n f → f i ≡ false
  first_below_before n i h = first_before n 0 i (omega arith) h

  pub first_below_holds : (n : ℕ) → first_below n f < n → f (first_below n f) ≡ true
  first_below_holds n h = first_holds n 0 (omega arith)

  -- what a loop that looks at one index after the other finds
  pub first_below_is : (n j : ℕ) → j ≤ n → ((i : ℕ) → i < j → f i ≡ false) → (j < n → f j ≡ true) → first_below n f ≡ j
  first_below_is n j l before here =
      let top = first_below_le n in
      by_cases (dec_lt (first_below n f) j)
      (λ m. absurd (true≢false (sym (first_below_holds n (omega arith)) ∙ before (first_below n f) m)))
      (λ m. by_cases (dec_lt j (first_below n f))
      (λ k. absurd (true≢false (sym (here (omega arith)) ∙ first_below_before n j k)))
      (λ k. omega arith))

-- ---- counting

abbrev bit : Bool → ℕ
bit true = 1
bit false = 0

-- how many indices below n pass the test
pub below : (ℕ → Bool) → ℕ → ℕ
below f zero = 0
below f (suc n) = bit (f n) + below f n

bit_le : (a b : Bool) → (a ≡ true → b ≡ true) → bit a ≤ bit b
bit_le true true h = omega arith
bit_le true false h = absurd (true≢false (sym (h refl)))
bit_le false b h = omega arith

pub below_none : (n : ℕ) (f : ℕ → Bool) → ((i : ℕ) → f i ≡ false) → below f n ≡ 0
unfolding below
below_none zero f h = refl
below_none (suc n) f h = ap (λ b. bit b + below f n) (h n) ∙ (let r = below_none n f h in omega arith)

pub below_le : (n : ℕ) (f : ℕ → Bool) → below f n ≤ n
unfolding below
below_le zero f = omega arith
below_le (suc n) f = let r = below_le n f in let b = bit_le (f n) true (λ q. refl) in omega arith

module _ (f g : ℕ → Bool) where
  pub below_grows : (n : ℕ) → ((i : ℕ) → i < n → f i ≡ true → g i ≡ true) → below f n ≤ below g n
  unfolding below
  below_grows zero h = omega arith
  below_grows (suc n) h =
      let r = below_grows n (λ i l. h i (omega arith)) in
      let b = bit_le (f n) (g n) (h n (omega arith)) in
      omega arith

  pub below_less : (n j : ℕ) → ((i : ℕ) → i < n → f i ≡ true → g i ≡ true) → j < n → f j ≡ false → g j ≡ true →
      below f n < below g n
  unfolding below
  below_less zero j h l p q = absurd (not-suc-le-zero l)
  below_less (suc n) j h l p q =
      by_cases (ℕ_discrete j n)
      (λ e.
      let r = below_grows n (λ i m. h i (omega arith)) in
      let a : bit (f n) ≡ 0 = ap bit (ap f (sym e) ∙ p) in
      let b : bit (g n) ≡ 1 = ap bit (ap g (sym e) ∙ q) in
      omega arith)
      (λ e.
      let r = below_less n j (λ i m. h i (omega arith)) (omega arith) p q in
      let b = bit_le (f n) (g n) (h n (omega arith)) in
      omega arith)

-- where one index fails the test, fewer than n pass it
pub below_missing : (n j : ℕ) (f : ℕ → Bool) → j < n → f j ≡ false → below f n < n
below_missing n j f l p =
    let r = below_less f (λ i. true) n j (λ i m q. refl) l p refl in
    let s = below_le n (λ i. true) in
    omega arith

-- ---- sums

module _ {A : Type 0} (f : A → ℕ) where
  -- where one place is stored: what stood there goes, what is stored comes
  pub sum_set : (l : List A) (i : ℕ) (a z : A) → i < length l → sum_of f (set l i a) + f (get_or l i z) ≡ sum_of f l + f a
  sum_set [] i a z b = absurd (omega arith)
  sum_set (x ∷ l) zero a z b = omega arith
  sum_set (x ∷ l) (suc i) a z b = omega (arith, sum_set l i a z (omega arith))

  pub sum_append : (l m : List A) → sum_of f (l ++ m) ≡ sum_of f l + sum_of f m
  sum_append [] m = omega arith
  sum_append (x ∷ l) m = omega (arith, sum_append l m)

  -- every element adds nothing
  pub sum_replicate : (n : ℕ) (a : A) → f a ≡ 0 → sum_of f (replicate n a) ≡ 0
  sum_replicate zero a q = refl
  sum_replicate (suc n) a q = omega (arith, sum_replicate n a q)

  -- one element is at most the sum
  pub sum_at : (l : List A) (i : ℕ) (z : A) → i < length l → f (get_or l i z) ≤ sum_of f l
  sum_at [] i z b = absurd (omega arith)
  sum_at (x ∷ l) zero z b = omega arith
  sum_at (x ∷ l) (suc i) z b = omega (arith, sum_at l i z (omega arith))

-- two lists of one length, with one number at each index
pub sum_same : {A B : Type 0} (f : A → ℕ) (g : B → ℕ) (l : List A) (m : List B) (y : A) (z : B) → length l ≡ length m →
    ((i : ℕ) → i < length l → f (get_or l i y) ≡ g (get_or m i z)) → sum_of f l ≡ sum_of g m
sum_same f g [] [] y z q h = refl
sum_same f g [] (b ∷ m) y z q h = absurd (omega arith)
sum_same f g (a ∷ l) [] y z q h = absurd (omega arith)
sum_same f g (a ∷ l) (b ∷ m) y z q h =
    ap₂ ◌+◌ (h 0 (omega arith)) (sum_same f g l m y z (omega arith) (λ i w. h (suc i) (omega arith)))

-- ---- parts

-- all elements from a place on
pub from_at : {A : Type 0} (at : ℕ) (l : List A) → take (length l - at) (drop at l) ≡ drop at l
from_at at l = let n = length-drop at l in take_all (length l - at) (drop at l) (omega (arith, n))

-- ---- runs of stores

-- some elements stored, and others where they end
pub sets_then : {A : Type 0} (l : List A) (a : ℕ) (us vs : List A) → sets (sets l a us) (a + length us) vs ≡ sets l a (us ++ vs)
sets_then l a [] vs = let e : a + 0 ≡ a = omega arith in ap (λ i. sets l i vs) e
sets_then l a (u ∷ us) vs =
    let e : a + suc (length us) ≡ suc a + length us = omega arith in
    ap (λ i. sets (sets (set l a u) (suc a) us) i vs) e ∙ sets_then (set l a u) (suc a) us vs
