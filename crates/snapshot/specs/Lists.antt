-- The few shapes of lists that the methods are written in.
use Rattle.std.specs.Prelude.{ℕ, zero, suc, ◌+◌, Bool, true, false, cond, ◌&&◌, ◌||◌, List, [], ◌∷◌, ◌++◌, leb, take, drop}

-- the first n places of a over those of b; the places of b past n stay
abbrev pub over : {A : Type 0} → ℕ → List A → List A → List A
over n a b = take n a ++ drop n b

-- f at each of the k indices from j on
abbrev pub each_from : {A : Type 0} → (ℕ → A) → ℕ → ℕ → List A
each_from f zero j = []
each_from f (suc k) j = f j ∷ each_from f k (suc j)

-- f 0, f 1, .. up to n of them
abbrev pub each : {A : Type 0} → ℕ → (ℕ → A) → List A
each n f = each_from f n 0

-- the first of the k indices from j on at which f holds, or j + k where it holds at none
abbrev pub first_from : (ℕ → Bool) → ℕ → ℕ → ℕ
first_from f zero j = j
first_from f (suc k) j = cond (f j) j (first_from f k (suc j))

-- the first index below n at which f holds, or n
abbrev pub first_below : ℕ → (ℕ → Bool) → ℕ
first_below n f = first_from f n 0

-- whether f holds at each of the k indices from j on
abbrev pub every_from : (ℕ → Bool) → ℕ → ℕ → Bool
every_from f zero j = true
every_from f (suc k) j = f j && every_from f k (suc j)

-- whether some element passes the test
abbrev pub some_of : {A : Type 0} → (A → Bool) → List A → Bool
some_of f [] = false
some_of f (x ∷ xs) = f x || some_of f xs

-- the sum of f over the elements
abbrev pub sum_of : {A : Type 0} → (A → ℕ) → List A → ℕ
sum_of f [] = 0
sum_of f (x ∷ xs) = f x + sum_of f xs

-- the elements that pass the test, in their order
abbrev pub keep : {A : Type 0} → (A → Bool) → List A → List A
keep f [] = []
keep f (x ∷ xs) = cond (f x) (x ∷ keep f xs) (keep f xs)

-- P of every element
abbrev pub All : {A : Type 0} → (A → Type 0) → List A → Type 0
All P [] = Unit {0}
All P (x ∷ xs) = P x × All P xs

-- R of every element and each that stands behind it
abbrev pub Pairs : {A : Type 0} → (A → A → Type 0) → List A → Type 0
Pairs R [] = Unit {0}
Pairs R (x ∷ xs) = All (R x) xs × Pairs R xs

-- x before the first element whose number is above its own: in ascending order, behind all whose number is not
abbrev pub place : {A : Type 0} → (number : A → ℕ) → A → List A → List A
place number x [] = x ∷ []
place number x (y ∷ ys) = cond (leb (number y) (number x)) (y ∷ place number x ys) (x ∷ y ∷ ys)

-- each of xs in its place, one after the other, among ys
abbrev pub places : {A : Type 0} → (number : A → ℕ) → List A → List A → List A
places number [] ys = ys
places number (x ∷ xs) ys = places number xs (place number x ys)
