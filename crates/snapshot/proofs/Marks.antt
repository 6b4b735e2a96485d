-- Laws of the marks: what `with_moved` and a search that marks leave marked, and who lends.
use Prim.Native.Nat.{ℕ, zero, suc, ◌+◌, ◌≤◌, ◌<◌}
use native.Mathlib.Numerals.{add-one}
use native.Mathlib.Omega.{arith}
use native.Mathlib.Decide.{ℕ_discrete, dec_lt}
use mathlib.Core.Path.{◌≡◌, refl, sym, ap, ◌∙◌}
use mathlib.Core.Logic.{◌⊎◌, inl, inr, by_cases, ◌≢◌}
use mathlib.Core.Bool.{Bool, true, false, cond, false≢true}
use mathlib.Core.List.{List}
use lib.ListN.{length, get_or, replicate, length-set}
use lib.Seq.{get_or-set_same, get_or-set_other, set_out}
use Rattle.snapshot.specs.Marks.{is_moved, with_moved, none_moved, lends, mark_from}
use Rattle.snapshot.proofs.Booleans.{and_both}

-- ---- one mark

pub length_with_moved : (ms : List Bool) (j : ℕ) → length (with_moved ms j) ≡ length ms
unfolding with_moved
length_with_moved ms j = length-set ms j true

pub moved_same : (ms : List Bool) (j : ℕ) → j < length ms → is_moved (with_moved ms j) j ≡ true
unfolding with_moved is_moved
moved_same ms j l = get_or-set_same ms j true false l

pub moved_other : (ms : List Bool) (i j : ℕ) → i ≢ j → is_moved (with_moved ms j) i ≡ is_moved ms i
unfolding with_moved is_moved
moved_other ms i j h = get_or-set_other ms j i true false h

moved_out : (ms : List Bool) (j : ℕ) → length ms ≤ j → with_moved ms j ≡ ms
unfolding with_moved
moved_out ms j l = set_out ms j true l

pub none_moved_lem : (i : ℕ) → is_moved none_moved i ≡ false
unfolding is_moved
none_moved_lem i = nowhere 8 i
  where
    nowhere : (n i : ℕ) → get_or (replicate n false) i false ≡ false
    nowhere zero i = refl
    nowhere (suc n) zero = refl
    nowhere (suc n) (suc i) = nowhere n i

-- ---- who lends

module _ (moved : ℕ → Bool) (ms : List Bool) (j : ℕ) where
  pub lends_moved : lends moved ms j ≡ true → moved j ≡ true
  unfolding lends
  lends_moved h = (and_both (moved j) _ h).0

  pub lends_marked : lends moved ms j ≡ true → is_moved ms j ≡ true
  unfolding lends
  lends_marked h = (and_both (moved j) (is_moved ms j) h).1

  pub still_lends_not : moved j ≡ false → lends moved ms j ≡ false
  unfolding lends
  still_lends_not d = rw d

  pub moved_lends : moved j ≡ true → lends moved ms j ≡ is_moved ms j
  unfolding lends
  moved_lends d = rw d

  -- who moved and does not lend is not marked yet
  pub unmarked : moved j ≡ true → lends moved ms j ≡ false → is_moved ms j ≡ false
  unmarked d l = sym (moved_lends d) ∙ l

-- ---- a search that marks

module _ (f : ℕ → Bool) where
  pub length_marks : (k j : ℕ) (ms : List Bool) → length (mark_from f k j ms) ≡ length ms
  length_marks zero j ms = refl
  length_marks (suc k) j ms = length_marks k (suc j) (cond (f j) (with_moved ms j) ms) ∙ go (f j)
    where
      go : (b : Bool) → length (cond b (with_moved ms j) ms) ≡ length ms
      go true = length_with_moved ms j
      go false = refl

  step_keeps : (ms : List Bool) (j i : ℕ) (b : Bool) → is_moved ms i ≡ true → is_moved (cond b (with_moved ms j) ms) i ≡ true
  step_keeps ms j i false h = h
  step_keeps ms j i true h =
      by_cases (ℕ_discrete i j)
      (λ e. by_cases (dec_lt j (length ms)) (λ l. ap (is_moved (with_moved ms j)) e ∙ moved_same ms j l)
      (λ l. ap (λ m. is_moved m i) (moved_out ms j (omega arith)) ∙ h))
      (λ e. moved_other ms i j e ∙ h)

  pub marks_keep : (k j : ℕ) (ms : List Bool) (i : ℕ) → is_moved ms i ≡ true → is_moved (mark_from f k j ms) i ≡ true
  marks_keep zero j ms i h = h
  marks_keep (suc k) j ms i h = marks_keep k (suc j) (cond (f j) (with_moved ms j) ms) i (step_keeps ms j i (f j) h)

  pub marks_only : (k j : ℕ) (ms : List Bool) (i : ℕ) → is_moved (mark_from f k j ms) i ≡ true →
      (is_moved ms i ≡ true) ⊎ (f i ≡ true)
  marks_only zero j ms i h = inl h
  marks_only (suc k) j ms i h = later (marks_only k (suc j) (cond (f j) (with_moved ms j) ms) i h)
    where
      here : (b : Bool) → f j ≡ b → is_moved (cond b (with_moved ms j) ms) i ≡ true → (is_moved ms i ≡ true) ⊎ (f i ≡ true)
      here false q g = inl g
      here true q g =
          by_cases (ℕ_discrete i j) (λ e. inr (ap f e ∙ q)) (λ e. inl (sym (moved_other ms i j e) ∙ g))

      later : (is_moved (cond (f j) (with_moved ms j) ms) i ≡ true) ⊎ (f i ≡ true) → (is_moved ms i ≡ true) ⊎ (f i ≡ true)
      later (inl g) = here (f j) refl g
      later (inr g) = inr g

  pub marks_set : (k j : ℕ) (ms : List Bool) (i : ℕ) → j ≤ i → i < j + k → i < length ms → f i ≡ true →
      is_moved (mark_from f k j ms) i ≡ true
  marks_set zero j ms i l m w h = absurd (omega arith)
  marks_set (suc k) j ms i l m w h =
      by_cases (ℕ_discrete i j)
      (λ e. marks_keep k (suc j) (cond (f j) (with_moved ms j) ms) i (now e (f j) (ap f (sym e) ∙ h)))
      (λ e. marks_set k (suc j) (cond (f j) (with_moved ms j) ms) i (omega arith) (omega arith)
      (let s = same_length (f j) in omega arith) h)
    where
      same_length : (b : Bool) → length (cond b (with_moved ms j) ms) ≡ length ms
      same_length true = length_with_moved ms j
      same_length false = refl

      now : i ≡ j → (b : Bool) → b ≡ true → is_moved (cond b (with_moved ms j) ms) i ≡ true
      now e true q = ap (is_moved (with_moved ms j)) e ∙ moved_same ms j (omega arith)
      now e false q = absurd (false≢true q)

  -- one process more
  marks_more_from : (k j : ℕ) (ms : List Bool) →
      let x = mark_from f k j ms in
      mark_from f (suc k) j ms ≡ cond (f (j + k)) (with_moved x (j + k)) x
  marks_more_from zero j ms = ap (λ i. cond (f i) (with_moved ms i) ms) (omega arith)
  marks_more_from (suc k) j ms =
      marks_more_from k (suc j) (cond (f j) (with_moved ms j) ms)
      ∙ ap (λ i. let x = mark_from f (suc k) j ms in cond (f i) (with_moved x i) x) (omega arith)

  pub marks_more : (k : ℕ) (ms : List Bool) →
      let x = mark_from f k 0 ms in
      mark_from f (k + 1) 0 ms ≡ cond (f k) (with_moved x k) x
  marks_more k ms =
      ap (λ i. mark_from f i 0 ms) (add-one k) ∙ marks_more_from k 0 ms
      ∙ ap (λ i. let x = mark_from f k 0 ms in cond (f i) (with_moved x i) x) (omega arith)
