-- A list that is made of a file from its front on, where each step goes on with fewer bytes, and that is made up to a count of steps: a
-- count of the file's length is no limit.
use Prim.Native.Nat.{ℕ, zero, suc, ◌≤◌, ◌<◌}
use native.Mathlib.Omega.{arith}
use native.Mathlib.Nat.{not-suc-le-zero, le_refl}
use mathlib.Core.Path.{◌≡◌, sym, ◌∙◌}
use mathlib.Core.List.{List, [], ◌∷◌}
use lib.ListN.{length}

-- a step, by what it goes on with; what it gives depends only on how shorter files go on, and of no bytes it is nothing
module _ {A : Type 0} (next : (List ℕ → List A) → List ℕ → List A)
    (shorter : (f g : List ℕ → List A) (bs : List ℕ) → ((after : List ℕ) → length after < length bs → f after ≡ g after) →
    next f bs ≡ next g bs)
    (nothing : (f : List ℕ → List A) → next f [] ≡ []) (up_to : ℕ → List ℕ → List A) (none : (bs : List ℕ) → up_to zero bs ≡ [])
    (more : (most : ℕ) (bs : List ℕ) → up_to (suc most) bs ≡ next (up_to most) bs) where
  none_left : (most : ℕ) (bs : List ℕ) → length bs ≤ 0 → up_to most bs ≡ []
  none_left zero bs l = none bs
  none_left (suc most) [] l = more most [] ∙ nothing (up_to most)
  none_left (suc most) (b ∷ bs) l = absurd (not-suc-le-zero l)

  enough_same : (j k : ℕ) (bs : List ℕ) → length bs ≤ j → length bs ≤ k → up_to j bs ≡ up_to k bs
  enough_same zero k bs l m = none bs ∙ sym (none_left k bs l)
  enough_same (suc j) zero bs l m = none_left (suc j) bs m ∙ sym (none bs)
  enough_same (suc j) (suc k) bs l m =
      more j bs
      ∙ shorter (up_to j) (up_to k) bs (λ after s. enough_same j k after (omega arith) (omega arith))
      ∙ sym (more k bs)

  -- the list of a whole file
  abbrev all : List ℕ → List A
  all bs = up_to (length bs) bs

  pub counted_unfold : (bs : List ℕ) → all bs ≡ next all bs
  counted_unfold [] = none [] ∙ sym (nothing all)
  counted_unfold (b ∷ bs) =
      more (length bs) (b ∷ bs)
      ∙ shorter (up_to (length bs)) all (b ∷ bs) (λ after s. enough_same (length bs) (length after) after (omega arith) (omega arith))

  -- it alone is made so
  pub counted_only : (f : List ℕ → List A) → ((bs : List ℕ) → f bs ≡ next f bs) → (bs : List ℕ) → f bs ≡ all bs
  counted_only f h bs = go (suc (length bs)) bs (le_refl (suc (length bs)))
    where
      go : (most : ℕ) (bs : List ℕ) → length bs < most → f bs ≡ all bs
      go zero bs l = absurd (not-suc-le-zero l)
      go (suc most) bs l = h bs ∙ shorter f all bs (λ after s. go most after (omega arith)) ∙ sym (counted_unfold bs)
