-- A part laid into a room as far as the room goes is stored there from its place on (`laid_within`): places that are not there keep
-- nothing.
use Prim.Native.Nat.{ℕ, zero, suc, ◌-◌, ◌≤◌, min}
use native.Mathlib.Omega.{arith}
use native.Mathlib.Decide.{dec_lt}
use mathlib.Core.Path.{◌≡◌, refl, sym, ap, ◌∙◌}
use mathlib.Core.Logic.{by_cases}
use mathlib.Core.List.{List, [], ◌∷◌}
use lib.ListN.{length, take, set, length-set}
use lib.Seq.{sets, set_out}

module _ {A : Type 0} where
  none_there : (room : List A) (at : ℕ) (part : List A) → length room ≤ at → sets room at part ≡ room
  none_there room at [] h = refl
  none_there room at (x ∷ part) h =
      ap (λ r. sets r (suc at) part) (set_out room at x h) ∙ none_there room (suc at) part (omega (arith, h))

  -- no more are stored than there are places from there on
  few_there : (part room : List A) (at : ℕ) (k : ℕ) → k ≡ min (length part) (length room - at) →
      sets room at (take k part) ≡ sets room at part
  few_there [] room at zero e = refl
  few_there [] room at (suc k) e = refl
  few_there (x ∷ part) room at zero e = sym (none_there room at (x ∷ part) (omega (arith, e)))
  few_there (x ∷ part) room at (suc k) e =
      let long = length-set room at x in
      few_there part (set room at x) (suc at) k (omega (arith, e, long))

  pub laid_within : (part room : List A) (at first fits : ℕ) → first ≡ min at (length room) → fits ≡ min (length part) (length room - first) →
      sets room first (take fits part) ≡ sets room at part
  laid_within part room at first fits f e =
      few_there part room first fits e
      ∙ by_cases (dec_lt at (length room))
      (λ h. ap (λ k. sets room k part) (omega (arith, f, h)))
      (λ h. none_there room first part (omega (arith, f, h)) ∙ sym (none_there room at part (omega (arith, h))))
