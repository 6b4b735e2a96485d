-- Laws of refusals: none where no cause holds, and of causes one after the other.
use mathlib.Core.Path.{◌≡◌, refl, ap}
use mathlib.Core.Bool.{Bool, true, false, cond}
use mathlib.Core.List.{List, [], ◌∷◌, ◌++◌}
use mathlib.Core.Option.{none, some, none-ne-some, some-ne-none}
use Rattle.snapshot.specs.declared.Refusal.{Refusal}
use Rattle.snapshot.specs.Refusals.{Cause, first_cause}

-- no cause holds
abbrev pub Passes : List Cause → Type 0
Passes [] = Unit {0}
Passes (c ∷ cs) = (c.0 ≡ false) × Passes cs

pub accepted_passes : (cs : List Cause) → first_cause cs ≡ none → Passes cs
accepted_passes [] h = tt
accepted_passes (c ∷ cs) h = go c.0 refl (accepted_passes cs) h
  where
    go : (b : Bool) → c.0 ≡ b → (first_cause cs ≡ none → Passes cs) → cond b (some c.1) (first_cause cs) ≡ none →
        Passes (c ∷ cs)
    go true q r g = absurd (some-ne-none c.1 g)
    go false q r g = (q, r g)

pub passes_front : (cs ds : List Cause) → Passes (cs ++ ds) → Passes cs
passes_front [] ds w = tt
passes_front (c ∷ cs) ds w = (w.0, passes_front cs ds w.1)

-- the first cause holds
pub refused_first : (c : Cause) (cs : List Cause) → c.0 ≡ true → first_cause (c ∷ cs) ≡ some c.1
refused_first c cs h = ap (λ b. cond b (some c.1) (first_cause cs)) h

-- causes one after the other
pub first_none : (cs ds : List Cause) → first_cause cs ≡ none → first_cause (cs ++ ds) ≡ first_cause ds
first_none [] ds h = refl
first_none (c ∷ cs) ds h = go c.0 (first_none cs ds) h
  where
    go : (b : Bool) → (first_cause cs ≡ none → first_cause (cs ++ ds) ≡ first_cause ds) →
        cond b (some c.1) (first_cause cs) ≡ none → cond b (some c.1) (first_cause (cs ++ ds)) ≡ first_cause ds
    go true r g = absurd (some-ne-none c.1 g)
    go false r g = r g

pub first_some : (cs ds : List Cause) (k : Refusal) → first_cause cs ≡ some k → first_cause (cs ++ ds) ≡ some k
first_some [] ds k h = absurd (none-ne-some k h)
first_some (c ∷ cs) ds k h = go c.0 (first_some cs ds k) h
  where
    go : (b : Bool) → (first_cause cs ≡ some k → first_cause (cs ++ ds) ≡ some k) →
        cond b (some c.1) (first_cause cs) ≡ some k → cond b (some c.1) (first_cause (cs ++ ds)) ≡ some k
    go true r g = g
    go false r g = r g
