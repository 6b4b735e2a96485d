-- What an answer of the system bounds, and what the answers to the writes so far leave to be taken.
use Prim.Native.Nat.{ℕ, ◌≤◌}
use native.Mathlib.Nat.{le_trans}
use mathlib.Core.Path.{◌≡◌, refl, sym, ap, ◌∙◌}
use mathlib.Core.Bool.{Bool, false}
use mathlib.Core.List.{List, [], ◌∷◌, ◌++◌, append_assoc, append-nil}
use lib.ListN.{length, drop}
use lib.Dec.{eqb}
use Rattle.std.specs.Prelude.{Result, Ok, Err}
use Rattle.streams.specs.declared.system.Stop.{Stop}
use Rattle.streams.specs.declared.system.Stop.TheVariants.{Interrupted, Failed}
use Rattle.streams.specs.System.{AtMost, all_taken, IsSent}

pub at_most_le : (m n : ℕ) → m ≤ n → (t : Result ℕ Stop) → AtMost m t → AtMost n t
at_most_le m n l (Ok k) h = le_trans h l
at_most_le m n l (Err e) h = tt

-- the writes so far have taken the bytes before the rest
abbrev pub Leaves : (bs rest : List ℕ) → Type 0
Leaves bs rest = (ts : List (Result ℕ Stop)) × ((us : List (Result ℕ Stop)) → all_taken bs (ts ++ us) ≡ all_taken rest us)

pub leaves_all : (bs : List ℕ) → Leaves bs bs
leaves_all bs = ([], λ us. refl)

module _ (bs rest : List ℕ) (h : Leaves bs rest) where
  pub leaves_less : (k : ℕ) (less : List ℕ) → less ≡ drop k rest → Leaves bs less
  leaves_less k less is = (
    h.0 ++ (Ok k ∷ []),
    λ us. ap (all_taken bs) (append_assoc h.0 (Ok k ∷ []) us) ∙ h.1 (Ok k ∷ us) ∙ ap (λ l. all_taken l us) (sym is),
  )

  pub leaves_same : Leaves bs rest
  leaves_same = (
    h.0 ++ (Err Interrupted ∷ []),
    λ us. ap (all_taken bs) (append_assoc h.0 (Err Interrupted ∷ []) us) ∙ h.1 (Err Interrupted ∷ us),
  )

  pub sent_not : IsSent bs false
  sent_not = (h.0 ++ (Err Failed ∷ []), sym (h.1 (Err Failed ∷ [])))

  -- no more are made
  pub sent_so : (went : Bool) → went ≡ eqb (length rest) 0 → IsSent bs went
  sent_so went e = (h.0, e ∙ sym (h.1 []) ∙ ap (all_taken bs) (append-nil h.0))
