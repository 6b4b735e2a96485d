-- What the system answers to a read or a write.
use Rattle.std.specs.Prelude.{ℕ, ◌≤◌, min, ◌≡◌, Bool, false, List, [], ◌∷◌, ◌⊎◌, ◌≢◌, Result, Ok, Err, length, drop, eqb}
use Rattle.std.specs.declared.io.Error.{Error}
use Rattle.std.specs.declared.io.ErrorKind.TheVariants.{Interrupted as InterruptedKind}
use Rattle.std.specs.IoError.{error_kind}
use Rattle.streams.specs.declared.system.Stop.{Stop}
use Rattle.streams.specs.declared.system.Stop.TheVariants.{Interrupted, Failed}

-- what an answer to a call on n bytes means: how many it moved, or, with an error, one of two things that the error's kind tells apart
abbrev pub Means : Result ℕ Error → ℕ → Result ℕ Stop → Type 0
Means (Ok k) n t = t ≡ Ok (min k n)
Means (Err e) n t =
    ((error_kind e ≡ InterruptedKind) × (t ≡ Err Interrupted)) ⊎ ((error_kind e ≢ InterruptedKind) × (t ≡ Err Failed))

-- at most n bytes were moved
abbrev pub AtMost : ℕ → Result ℕ Stop → Type 0
AtMost n (Ok k) = k ≤ n
AtMost n (Err e) = Unit {0}

-- whether writes that were answered so took all the bytes: each is given what the one before left, and takes the first ones
abbrev pub all_taken : List ℕ → List (Result ℕ Stop) → Bool
all_taken bs [] = eqb (length bs) 0
all_taken bs (Ok k ∷ ts) = all_taken (drop k bs) ts
all_taken bs (Err Interrupted ∷ ts) = all_taken bs ts
all_taken bs (Err Failed ∷ ts) = false

-- what the system answered to writes of these bytes: taken whole or not. It says nothing of what the system did with them
abbrev pub IsSent : List ℕ → Bool → Type 0
IsSent bs went = (ts : List (Result ℕ Stop)) × (went ≡ all_taken bs ts)
