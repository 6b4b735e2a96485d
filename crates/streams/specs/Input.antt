-- The input of a program: the bytes that came, and the buffer in which they lie.
use Rattle.std.specs.Prelude.{ℕ, ◌+◌, ◌-◌, ◌^◌, ◌≤◌, ◌<◌, ◌≡◌, Bool, true, false, List, [], ◌∷◌, ◌++◌, Result, Ok, Err, length, take, drop, eqb}
use Rattle.streams.specs.declared.input.Input.{Input}
use Rattle.streams.specs.declared.system.Stop.{Stop}
use Rattle.streams.specs.declared.system.Stop.TheVariants.{Interrupted, Failed}

-- what is still to be read: the bytes that came, whether no more will, and whether that is because a read failed
pub record Incoming : Type 0 where
  pub left : List ℕ
  pub last : Bool
  pub failed : Bool

-- these bytes came, and more may
abbrev pub expecting : List ℕ → Incoming
expecting bs = record { left = bs; last = false; failed = false }

-- these bytes came, and the input has ended
abbrev pub complete : List ℕ → Incoming
complete bs = record { left = bs; last = true; failed = false }

-- what a read gave: the bytes that came, none at the end of the input; nothing, since it was interrupted; or a fault
pub data Gave : Type 0 where
  came : List ℕ → Gave
  interrupted : Gave
  fault : Gave

-- whether it gave none
abbrev pub is_nothing : List ℕ → Bool
is_nothing [] = true
is_nothing (b ∷ bs) = false

-- what is still to be read after that
abbrev pub filled : Incoming → Gave → Incoming
filled i (came c) = record { left = i.left ++ c; last = is_nothing c; failed = false }
filled i interrupted = record { left = i.left; last = false; failed = false }
filled i fault = record { left = i.left; last = true; failed = true }

-- ---- several reads

-- reads that gave gs lead from i to j; none is made after the end, nor once n bytes are there
abbrev pub ReadsTo : ℕ → Incoming → List Gave → Incoming → Type 0
ReadsTo n i [] j = i ≡ j
ReadsTo n i (g ∷ gs) j = (i.last ≡ false) × ((length i.left < n) × ReadsTo n (filled i g) gs j)

-- ---- what is assumed of the system

-- a read gives the next bytes of a file, so that `after` is left, and none only at its end; one that is interrupted takes none
abbrev pub Gives : Gave → (file after : List ℕ) → Type 0
Gives (came c) file after = (file ≡ c ++ after) × (c ≡ [] → after ≡ [])
Gives interrupted file after = file ≡ after
Gives fault file after = ⊥

-- the reads give a file up to `rest`
abbrev pub ReadsFile : List Gave → (file rest : List ℕ) → Type 0
ReadsFile [] file rest = file ≡ rest
ReadsFile (g ∷ gs) file rest = (after : List ℕ) × (Gives g file after × ReadsFile gs after rest)

-- how many of the reads were interrupted
abbrev pub interruption : Gave → ℕ
interruption (came c) = 0
interruption interrupted = 1
interruption fault = 0

abbrev pub interruptions : List Gave → ℕ
interruptions [] = 0
interruptions (g ∷ gs) = interruption g + interruptions gs

-- ---- the buffer

-- what is still to be read lies within a buffer of n bytes
pub record Within (i : Input) (n : ℕ) : Type 0 where
  pub start : i.at ≤ i.end
  pub stop : i.end ≤ n

-- what lies in a buffer
abbrev pub input_left : Input → List ℕ → List ℕ
input_left i bytes = take (i.end - i.at) (drop i.at bytes)

abbrev pub incoming : Input → List ℕ → Incoming
incoming i bytes = record { left = input_left i bytes; last = i.last; failed = i.failed }

-- the input once a read answered, where that many bytes were kept at the front
unfoldable pub input_by : ℕ → Result ℕ Stop → Input
input_by kept (Ok n) = record { at = 0; end = kept + n; last = eqb n 0; failed = false }
input_by kept (Err Interrupted) = record { at = 0; end = kept; last = false; failed = false }
input_by kept (Err Failed) = record { at = 0; end = kept; last = true; failed = true }

-- a buffer was filled up, by what a read gave
abbrev pub IsRefill : Input → List ℕ → Input → List ℕ → Type 0
IsRefill i bytes j after = (g : Gave) × (incoming j after ≡ filled (incoming i bytes) g)

-- a buffer was filled from its front by reads until no more come or it is full, or by as many as the code counts
pub record IsWhole (i : Input) (bytes : List ℕ) : Type 0 where
  pub within : Within i (length bytes)
  pub front : i.at ≡ 0
  pub gave : List Gave
  pub reads : ReadsTo (length bytes) (expecting []) gave (incoming i bytes)
  pub all : i.last ≡ false → i.end < length bytes → length gave ≡ 2 ^ 64 - 1
