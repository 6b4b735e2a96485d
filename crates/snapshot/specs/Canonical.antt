-- The canonical snapshot automaton (document 000, section 2, Figure 1), whose updates carry an address as in section 2.2, Figure 2.
-- In the single-writer memory of Figure 1 the address is the process itself (`OwnAddress`).
use Rattle.std.specs.Prelude.{ℕ, ◌-◌, ◌≡◌, Bool, true, false, cond, List, [], ◌∷◌, eqb, set}
use Rattle.std.proofs.Math.Option.{Option, none, some}

-- of process i: "Request actions" and "Return actions", and the internal Update and Scan; k is an address, from 1 on, and d and ds are
-- data. Which processes and addresses there are is said of a run
pub data Action : Type 0 where
  UpdateRequest : (i k d : ℕ) → Action
  ScanRequest : (i : ℕ) → Action
  Update : (i k d : ℕ) → Action
  Scan : (i : ℕ) → (ds : List ℕ) → Action
  UpdateReturn : (i : ℕ) → Action
  ScanReturn : (i : ℕ) → (ds : List ℕ) → Action

-- "an n-entry array Mem of type Data and n interface variables H_i"; none is the figure's ⊥
pub record Memory : Type 0 where
  pub Mem : List ℕ
  pub H : ℕ → Option Action

-- H_i := v
abbrev pub put : (ℕ → Option Action) → ℕ → Option Action → ℕ → Option Action
put H i v j = cond (eqb j i) v (H j)

-- the figure's preconditions: "actions without preconditions are always enabled"
abbrev pub Precondition : Memory → Action → Type 0
Precondition s (UpdateRequest i k d) = Unit {0}
Precondition s (ScanRequest i) = Unit {0}
Precondition s (Update i k d) = s.H i ≡ some (UpdateRequest i k d)
Precondition s (Scan i ds) = (s.H i ≡ some (ScanRequest i)) × (s.Mem ≡ ds)
Precondition s (UpdateReturn i) = s.H i ≡ some (UpdateReturn i)
Precondition s (ScanReturn i ds) = s.H i ≡ some (ScanReturn i ds)

-- its effects: "state components not explicitly described .. retain their old value"
abbrev pub effect : Memory → Action → Memory
effect s (UpdateRequest i k d) = record { Mem = s.Mem; H = put s.H i (some (UpdateRequest i k d)) }
effect s (ScanRequest i) = record { Mem = s.Mem; H = put s.H i (some (ScanRequest i)) }
effect s (Update i k d) = record { Mem = set s.Mem (k - 1) d; H = put s.H i (some (UpdateReturn i)) }
effect s (Scan i ds) = record { Mem = s.Mem; H = put s.H i (some (ScanReturn i ds)) }
effect s (UpdateReturn i) = record { Mem = s.Mem; H = put s.H i none }
effect s (ScanReturn i ds) = record { Mem = s.Mem; H = put s.H i none }

-- the actions lead from one state to the other: each is enabled where it stands
abbrev pub Run : Memory → List Action → Memory → Type 0
Run s [] u = s ≡ u
Run s (a ∷ l) u = Precondition s a × Run (effect s a) l u

-- ---- which action is what

-- the process whose action it is
abbrev pub actor_in : Action → ℕ
actor_in (UpdateRequest i k d) = i
actor_in (ScanRequest i) = i
actor_in (Update i k d) = i
actor_in (Scan i ds) = i
actor_in (UpdateReturn i) = i
actor_in (ScanReturn i ds) = i

-- "two types of internal actions"; the others are "the interface snapshot actions"
abbrev pub is_internal : Action → Bool
is_internal (UpdateRequest i k d) = false
is_internal (ScanRequest i) = false
is_internal (Update i k d) = true
is_internal (Scan i ds) = true
is_internal (UpdateReturn i) = false
is_internal (ScanReturn i ds) = false

-- in the single-writer memory an update's address is its own process
abbrev pub OwnAddress : Action → Type 0
OwnAddress (UpdateRequest i k d) = k ≡ i
OwnAddress (ScanRequest i) = Unit {0}
OwnAddress (Update i k d) = k ≡ i
OwnAddress (Scan i ds) = Unit {0}
OwnAddress (UpdateReturn i) = Unit {0}
OwnAddress (ScanReturn i ds) = Unit {0}

-- ---- well-formed behaviors

-- whether a process waits for an answer, once action a happened
abbrev pub waits_after : (ℕ → Bool) → Action → ℕ → Bool
waits_after waits (UpdateRequest i k d) j = cond (eqb j i) true (waits j)
waits_after waits (ScanRequest i) j = cond (eqb j i) true (waits j)
waits_after waits (Update i k d) j = waits j
waits_after waits (Scan i ds) j = waits j
waits_after waits (UpdateReturn i) j = cond (eqb j i) false (waits j)
waits_after waits (ScanReturn i ds) j = cond (eqb j i) false (waits j)

-- a request finds its process not waiting
abbrev pub AsksOnce : (ℕ → Bool) → Action → Type 0
AsksOnce waits (UpdateRequest i k d) = waits i ≡ false
AsksOnce waits (ScanRequest i) = waits i ≡ false
AsksOnce waits (Update i k d) = Unit {0}
AsksOnce waits (Scan i ds) = Unit {0}
AsksOnce waits (UpdateReturn i) = Unit {0}
AsksOnce waits (ScanReturn i ds) = Unit {0}

-- "no pair of Request_i inputs occurs without an intervening Return_i output"
abbrev pub WellFormed : (ℕ → Bool) → List Action → Type 0
WellFormed waits [] = Unit {0}
WellFormed waits (a ∷ l) = AsksOnce waits a × WellFormed (waits_after waits a) l
