-- The marks of a scan: who moved in an earlier double collect, who may lend, and the search that marks.
use Rattle.std.specs.Prelude.{ℕ, zero, suc, Bool, true, false, cond, ◌&&◌, List, get_or, set, replicate}
use Rattle.std.proofs.Math.Option.{Option, none, some}
use Rattle.snapshot.specs.Verdict.{Verdict, clean, lent, again}

-- process j is marked (document 01: marked; Figure 3: moved[j] = 1)
unfoldable pub is_moved : List Bool → ℕ → Bool
is_moved ms j = get_or ms j false

-- the marks with process j marked too (Figure 3, line 10)
unfoldable pub with_moved : List Bool → ℕ → List Bool
with_moved ms j = set ms j true

-- "all desks unmarked" (Figure 3, line 0)
abbrev pub none_moved : List Bool
none_moved = replicate 8 false

-- process j lends: it moved, and is marked from an earlier double collect (Figure 3, lines 7 and 8)
unfoldable pub lends : (moved : ℕ → Bool) → List Bool → ℕ → Bool
lends moved ms j = moved j && is_moved ms j

-- of the k processes from j on, each that moved is marked (Figure 3, lines 6, 7 and 10)
abbrev pub mark_from : (ℕ → Bool) → ℕ → ℕ → List Bool → List Bool
mark_from moved zero j ms = ms
mark_from moved (suc k) j ms = mark_from moved k (suc j) (cond (moved j) (with_moved ms j) ms)

-- how many processes the search for a lender passes: "The first lender ends the search" (What one turn does, 3)
abbrev pub passed : ℕ → Option Verdict → ℕ
passed n none = 0
passed n (some clean) = 0
passed n (some (lent j)) = j
passed n (some again) = n

-- a page that was found, with its instant and its lender, numbered from 1, or 0 when clean
pub record Found (Value : Type 0) : Type 0 where
  pub words : List Value
  pub instant : ℕ
  pub lender : ℕ
