-- A request as numbers.
use Rattle.std.specs.Prelude.{ℕ, Bool, cond, not, eqb}
use Rattle.snapshot.specs.Refusals.{outside}
use Rattle.snapshot.specs.declared.Request.{Request}
use Rattle.snapshot.specs.declared.Request.TheVariants.{Open, Update, Scan, Turn}

-- the kinds are those of day files; an opening has the number asked for in its process. Any other number stands for a turn here:
-- `is_kind` is asked first
abbrev pub request_numbered : (kind process word : ℕ) → Request
request_numbered k d w = cond (eqb k 1) (Open d) (cond (eqb k 2) (Update d w) (cond (eqb k 3) (Scan d) (Turn d)))

abbrev pub is_kind : ℕ → Bool
is_kind k = not (outside 1 4 k)
