-- What the end of a double collect decides, for any way of seeing that a process moved.
use Rattle.std.specs.Prelude.{ℕ, Bool, cond, eqb, ltb}
use Rattle.snapshot.specs.Lists.{first_below}

-- nobody moved; process j, from 0, lends its view; or another double collect begins
pub data Verdict : Type 0 where
  clean : Verdict
  lent : (j : ℕ) → Verdict
  again : Verdict

-- of n processes, some of which moved and some of which may lend: clean if none moved, else the first that lends
-- (document 01, What one turn does, 2 to 4; Figure 3, lines 4 to 10)
unfoldable pub verdict : ℕ → (moved lends : ℕ → Bool) → Verdict
verdict n moved lends =
    cond (eqb (first_below n moved) n) clean (cond (ltb (first_below n lends) n) (lent (first_below n lends)) again)
