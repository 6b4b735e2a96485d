-- The places of both collects, one after the other.
use Rattle.std.specs.Prelude.{ℕ, ◌+◌, cond, ltb}
use Rattle.unbounded.specs.Turns.{place_at}

-- the place, of the sixteen of both collects, of the read at position p
unfoldable pub place_in : ℕ → ℕ → ℕ
place_in n p = cond (ltb p n) (place_at n p) (8 + place_at n p)
