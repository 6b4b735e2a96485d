-- A collect whose first places are cleared.
use Prim.Native.Nat.{ℕ}
use mathlib.Core.Path.{◌≡◌, sym, ap}
use mathlib.Core.List.{List, ◌++◌, map}
use lib.ListN.{take, drop}
use Rattle.std.proofs.lemmas.List.{take-map}
use Rattle.unbounded.specs.declared.Register.{Register}
use Rattle.unbounded.specs.Registers.{zero_register, laid, cleared}

pub cleared_is : (n : ℕ) (rs : List Register) → map (laid n zero_register) (take n rs) ++ drop n rs ≡ cleared n rs
unfolding cleared
cleared_is n rs = ap (λ x. x ++ drop n rs) (sym (take-map (laid n zero_register) n rs))
