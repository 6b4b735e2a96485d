-- A collect is cleared place by place, from the front (`clear_more`).
use Prim.Native.Nat.{ℕ, ◌+◌, ◌<◌}
use native.Mathlib.Omega.{arith}
use mathlib.Core.Path.{◌≡◌, sym, ap, ◌∙◌}
use mathlib.Core.List.{List, map}
use lib.ListN.{length, get_or, set, length-map}
use Rattle.snapshot.specs.Lists.{over}
use Rattle.snapshot.proofs.Lists.{get_d_over_at, over_more, get_d_map_below}
use Rattle.unbounded.specs.declared.Register.{Register}
use Rattle.unbounded.specs.Registers.{no_register, laid}

-- place i cleared in a collect whose first i are
pub clear_more : (n i : ℕ) (z : Register) (rs : List Register) → i < length rs →
    let f = laid n z in let cs = over i (map f rs) rs in
    set cs i (f (get_or cs i no_register)) ≡ over (i + 1) (map f rs) rs
clear_more n i z rs l =
    let f = laid n z in
    let m = length-map rs f in
    ap (λ v. set (over i (map f rs) rs) i v)
    (ap f (get_d_over_at i (map f rs) rs no_register (omega arith) l) ∙ sym (get_d_map_below f rs i no_register no_register l))
    ∙ over_more i (map f rs) rs no_register (omega arith) l
