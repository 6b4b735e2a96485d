-- `unbounded_accesses::accesses::position_of` meets its contract: 2n² is at most 16n, and a remainder by 8n or by 4n has the same
-- remainder by 2n.
use Prim.Native.Nat.{ℕ, ◌*◌, ◌%◌}
use native.Mathlib.Nat.{mul-le-mul_left, dvd-mul_left, mod-eq_of_lt, mod-mod_of_dvd}
use native.Mathlib.Omega.{arith}
use mathlib.Core.Path.{◌≡◌, sym, ap, ◌∙◌}
use Rattle.unbounded.specs.Turns.{position}
use Rattle.unbounded.specs.Days.{most_reads}
use Rattle.unbounded_accesses.proofs.accesses.position_of.Goals as goal

-- a remainder by a multiple of s has the same remainder by s
same-reduced : (t s k : ℕ) {m : ℕ} → m ≡ k * s → t % m % s ≡ t % s
same-reduced t s k q = ap (λ m. t % m % s) q ∙ mod-mod_of_dvd s t (dvd-mul_left s k)

pub returns-then-turn-n : goal.returns-then-turn-n
unfolding position
returns-then-turn-n c = sym (mod-eq_of_lt c.if-turn-n.true)

pub reduced-requires : goal.reduced-requires
unfolding most_reads
reduced-requires c =
    let l = mul-le-mul_left c.args.n c.requires.1 in
    omega arith

pub returns : goal.returns
unfolding position
returns c =
    let eight = c.reduced in
    let a = c.args in
    let s = 2 * a.n in
    c.reduced-3.ensures.value
    ∙ ap (λ x. x % s) c.reduced-2.ensures.value
    ∙ same-reduced eight.result s 2 (omega arith)
    ∙ ap (λ x. x % s) eight.ensures.value
    ∙ same-reduced a.t s 4 (omega arith)
