-- A record with a task of a kind that is none cannot have arisen: refusal 11 is its own.
use Prim.Native.Nat.{ℕ, ◌*◌, ◌≤◌, ◌<◌}
use native.Mathlib.Omega.{arith}
use native.Mathlib.Nat.{mul-le-mul}
use mathlib.Core.Path.{◌≡◌, sym, ap, subst, ◌∙◌}
use mathlib.Core.Bool.{true, ◌||◌, or-true}
use mathlib.Core.List.{List}
use lib.ListN.{drop}
use lib.Seq.{get_or-drop}
use lib.Dec.{ltb}
use borrow.Author.Tests.{ne_eqb, le-leb}
use Rattle.unbounded.specs.declared.Task.TheVariants.{Scan}
use Rattle.unbounded.specs.Days.{most_reads, overdue, unsound}
use Rattle.packed.specs.Packing.{word_at, unpack_register, unpack_task, unpack_record}

unknown_task : (ws : List ℕ) → 3 < word_at ws 0 → unpack_task ws ≡ Scan 4294967295
unknown_task ws h =
    let k = word_at ws 0 in
    let none = ne_eqb k 0 (λ q. omega (arith, h, q)) in
    let one = ne_eqb k 1 (λ q. omega (arith, h, q)) in
    let two = ne_eqb k 2 (λ q. omega (arith, h, q)) in
    let three = ne_eqb k 3 (λ q. omega (arith, h, q)) in
    simp (none, one, two, three)

pub unknown_unsound : (n e : ℕ) (ws : List ℕ) → n ≤ 8 → 3 < word_at ws 20 → unsound (most_reads n) e (unpack_record ws) ≡ true
unfolding unsound unpack_record most_reads
unknown_unsound n e ws few h =
    let r = unpack_register ws in
    let kind = subst (λ k. 3 < k) (sym (get_or-drop 20 ws 0 0)) h in
    let square = mul-le-mul few few in
    let late = le-leb (2 * (n * n)) 4294967295 (omega (arith, square)) in
    let before = ltb e r.seq in
    ap (λ k. before || (ltb e r.at || (ltb e r.value.last || overdue (2 * (n * n)) k))) (unknown_task (drop 20 ws) kind)
    ∙ ap (λ b. before || (ltb e r.at || (ltb e r.value.last || b))) late
    ∙ ap (λ b. before || (ltb e r.at || b)) (or-true (ltb e r.value.last))
    ∙ ap (λ b. before || b) (or-true (ltb e r.at)) ∙ or-true before
