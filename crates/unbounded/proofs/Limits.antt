-- The table of the most reads keeps the rule 2n²: one test over the whole table; and the figures of demand 3 are this table's.
use Prim.Native.Nat.{ℕ, ◌+◌, ◌-◌, ◌≤◌, ◌<◌}
use native.Mathlib.Nat.{mul-le-mul}
use native.Mathlib.Omega.{arith}
use mathlib.Core.Path.{◌≡◌, refl, ap, ◌∙◌}
use mathlib.Core.Bool.{false, ◌||◌, true≢false}
use mathlib.Core.List.{List, [], ◌∷◌}
use lib.Dec.{ltb}
use lib.ListN.{get_or}
use borrow.Author.Tests.{leb-false, ltb-false}
use Rattle.snapshot.specs.Lists.{each}
use Rattle.snapshot.specs.Tally.{scan, update}
use Rattle.snapshot.proofs.Booleans.{or_neither}
use Rattle.snapshot.proofs.Lists.{get_d_each}
use Rattle.unbounded.specs.declared.Process.{Process}
use Rattle.unbounded.specs.declared.Task.{Task}
use Rattle.unbounded.specs.declared.Task.TheVariants.{Idle, Scan, Update, Ready}
use Rattle.unbounded.specs.Registers.{Order}
use Rattle.unbounded.specs.Processes.{is_idle, turns_of}
use Rattle.unbounded.specs.Days.{most_reads, greatest, overdue, unsound, method}

abbrev pub reads_table : List ℕ
reads_table = 2 ∷ 8 ∷ 18 ∷ 32 ∷ 50 ∷ 72 ∷ 98 ∷ 128 ∷ []

table_test : reads_table ≡ each 8 (λ i. most_reads (i + 1))
unfolding most_reads
table_test = refl

pub table_rule : (n : ℕ) → 1 ≤ n → n ≤ 8 → get_or reads_table (n - 1) 0 ≡ most_reads n
table_rule n l m =
    ap (λ t. get_or t (n - 1) 0) table_test
    ∙ get_d_each 8 (λ i. most_reads (i + 1)) (n - 1) 0 (omega arith)
    ∙ ap most_reads (omega arith)

-- the last is the largest
pub few_reads : (n : ℕ) → n ≤ 8 → most_reads n ≤ 128
unfolding most_reads
few_reads n l = let w = mul-le-mul l l in omega arith

-- the task of a record that can have arisen is not overdue
pub sound_due : (most e : ℕ) (p : Process) → unsound most e p ≡ false → overdue most p.task ≡ false
unfolding unsound
sound_due most e p q =
    let wrote = ltb e p.register.value.last in
    let late = or_neither (ltb e p.register.seq) (ltb e p.register.at || (wrote || overdue most p.task)) q in
    (or_neither wrote (overdue most p.task) (or_neither (ltb e p.register.at) (wrote || overdue most p.task) late.1).1).1

-- a process that has a task and can have arisen owes at least one turn
busy_task_owes : (most : ℕ) (k : Task) → is_idle k ≡ false → overdue most k ≡ false → 0 < greatest most k - turns_of k
busy_task_owes most Idle b q = absurd (true≢false b)
busy_task_owes most (Scan t) b q = let l = leb-false most t q in omega arith
busy_task_owes most (Update w t) b q = let l = leb-false most t q in omega arith
busy_task_owes most (Ready w at t) b q = let l = ltb-false most t q in omega arith

pub busy_owes : (most e : ℕ) (p : Process) → is_idle p.task ≡ false → unsound most e p ≡ false →
    0 < greatest most p.task - turns_of p.task
busy_owes most e p b q = busy_task_owes most p.task b (sound_due most e p q)

-- what demand 3 takes from the method for the most turns of a job: the table, and for an update "one turn more"
pub most_turns_test : (o : Order) (d w : ℕ) →
    (each 8 (λ i. (method o (i + 1)).most scan) ≡ reads_table)
    × (each 8 (λ i. (method o (i + 1)).most (update d w)) ≡ 3 ∷ 9 ∷ 19 ∷ 33 ∷ 51 ∷ 73 ∷ 99 ∷ 129 ∷ [])
unfolding most_reads
most_turns_test o d w = (refl, refl)
