-- The words that `begin` leaves are those of the record with a task and nothing collected (`begun_words`).
use Prim.Native.Nat.{ℕ, zero, suc, ◌+◌, ◌*◌, ◌≤◌}
use native.Mathlib.Omega.{arith}
use native.Mathlib.Numerals.{add-one}
use mathlib.Core.Path.{◌≡◌, refl, ap, ◌∙◌, subst}
use mathlib.Core.List.{List, map}
use lib.ListN.{length, take, set, replicate}
use lib.Seq.{sets, length-take-le}
use Rattle.snapshot.specs.Lists.{over}
use Rattle.snapshot.specs.Values.{zero_value}
use Rattle.snapshot.specs.declared.Value.{Value}
use Rattle.snapshot.specs.Marks.{none_moved}
use Rattle.snapshot.proofs.Lists.{length_over}
use Rattle.unbounded.specs.declared.Register.{Register}
use Rattle.unbounded.specs.declared.Process.{Process}
use Rattle.unbounded.specs.declared.Task.{Task}
use Rattle.unbounded.specs.Registers.{zero_register, laid, read_into, cleared}
use Rattle.unbounded.specs.Processes.{begin}
use Rattle.unbounded_turns.specs.Steps.{with_task}
use Rattle.unbounded_turns.proofs.Parts.{with_collected}
use Rattle.unbounded_turns.proofs.Clearing.{clear_more}
use Rattle.packed.specs.Packing.{pack_view, stored_at, pack_task, pack_mark, packed_over, unpack_record}
use Rattle.packed.proofs.Packing.{Eights, unpack_whole}
use Rattle.packed_turns.proofs.Laid.{end_laid, view_laid, first_read, first_laid, second_laid, first_eights, second_eights}
use Rattle.packed_turns.proofs.Laid.{eights_with, tidied}

-- ---- the first i places of both collects

-- z stored in each
abbrev pub placed_to : ℕ → Register → ℕ → List ℕ → List ℕ
placed_to n z zero ws = ws
placed_to n z (suc i) ws = stored_at n z (24 + 20 * (8 + i)) (stored_at n z (24 + 20 * i) (placed_to n z i ws))

module _ (ws : List ℕ) (n : ℕ) (b : n ≤ 8) (z : Register) (v : length z.view ≡ 8) where
  abbrev cleared_to : ℕ → Process → Process
  cleared_to i q =
      let clear : List Register → List Register = λ rs. over i (map (laid n z) rs) rs in
      with_collected (clear q.first) (clear q.second) q.first_end q.view q.moved q

  module _ (q : Process) (e : Eights q) where
    -- one place more
    read_clears : (i : ℕ) → suc i ≤ 8 → let c = cleared_to i q in
        with_collected (read_into n z i c.first) (read_into n z i c.second) c.first_end c.view c.moved c
        ≡ cleared_to (suc i) q
    unfolding read_into
    read_clears i h =
        let firsts = e.0.first.places in
        let seconds = e.0.second.places in
        let first = clear_more n i z q.first (omega arith) in
        let second = clear_more n i z q.second (omega arith) in
        (λ t. with_collected (first t) (second t) q.first_end q.view q.moved q)
        ∙ ap (λ k. cleared_to k q) (add-one i)

    cleared_words : (i : ℕ) → i ≤ 8 → (placed_to n z i (packed_over ws q) ≡ packed_over ws (cleared_to i q)) × Eights (cleared_to i q)
    cleared_words zero h = (refl, e)
    cleared_words (suc i) h =
        let before = cleared_words i (omega arith) in
        let c = cleared_to i q in
        let c' = first_read ws c before.1 n z i b v h in
        let e' = first_eights ws c before.1 n z i b v h in (
          ap (λ l. stored_at n z (24 + 20 * (8 + i)) (stored_at n z (24 + 20 * i) l)) before.0
              ∙ ap (stored_at n z (24 + 20 * (8 + i))) (first_laid ws c before.1 n z i b v h)
              ∙ second_laid ws c' e' n z i b v h
              ∙ ap (packed_over ws) (read_clears i h),
          subst Eights (read_clears i h) (second_eights ws c' e' n z i b v h),
        )

-- ---- a task begun

pub begun_words : (ws : List ℕ) (n : ℕ) → n ≤ 8 → (k : Task) →
    placed_to n zero_register n
    (sets (set (sets (sets ws 20 (pack_task k)) 361 (map pack_mark none_moved)) 344 0) 345 (pack_view (take n (replicate 8 zero_value))))
    ≡ packed_over ws (begin n k (unpack_record ws))
unfolding begin cleared
begun_words ws n b k =
    let p = unpack_record ws in
    let e = unpack_whole ws in
    let view = over n (replicate 8 zero_value) p.view in
    let words = e.0.view in
    let eights : length view ≡ 8 =
    length_over n (replicate 8 zero_value) p.view (length-take-le n (replicate 8 zero_value) b) (omega arith) ∙ words in
    let with : ℕ → List Value → Process = λ end v. with_collected p.first p.second end v none_moved (with_task k p) in
    let tidy = eights_with p e k p.first_end p.view none_moved words refl in
    let ended = eights_with p e k 0 p.view none_moved words refl in
    let kept = eights_with p e k 0 view none_moved eights refl in
    ap (placed_to n zero_register n)
    (ap (λ l. sets (set l 344 0) 345 (pack_view (take n (replicate 8 zero_value)))) (tidied ws k none_moved refl)
    ∙ ap (λ l. sets l 345 (pack_view (take n (replicate 8 zero_value)))) (end_laid ws (with p.first_end p.view) tidy 0)
    ∙ view_laid ws (with 0 p.view) ended n (replicate 8 zero_value) b refl)
    ∙ (cleared_words ws n b zero_register refl (with 0 view) kept n b).0
