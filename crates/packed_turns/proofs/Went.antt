-- The words after a read that does not end its double collect are those of the record that the turn leaves (`went_on`).
use Prim.Native.Nat.{ℕ, ◌+◌, ◌*◌}
use native.Mathlib.Omega.{arith}
use mathlib.Core.Path.{◌≡◌, refl, ap, ◌∙◌}
use mathlib.Core.Bool.{Bool, true, false, not, cond}
use mathlib.Core.List.{List, map}
use lib.Dec.{T, ltb}
use lib.ListN.{length, set}
use lib.Seq.{sets}
use borrow.Author.Tests.{ne_eqb}
use Rattle.unbounded.specs.declared.Register.{Register}
use Rattle.unbounded.specs.declared.Process.{Process}
use Rattle.unbounded.specs.declared.Task.{Task}
use Rattle.unbounded.specs.declared.Task.TheVariants.{Idle, Scan, Update, Ready}
use Rattle.unbounded.specs.Registers.{read_into}
use Rattle.unbounded.specs.Turns.{place_at, first_after, second_after, end_after, decision}
use Rattle.unbounded.proofs.Reading.{place_below}
use Rattle.unbounded_accesses.specs.declared.Access.{Access}
use Rattle.unbounded_accesses.specs.Accesses.{Sound, is_ready}
use Rattle.unbounded_tasks.specs.Tasks.{task_by}
use Rattle.unbounded_finds.specs.Finds.{nothing_found, find_of}
use Rattle.unbounded_turns.specs.Steps.{with_task, read_by, state_by}
use Rattle.unbounded_turns.proofs.Parts.{with_collected}
use Rattle.packed.specs.Packing.{stored_at, pack_task, pack_mark, packed_over, unpack_record}
use Rattle.packed.proofs.Packing.{Eights, unpack_whole}
use Rattle.packed_turns.specs.Places.{place_in}
use Rattle.packed_turns.proofs.Laid.{end_laid, first_laid, second_laid, eights_with, tidied}

module _ (a : Access) (sound : Sound a) (r : Register) (v : length r.view ≡ 8) where
  abbrev n : ℕ
  n = a.n

  -- the read of an access in its place
  read_laid : (ws : List ℕ) (q : Process) → Eights q → stored_at n r (24 + 20 * place_in n a.pos) (packed_over ws q)
      ≡ packed_over ws
      (with_collected (first_after n a.pos r q.first) (second_after n a.pos r q.second) q.first_end q.view q.moved q)
  unfolding place_in first_after second_after
  read_laid ws q e = go (ltb a.pos n)
    where
      go : (b : Bool) → let i = place_at n a.pos in
          stored_at n r (24 + 20 * cond b i (8 + i)) (packed_over ws q)
          ≡ packed_over ws
          (with_collected (cond b (read_into n r i q.first) q.first) (cond b q.second (read_into n r i q.second))
          q.first_end q.view q.moved q)
      go true = let below = place_below n a.pos sound.within in let small = sound.small in
          first_laid ws q e n r (place_at n a.pos) small v (omega arith)
      go false = let below = place_below n a.pos sound.within in let small = sound.small in
          second_laid ws q e n r (place_at n a.pos) small v (omega arith)

  -- the record of a task that reads, once it found nothing
  read_on_lem : (p : Process) (k : Task) → T (not (is_ready k)) →
      with_collected (first_after n a.pos r p.first) (second_after n a.pos r p.second)
      (end_after n a.pos a.now p.first_end) p.view p.moved (with_task (task_by (nothing_found 0) k) p)
      ≡ state_by a r p (nothing_found 0) k
  unfolding state_by read_by
  read_on_lem p Idle h = refl
  read_on_lem p (Scan t) h = refl
  read_on_lem p (Update w t) h = refl
  read_on_lem p (Ready w at t) h = absurd h

  pub went_on : (ws : List ℕ) (k : Task) → T (not (is_ready k)) → let p = unpack_record ws in
      stored_at n r (24 + 20 * place_in n a.pos)
      (set (sets (sets ws 20 (pack_task (task_by (nothing_found 0) k))) 361 (map pack_mark p.moved)) 344
      (end_after n a.pos a.now p.first_end))
      ≡ packed_over ws (state_by a r p (nothing_found 0) k)
  went_on ws k h =
      let p = unpack_record ws in
      let e = unpack_whole ws in
      let k' = task_by (nothing_found 0) k in
      let end = end_after n a.pos a.now p.first_end in
      let before = eights_with p e k' p.first_end p.view p.moved e.0.view e.1 in
      let after = eights_with p e k' end p.view p.moved e.0.view e.1 in
      let with : ℕ → Process = λ end. with_collected p.first p.second end p.view p.moved (with_task k' p) in
      ap (stored_at n r (24 + 20 * place_in n a.pos))
      (ap (λ l. set l 344 end) (tidied ws k' p.moved e.1) ∙ end_laid ws (with p.first_end) before end)
      ∙ read_laid ws (with end) after
      ∙ ap (packed_over ws) (read_on_lem p k h)

-- a read that does not end its double collect finds nothing
pub nothing_yet : (a : Access) (r : Register) (p : Process) → (a.pos + 1 ≡ 2 * a.n → ⊥) → nothing_found 0 ≡ find_of a r p
unfolding find_of decision
nothing_yet a r p h = rw (ne_eqb (a.pos + 1) (2 * a.n) h)
