-- The invariant of a process that scans, and what one reading turn makes of it: the scan goes on, or it finds a good page.
use Prim.Native.Nat.{ℕ, suc, ◌+◌, ◌*◌, ◌≤◌, ◌<◌}
use native.Mathlib.Omega.{arith}
use mathlib.Core.Path.{◌≡◌, refl, sym, subst}
use mathlib.Core.Logic.{inl, inr}
use mathlib.Core.Bool.{Bool}
use mathlib.Core.List.{List}
use mathlib.Core.Option.{Option, none, some}
use lib.ListN.{length, take}
use Rattle.snapshot.specs.declared.Value.{Value}
use Rattle.snapshot.specs.Verdict.{Verdict, clean, lent, again, verdict}
use Rattle.snapshot.specs.Marks.{is_moved, none_moved, lends, Found}
use Rattle.snapshot.proofs.Marks.{none_moved_lem}
use Rattle.snapshot.proofs.Views.{Good}
use Rattle.snapshot.proofs.Traces.{page_in, History}
use Rattle.snapshot.proofs.Attempts.{Attempts, attempts_start, attempts_position, attempts_wait, attempts_go, attempts_patient}
use Rattle.snapshot.proofs.DoubleCollect.{Ended, double_collect_ends}
use Rattle.unbounded.specs.declared.Register.{Register}
use Rattle.unbounded.specs.Registers.{Order, page_of, differs, trimmed}
use Rattle.unbounded.specs.Turns.{position, place_at, first_after, second_after, end_after, decision, marks_after, found}
use Rattle.unbounded.specs.Days.{most_reads}
use Rattle.unbounded.proofs.Reading.{decision_waits, decision_falls}
use Rattle.unbounded.proofs.Scans.{Permutes, trace, Collecting, Complete, Reads}
use Rattle.unbounded.proofs.Scans.{collecting_starts, collecting_waits, collecting_reads, collected, unwritten, stirred}

module _ (n : ℕ) (o : Order) (R : ℕ → ℕ → Register) where
  abbrev seqs : ℕ → ℕ → ℕ
  seqs j t = (R j t).seq

  -- process i, whose scan began at instant s, after t turns, at instant e: its collects a and c, the end of the first, its marks
  pub record Scanning (i s : ℕ) (a c : List Register) (end : ℕ) (ms : List Bool) (t e : ℕ) : Type 0 where
    pub failed : ℕ
    pub pos : ℕ
    pub begun : ℕ
    pub attempts : Attempts n (2 * n) seqs i s (is_moved ms) failed pos begun t e
    pub collects : Collecting n o R begun e a c end pos

  pub scanning_starts : (i s : ℕ) (a c : List Register) (end : ℕ) → 0 < n → Scanning i s a c end none_moved 0 s
  scanning_starts i s a c end z =
      record {
        failed = 0;
        pos = 0;
        begun = s;
        attempts = attempts_start n (2 * n) seqs i s s (is_moved none_moved) (omega arith) (omega arith) none_moved_lem refl;
        collects = collecting_starts n o R s a c end z;
      }

  module _ {i s : ℕ} {a c : List Register} {end : ℕ} {ms : List Bool} {t e : ℕ} (S : Scanning i s a c end ms t e) where
    -- another process's event
    pub scanning_waits : (R i (suc e)).seq ≡ (R i e).seq → Scanning i s a c end ms t (suc e)
    scanning_waits q =
        record {
          failed = S.failed;
          pos = S.pos;
          begun = S.begun;
          attempts = attempts_wait n (2 * n) seqs S.attempts q;
          collects = collecting_waits n o R S.collects;
        }

    pub position_is : position n t ≡ S.pos
    unfolding position
    position_is = attempts_position n (2 * n) seqs S.attempts

    module _ (il : i < n) (L : (j : ℕ) → j < n → History (trace R) n j e) where
      pub scanning_patient : t < most_reads n
      unfolding most_reads
      scanning_patient =
          let p = attempts_patient n (2 * n) seqs S.attempts il
          (λ j l. (L j l).counted.rises S.begun e S.attempts.until (omega arith)) in
          omega arith

      -- its own reading turn, numbered e + 1, leaves the collects a' and c', the end of the first and the marks: if it finds no
      -- page the scan goes on, and if it does the page is good
      abbrev pub Scanned : (a' c' : List Register) (end' : ℕ) (ms' : List Bool) → Option (Found Value) → Type 0
      Scanned a' c' end' ms' none = Scanning i s a' c' end' ms' (t + 1) (suc e)
      Scanned a' c' end' ms' (some f) = Good (page_in (trace R) n) s e f.words f.instant

      pub scanning_reads : Permutes n o → n ≤ length ms → ((j : ℕ) → (R j (suc e)).seq ≡ (R j e).seq) →
          (r : Register) → length (take n r.view) ≡ n → n ≤ length a → n ≤ length c →
          trimmed n r ≡ R (o.register (place_at n S.pos)) e →
          let a' = first_after n S.pos r a in
          let c' = second_after n S.pos r c in
          let end' = end_after n S.pos (suc e) end in
          let v = decision o n S.pos a' c' ms in
          Scanned a' c' end' (marks_after o n a' c' ms v) (found o n c' end' v)
      unfolding marks_after page_of
      scanning_reads P lm quiet r full la lc is = go (collecting_reads n o R r full la lc S.attempts.until is S.collects)
        where
          a' : List Register
          a' = first_after n S.pos r a

          c' : List Register
          c' = second_after n S.pos r c

          end' : ℕ
          end' = end_after n S.pos (suc e) end

          Leaves : Option Verdict → Type 0
          Leaves v = Scanned a' c' end' (marks_after o n a' c' ms v) (found o n c' end' v)

          ends : (C : Complete n o R S.begun e end' a' c') → (v : Verdict) →
              Ended (trace R) n (2 * n) ms il L S.attempts (collected n o R P C) (differs o a' c') v → Leaves (some v)
          ends C clean g = g
          ends C (lent j) g = g
          ends C again g =
              record {
                failed = suc S.failed;
                pos = 0;
                begun = suc e;
                attempts = g;
                collects = collecting_starts n o R (suc e) a' c' end' (omega arith);
              }

          go : Reads n o R S.begun e a c end r S.pos → Leaves (decision o n S.pos a' c' ms)
          go (inl w) =
              let l = w.0 in
              subst Leaves (sym (decision_waits n o S.pos a' c' ms (λ q. omega arith)))
              (record {
                failed = S.failed;
                pos = S.pos + 1;
                begun = S.begun;
                attempts = attempts_go n (2 * n) seqs S.attempts l (quiet i);
                collects = w.1;
              })
          go (inr w) =
              let C = collected n o R P w.1 in
              subst Leaves (sym (decision_falls n o S.pos a' c' ms w.0))
              (ends w.1 (verdict n (differs o a' c') (lends (differs o a' c') ms))
              (double_collect_ends (trace R) n (2 * n) ms il L S.attempts C (differs o a' c') lm w.0 (λ j l. quiet j)
              (unwritten n o R a' c' L C) (stirred n o R a' c' L C)))
