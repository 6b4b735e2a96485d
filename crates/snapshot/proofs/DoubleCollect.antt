-- The end of a double collect: what its verdict tells, and what it leaves, over the registers' histories.
use Prim.Native.Nat.{ℕ, suc, ◌+◌, ◌≤◌, ◌<◌}
use native.Mathlib.Omega.{arith}
use mathlib.Core.Path.{◌≡◌, refl}
use mathlib.Core.Logic.{◌≢◌}
use mathlib.Core.Bool.{Bool, true, false, cond}
use mathlib.Core.List.{List}
use lib.ListN.{length}
use lib.Dec.{eqb, ltb}
use borrow.Author.Tests.{eqb-true, eqb-false, ltb-true, ltb-false, eq-eqb, ne_eqb, lt-ltb, le-ltb}
use Rattle.snapshot.specs.Lists.{each, first_below}
use Rattle.snapshot.specs.Verdict.{Verdict, clean, lent, again, verdict}
use Rattle.snapshot.specs.Marks.{is_moved, lends, mark_from}
use Rattle.snapshot.proofs.Lists.{first_below_le, first_below_before, first_below_holds}
use Rattle.snapshot.proofs.Marks.{lends_moved, lends_marked, unmarked, marks_keep, marks_only, marks_set}
use Rattle.snapshot.proofs.Views.{Good}
use Rattle.snapshot.proofs.Traces.{Trace, page_in, History}
use Rattle.snapshot.proofs.Collects.{Collected, collect_clean, collect_lent, collect_moved}
use Rattle.snapshot.proofs.Attempts.{Attempts, attempts_next}

module _ (n : ℕ) (moved lends : ℕ → Bool) where
  -- the facts behind each verdict
  pub data Ends : Verdict → Type 0 where
    nobody : ((j : ℕ) → j < n → moved j ≡ false) → Ends clean
    lender : (j : ℕ) → j < n → lends j ≡ true → ((i : ℕ) → i < j → lends i ≡ false) → Ends (lent j)
    goes_on : (j : ℕ) → j < n → moved j ≡ true → ((i : ℕ) → i < n → lends i ≡ false) → Ends again

  pub verdict_ends : Ends (verdict n moved lends)
  unfolding verdict
  verdict_ends = first (eqb (first_below n moved) n) refl
    where
      second : (first_below n moved ≡ n → ⊥) → (b : Bool) → ltb (first_below n lends) n ≡ b →
          Ends (cond b (lent (first_below n lends)) again)
      second m true q =
          let l = ltb-true (first_below n lends) n q in
          lender (first_below n lends) l (first_below_holds lends n l) (first_below_before lends n)
      second m false q =
          let g = ltb-false (first_below n lends) n q in
          let l = first_below_le moved n in
          let l' : first_below n moved < n = omega arith in
          goes_on (first_below n moved) l' (first_below_holds moved n l') (λ i h. first_below_before lends n i (omega arith))

      first : (b : Bool) → eqb (first_below n moved) n ≡ b →
          Ends (cond b clean (cond (ltb (first_below n lends) n) (lent (first_below n lends)) again))
      first true q = let e = eqb-true (first_below n moved) n q in nobody (λ j l. first_below_before moved n j (omega arith))
      first false q = second (eqb-false (first_below n moved) n q) (ltb (first_below n lends) n) refl

  -- the verdicts, by what the two searches find
  pub verdict_clean : first_below n moved ≡ n → verdict n moved lends ≡ clean
  unfolding verdict
  verdict_clean q = rw (eq-eqb (first_below n moved) n q)

  pub verdict_lent : first_below n moved ≢ n → first_below n lends < n → verdict n moved lends ≡ lent (first_below n lends)
  unfolding verdict
  verdict_lent q l = rw (ne_eqb (first_below n moved) n q, lt-ltb (first_below n lends) n l)

  pub verdict_again : first_below n moved ≢ n → n ≤ first_below n lends → verdict n moved lends ≡ again
  unfolding verdict
  verdict_again q l = rw (ne_eqb (first_below n moved) n q, le-ltb (first_below n lends) n l)

-- ---- over the registers' histories

module _ (T : Trace) (n k : ℕ) {i s failed pos begun t e end : ℕ} (ms : List Bool) {a c : ℕ → T.Register} (il : i < n)
    (L : (j : ℕ) → j < n → History T n j e) (S : Attempts n k T.writes i s (is_moved ms) failed pos begun t e)
    (C : Collected T n begun e end a c) (moved : ℕ → Bool) where
  -- what the end of a double collect leaves by its verdict: a good page, or the next attempt
  abbrev pub Ended : Verdict → Type 0
  Ended clean = Good (page_in T n) s e (each n (λ j. T.value (c j))) end
  Ended (lent j) = Good (page_in T n) s e (T.view (c j)) (T.at (c j))
  Ended again = Attempts n k T.writes i s (is_moved (mark_from moved n 0 ms)) (suc failed) 0 (suc e) (t + 1) (suc e)

  -- it ends so where who did not move was not written between the two reads, and who moved was since the double collect began
  pub double_collect_ends : n ≤ length ms → pos + 1 ≡ k → ((j : ℕ) → j < n → T.writes j (suc e) ≡ T.writes j e) →
      ((j : ℕ) (l : j < n) → moved j ≡ false → T.writes j (C.firsts j l).instant ≡ T.writes j (C.seconds j l).instant) →
      ((j : ℕ) (l : j < n) → moved j ≡ true → T.writes j begun < T.writes j (C.seconds j l).instant) →
      Ended (verdict n moved (lends moved ms))
  double_collect_ends lm last quiet still stirred = go (verdict_ends n moved (lends moved ms))
    where
      go : {v : Verdict} → Ends n moved (lends moved ms) v → Ended v
      go (nobody h) = collect_clean T n L C S.since (omega arith) (λ j l. still j l (h j l))
      go (lender j l h first) =
          collect_lent T n L C S.since j l (S.moved j l (lends_marked moved ms j h)) (stirred j l (lends_moved moved ms j h))
      go (goes_on j l d h) =
          attempts_next n k T.writes S il (λ u w. (L u w).counted.rises begun e S.until (omega arith))
          (is_moved (mark_from moved n 0 ms)) moved last quiet (λ u w d. collect_moved T n L C S.since u w (stirred u w d))
          (marks_only moved n 0 ms) (λ u w. marks_keep moved n 0 ms u) j l
          (unmarked moved ms j d (h j l)) (marks_set moved n 0 ms j (omega arith) (omega arith) (omega arith) d)
