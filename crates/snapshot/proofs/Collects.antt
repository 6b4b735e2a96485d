-- What a double collect holds of the registers' histories, and what its end tells: who did not move stood so when the first
-- collect ended (Lemmas 3.1, 4.1), and who was written before it and in it lends a good page (Lemmas 3.2, 4.2).
use Prim.Native.Nat.{ℕ, suc, ◌≤◌, ◌<◌}
use native.Mathlib.Omega.{arith}
use mathlib.Core.Path.{◌≡◌, sym, ap, ◌∙◌, subst}
use Rattle.snapshot.specs.Lists.{each}
use Rattle.snapshot.proofs.Lists.{each_cong}
use Rattle.snapshot.proofs.Registers.{between}
use Rattle.snapshot.proofs.Views.{Good, borrowed}
use Rattle.snapshot.proofs.Traces.{Trace, page_in, History}

module _ (T : Trace) where
  -- what a collect has of register j is what the register held at an instant from low on and before high
  pub record Held (got : T.Register) (j low high : ℕ) : Type 0 where
    pub instant : ℕ
    pub from : low ≤ instant
    pub before : instant < high
    pub same : got ≡ T.stood j instant

  pub held_later : {got : T.Register} {j low high : ℕ} (high' : ℕ) → high ≤ high' → Held got j low high → Held got j low high'
  held_later high' l h =
      record { instant = h.instant; from = h.from; before = let g = h.before in omega arith; same = h.same }

  pub held_same : {got : T.Register} {j low high : ℕ} (got' : T.Register) → got' ≡ got → Held got j low high →
      Held got' j low high
  held_same got' q h = record { instant = h.instant; from = h.from; before = h.before; same = q ∙ h.same }

  -- the two collects of a double collect begun at b, the first of which ended with event `end`, have a j and c j of register j
  pub record Collected (n b e end : ℕ) (a c : ℕ → T.Register) : Type 0 where
    pub start : ℕ
    pub from : b ≤ start
    pub firsts : (j : ℕ) → j < n → Held (a j) j start end
    pub seconds : (j : ℕ) → j < n → Held (c j) j end (suc e)

  module _ (n : ℕ) {s b e end : ℕ} {a c : ℕ → T.Register} (L : (j : ℕ) → j < n → History T n j e) (C : Collected n b e end a c)
      (sb : s ≤ b) where
    -- the first collect ended after the scan began, and before now
    ended : (j : ℕ) → j < n → (s < end) × (end ≤ e)
    ended j l =
        let f = C.firsts j l in
        let g = C.seconds j l in
        let m = C.from in
        let f1 = f.from in
        let f2 = f.before in
        let g1 = g.from in
        let g2 = g.before in
        (omega arith, omega arith)

    -- nobody was written between the two reads
    pub collect_clean : 0 < n →
        ((j : ℕ) (l : j < n) → T.writes j (C.firsts j l).instant ≡ T.writes j (C.seconds j l).instant) →
        Good (page_in T n) s e (each n (λ j. T.value (c j))) end
    collect_clean z still =
        let w = ended 0 z in
        record {
          late = w.0;
          early = w.1;
          true = each_cong n (λ j. T.value (c j)) (λ j. T.value (T.stood j end)) (λ j l. ap T.value (still_stood j l));
        }
      where
        still_stood : (j : ℕ) → j < n → c j ≡ T.stood j end
        still_stood j l =
            let f = C.firsts j l in
            let g = C.seconds j l in
            let f2 = f.before in
            let g2 = g.before in
            g.same
            ∙ sym (between (T.stood j) (T.writes j) e (L j l).counted f.instant end g.instant
            (omega arith) g.from (omega arith) (still j l))

    -- j was written since the scan began, and again since this double collect did
    pub collect_lent : (j : ℕ) (l : j < n) → T.writes j s < T.writes j b →
        T.writes j b < T.writes j (C.seconds j l).instant → Good (page_in T n) s e (T.view (c j)) (T.at (c j))
    collect_lent j l k d =
        let g = C.seconds j l in
        let g1 = g.from in
        let g2 = g.before in
        let w = (ended j l).0 in
        subst (λ r. Good (page_in T n) s e (T.view r) (T.at r)) (sym g.same)
        (borrowed (page_in T n) (λ t. T.at (T.stood j t)) (λ t. T.view (T.stood j t)) (λ t. suc (T.writes j t)) (T.writes j)
        (T.Made j) e (L j l).viewed s g.instant (omega arith) (omega arith) (omega arith))

    -- who was written since this double collect began was written since the scan did, as it stands now
    pub collect_moved : (j : ℕ) (l : j < n) → T.writes j b < T.writes j (C.seconds j l).instant →
        T.writes j s < T.writes j e
    collect_moved j l d =
        let g = C.seconds j l in
        let g1 = g.from in
        let g2 = g.before in
        let w = ended j l in
        let w0 = w.0 in
        let f = C.firsts j l in
        let f1 = f.from in
        let f2 = f.before in
        let m = C.from in
        let r1 = (L j l).counted.rises s b sb (omega arith) in
        let r2 = (L j l).counted.rises g.instant e (omega arith) (omega arith) in
        omega arith
