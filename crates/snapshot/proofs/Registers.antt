-- The history of one register whose writes are counted: R t is what it holds at instant t, writes t how often it was written.
use Prim.Native.Nat.{ℕ, suc, ◌≤◌, ◌<◌}
use native.Mathlib.Omega.{arith}
use native.Mathlib.Decide.{dec_le}
use mathlib.Core.Path.{◌≡◌, sym, ap, ◌∙◌, subst}
use mathlib.Core.Logic.{by_cases}

module _ {A : Type 0} (R : ℕ → A) (writes : ℕ → ℕ) where
  -- up to instant e: the number of writes never falls, and where it stands still nothing was written
  pub record Counted (e : ℕ) : Type 0 where
    pub rises : (u t : ℕ) → u ≤ t → t ≤ e → writes u ≤ writes t
    pub same : (u t : ℕ) → u ≤ t → t ≤ e → writes u ≡ writes t → R u ≡ R t

  pub counted_start : Counted 0
  counted_start =
      record {
        rises = λ u t l m. let q : u ≡ t = omega arith in subst (λ k. writes u ≤ writes k) q (omega arith);
        same = λ u t l m c. ap R (omega arith);
      }

  -- one instant more, at which the register is written or not
  module _ (e : ℕ) (h : Counted e) where
    counted_next : writes e ≤ writes (suc e) → (writes e ≡ writes (suc e) → R e ≡ R (suc e)) → Counted (suc e)
    counted_next l s = record { rises = rises'; same = same' }
      where
        rises' : (u t : ℕ) → u ≤ t → t ≤ suc e → writes u ≤ writes t
        rises' u t ut te =
            by_cases (dec_le t e) (λ g. h.rises u t ut g)
            (λ g. subst (λ k. writes u ≤ writes k) (omega arith) (by_cases (dec_le u e)
            (λ v. let w = h.rises u e v (omega arith) in omega arith)
            (λ v. let q : u ≡ suc e = omega arith in subst (λ k. writes k ≤ writes (suc e)) (sym q) (omega arith))))

        same' : (u t : ℕ) → u ≤ t → t ≤ suc e → writes u ≡ writes t → R u ≡ R t
        same' u t ut te c =
            by_cases (dec_le t e) (λ g. h.same u t ut g c)
            (λ g.
            let q : t ≡ suc e = omega arith in
            by_cases (dec_le u e)
            (λ v.
            let w = h.rises u e v (omega arith) in
            let c' : writes u ≡ writes (suc e) = c ∙ ap writes q in
            h.same u e v (omega arith) (omega arith) ∙ s (omega arith) ∙ ap R (sym q))
            (λ v. ap R (omega arith)))

    pub counted_stays : R (suc e) ≡ R e → writes (suc e) ≡ writes e → Counted (suc e)
    counted_stays r c = counted_next (omega arith) (λ q. sym r)

    pub counted_writes : writes e < writes (suc e) → Counted (suc e)
    counted_writes c = counted_next (omega arith) (λ q. absurd (omega arith))

    -- a register with one number of writes in two reads stood so at every instant between (Figure 3; Lemma 3.1)
    pub between : (u m t : ℕ) → u ≤ m → m ≤ t → t ≤ e → writes u ≡ writes t → R m ≡ R t
    between u m t um mt te c =
        let a = h.rises u m um (omega arith) in
        let b = h.rises m t mt te in
        h.same m t mt te (omega arith)
