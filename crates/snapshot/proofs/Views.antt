-- The views in one register's history, and what makes a borrowed page fresh (Lemmas 3.2 and 4.2).
-- page t is the page of instant t; at instant t the register shows the page `shows t`, said to be that of instant `at t`.
use Prim.Native.Nat.{ℕ, suc, ◌≤◌, ◌<◌}
use native.Mathlib.Omega.{arith}
use native.Mathlib.Decide.{dec_le}
use mathlib.Core.Path.{◌≡◌, sym, ap, ◌∙◌, subst}
use mathlib.Core.Logic.{by_cases}

-- a page and its instant are good for a scan begun at instant s and still running at e: later than s, and the page of that
-- instant
pub record Good {X : Type 0} (page : ℕ → X) (s e : ℕ) (x : X) (a : ℕ) : Type 0 where
  pub late : s < a
  pub early : a ≤ e
  pub true : x ≡ page a

module _ {X : Type 0} (page : ℕ → X) where
  pub good_later : {s e e' : ℕ} {x : X} {a : ℕ} → e ≤ e' → Good page s e x a → Good page s e' x a
  good_later l g = record { late = g.late; early = let h = g.early in omega arith; true = g.true }

  -- writes t: how often the register was written by instant t; begun u: a write counted above this began after instant u;
  -- Made u t: what a method knows besides of such a write, as the register has it at t
  module _ (at : ℕ → ℕ) (shows : ℕ → X) (begun writes : ℕ → ℕ) (Made : (u t : ℕ) → Type 0) where
    -- up to instant e: the register's instant is no later than now, its view is the page of that instant, and it is fresh
    pub record Viewed (e : ℕ) : Type 0 where
      pub past : (t : ℕ) → t ≤ e → at t ≤ t
      pub true : (t : ℕ) → t ≤ e → shows t ≡ page (at t)
      pub fresh : (u t : ℕ) → u ≤ t → t ≤ e → begun u < writes t → (u < at t) × Made u t

    pub viewed_start : at 0 ≡ 0 → shows 0 ≡ page 0 → writes 0 ≤ begun 0 → Viewed 0
    viewed_start a s c =
        record {
          past = λ t l. subst (λ k. at k ≤ k) (omega arith) (let z : at 0 ≤ 0 = omega arith in z);
          true = λ t l. subst (λ k. shows k ≡ page (at k)) (omega arith) (s ∙ ap page (sym a));
          fresh = λ u t l m b. absurd (never u t (omega arith) (omega arith) b);
        }
      where
        never : (u t : ℕ) → u ≡ 0 → t ≡ 0 → begun u < writes t → ⊥
        never u t p q b = let x = ap begun p in let y = ap writes q in omega arith

    module _ (e : ℕ) (h : Viewed e) where
      viewed_next : at (suc e) ≤ suc e → shows (suc e) ≡ page (at (suc e)) →
          ((u : ℕ) → u ≤ suc e → begun u < writes (suc e) → (u < at (suc e)) × Made u (suc e)) → Viewed (suc e)
      viewed_next p s f =
          record {
            past = λ t l. by_cases (dec_le t e) (λ g. h.past t g) (λ g. subst (λ k. at k ≤ k) (omega arith) p);
            true = λ t l. by_cases (dec_le t e) (λ g. h.true t g) (λ g. subst (λ k. shows k ≡ page (at k)) (omega arith) s);
            fresh = λ u t l m. by_cases (dec_le t e) (λ g. h.fresh u t l g) (λ g. last u t l (omega arith));
          }
        where
          last : (u t : ℕ) → u ≤ t → t ≡ suc e → begun u < writes t → (u < at t) × Made u t
          last u t l q = subst (λ k. begun u < writes k → (u < at k) × Made u k) (sym q) (f u (omega arith))

      -- the register stays as it is
      pub viewed_stays : at (suc e) ≡ at e → shows (suc e) ≡ shows e → writes (suc e) ≡ writes e →
          writes (suc e) ≤ begun (suc e) →
          ((u : ℕ) → Made u e → Made u (suc e)) → Viewed (suc e)
      viewed_stays a s c b later =
          let p = h.past e (omega arith) in
          viewed_next (omega arith) (s ∙ h.true e (omega arith) ∙ ap page (sym a)) fresh_still
        where
          fresh_still : (u : ℕ) → u ≤ suc e → begun u < writes (suc e) → (u < at (suc e)) × Made u (suc e)
          fresh_still u l m =
              by_cases (dec_le u e)
              (λ g. let w = h.fresh u e g (omega arith) (omega arith) in let l = w.0 in (omega arith, later u w.1))
              (λ g. absurd (let q = ap begun (let x : u ≡ suc e = omega arith in x) in omega arith))

      -- it is written with a good page by an update called at c, and no write begun after c was counted before
      pub viewed_writes : (c : ℕ) → Good page c e (shows (suc e)) (at (suc e)) →
          ((u : ℕ) → u ≤ suc e → begun u < writes (suc e) → u ≤ c) → ((u : ℕ) → u ≤ c → Made u (suc e)) → Viewed (suc e)
      viewed_writes c g f made =
          let early = g.early in
          let late = g.late in
          viewed_next (omega arith) g.true (λ u l m. let w = f u l m in (omega arith, made u w))

      -- a register that was written twice since u, or as a method counts it, lends a page that is good for a scan begun at u
      pub borrowed : (u t : ℕ) → u ≤ t → t ≤ e → begun u < writes t → Good page u e (shows t) (at t)
      borrowed u t l m b =
          let p = h.past t m in
          record { late = (h.fresh u t l m b).0; early = omega arith; true = h.true t m }
