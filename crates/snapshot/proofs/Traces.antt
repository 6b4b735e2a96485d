-- The registers of a method through a history, and the laws that hold of each up to an instant, however its writes are counted.
use Prim.Native.Nat.{ℕ, suc, ◌≤◌, ◌<◌}
use native.Mathlib.Omega.{arith}
use native.Mathlib.Decide.{dec_le}
use mathlib.Core.Path.{◌≡◌, ap}
use mathlib.Core.Logic.{by_cases}
use mathlib.Core.List.{List}
use Rattle.snapshot.specs.Lists.{each}
use Rattle.snapshot.proofs.Registers.{Counted, counted_start, counted_stays, counted_writes}
use Rattle.snapshot.proofs.Views.{Good, Viewed, viewed_start, viewed_stays, viewed_writes}

pub record Trace : Type 1 where
  pub Register : Type 0
  pub Value : Type 0
  -- what a page shows of a register; the page in it, and the instant that this page is said to be of
  pub value : Register → Value
  pub view : Register → List Value
  pub at : Register → ℕ
  -- the event number of its last writing
  pub last : Register → ℕ
  -- register j at instant t, and how often it was written by then
  pub stood : (j t : ℕ) → Register
  pub writes : (j t : ℕ) → ℕ
  -- what a method knows besides of register j at instant t, where an update called at u or later wrote it
  pub Made : (j u t : ℕ) → Type 0

module _ (T : Trace) (n : ℕ) where
  -- the page of instant t
  abbrev pub page_in : ℕ → List T.Value
  page_in t = each n (λ j. T.value (T.stood j t))

  -- register j up to instant e; an update that wrote it when it had been written twice since u was called at u or later
  pub record History (j e : ℕ) : Type 0 where
    pub counted : Counted (T.stood j) (T.writes j) e
    pub viewed : Viewed page_in (λ t. T.at (T.stood j t)) (λ t. T.view (T.stood j t))
        (λ t. suc (T.writes j t)) (T.writes j) (T.Made j) e
    pub few : T.writes j e ≤ e
    pub past : T.last (T.stood j e) ≤ e

  module _ (j : ℕ) where
    pub history_start : T.at (T.stood j 0) ≡ 0 → T.view (T.stood j 0) ≡ page_in 0 → T.writes j 0 ≡ 0 →
        T.last (T.stood j 0) ≡ 0 → History j 0
    history_start a s c l =
        record {
          counted = counted_start (T.stood j) (T.writes j);
          viewed = viewed_start page_in (λ t. T.at (T.stood j t)) (λ t. T.view (T.stood j t))
              (λ t. suc (T.writes j t)) (T.writes j) (T.Made j) a s (omega arith);
          few = omega arith;
          past = omega arith;
        }

    module _ (e : ℕ) (h : History j e) where
      pub history_stays : T.stood j (suc e) ≡ T.stood j e → T.writes j (suc e) ≡ T.writes j e →
          ((u : ℕ) → T.Made j u e → T.Made j u (suc e)) → History j (suc e)
      history_stays r c later =
          record {
            counted = counted_stays (T.stood j) (T.writes j) e h.counted r c;
            viewed = viewed_stays page_in (λ t. T.at (T.stood j t)) (λ t. T.view (T.stood j t))
                (λ t. suc (T.writes j t)) (T.writes j) (T.Made j) e h.viewed
                (ap T.at r) (ap T.view r) c (omega arith) later;
            few = let f = h.few in omega arith;
            past = let f = h.past in let q = ap T.last r in omega arith;
          }

      -- it is written with a good page by an update called at c, since which it was not written
      pub history_writes : (c : ℕ) → Good page_in c e (T.view (T.stood j (suc e))) (T.at (T.stood j (suc e))) →
          T.writes j c ≡ T.writes j e → T.writes j (suc e) ≡ suc (T.writes j e) →
          T.last (T.stood j (suc e)) ≡ suc e → ((u : ℕ) → u ≤ c → T.Made j u (suc e)) → History j (suc e)
      history_writes c g own more now made =
          record {
            counted = counted_writes (T.stood j) (T.writes j) e h.counted (omega arith);
            viewed = viewed_writes page_in (λ t. T.at (T.stood j t)) (λ t. T.view (T.stood j t))
                (λ t. suc (T.writes j t)) (T.writes j) (T.Made j) e h.viewed c g called_late made;
            few = let f = h.few in omega arith;
            past = omega arith;
          }
        where
          called_late : (u : ℕ) → u ≤ suc e → suc (T.writes j u) < T.writes j (suc e) → u ≤ c
          called_late u l b =
              by_cases (dec_le u c) (λ k. k)
              (λ k. by_cases (dec_le u e)
              (λ m. absurd (let r = h.counted.rises c u (omega arith) m in omega arith))
              (λ m. absurd (let q = ap (T.writes j) (let x : u ≡ suc e = omega arith in x) in omega arith)))
