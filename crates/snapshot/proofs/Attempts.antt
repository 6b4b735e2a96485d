-- The double collects that a scan attempts, counted by its marks: fewer than n fail, so a scan ends (Lemmas 3.4, 4.4). A double
-- collect takes k turns; writes j t is how often register j was written by instant t.
use Prim.Native.Nat.{ℕ, suc, ◌+◌, ◌*◌, ◌%◌, ◌≤◌, ◌<◌}
use native.Mathlib.Omega.{arith}
use lib.Arith.{digits_lt, digits_mod}
use mathlib.Core.Path.{◌≡◌, sym, ap, ◌∙◌}
use mathlib.Core.Logic.{◌⊎◌, ⊎_elim}
use mathlib.Core.Bool.{Bool, true, false, false≢true}
use Rattle.snapshot.proofs.Booleans.{bool_cases}
use Rattle.snapshot.proofs.Lists.{below, below_less, below_missing}

module _ (n k : ℕ) (writes : ℕ → ℕ → ℕ) where
  -- process i, whose scan began at instant s, after t turns of it, at instant e: `failed` double collects ended without a page,
  -- and the one that began at instant `begun` has had `pos` turns
  pub record Attempts (i s : ℕ) (marked : ℕ → Bool) (failed pos begun t e : ℕ) : Type 0 where
    pub turns : t ≡ failed * k + pos
    pub low : pos < k
    pub since : s ≤ begun
    pub until : begun ≤ e
    -- a mark on j: j was written since the scan began and before this double collect did
    pub moved : (j : ℕ) → j < n → marked j ≡ true → writes j s < writes j begun
    pub enough : failed ≤ below marked n
    -- the process itself has not written
    pub own : writes i s ≡ writes i e

  pub attempts_start : (i s e : ℕ) (marked : ℕ → Bool) → 0 < k → s ≤ e → ((j : ℕ) → marked j ≡ false) → writes i s ≡ writes i e →
      Attempts i s marked 0 0 e 0 e
  attempts_start i s e marked z l h own =
      record {
        turns = omega arith;
        low = z;
        since = l;
        until = omega arith;
        moved = λ j m q. absurd (false≢true (sym (h j) ∙ q));
        enough = omega arith;
        own = own;
      }

  module _ {i s : ℕ} {marked : ℕ → Bool} {failed pos begun t e : ℕ} (S : Attempts i s marked failed pos begun t e) where
    pub attempts_position : t % k ≡ pos
    attempts_position = ap (λ u. u % k) S.turns ∙ digits_mod failed S.low

    -- another process's event
    pub attempts_wait : writes i (suc e) ≡ writes i e → Attempts i s marked failed pos begun t (suc e)
    attempts_wait q =
        record {
          turns = S.turns;
          low = S.low;
          since = S.since;
          until = let u = S.until in omega arith;
          moved = S.moved;
          enough = S.enough;
          own = S.own ∙ sym q;
        }

    -- its own turn, in the same double collect
    pub attempts_go : pos + 1 < k → writes i (suc e) ≡ writes i e → Attempts i s marked failed (pos + 1) begun (t + 1) (suc e)
    attempts_go l q =
        record {
          turns = let u = S.turns in omega arith;
          low = l;
          since = S.since;
          until = let u = S.until in omega arith;
          moved = S.moved;
          enough = S.enough;
          own = S.own ∙ sym q;
        }

    module _ (il : i < n) (rises : (j : ℕ) → j < n → writes j begun ≤ writes j e) where
      -- the process has no mark of its own, so fewer than n have one
      pub attempts_patient : t < n * k
      attempts_patient =
          let r = below_missing n i marked il own_unmarked in
          let m = S.enough in
          let d = digits_lt {q = failed} {m = n} {r = pos} {c = k} (omega arith) S.low in
          let u = S.turns in
          omega arith
        where
          own_unmarked : marked i ≡ false
          own_unmarked =
              bool_cases (marked i)
              (λ h. absurd (let m = S.moved i il h in let q = S.own in let r = rises i il in omega arith))
              (λ h. h)

      -- its own turn, after which another double collect begins: each mark is a write since the scan began, and there is one more
      pub attempts_next : (marked' moves : ℕ → Bool) → pos + 1 ≡ k → ((j : ℕ) → j < n → writes j (suc e) ≡ writes j e) →
          ((j : ℕ) → j < n → moves j ≡ true → writes j s < writes j e) →
          ((j : ℕ) → marked' j ≡ true → (marked j ≡ true) ⊎ (moves j ≡ true)) →
          ((j : ℕ) → j < n → marked j ≡ true → marked' j ≡ true) →
          (j : ℕ) → j < n → marked j ≡ false → marked' j ≡ true → Attempts i s marked' (suc failed) 0 (suc e) (t + 1) (suc e)
      attempts_next marked' moves last quiet wrote only keep j jl old new =
          record {
            turns = let u = S.turns in omega arith;
            low = omega arith;
            since = let a = S.since in let b = S.until in omega arith;
            until = omega arith;
            moved = λ j l h. ⊎_elim
                (λ g. let m = S.moved j l g in let r = rises j l in let q = quiet j l in omega arith)
                (λ g. let m = wrote j l g in let q = quiet j l in omega arith) (only j h);
            enough = let r = below_less marked marked' n j keep jl old new in let m = S.enough in omega arith;
            own = S.own ∙ sym (quiet i il);
          }
