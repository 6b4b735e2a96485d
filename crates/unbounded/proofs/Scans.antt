-- A double collect of Figure 3 over the history of the registers: what its reads leave, and that its end tells who was written.
-- R j t is register j at instant t, with n values of view.
use Prim.Native.Nat.{ℕ, suc, ◌+◌, ◌*◌, ◌≤◌, ◌<◌}
use native.Mathlib.Omega.{arith}
use native.Mathlib.Decide.{ℕ_discrete}
use mathlib.Core.Path.{◌≡◌, sym, ap, ◌∙◌, subst}
use mathlib.Core.Logic.{◌⊎◌, inl, inr, by_cases, ◌≢◌}
use mathlib.Core.Bool.{true, false}
use mathlib.Core.List.{List}
use lib.ListN.{length, get_or, take}
use Rattle.snapshot.specs.declared.Value.{Value}
use Rattle.snapshot.proofs.Traces.{Trace, History}
use Rattle.snapshot.proofs.Collects.{Held, held_later, held_same, Collected}
use Rattle.unbounded.specs.declared.Register.{Register}
use Rattle.unbounded.specs.Registers.{no_register, value, Order, collected_at, differs, read_into, trimmed}
use Rattle.unbounded.specs.Turns.{place_at, first_after, second_after, end_after}
use Rattle.unbounded.proofs.Places.{read_into_same, read_into_other}
use Rattle.unbounded.proofs.Moved.{differs_false, differs_true}
use Rattle.unbounded.proofs.Reading.{place_first, place_second, end_reads, end_waits}
use Rattle.unbounded.proofs.Reading.{first_reads, first_waits, second_reads, second_waits}

-- an order of reading n registers: a permutation of the first n numbers, with its inverse
pub record Permutes (n : ℕ) (o : Order) : Type 0 where
  pub register_within : (p : ℕ) → p < n → o.register p < n
  pub place_within : (j : ℕ) → j < n → o.place j < n
  pub register_place : (j : ℕ) → j < n → o.register (o.place j) ≡ j
  pub place_register : (p : ℕ) → p < n → o.place (o.register p) ≡ p

-- the registers, whose writes are counted by their seq
abbrev pub trace : (ℕ → ℕ → Register) → Trace
trace R =
    record {
      Register = Register;
      Value = Value;
      value = value;
      view = λ r. r.view;
      at = λ r. r.at;
      last = λ r. r.value.last;
      stood = R;
      writes = λ j t. (R j t).seq;
      Made = λ j u t. Unit {0};
    }

module _ (n : ℕ) (o : Order) (R : ℕ → ℕ → Register) where
  -- place k of a collect holds its register as it stood at an instant from low on and before high
  abbrev HeldAt : List Register → (k low high : ℕ) → Type 0
  HeldAt rs k low high = Held (trace R) (trimmed n (get_or rs k no_register)) (o.register k) low high

  -- a double collect begun at b, at instant e: with its next read in the first collect, or in the second; `end` is the number of
  -- the turn that ended the first collect; a read's instant is the one before its event
  pub data Collecting (b e : ℕ) (a c : List Register) (end : ℕ) : ℕ → Type 0 where
    in_first : (p : ℕ) → p < n → ((k : ℕ) → k < p → HeldAt a k b e) → Collecting b e a c end p
    in_second : (q : ℕ) → q < n → end ≤ e → ((k : ℕ) → k < n → HeldAt a k b end) → ((k : ℕ) → k < q → HeldAt c k end e) →
        Collecting b e a c end (n + q)

  -- all 2n reads are done
  pub record Complete (b e end : ℕ) (a c : List Register) : Type 0 where
    pub firsts : (k : ℕ) → k < n → HeldAt a k b end
    pub seconds : (k : ℕ) → k < n → HeldAt c k end (suc e)

  pub collecting_starts : (b : ℕ) (a c : List Register) (end : ℕ) → 0 < n → Collecting b b a c end 0
  collecting_starts b a c end h = in_first 0 h (λ k l. absurd (omega arith))

  -- another process's event
  pub collecting_waits : {b e : ℕ} {a c : List Register} {end pos : ℕ} → Collecting b e a c end pos →
      Collecting b (suc e) a c end pos
  collecting_waits {e = e} (in_first p l h) = in_first p l (λ k m. held_later (trace R) (suc e) (omega arith) (h k m))
  collecting_waits {e = e} (in_second q l m f s) =
      in_second q l (omega arith) f (λ k g. held_later (trace R) (suc e) (omega arith) (s k g))

  -- the process's own read, of register r, by the turn numbered e + 1
  module _ (e : ℕ) (r : Register) (full : length (take n r.view) ≡ n) where
    -- a collect with r read into place p, of which the places below p were held
    held_read : (rs : List Register) (p low : ℕ) → n ≤ length rs → p < n → low ≤ e → trimmed n r ≡ R (o.register p) e →
        ((k : ℕ) → k < p → HeldAt rs k low e) → (k : ℕ) → k < p + 1 → HeldAt (read_into n r p rs) k low (suc e)
    held_read rs p low l m g q h k w =
        by_cases (ℕ_discrete k p)
        (λ x. subst (λ i. HeldAt (read_into n r p rs) i low (suc e)) (sym x)
        (record { instant = e; from = g; before = omega arith; same = read_into_same n r p rs (omega arith) full ∙ q }))
        (λ x. held_later (trace R) (suc e) (omega arith)
        (held_same (trace R) (trimmed n (get_or (read_into n r p rs) k no_register)) (ap (trimmed n) (read_into_other n r p rs k x))
        (h k (omega arith))))

  -- what the two collects are after the read at a position: still collecting, or complete
  abbrev pub Reads : (b e : ℕ) (a c : List Register) (end : ℕ) → Register → ℕ → Type 0
  Reads b e a c end r pos =
      let a' = first_after n pos r a in
      let c' = second_after n pos r c in
      let end' = end_after n pos (suc e) end in
      ((pos + 1 < 2 * n) × Collecting b (suc e) a' c' end' (pos + 1)) ⊎ ((pos + 1 ≡ 2 * n) × Complete b e end' a' c')

  pub collecting_reads : {b e : ℕ} {a c : List Register} {end pos : ℕ} (r : Register) → length (take n r.view) ≡ n →
      n ≤ length a → n ≤ length c → b ≤ e → trimmed n r ≡ R (o.register (place_at n pos)) e →
      Collecting b e a c end pos → Reads b e a c end r pos
  collecting_reads {b} {e} {a} {c} {end} r full la lc w q (in_first p l h) =
      let q' : trimmed n r ≡ R (o.register p) e = q ∙ ap (λ i. R (o.register i) e) (place_first n p l) in
      let held = held_read e r full a p b la l w q' h in
      by_cases (ℕ_discrete (p + 1) n)
      (λ x. inl (
        omega arith,
        rw (first_reads n r p a l, second_waits n r p c l, end_reads n p (suc e) end x)
            (subst (λ k. Collecting b (suc e) (read_into n r p a) c (suc e) k) (omega arith)
            (in_second 0 (omega arith) (omega arith) (λ k m. held k (omega arith)) (λ k m. absurd (omega arith)))),
      ))
      (λ x. inl (
        omega arith,
        rw (first_reads n r p a l, second_waits n r p c l, end_waits n p (suc e) end x)
            (in_first (p + 1) (omega arith) held),
      ))
  collecting_reads {b} {e} {a} {c} {end} r full la lc w q (in_second p l m f h) =
      let q' : trimmed n r ≡ R (o.register p) e = q ∙ ap (λ i. R (o.register i) e) (place_second n p) in
      let held = held_read e r full c p end lc l m q' h in
      let late : n + p + 1 ≢ n = λ x. omega arith in
      by_cases (ℕ_discrete (p + 1) n)
      (λ x. inr (
        omega arith,
        rw (first_waits n r (n + p) a (omega arith), second_reads n r p c, end_waits n (n + p) (suc e) end late)
            (record { firsts = f; seconds = λ k g. held k (omega arith) }),
      ))
      (λ x. inl (
        omega arith,
        rw (first_waits n r (n + p) a (omega arith), second_reads n r p c, end_waits n (n + p) (suc e) end late)
            (subst (λ k. Collecting b (suc e) a (read_into n r p c) end k) (omega arith)
            (in_second (p + 1) (omega arith) (omega arith) f held)),
      ))

  -- ---- the end of a double collect, register by register

  module _ (P : Permutes n o) {b e end : ℕ} {a c : List Register} (C : Complete b e end a c) where
    pub collected : Collected (trace R) n b e end (λ j. trimmed n (collected_at o a j)) (λ j. trimmed n (collected_at o c j))
    collected =
        record {
          start = b;
          from = omega arith;
          firsts = λ j l. placed a j l (C.firsts (o.place j) (P.place_within j l));
          seconds = λ j l. placed c j l (C.seconds (o.place j) (P.place_within j l));
        }
      where
        placed : (rs : List Register) {low high : ℕ} (j : ℕ) → j < n → HeldAt rs (o.place j) low high →
            Held (trace R) (trimmed n (collected_at o rs j)) j low high
        placed rs {low} {high} j l h =
            subst (λ k. Held (trace R) (trimmed n (collected_at o rs j)) k low high) (P.register_place j l) h

-- who did not differ was not written between the two reads, and who differed was
module _ (n : ℕ) (o : Order) (R : ℕ → ℕ → Register) {b e end : ℕ} (a c : List Register)
    (L : (j : ℕ) → j < n → History (trace R) n j e)
    (C : Collected (trace R) n b e end (λ j. trimmed n (collected_at o a j)) (λ j. trimmed n (collected_at o c j)))
    (j : ℕ) (l : j < n) where
  pub unwritten : differs o a c j ≡ false → (R j (C.firsts j l).instant).seq ≡ (R j (C.seconds j l).instant).seq
  unwritten d =
      sym (ap (λ r. r.seq) (C.firsts j l).same) ∙ differs_false o a c j d ∙ ap (λ r. r.seq) (C.seconds j l).same

  pub stirred : differs o a c j ≡ true → (R j b).seq < (R j (C.seconds j l).instant).seq
  stirred d =
      let f = C.firsts j l in
      let g = C.seconds j l in
      let f1 = f.from in
      let f2 = f.before in
      let g1 = g.from in
      let g2 = g.before in
      let m = C.from in
      let r1 = (L j l).counted.rises b f.instant (omega arith) (omega arith) in
      let r2 = (L j l).counted.rises f.instant g.instant (omega arith) (omega arith) in
      let ne : (R j f.instant).seq ≢ (R j g.instant).seq =
      λ q. differs_true o a c j d (ap (λ r. r.seq) f.same ∙ q ∙ sym (ap (λ r. r.seq) g.same)) in
      omega arith
