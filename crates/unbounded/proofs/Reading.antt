-- What a read does to the collects: the place it goes to, when a decision falls, and that no array changes its size.
use Prim.Native.Nat.{ℕ, ◌+◌, ◌*◌, ◌-◌, ◌≤◌, ◌<◌}
use native.Mathlib.Nat.{mod-lt}
use native.Mathlib.Omega.{arith}
use mathlib.Core.Path.{◌≡◌, refl}
use mathlib.Core.Logic.{◌≢◌}
use mathlib.Core.Bool.{Bool, true, false, cond}
use mathlib.Core.List.{List, map}
use mathlib.Core.Option.{none, some}
use lib.ListN.{length, length-map, length-replicate}
use lib.Seq.{length-take-le}
use lib.Dec.{ltb}
use borrow.Author.Tests.{ltb-true, ltb-false, lt-ltb, le-ltb, eq-eqb, ne_eqb}
use Rattle.snapshot.specs.declared.Value.{Value}
use Rattle.snapshot.specs.Verdict.{verdict}
use Rattle.snapshot.specs.Marks.{lends, passed}
use Rattle.snapshot.proofs.Lists.{length_over}
use Rattle.snapshot.proofs.Marks.{length_marks}
use Rattle.unbounded.specs.declared.Register.{Register}
use Rattle.unbounded.specs.declared.Process.{Process}
use Rattle.unbounded.specs.declared.Task.{Task}
use Rattle.unbounded.specs.Registers.{zero_register, Order, laid, cleared, read_into, differs}
use Rattle.unbounded.specs.Processes.{emptied, begin}
use Rattle.unbounded.specs.Turns.{position, place_at, first_after, second_after, end_after, decision, marks_after, after_read}
use Rattle.unbounded.proofs.Places.{length_read_into}

-- ---- where a read goes

module _ (n : ℕ) where
  pub position_low : (t : ℕ) → 0 < n → position n t < 2 * n
  unfolding position
  position_low t z = mod-lt t {m = 2 * n} (omega arith)

  pub place_first : (p : ℕ) → p < n → place_at n p ≡ p
  unfolding place_at
  place_first p l = rw (lt-ltb p n l)

  pub place_second : (q : ℕ) → place_at n (n + q) ≡ q
  unfolding place_at
  place_second q = rw (le-ltb (n + q) n (omega arith)) (omega arith)

  pub place_below : (p : ℕ) → p < 2 * n → place_at n p < n
  unfolding place_at
  place_below p l = go (ltb p n) refl
    where
      go : (b : Bool) → ltb p n ≡ b → cond b p (p - n) < n
      go true q = ltb-true p n q
      go false q = let g = ltb-false p n q in omega arith

  module _ (r : Register) where
    pub first_reads : (p : ℕ) (a : List Register) → p < n → first_after n p r a ≡ read_into n r p a
    unfolding first_after
    first_reads p a l = rw (lt-ltb p n l, place_first p l)

    pub first_waits : (p : ℕ) (a : List Register) → n ≤ p → first_after n p r a ≡ a
    unfolding first_after
    first_waits p a l = rw (le-ltb p n l)

    pub second_waits : (p : ℕ) (c : List Register) → p < n → second_after n p r c ≡ c
    unfolding second_after
    second_waits p c l = rw (lt-ltb p n l)

    pub second_reads : (q : ℕ) (c : List Register) → second_after n (n + q) r c ≡ read_into n r q c
    unfolding second_after
    second_reads q c = rw (le-ltb (n + q) n (omega arith), place_second q)

  pub end_waits : (p now end : ℕ) → p + 1 ≢ n → end_after n p now end ≡ end
  unfolding end_after
  end_waits p now end h = rw (ne_eqb (p + 1) n h)

  pub end_reads : (p now end : ℕ) → p + 1 ≡ n → end_after n p now end ≡ now
  unfolding end_after
  end_reads p now end h = rw (eq-eqb (p + 1) n h)

  -- ---- when a decision falls

  module _ (o : Order) where
    pub decision_waits : (p : ℕ) (a c : List Register) (ms : List Bool) → p + 1 ≢ 2 * n → decision o n p a c ms ≡ none
    unfolding decision
    decision_waits p a c ms h = rw (ne_eqb (p + 1) (2 * n) h)

    pub decision_falls : (p : ℕ) (a c : List Register) (ms : List Bool) → p + 1 ≡ 2 * n →
        decision o n p a c ms ≡ some (verdict n (differs o a c) (lends (differs o a c) ms))
    unfolding decision
    decision_falls p a c ms h = rw (eq-eqb (p + 1) (2 * n) h)

-- ---- sizes

-- the arrays of a record have their eight places
pub record Sized (p : Process) : Type 0 where
  pub firsts : 8 ≤ length p.first
  pub seconds : 8 ≤ length p.second
  pub marks : 8 ≤ length p.moved

pub length_cleared : (n : ℕ) (rs : List Register) → n ≤ length rs → length (cleared n rs) ≡ length rs
unfolding cleared
length_cleared n rs l =
    length_over n (map (laid n zero_register) rs) rs
    (length-take-le n (map (laid n zero_register) rs) (let q = length-map rs (laid n zero_register) in omega arith)) l

length_first : (n p : ℕ) (r : Register) (a : List Register) → length (first_after n p r a) ≡ length a
unfolding first_after
length_first n p r a = go (lib.Dec.ltb p n)
  where
    go : (b : Bool) → length (cond b (read_into n r (place_at n p) a) a) ≡ length a
    go true = length_read_into n r (place_at n p) a
    go false = refl

length_second : (n p : ℕ) (r : Register) (c : List Register) → length (second_after n p r c) ≡ length c
unfolding second_after
length_second n p r c = go (lib.Dec.ltb p n)
  where
    go : (b : Bool) → length (cond b c (read_into n r (place_at n p) c)) ≡ length c
    go true = refl
    go false = length_read_into n r (place_at n p) c

pub sized_emptied : (n : ℕ) (r : Register) (k : Task) (p : Process) → n ≤ 8 → Sized p → Sized (emptied n r k p)
sized_emptied n r k p b S =
    let f = S.firsts in
    let s = S.seconds in
    let qf = length_cleared n p.first (omega arith) in
    let qs = length_cleared n p.second (omega arith) in
    record { firsts = omega arith; seconds = omega arith; marks = omega (arith, length-replicate 8 false) }

pub sized_begin : (n : ℕ) (k : Task) (p : Process) → n ≤ 8 → Sized p → Sized (begin n k p)
unfolding begin
sized_begin n k p b S = sized_emptied n p.register k p b S

pub sized_read : (o : Order) (n now pos : ℕ) (r : Register) (p : Process) (k : Task) (v : List Value) → Sized p →
    Sized (after_read o n now pos r p k v)
unfolding after_read marks_after
sized_read o n now pos r p k v S =
    let f = S.firsts in
    let s = S.seconds in
    let m = S.marks in
    let a = first_after n pos r p.first in
    let c = second_after n pos r p.second in
    let qf = length_first n pos r p.first in
    let qs = length_second n pos r p.second in
    let qm = length_marks (differs o a c) (passed n (decision o n pos a c p.moved)) 0 p.moved in
    record { firsts = omega arith; seconds = omega arith; marks = omega arith }
