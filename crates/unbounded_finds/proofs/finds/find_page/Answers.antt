-- `unbounded_finds::finds::find_page` meets its contract: a decision falls only at the end of a double collect.
use Prim.Native.Nat.{ℕ, ◌+◌, ◌-◌, ◌*◌, ◌≤◌}
use mathlib.Core.Path.{◌≡◌, sym, ap, ◌∙◌}
use mathlib.Core.Logic.{◌≢◌}
use mathlib.Core.List.{List}
use mathlib.Core.Option.{some}
use native.Mathlib.Omega.{arith}
use lib.ListN.{get_or, set}
use Rattle.snapshot.specs.Verdict.{verdict}
use Rattle.snapshot.specs.Marks.{lends}
use Rattle.unbounded.specs.declared.Register.{Register}
use Rattle.unbounded.specs.declared.Process.{Process}
use Rattle.unbounded.specs.Registers.{no_register, ascending, laid, read_into, differs}
use Rattle.unbounded.specs.Turns.{first_after, second_after, end_after}
use Rattle.unbounded.proofs.Reading.{first_waits, second_reads, end_waits, decision_waits, decision_falls}
use Rattle.unbounded_accesses.specs.declared.Access.{Access}
use Rattle.unbounded_tasks.specs.declared.Find.{Find}
use Rattle.unbounded_accesses.specs.Accesses.{Sound}
use Rattle.unbounded_finds.specs.Finds.{nothing_found, decision_find, find_of}
use Rattle.unbounded_finds.proofs.Passed.{find_passed}
use Rattle.unbounded_finds.proofs.finds.find_page.Goals as goal

module _ (a : Access) (r : Register) (p : Process) where
  abbrev x : List Register
  x = first_after a.n a.pos r p.first

  abbrev y : List Register
  y = second_after a.n a.pos r p.second

  abbrev end : ℕ
  end = end_after a.n a.pos a.now p.first_end

  -- what two collects find, where the first ended by e
  abbrev between : (first second : List Register) → (e : ℕ) → Find
  between first second e =
      let d = differs ascending first second in decision_find a.n e second (some (verdict a.n d (lends d p.moved)))

  -- what is found passes no more than eight processes
  abbrev Finds : Find → Type 0
  Finds f = (f ≡ find_of a r p) × (f.passed ≤ 8)

  few : (f : Find) → Sound a → f ≡ find_of a r p → Finds f
  few f s e = let q = ap (λ (g : Find). g.passed) e in (e, omega (arith, find_passed a r p, s.small))

  -- any read but the last of a double collect
  finds-nothing : (f : Find) → Sound a → a.pos + 1 ≢ 2 * a.n → f ≡ nothing_found 0 → Finds f
  unfolding find_of
  finds-nothing f s h e =
      few f s (e ∙ sym (ap (decision_find a.n end y) (decision_waits a.n ascending a.pos x y p.moved h)))

  -- the last, where z is laid into the second collect
  finds-last : (f : Find) (z : Register) → Sound a → a.pos + 1 ≡ 2 * a.n →
      z ≡ laid a.n r (get_or p.second (a.pos - a.n) no_register) →
      f ≡ between p.first (set p.second (a.pos - a.n) z) p.first_end → Finds f
  unfolding find_of read_into
  finds-last f z s h d e =
      let i = a.pos - a.n in
      let some = s.some in
      let back : a.n + i ≡ a.pos = omega arith in
      let first = sym (first_waits a.n r a.pos p.first (omega arith)) in
      let second =
      ap (set p.second i) d
      ∙ sym (second_reads a.n r i p.second)
      ∙ ap (λ k. second_after a.n k r p.second) back in
      let ended = sym (end_waits a.n a.pos a.now p.first_end (λ q. omega arith)) in
      few f s
      (e
      ∙ (λ t. between (first t) (second t) (ended t))
      ∙ sym (ap (decision_find a.n end y) (decision_falls a.n ascending a.pos x y p.moved h)))

pub returns-then-pos-n : goal.returns-then-pos-n
returns-then-pos-n c =
    let s = c.args in
    let q = finds-nothing s.a s.r s.p.now _ c.requires c.if-pos-n.true c.nothing_found.ensures in
    record { value = q.0; passed_bound = q.1 }

pub returns : goal.returns
returns c =
    let s = c.args in
    let last = c.if-pos-n.false in
    let laid = c.lay in
    let q = finds-last s.a s.r s.p.now _ laid.result c.requires last laid.ensures c.decide.ensures in
    record { value = q.0; passed_bound = q.1 }
