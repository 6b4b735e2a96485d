-- The register is laid into its place of the first collect, or of the second.
use Prim.Native.Nat.{ℕ}
use mathlib.Core.Path.{ap, ◌∙◌}
use borrow.Author.Tests.{lt-ltb, le-ltb}
use lib.ListN.{get_or, set}
use Rattle.unbounded.specs.Registers.{no_register, laid}
use Rattle.unbounded_turns.proofs.Parts.{with_first, with_second}
use Rattle.unbounded_turns.proofs.Steps.{collected_first, collected_second}
use Rattle.unbounded_turns.proofs.records.collect.Goals as goal

pub returns-then-a : goal.returns-then-a
returns-then-a c =
    let s = c.args in
    let a = s.a in
    let p = s.p.now in
    ap (λ z. with_first (set p.first c.place_of-i.result z) p) c.lay.ensures
    ∙ ap (λ (i : ℕ). with_first (set p.first i (laid a.n s.r (get_or p.first i no_register))) p) c.place_of-i.ensures.value
    ∙ collected_first a s.r p (lt-ltb a.pos a.n c.if-a.true)

pub returns-else-a : goal.returns-else-a
returns-else-a c =
    let s = c.args in
    let a = s.a in
    let p = s.p.now in
    ap (λ z. with_second (set p.second c.place_of-i.result z) p) c.lay-else-a.ensures
    ∙ ap (λ (i : ℕ). with_second (set p.second i (laid a.n s.r (get_or p.second i no_register))) p) c.place_of-i.ensures.value
    ∙ collected_second a s.r p (le-ltb a.pos a.n c.if-a.false)
