-- `dayfile::refused_span` meets its contract.
use Prim.Native.Nat.{◌+◌, min}
use native.Mathlib.Omega.{arith}
use native.Mathlib.Nat.{min-eq_right}
use mathlib.Core.Path.{sym, ap, ◌∙◌}
use mathlib.Core.Bool.{true, false}
use lib.ListN.{length}
use Rattle.dayfile.proofs.Pieces.{span_if}
use Rattle.dayfile.proofs.refused_span.Goals as goal
use Rattle.dayfile.proofs.refused_span.Goals.{then-eq-via-then-eq, then-eq-via-else-eq+then-left-lt2}

pub returns-then-eq : goal.returns-then-eq
returns-then-eq c =
    let bytes = c.args.bytes.now in
    elim c.then-eq.branch [
      | then-eq-via-then-eq w ↦ span_if bytes c.args.k true (w.if-eq.ensures {u = tt})
      | then-eq-via-else-eq+then-left-lt2 w ↦
          sym (min-eq_right (omega arith)) ∙ span_if bytes c.args.k false (w.if-eq.ensures {u = tt})
    ]

pub returns : goal.returns
returns c =
    let bytes = c.args.bytes.now in
    c.min.ensures ∙ ap (λ n. min (2 + n) (length bytes)) (c.from.ensures ∙ c.field.ensures)
    ∙ span_if bytes c.args.k false (c.if-eq.ensures {u = tt})
