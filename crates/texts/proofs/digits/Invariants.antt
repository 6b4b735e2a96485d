use mathlib.Core.Path.{◌≡◌}
use lib.ListN.{length}
use Rattle.texts.specs.Decimal.{trailing_digits}
use Rattle.texts.specs.Laying.{with_text}
use Rattle.texts.proofs.digits.Given as goal

-- what is left to be stored before place i, and what is stored, are the k digits
abbrev pub invariant-loop-i : goal.invariant-loop-i
invariant-loop-i l = (length l.out ≡ length l.initial.out) × (with_text l.out l.at (trailing_digits l.i l.rest) ≡ with_text l.initial.out l.at (trailing_digits l.k l.n))
