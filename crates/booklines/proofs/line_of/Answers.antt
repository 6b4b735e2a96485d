-- `booklines::line_of` meets its contract.
use borrow.Author.Tests.{eq-eqb, ne_eqb}
use Rattle.booklines.specs.PlaceText.{place_line}
use Rattle.booklines.proofs.line_of.Goals as goal

pub returns-then-place-eq2 : goal.returns-then-place-eq2
unfolding place_line
returns-then-place-eq2 c = simp (eq-eqb _ _ c.if-place-eq2.true)

pub returns : goal.returns
unfolding place_line
returns c = simp (ne_eqb _ _ c.if-place-eq2.false)
