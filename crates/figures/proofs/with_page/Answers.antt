-- `figures::with_page` meets its contract.
use Prim.Native.Nat.{◌+◌}
use mathlib.Core.Path.{◌≡◌, refl, ◌∙◌}
use mathlib.Core.Bool.{Bool, true, false, not, cond}
use mir.Val.{bool_byte}
use Rattle.figures.specs.Sums.{with_page}
use Rattle.figures.proofs.with_page.Goals as goal

-- a page is borrowed where its lender is not 0
counted : (clean : Bool) → bool_byte (not clean) ≡ cond clean 0 1
counted true = refl
counted false = refl

pub returns-clause-value : goal.returns-clause-value
unfolding with_page
returns-clause-value c =
    let s = c.args.s in
    λ i. record {
      pages = s.pages + 1;
      turns = s.turns + c.from.ensures i;
      borrowed = s.borrowed + (c.from-2.ensures ∙ counted _) i;
      largest = c.max.ensures i;
    }
