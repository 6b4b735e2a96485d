-- `unbounded_finds::collects::lay` meets its contract.
use Rattle.unbounded.specs.Registers.{laid}
use Rattle.unbounded_finds.proofs.collects.lay.Goals as goal

pub returns : goal.returns
unfolding laid
returns c = rw c.over_values.ensures
