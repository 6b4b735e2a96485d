-- Where a file did not come whole there is no line.
use Rattle.std.proofs.Common.{ap}
use Rattle.texts.proofs.Laying.{none_laid}
use Rattle.day_figures.specs.Runs.{line_of}
use Rattle.day_figures.proofs.lay.Goals as goal

pub returns-in-None : goal.returns-in-None
returns-in-None c =
    let a = c.args in none_laid a.out.now (ap (line_of a.desks a.answers.now) c.in-None.is)
