-- `figurelines::lay_reckoning` meets its contract.
use Rattle.figurelines.specs.FigureText.{reckoning_text}
use Rattle.figurelines.proofs.Texts.{refusal_laid}
use Rattle.figurelines.proofs.lay_reckoning.Goals as goal

pub returns-in-Ok : goal.returns-in-Ok
unfolding reckoning_text
returns-in-Ok c = rw c.in-Ok.is c.lay_figures.ensures

pub returns-in-Err : goal.returns-in-Err
unfolding reckoning_text
returns-in-Err c =
    let laid = c.lay.ensures in
    rw c.in-Err.is (refusal_laid c.requires _ c.from-number.ensures laid.same_buffer laid.value laid.out_after)
