-- `days::wanted` meets its contract.
use Rattle.days.proofs.Kept.{wanted_by_day}
use Rattle.days.proofs.wanted.Goals as goal

pub returns-in_default : goal.returns-in_default
returns-in_default c = wanted_by_day c.args.day c.args.x c.in_default.not-Open
