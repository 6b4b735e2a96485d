-- An update call is one of the requests, with no page list.
use mathlib.Core.Path.{◌∙◌}
use mathlib.Core.List.{[]}
use Rattle.snapshot.specs.declared.Request.TheVariants.{Update}
use Rattle.memory.proofs.Plain.{plain_left}
use Rattle.memory.proofs.table.update_call.Goals as goal

pub returns-clause-ps_after : goal.returns-clause-ps_after
returns-clause-ps_after c = c.ask_call.ensures.t_after ∙ plain_left c.args.day c.args.ps.now [] (Update c.args.d c.args.word)
