-- What a turn takes for granted of the record that it is lent: an accepted turn finds it so (crate `memory`, proofs/Accepted).
use Rattle.std.specs.Prelude.{◌≤◌, ◌<◌}
use Rattle.unbounded.specs.declared.Process.{Process}
use Rattle.unbounded.specs.Processes.{turns_of}
use Rattle.unbounded_accesses.specs.declared.Access.{Access}
use Rattle.unbounded_accesses.specs.Accesses.{Sound}
use Rattle.unbounded_tasks.specs.declared.Find.{Find}

-- an access within its double collect, a search that passed at most eight processes, and a record with room for one write and one
-- turn more
pub record Turning (a : Access) (f : Find) (p : Process) : Type 0 where
  pub sound : Sound a
  pub passed : f.passed ≤ 8
  pub seq : p.register.seq < 4294967295
  pub turns : turns_of p.task < 4294967295
