-- What a turn takes for granted of the record that it is lent: an accepted turn finds it so (crate `memory`, proofs/Accepted).
use Rattle.std.specs.Prelude.{◌<◌, ◌≡◌}
use Rattle.unbounded.specs.declared.Process.{Process}
use Rattle.unbounded.specs.declared.Task.{Task}
use Rattle.unbounded.specs.Processes.{turns_of}
use Rattle.unbounded_accesses.specs.declared.Access.{Access}
use Rattle.unbounded_accesses.specs.Accesses.{Sound}

-- an access within its double collect, and a record with task k and room for one write and one turn more
pub record Turned (a : Access) (k : Task) (p : Process) : Type 0 where
  pub sound : Sound a
  pub task : p.task ≡ k
  pub seq : p.register.seq < 4294967295
  pub turns : turns_of k < 4294967295
