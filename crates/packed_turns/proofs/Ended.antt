-- The record after a turn that ends its task: a scan's, which found a page (`scan_ends`), or an update's, which writes (`write_ends`).
use mathlib.Core.Path.{◌≡◌, refl}
use mathlib.Core.Bool.{true, not, false≢true}
use lib.Dec.{T}
use Rattle.unbounded.specs.declared.Register.{Register}
use Rattle.unbounded.specs.declared.Process.{Process}
use Rattle.unbounded.specs.declared.Task.{Task}
use Rattle.unbounded.specs.declared.Task.TheVariants.{Idle, Scan, Update, Ready}
use Rattle.unbounded.specs.Processes.{begin}
use Rattle.unbounded_accesses.specs.declared.Access.{Access}
use Rattle.unbounded_tasks.specs.declared.Find.{Find}
use Rattle.unbounded_accesses.specs.Accesses.{is_ready}
use Rattle.unbounded_tasks.specs.Tasks.{ends_by}
use Rattle.unbounded_turns.specs.Steps.{begun_by, written_by, state_by}
use Rattle.unbounded_turns.proofs.Parts.{with_register}
use Rattle.unbounded_turns.proofs.Steps.{state_ended}

module _ (a : Access) (r : Register) (p : Process) (f : Find) where
  pub scan_ends : (k : Task) → T (not (is_ready k)) → ends_by f k ≡ true → begun_by a Idle p ≡ state_by a r p f k
  scan_ends Idle h e = absurd (false≢true e)
  scan_ends (Scan t) h e = state_ended a r p f (Scan t) e
  scan_ends (Update w t) h e = absurd (false≢true e)
  scan_ends (Ready w at t) h e = absurd h

  pub write_ends : (k : Task) → T (is_ready k) → with_register (written_by a p k) (begun_by a Idle p) ≡ state_by a r p f k
  unfolding begun_by begin state_by
  write_ends Idle h = absurd h
  write_ends (Scan t) h = absurd h
  write_ends (Update w t) h = absurd h
  write_ends (Ready w at t) h = refl
