-- What a request leaves of the day, and its answer.
use Rattle.std.specs.Prelude.{ℕ, ◌+◌}
use Rattle.std.proofs.Math.Option.{Option, none, some}
use Rattle.snapshot.specs.declared.Day.{Day}
use Rattle.snapshot.specs.declared.Refusal.{Refusal}
use Rattle.snapshot.specs.declared.Answer.{Answer}
use Rattle.snapshot.specs.declared.Answer.TheVariants.{Read, Refused, Opened}
use Rattle.snapshot.specs.declared.Outcome.{Outcome}

-- "Day, records and page remain unchanged" on a refusal (nothing is refused without one)
abbrev pub refused_outcome : Day → Option Refusal → Outcome
refused_outcome day none = record { day = day; answer = Read }
refused_outcome day (some k) = record { day = day; answer = Refused k }

-- "Every accepted call or turn adds 1 to the event number"
abbrev pub accepted_outcome : Day → Answer → Outcome
accepted_outcome day a = record { day = record { count = day.count; event = day.event + 1 }; answer = a }

-- "Opening sets the desk count to the number asked, and the event number .. to 0"
abbrev pub opened_outcome : ℕ → Outcome
opened_outcome k = record { day = record { count = k; event = 0 }; answer = Opened }
