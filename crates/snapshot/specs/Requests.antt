-- The day, and what is asked of it.
use Rattle.std.specs.Prelude.{ℕ}
use Rattle.snapshot.specs.declared.Day.{Day}
use Rattle.snapshot.specs.declared.Request.{Request}
use Rattle.snapshot.specs.declared.Request.TheVariants.{Open, Update, Scan, Turn}

-- "A blank day has both 0"
abbrev pub blank_day : Day
blank_day = record { count = 0; event = 0 }

-- the number of a request's process; of an opening, how many processes it asks for
abbrev pub number_in : Request → ℕ
number_in (Open count) = count
number_in (Update process word) = process
number_in (Scan process) = process
number_in (Turn process) = process
