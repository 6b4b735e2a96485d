-- A run of the program: each of the named day files is tried, their page answers are gathered, and the line of their figures is laid and
-- handed to the system. Which file a name opens, what a read gives and whether a write is taken is the system's.
use Rattle.std.specs.Prelude.{ℕ, ◌≡◌, Bool, cond, List, [], map, Option, Some, None, length, take}
use Rattle.figures.specs.Figures.{answer_in, reckoned}
use Rattle.figurelines.specs.FigureText.{reckoning_text}
use Rattle.streams.specs.Input.{Incoming}
use Rattle.streams.specs.System.{IsSent}
use Rattle.texts.specs.Laying.{Laid}
use Rattle.quarters.specs.Days.{AllDays, all_whole, answers_of}

-- the line of the first answers of the rows, or nothing
abbrev pub line_of : (desks : ℕ) → (rows : List (List ℕ)) → Option ℕ → List ℕ
line_of desks rows (Some count) = reckoning_text desks (reckoned desks (map answer_in (take count rows)))
line_of desks rows None = []

-- what is written: the line of their figures, or nothing where one did not come whole
abbrev pub written_of : (desks : ℕ) → List Incoming → List ℕ
written_of desks ds = cond (all_whole ds) (reckoning_text desks (reckoned desks (answers_of ds))) []

-- a run on so many file names, with a buffer of that size for each: each was tried, what is written of all lies at the start of out,
-- and was taken or not
pub record IsFiguresRun (desks names size : ℕ) (before out : List ℕ) (went : Bool) : Type 0 where
  pub days : List Incoming
  pub each : length days ≡ names
  pub tried : AllDays size days
  pub end : ℕ
  pub laid : Laid before 0 (written_of desks days) out end
  pub sent : IsSent (written_of desks days) went
