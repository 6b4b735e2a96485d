-- The page answers of day files (document 02, K5: "over many days' page answers").
use Rattle.std.specs.Prelude.{ℕ, Option, Some, None, List, [], ◌∷◌, ◌++◌}
use Rattle.snapshot.specs.declared.Refusal.{Refusal}
use Rattle.snapshot.specs.declared.Answer.{Answer}
use Rattle.snapshot.specs.declared.Answer.TheVariants.{Refused, Opened, Called, Read, Page, Written}
use Rattle.dayfile.specs.declared.Reading.{Reading}
use Rattle.dayfile.specs.declared.Reading.TheVariants.{Found, End, Refused as Broken}
use Rattle.days.specs.Happenings.{Happening, day_of}
use Rattle.figures.specs.Figures.{PageAnswer}

-- the page answer that an answer is, on a day for n; any other answer is none
abbrev pub page_answers : ℕ → Answer → List PageAnswer
page_answers n (Page lender at turns) = record { processes = n; lender = lender; turns = turns } ∷ []
page_answers n (Refused k) = []
page_answers n Opened = []
page_answers n Called = []
page_answers n Read = []
page_answers n (Written turns) = []

-- those in what happened, in order, each with its day's number of processes
abbrev pub answers_in : List Happening → List PageAnswer
answers_in [] = []
answers_in (h ∷ hs) = page_answers h.outcome.day.count h.outcome.answer ++ answers_in hs

-- those of day files, each run as the day runner does
abbrev pub quarter_of : List (List ℕ) → List PageAnswer
quarter_of [] = []
quarter_of (file ∷ files) = answers_in (day_of file) ++ quarter_of files

-- ---- how a file ends

-- the refusal that x is, or what follows it
abbrev pub ended_at : Reading → Option Refusal → Option Refusal
ended_at (Found r next) rest = rest
ended_at End rest = None
ended_at (Broken k) rest = Some k

-- the refusal that ended a file (7, 8 or 9), if one did
abbrev pub ended_by : List Happening → Option Refusal
ended_by [] = None
ended_by (h ∷ hs) = ended_at h.reading (ended_by hs)
