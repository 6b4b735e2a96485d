-- The days of a quarter: what was read of each file, and that the page answers of all are gathered. What a read gives is the system's.
use Rattle.std.specs.Prelude.{ℕ, ◌≡◌, Bool, true, false, not, ◌&&◌, List, [], ◌∷◌, map, length, Option, is_some, IfSome}
use Rattle.figures.specs.Figures.{PageAnswer}
use Rattle.days.specs.Happenings.{day_of}
use Rattle.gathering.specs.Answers.{answers_in, quarter_of}
use Rattle.gathering.specs.Gathered.{sums_with_all}
use Rattle.gathering.specs.Laps.{gathered}
use Rattle.streams.specs.declared.input.Input.{Input}
use Rattle.streams.specs.Input.{Incoming, incoming, IsWhole}

-- ---- what was read

-- what comes of a file that was opened: what its reads give; of one that was not a failure
abbrev pub IsOpened : Bool → Input → List ℕ → Type 0
IsOpened true i bytes = IsWhole i bytes
IsOpened false i bytes = i ≡ record { at = 0; end = 0; last = true; failed = true }

-- a file was opened, or not, and read into bytes
pub record IsTried (i : Input) (bytes : List ℕ) : Type 0 where
  pub opening : Bool
  pub opened : IsOpened opening i bytes

-- d came of a file that was tried with a buffer of that size
pub record IsDay (size : ℕ) (d : Incoming) : Type 0 where
  pub input : Input
  pub bytes : List ℕ
  pub long : length bytes ≡ size
  pub tried : IsTried input bytes
  pub is : d ≡ incoming input bytes

abbrev pub AllDays : ℕ → List Incoming → Type 0
AllDays size [] = Unit {0}
AllDays size (d ∷ ds) = IsDay size d × AllDays size ds

-- ---- what is made of it

-- a day that came whole, and whether all did
abbrev pub is_whole : Incoming → Bool
is_whole d = not d.failed && d.last

abbrev pub all_whole : List Incoming → Bool
all_whole [] = true
all_whole (d ∷ ds) = is_whole d && all_whole ds

-- the page answers of them
abbrev pub answers_of : List Incoming → List PageAnswer
answers_of ds = quarter_of (map (λ d. d.left) ds)

-- ---- what is gathered

-- the answers of days ds are gathered in the first rows, which were before, if all of them came whole
pub record IsQuarter (ds : List Incoming) (before rows : List (List ℕ)) (q : Option ℕ) : Type 0 where
  pub whole : is_some q ≡ all_whole ds
  pub held : IfSome q (λ count. gathered rows count ≡ sums_with_all (gathered before 0) (answers_of ds))

-- one day more, which was d
pub record IsAdded (d : Incoming) (q : Option ℕ) (rows : List (List ℕ)) (q' : Option ℕ) (rows' : List (List ℕ)) : Type 0 where
  pub whole : is_some q' ≡ is_whole d && is_some q
  pub held : IfSome q (λ count. IfSome q' (λ count'.
      gathered rows' count' ≡ sums_with_all (gathered rows count) (answers_in (day_of d.left))))

-- and d came of a file that was tried
pub record IsDayAdded (size : ℕ) (q : Option ℕ) (rows : List (List ℕ)) (q' : Option ℕ) (rows' : List (List ℕ)) : Type 0 where
  pub day : Incoming
  pub tried : IsDay size day
  pub added : IsAdded day q rows q' rows'

-- so many files were tried, and the answers of all of them are gathered
pub record AreRead (files size : ℕ) (before rows : List (List ℕ)) (q : Option ℕ) : Type 0 where
  pub days : List Incoming
  pub each : length days ≡ files
  pub tried : AllDays size days
  pub quarter : IsQuarter days before rows q
