-- How the code gathers: a record at a time.
use Rattle.std.specs.Prelude.{ℕ, ◌+◌, ◌^◌, ◌<◌, ◌≡◌, true, false, Some, None, List, drop}
use Rattle.snapshot.specs.Requests.{blank_day}
use Rattle.snapshot.specs.declared.Day.{Day}
use Rattle.snapshot.specs.declared.Outcome.{Outcome}
use Rattle.snapshot.specs.declared.Request.{Request}
use Rattle.dayfile.specs.Reader.{reading}
use Rattle.dayfile.specs.declared.Reading.{Reading}
use Rattle.dayfile.specs.declared.Reading.TheVariants.{Found, End, Refused}
use Rattle.days.specs.Happenings.{outcome_in}
use Rattle.packed_days.specs.Boxes.{box_in, IsAfter}
use Rattle.gathering.specs.declared.Progress.{Progress}
use Rattle.gathering.specs.Answers.{page_answers}
use Rattle.gathering.specs.Gathered.{Gathered, sums_with_all}

abbrev pub gathered : List (List ℕ) → ℕ → Gathered
gathered rows count = record { rows = rows; count = count }

abbrev pub blank_progress : ℕ → Progress
blank_progress count = record { day = blank_day; at = 0; ended = false; refusal = None; count = count }

-- the place behind a record that was found can be counted
abbrev pub Reaches : Reading → ℕ → Type 0
Reaches x at = (r : Request) (k : ℕ) → x ≡ Found r k → at + k < 2 ^ 64

-- the progress once what was read has happened, which left a day and a count of answers; a refusal of the reader ends the file
unfoldable pub progress_past : Progress → Reading → Day → ℕ → Progress
progress_past s (Found r next) d count = record { day = d; at = s.at + next; ended = false; refusal = None; count = count }
progress_past s End d count = record { day = d; at = s.at; ended = true; refusal = None; count = count }
progress_past s (Refused k) d count = record { day = d; at = s.at; ended = true; refusal = Some k; count = count }

-- what stands next in the file was read, asked of the box, and its answer gathered
pub record IsLap (s : Progress) (bytes : List ℕ) (t : List (List ℕ)) (page : List ℕ) (rows : List (List ℕ)) (s' : Progress)
    (t' : List (List ℕ)) (page' : List ℕ) (rows' : List (List ℕ)) : Type 0 where
  pub found : Reading
  pub read : found ≡ reading (drop s.at bytes)
  pub outcome : Outcome
  pub happened : outcome ≡ outcome_in (box_in s.day t page) found
  pub after : IsAfter found (box_in s.day t page) outcome.day t' page'
  pub count : ℕ
  pub gather : gathered rows' count ≡ sums_with_all (gathered rows s.count) (page_answers outcome.day.count outcome.answer)
  pub progress : s' ≡ progress_past s found outcome.day count
