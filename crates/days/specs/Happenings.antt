-- A whole day file: what happened, in order (document 01, Day files and the day runner).
use Rattle.std.specs.Prelude.{ℕ, cond, List, [], ◌∷◌, ◌++◌, take, drop, replicate}
use Rattle.snapshot.specs.Values.{words_in, lasts_in}
use Rattle.snapshot.specs.Requests.{blank_day}
use Rattle.snapshot.specs.declared.Day.{Day}
use Rattle.snapshot.specs.declared.Outcome.{Outcome}
use Rattle.dayfile.specs.declared.Reading.{Reading}
use Rattle.dayfile.specs.Files.{readings}
use Rattle.unbounded.specs.declared.Process.{Process}
use Rattle.unbounded.specs.Processes.{zero_process}
use Rattle.days.specs.Asking.{is_none, request_of, lent_to, asked_outcome, asked_table, asked_page}

-- what is held between two records: the day, its table of eight process records and the page list
pub record Box : Type 0 where
  pub day : Day
  pub table : List Process
  pub page : List ℕ

-- before the first: "A blank day has both 0", and so has every record and word
abbrev pub blank_box : Box
blank_box = record { day = blank_day; table = replicate 8 zero_process; page = replicate 16 0 }

-- how many records of the box are lent to x, and the outcome of asking x of them
abbrev pub lent_in : Box → Reading → ℕ
lent_in b x = lent_to b.day (request_of x)

abbrev pub outcome_in : Box → Reading → Outcome
outcome_in b x = asked_outcome b.day (take (lent_in b x) b.table) b.page x

-- the box after that: the records that were not lent stay
abbrev pub box_after : Box → Reading → Box
box_after b x =
    let lent = take (lent_in b x) b.table in
    record {
      day = (outcome_in b x).day;
      table = asked_table b.day lent b.page x ++ drop (lent_in b x) b.table;
      page = asked_page b.day lent b.page x;
    }

-- what happened: what was read, a record or the refusal 7, 8 or 9, its outcome, and the words and numbers that the page list then shows
-- ("A page's words are the first n of its page list when its turn returns"; "The page list takes them after the words", K6)
pub record Happening : Type 0 where
  pub reading : Reading
  pub outcome : Outcome
  pub words : List ℕ
  pub lasts : List ℕ

abbrev pub happening_in : Box → Reading → Happening
happening_in b x =
    let after = box_after b x in
    let n = after.day.count in
    record { reading = x; outcome = outcome_in b x; words = words_in n after.page; lasts = lasts_in n after.page }

-- what happened where these were read one after the other
abbrev pub happenings : Box → List Reading → List Happening
happenings b [] = []
happenings b (x ∷ xs) = happening_in b x ∷ happenings (box_after b x) xs

-- what happens in a file on a box, and in a whole day file (proofs/Files: it is what happens first, and then what happens in the rest)
abbrev pub file_on : Box → List ℕ → List Happening
file_on b bs = happenings b (readings bs)

unfoldable pub day_of : List ℕ → List Happening
day_of bs = file_on blank_box bs

-- the day once all of it happened, which was d before
abbrev pub day_after : Day → List Happening → Day
day_after d [] = d
day_after d (h ∷ hs) = day_after h.outcome.day hs

-- those of them that were records: all but a refusal that ended the file
abbrev pub records_in : List Happening → List Happening
records_in [] = []
records_in (h ∷ hs) = cond (is_none h.reading) (records_in hs) (h ∷ records_in hs)
