-- A day's box (days/specs/Happenings) whose records lie as words.
use Rattle.std.specs.Prelude.{ℕ, ◌≡◌, List, []}
use Rattle.snapshot.specs.Replies.{reply_of}
use Rattle.snapshot.specs.declared.Day.{Day}
use Rattle.dayfile.specs.declared.Reading.{Reading}
use Rattle.days.specs.Happenings.{Box, outcome_in, box_after}
use Rattle.numbers.specs.declared.ReplyNumbers.{ReplyNumbers}
use Rattle.numbers.specs.Replies.{reply_numbers}
use Rattle.packed_rows.specs.Rows.{unpacked_all, LongRows}

-- the box: a day, the records that the words are, and a page list
abbrev pub box_in : Day → (table : List (List ℕ)) → (page : List ℕ) → Box
box_in d t page = record { day = d; table = unpacked_all t; page = page }

-- what was read has happened: the words and the page list are those of the box after it, and each record has its words again
pub record IsAfter (x : Reading) (before : Box) (d : Day) (table : List (List ℕ)) (page : List ℕ) : Type 0 where
  pub box : box_in d table page ≡ box_after before x
  pub long : LongRows table

-- the same, where the outcome was replied by numbers
pub record IsReplied (x : Reading) (before : Box) (r : ReplyNumbers) (table : List (List ℕ)) (page : List ℕ) : Type 0 where
  pub reply : r ≡ reply_numbers (outcome_in before x).day (reply_of [] (outcome_in before x).answer)
  pub after : IsAfter x before (outcome_in before x).day table page
