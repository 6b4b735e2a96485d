-- How the code mends a file: a part after the other.
use Rattle.std.specs.Prelude.{ℕ, ◌+◌, ◌≤◌, ◌<◌, ◌≡◌, List, ◌++◌, map, length, take, drop}
use Rattle.std.proofs.lemmas.List.Edits.{sets}
use Rattle.snapshot.specs.Lists.{sum_of}
use Rattle.snapshot.specs.Requests.{blank_day}
use Rattle.dayfile.specs.Pieces.{Piece, pieces}
use Rattle.days.specs.Happenings.{Box}
use Rattle.packed_rows.specs.Rows.{LongRows}
use Rattle.packed_days.specs.Boxes.{box_in}
use Rattle.mender.specs.declared.Progress.{Progress}
use Rattle.mending.specs.Claims.{box_past}
use Rattle.mending.specs.Mending.{Part, judged, kept_of, drops_of, mended, dropped}
use Rattle.mender.specs.Results.{row_of}

abbrev pub blank_progress : Progress
blank_progress = record { day = blank_day; at = 0; kept = 0; drops = 0 }

-- no more is kept or dropped than bytes were read, so that neither count can be too great
pub record Steady (s : Progress) : Type 0 where
  pub kept : s.kept ≤ s.at
  pub drops : s.drops ≤ s.at

-- how far a file has come, with the table and the page list of its day and both rooms
pub record Stage : Type 0 where
  pub progress : Progress
  pub table : List (List ℕ)
  pub page : List ℕ
  pub room : List ℕ
  pub rows : List (List ℕ)

abbrev pub stage : Progress → (table : List (List ℕ)) → (page room : List ℕ) → (rows : List (List ℕ)) → Stage
stage s t page room rows = record { progress = s; table = t; page = page; room = room; rows = rows }

-- what is left of a file, and what is held of its day
abbrev pub pieces_left : (file : List ℕ) → Stage → List Piece
pieces_left file w = pieces (drop w.progress.at file)

abbrev pub box_of : Stage → Box
box_of w = box_in w.progress.day w.table w.page

-- the parts that are left of a file
abbrev pub parts_left : (file : List ℕ) → Stage → List Part
parts_left file w = judged (box_of w) (pieces_left file w)

abbrev pub bytes_in : List Part → ℕ
bytes_in ps = sum_of (λ p. length p.bytes) ps

-- from w to v the next parts of a file, so many, were done: what is kept of them was laid into one room, and their drops into the other
pub record IsPass (file : List ℕ) (count : ℕ) (w v : Stage) : Type 0 where
  pub done : List Part
  pub counted : length done ≡ count
  pub parts : parts_left file w ≡ done ++ parts_left file v
  pub rest : pieces_left file v ≡ drop count (pieces_left file w)
  pub box : box_of v ≡ box_past (box_of w) (map (λ p. p.reading) (take count (pieces_left file w)))
  pub moved : v.progress.at ≡ w.progress.at + bytes_in done
  pub onward : w.progress.at + count ≤ v.progress.at
  pub within : v.progress.at ≤ length file
  pub kept : v.progress.kept ≡ w.progress.kept + length (kept_of done)
  pub room : v.room ≡ sets w.room w.progress.kept (kept_of done)
  pub drops : v.progress.drops ≡ w.progress.drops + length (drops_of w.progress.at done)
  pub rows : v.rows ≡ sets w.rows w.progress.drops (map row_of (drops_of w.progress.at done))
  pub long : LongRows v.table

-- the same with as many as there are, but at most so many
pub record IsPassUpTo (file : List ℕ) (most : ℕ) (w v : Stage) : Type 0 where
  pub count : ℕ
  pub pass : IsPass file count w v
  pub few : count ≤ most
  pub all : v.progress.at < length file → count ≡ most

-- a whole file was done
pub record IsRun (file : List ℕ) (s : Progress) : Type 0 where
  pub kept : s.kept ≡ length (mended file)
  pub drops : s.drops ≡ length (dropped file)
