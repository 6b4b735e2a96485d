-- The box that a file begins with: words of 0 are blank records.
use Prim.Native.Nat.{ℕ, zero, suc}
use native.Mathlib.Nat.{not-suc-le-zero, le_of_suc-le-suc}
use mathlib.Core.Path.{◌≡◌, refl, ap}
use mathlib.Core.List.{List}
use lib.ListN.{length, replicate}
use Rattle.snapshot.specs.Requests.{blank_day}
use Rattle.unbounded.specs.Processes.{zero_process}
use Rattle.packed.specs.Packing.{unpack_record}
use Rattle.days.specs.Happenings.{blank_box}
use Rattle.packed_rows.specs.Rows.{LongRows}
use Rattle.packed_days.specs.Boxes.{box_in}

abbrev pub blank_words : List (List ℕ)
blank_words = replicate 8 (replicate 369 0)

same_rows : (k : ℕ) (row : List ℕ) → length row ≡ 369 → LongRows (replicate k row)
same_rows zero row is i l = absurd (not-suc-le-zero l)
same_rows (suc k) row is zero l = is
same_rows (suc k) row is (suc i) l = same_rows k row is i (le_of_suc-le-suc l)

pub blank_rows : LongRows blank_words
blank_rows = same_rows 8 (replicate 369 0) refl

blank_record : unpack_record (replicate 369 0) ≡ zero_process
unfolding unpack_record
blank_record = refl

pub blank_box_lem : box_in blank_day blank_words (replicate 16 0) ≡ blank_box
blank_box_lem = ap (λ p. record { day = blank_day; table = replicate 8 p; page = replicate 16 0 }) blank_record
