-- What is claimed of a mended file (document 02, K7).
use Rattle.std.specs.Prelude.{ℕ, suc, ◌+◌, ◌<◌, ◌≡◌, not, List, [], ◌∷◌, ◌++◌, map, length}
use Rattle.std.proofs.Math.Option.{Option}
use Rattle.snapshot.specs.Lists.{keep}
use Rattle.snapshot.specs.Replies as Replies
use Rattle.snapshot.specs.Replies.{Reply, opened, called, read, page, written, reply_of}
use Rattle.snapshot.specs.declared.Refusal.{Refusal}
use Rattle.admission.specs.Checks.{is_refusal}
use Rattle.dayfile.specs.declared.Reading.{Reading}
use Rattle.dayfile.specs.Reader.{ReaderReply, found, ended, refused, reader_reply}
use Rattle.dayfile.specs.Files.{readings}
use Rattle.dayfile.specs.Pieces.{pieces}
use Rattle.days.specs.Happenings.{Box, blank_box, box_after, Happening, happenings, day_of}
use Rattle.mending.specs.Mending.{refusal_by, Drop, mended, dropped}

-- "Kept and dropped bytes together are the file, in order", of the bytes from `at` on: each is the next of the kept ones, or the first of
-- those that the next drop counts, of which there is one at least; and none is left over
pub data Partition : (at : ℕ) → (file kept : List ℕ) → List Drop → Type 0 where
  over : {at : ℕ} → Partition at [] [] []
  keeps : {at byte : ℕ} {file kept : List ℕ} {drops : List Drop} → Partition (suc at) file kept drops →
      Partition at (byte ∷ file) (byte ∷ kept) drops
  loses : {at number : ℕ} (bytes : List ℕ) {file kept : List ℕ} {drops : List Drop} → 0 < length bytes →
      Partition (at + length bytes) file kept drops →
      Partition at (bytes ++ file) kept (record { first = at; count = length bytes; number = number } ∷ drops)

-- ---- runs

-- the number that the day runner prints behind `refused` of what happened, if it does, by what the reader and the day replied
abbrev pub number_by : ReaderReply → Reply ℕ → List ℕ
number_by (found r bytes) (Replies.refused k) = k ∷ []
number_by (found r bytes) opened = []
number_by (found r bytes) called = []
number_by (found r bytes) read = []
number_by (found r bytes) (page lender at turns ws) = []
number_by (found r bytes) (written turns) = []
number_by ended reply = []
number_by (refused k) reply = k ∷ []

abbrev pub numbers_in : List Happening → List ℕ
numbers_in [] = []
numbers_in (h ∷ hs) = number_by (reader_reply h.reading) (reply_of [] h.outcome.answer) ++ numbers_in hs

-- what the reader answers in a file from end to end, and what happens where the records among it are run
abbrev pub read_through : List ℕ → List Reading
read_through file = map (λ p. p.reading) (pieces file)

abbrev pub run_of : List ℕ → List Happening
run_of file = happenings blank_box (read_through file)

-- "the .. accepted events": those without a refusal
abbrev pub refusal_in : Happening → Option Refusal
refusal_in h = refusal_by h.reading h.outcome

abbrev pub accepted : List Happening → List Happening
accepted hs = keep (λ h. not (is_refusal (refusal_in h))) hs

-- what is held once these were read: the day, its desk records and the page list
abbrev pub box_past : Box → List Reading → Box
box_past b [] = b
box_past b (x ∷ xs) = box_past (box_after b x) xs

-- ---- the claims

pub record Mends (file : List ℕ) : Type 0 where
  -- "Kept and dropped bytes together are the file, in order"
  pub together : Partition 0 file (mended file) (dropped file)
  -- "refusal number, one entry a drop": one for each refusal of the reader and of the day, with its number
  pub numbers : map (λ d. d.number) (dropped file) ≡ numbers_in (run_of file)
  -- "The written file runs without refusal"
  pub unrefused : numbers_in (day_of (mended file)) ≡ []
  -- "and gives the same accepted events": the same records, answers, page words and days, and the same day and desk records at the end
  pub same : day_of (mended file) ≡ accepted (run_of file)
  pub ends : box_past blank_box (readings (mended file)) ≡ box_past blank_box (read_through file)
  -- "mending it again drops nothing", and gives the same bytes
  pub again : (mended (mended file) ≡ mended file) × (dropped (mended file) ≡ [])
