-- What a run leaves in the buffer that it hands to the system: the text of the book of its file, however the reads cut it
-- (`book_printed`), and of a longer file, or where a read fails, nothing (`long_unprinted`, `unread_unprinted`). `day_book_printed` and
-- `day_book_refused` say it for the buffers of the program as it is shipped.
use Prim.Native.Nat.{ℕ, ◌+◌, ◌-◌, ◌^◌, ◌≤◌, ◌<◌}
use native.Mathlib.Omega.{arith}
use mathlib.Core.Path.{◌≡◌, ap, subst, ◌∙◌}
use mathlib.Core.Bool.{Bool, true, cond}
use mathlib.Core.List.{List, []}
use lib.ListN.{length}
use borrow.Author.Tests.{le-ltb}
use Rattle.book.specs.DayBooks.{book_in}
use Rattle.book.proofs.Fits.{book_fits}
use Rattle.booklines.specs.BookText.{book_text}
use Rattle.streams.specs.System.{IsSent}
use Rattle.texts.specs.Laying.{Laid}
use Rattle.streams.specs.Input.{ReadsFile, interruptions, incoming}
use Rattle.streams.proofs.Whole.{whole_file, whole_full}
use Rattle.day_book.specs.Runs.{written_of, IsBookRun}
use Rattle.day_book.proofs.Inputs.{cut_unwritten, unread_unwritten}

-- what a run leaves at the start of its buffer, and hands to the system
abbrev pub Prints : (text before out : List ℕ) (end : ℕ) (went : Bool) → Type 0
Prints text before out end went = Laid before 0 text out end × IsSent text went

module _ {places : ℕ} {bytes before out : List ℕ} {went : Bool} (r : IsBookRun places bytes before out went) where
  as_text : (text : List ℕ) → written_of places (incoming r.input bytes) ≡ text → Prints text before out r.end went
  as_text text is = subst (λ t. Prints t before out r.end went) is (r.laid, r.sent)

  -- where a read fails, nothing
  pub unread_unprinted : r.input.failed ≡ true → Prints [] before out r.end went
  unread_unprinted failed = as_text [] (unread_unwritten places _ failed)

  module _ (file rest : List ℕ) (reads : ReadsFile r.whole.gave file rest)
      (enough : length file + interruptions r.whole.gave < 2 ^ 64 - 1) where
    -- for every file that leaves a byte of the buffer, and every way in which its reads cut it
    pub book_printed : length file < length bytes → length (book_in file) ≤ places → Prints (book_text (book_in file)) before out r.end went
    unfolding written_of
    book_printed short few =
        let here = whole_file r.whole file rest reads enough short in
        let all = ap (λ b. cond b [] (book_text (book_in file))) (le-ltb _ _ few) in
        as_text (book_text (book_in file)) (ap (written_of places) here ∙ all)

    pub long_unprinted : length bytes ≤ length file → Prints [] before out r.end went
    long_unprinted over =
        let full = whole_full r.whole file rest reads enough over in
        as_text [] (cut_unwritten places _ full.2 full.1)

-- ---- the program: a buffer of 2,097,153 bytes, and 21,845 places

module _ {bytes before out : List ℕ} {went : Bool} (r : IsBookRun 21845 bytes before out went) (size : length bytes ≡ 2097153)
    (file rest : List ℕ) (reads : ReadsFile r.whole.gave file rest)
    (enough : length file + interruptions r.whole.gave < 2 ^ 64 - 1) where
  -- a day file of at most 2,097,152 bytes has its book printed: no day has more places than there is room for
  pub day_book_printed : length file ≤ 2097152 → Prints (book_text (book_in file)) before out r.end went
  day_book_printed short = book_printed r file rest reads enough (omega (arith, short, size)) (book_fits file)

  -- of a longer one nothing is
  pub day_book_refused : 2097152 < length file → Prints [] before out r.end went
  day_book_refused long = long_unprinted r file rest reads enough (omega (arith, long, size))
