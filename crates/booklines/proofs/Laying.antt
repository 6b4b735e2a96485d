-- Laying the lines of a book, one after the other.
use Prim.Native.Nat.{ℕ, ◌+◌, ◌*◌, ◌≤◌}
use native.Mathlib.Omega.{arith}
use mathlib.Core.Path.{◌≡◌, ap, ◌∙◌}
use mathlib.Core.Bool.{Bool, true, false, cond}
use mathlib.Core.List.{List, [], ◌++◌}
use lib.Dec.{eqb}
use lib.ListN.{length, get_or, take}
use borrow.Author.Tests.{leb-true, le-leb}
use Rattle.snapshot.proofs.Booleans.{and_both}
use Rattle.texts.specs.declared.Sheet.{Sheet}
use Rattle.texts.specs.Laying.{HasRoom, SameBuffer, Lays}
use Rattle.daytext.specs.declared.Line.{Line}
use Rattle.daytext.specs.declared.Line.TheVariants.{Update, BookPage, End}
use Rattle.daytext.specs.Lines.{text_of}
use Rattle.daytext.specs.Buffer.{longest, laid_place, laid_text}
use Rattle.daytext.proofs.Room.{laid_with_room}
use Rattle.daytext.proofs.Lengths.{BookLine, entry, page, book_line_short}
use Rattle.booklines.specs.PlaceText.{place_line, places_text, longest_place, most_places, has_room, laid_book}

-- the line of a place is one of a book
pub place_book_line : (p : List ℕ) → BookLine (place_line p)
unfolding place_line
place_book_line p = go (eqb (get_or p 1 0) 2)
  where
    go : (b : Bool) → BookLine (cond b (Update (get_or p 0 0) (get_or p 2 0) (get_or p 3 0)) (BookPage (get_or p 0 0) (get_or p 2 0)))
    go true = entry
    go false = page

-- where there is room, a line of a book is laid, and ends within the bytes of the longest
module _ {line : Line} (is : BookLine line) (ws : List ℕ) {s t : Sheet} where
  pub line_laid : length ws ≤ 8 → HasRoom s longest → SameBuffer s t →
      t.at ≡ laid_place line ws [] s.out.now s.at → t.out.now ≡ laid_text line ws [] s.out.now s.at →
      Lays s (text_of line ws []) t × (t.at ≤ s.at + longest_place)
  line_laid few room same ends lies =
      let laid = laid_with_room line ws [] s.out.now s.at (omega (arith, few)) room in
      let end : t.at ≡ s.at + length (text_of line ws []) = ends ∙ laid.0 in
      let short = book_line_short is ws few in
      (record { buffer = same; laid = record { buffer = lies ∙ laid.1; end = end } }, omega (arith, end, short))

-- what is tested before anything is laid
module _ (count n places room : ℕ) where
  pub room_true : has_room count n places room ≡ true →
      (count ≤ places) × (count ≤ most_places) × (n ≤ 8) × (longest_place * count + longest ≤ room)
  unfolding has_room
  room_true e =
      let one = and_both _ _ e in
      let two = and_both _ _ one.1 in
      let three = and_both _ _ two.1 in
      (leb-true _ _ one.0, leb-true _ _ two.0, leb-true _ _ three.0, leb-true _ _ three.1)

  pub true_room : count ≤ places → count ≤ most_places → n ≤ 8 → longest_place * count + longest ≤ room →
      has_room count n places room ≡ true
  unfolding has_room
  true_room a b c d = simp (le-leb _ _ a, le-leb _ _ b, le-leb _ _ c, le-leb _ _ d)

module _ (book : List (List ℕ)) (count n room : ℕ) where
  abbrev text : Bool → List ℕ
  text b = cond b (places_text n (take count book) ++ text_of (End count) [] []) []

  pub book_laid : has_room count n (length book) room ≡ true →
      laid_book book count n room ≡ places_text n (take count book) ++ text_of (End count) [] []
  unfolding laid_book
  book_laid e = ap text e

  pub book_unlaid : has_room count n (length book) room ≡ false → laid_book book count n room ≡ []
  unfolding laid_book
  book_unlaid e = ap text e
