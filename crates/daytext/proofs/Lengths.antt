-- Every line fits in the bytes that are kept free for it; those of a book are shorter.
use Prim.Native.Nat.{ℕ, ◌+◌, ◌*◌, ◌≤◌}
use native.Mathlib.Omega.{arith}
use mathlib.Core.List.{List, [], ◌∷◌, map}
use lib.ListN.{length, length-append}
use Rattle.daytext.specs.declared.Line.{Line}
use Rattle.daytext.specs.declared.Line.TheVariants.{Opened, Update, Scan, Read, Written, Page, BookPage, Refused, End}
use Rattle.texts.specs.Decimal.{decimal}
use Rattle.texts.specs.Laying.{spaced}
use Rattle.daytext.specs.Lines.{body_of, text_of}
use Rattle.daytext.specs.Buffer.{longest}
use Rattle.texts.proofs.Numerals.{decimal_short}

spaced_short : (ns : List ℕ) → length (spaced (map decimal ns)) ≤ 11 * length ns
spaced_short [] = omega arith
spaced_short (n ∷ ns) = simp length-append (omega (arith, decimal_short n, spaced_short ns))

-- a line with at most sixteen words and numbers is at most 261 bytes long
pub line_short : (line : Line) (ws es : List ℕ) → length ws + length es ≤ 16 → length (text_of line ws es) ≤ 261
unfolding text_of body_of
line_short (Opened n) ws es h = simp length-append (omega (arith, decimal_short n))
line_short (Update e p w) ws es h = simp length-append (omega (arith, decimal_short e, decimal_short p, decimal_short w))
line_short (Scan e p) ws es h = simp length-append (omega (arith, decimal_short e, decimal_short p))
line_short (Read e p) ws es h = simp length-append (omega (arith, decimal_short e, decimal_short p))
line_short (Written e p t) ws es h = simp length-append (omega (arith, decimal_short e, decimal_short p, decimal_short t))
line_short (Page e p l i t) ws es h =
    simp length-append
    (omega (arith, decimal_short e, decimal_short p, decimal_short l, decimal_short i, decimal_short t, spaced_short ws, spaced_short es))
line_short (BookPage k p) ws es h = simp length-append (omega (arith, decimal_short k, decimal_short p, spaced_short ws))
line_short (Refused k) ws es h = simp length-append (omega (arith, decimal_short k))
line_short (End e) ws es h = simp length-append (omega (arith, decimal_short e))

pub line_fits : (line : Line) (ws es : List ℕ) → length ws + length es ≤ 16 → length (text_of line ws es) ≤ longest
line_fits line ws es h = omega (arith, line_short line ws es h)

-- ---- the lines of the book

-- an entry, a page or the end
pub data BookLine : Line → Type 0 where
  entry : {k p w : ℕ} → BookLine (Update k p w)
  page : {k p : ℕ} → BookLine (BookPage k p)
  end : {k : ℕ} → BookLine (End k)

-- the longest is a page with eight words
pub book_line_short : {line : Line} → BookLine line → (ws : List ℕ) → length ws ≤ 8 → length (text_of line ws []) ≤ 121
unfolding text_of body_of
book_line_short (entry {k} {p} {w}) ws h = simp length-append (omega (arith, decimal_short k, decimal_short p, decimal_short w))
book_line_short (page {k} {p}) ws h = simp length-append (omega (arith, decimal_short k, decimal_short p, spaced_short ws))
book_line_short (end {k}) ws h = simp length-append (omega (arith, decimal_short k))
