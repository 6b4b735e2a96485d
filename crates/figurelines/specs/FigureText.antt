-- The line that a quarter's figures print: `desks 2 pages 5 mean 32/5 borrowed 2/5 largest 8`, or `refused` and the number.
use Rattle.std.specs.Prelude.{ℕ, cond, List, [], ◌∷◌, ◌++◌, ltb, Result, Ok, Err}
use Rattle.snapshot.specs.Refusals.{number_of}
use Rattle.snapshot.specs.declared.Refusal.{Refusal}
use Rattle.fractions.specs.declared.Fraction.{Fraction}
use Rattle.figures.specs.declared.Figures.{Figures}
use Rattle.texts.specs.Ascii.{ascii}
use Rattle.texts.specs.Decimal.{long_decimal}
use Rattle.daytext.specs.declared.Line.TheVariants as Lines
use Rattle.daytext.specs.Lines.{joined, text_of}
use Rattle.daytext.specs.Buffer.{longest}

-- a fraction; a whole number is over 1
abbrev pub fraction_text : Fraction → List ℕ
fraction_text f = long_decimal f.numerator ++ ascii "/" ++ long_decimal f.denominator

-- the figures of days for n
unfoldable pub figures_text : ℕ → Figures → List ℕ
figures_text n f =
    joined (ascii "desks")
    (long_decimal n
    ∷ ascii "pages"
    ∷ long_decimal f.pages
    ∷ ascii "mean"
    ∷ fraction_text f.mean
    ∷ ascii "borrowed"
    ∷ fraction_text f.borrowed
    ∷ ascii "largest"
    ∷ long_decimal f.largest
    ∷ [])
    ++ ascii "\n"

-- or why there are none
unfoldable pub reckoning_text : ℕ → Result Figures Refusal → List ℕ
reckoning_text n (Ok f) = figures_text n f
reckoning_text n (Err k) = text_of (Lines.Refused (number_of k)) [] []

-- what is laid of it into so many bytes: nothing where they may be too few
abbrev pub laid_reckoning : ℕ → Result Figures Refusal → (room : ℕ) → List ℕ
laid_reckoning n r room = cond (ltb room longest) [] (reckoning_text n r)
