-- What it is to lay a line into a lent buffer.
use Rattle.std.specs.Prelude.{ℕ, ◌+◌, Bool, cond, ◌&&◌, List, leb, length}
use Rattle.texts.specs.Laying.{with_text}
use Rattle.daytext.specs.declared.Line.{Line}
use Rattle.daytext.specs.Lines.{text_of}

-- the bytes that are kept free for one line
abbrev pub longest : ℕ
longest = 272

-- whether a line is laid: there are at most sixteen words and numbers, and room for the longest line
unfoldable pub is_laid : (words lasts out : List ℕ) → ℕ → Bool
is_laid ws es out at = leb (length ws + length es) 16 && leb (at + longest) (length out)

-- the place after the line, or the same place where it is not laid
unfoldable pub laid_place : Line → (words lasts out : List ℕ) → ℕ → ℕ
laid_place line ws es out at = cond (is_laid ws es out at) (at + length (text_of line ws es)) at

-- the buffer with the line, or as it was where it is not laid
unfoldable pub laid_text : Line → (words lasts out : List ℕ) → ℕ → List ℕ
laid_text line ws es out at = cond (is_laid ws es out at) (with_text out at (text_of line ws es)) out
