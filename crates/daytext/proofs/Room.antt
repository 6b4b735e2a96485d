-- Where a line is laid, and where it is not.
use Prim.Native.Nat.{ℕ, ◌+◌, ◌≤◌, ◌<◌}
use mathlib.Core.Path.{◌≡◌}
use mathlib.Core.List.{List}
use lib.ListN.{length}
use borrow.Author.Tests.{le-leb, lt-leb}
use Rattle.texts.specs.Laying.{with_text}
use Rattle.daytext.specs.declared.Line.{Line}
use Rattle.daytext.specs.Lines.{text_of}
use Rattle.daytext.specs.Buffer.{longest, is_laid, laid_place, laid_text}

module _ (line : Line) (ws es out : List ℕ) (at : ℕ) where
  pub laid_with_room : length ws + length es ≤ 16 → at + longest ≤ length out
      → (laid_place line ws es out at ≡ at + length (text_of line ws es)) × (laid_text line ws es out at ≡ with_text out at (text_of line ws es))
  unfolding laid_place laid_text is_laid
  laid_with_room w h =
      let e = le-leb (length ws + length es) 16 w in
      let f = le-leb (at + longest) (length out) h in
      (simp (e, f), simp (e, f))

  pub kept_with_more_words : 16 < length ws + length es → (laid_place line ws es out at ≡ at) × (laid_text line ws es out at ≡ out)
  unfolding laid_place laid_text is_laid
  kept_with_more_words w = let e = lt-leb (length ws + length es) 16 w in (simp e, simp e)

  pub kept_with_fewer_bytes : length ws + length es ≤ 16 → length out < at + longest
      → (laid_place line ws es out at ≡ at) × (laid_text line ws es out at ≡ out)
  unfolding laid_place laid_text is_laid
  kept_with_fewer_bytes w h =
      let e = le-leb (length ws + length es) 16 w in
      let f = lt-leb (at + longest) (length out) h in
      (simp (e, f), simp (e, f))
