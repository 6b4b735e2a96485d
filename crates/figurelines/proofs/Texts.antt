-- The parts of the line, as they are laid, are its text.
use Prim.Native.Nat.{ℕ, ◌≤◌, ◌<◌}
use native.Mathlib.Omega.{arith}
use mathlib.Core.Path.{◌≡◌, refl, sym, ap, ap₂, ◌∙◌}
use mathlib.Core.Bool.{cond}
use mathlib.Core.List.{List, [], ◌++◌, append_assoc, append-nil}
use lib.ListN.{length}
use borrow.Author.Tests.{lt-ltb, le-ltb}
use Rattle.snapshot.specs.declared.Refusal.{Refusal}
use Rattle.snapshot.specs.declared.Refusal.TheVariants.{CountRange, NoPage, TooMany}
use Rattle.snapshot.specs.Refusals.{number_of}
use Rattle.figures.specs.declared.Figures.{Figures}
use Rattle.std.specs.Prelude.{Result, Ok, Err}
use Rattle.texts.specs.Ascii.{ascii}
use Rattle.texts.specs.Decimal.{decimal, long_decimal}
use Rattle.texts.specs.declared.Sheet.{Sheet}
use Rattle.texts.specs.Laying.{Laid, HasRoom, SameBuffer, Lays}
use Rattle.texts.proofs.Laying.{laid_nothing, laid_as, lays_as}
use Rattle.daytext.specs.declared.Line.TheVariants as Line
use Rattle.daytext.specs.Lines.{body_of, text_of}
use Rattle.daytext.specs.Buffer.{longest, laid_place, laid_text}
use Rattle.daytext.proofs.Room.{laid_with_room}
use Rattle.figurelines.specs.FigureText.{fraction_text, figures_text, reckoning_text, laid_reckoning}

-- parts laid one after the other, and the same parts from the last to the first
parts : (t n t₁ p t₂ m t₃ b t₄ l end : List ℕ) →
    (t ++ n) ++ (t₁ ++ p) ++ (t₂ ++ m) ++ (t₃ ++ b) ++ (t₄ ++ l) ++ end
    ≡ (t ++ (n ++ (t₁ ++ (p ++ (t₂ ++ (m ++ (t₃ ++ (b ++ (t₄ ++ (l ++ [])))))))))) ++ end
parts t n t₁ p t₂ m t₃ b t₄ l end = simp (append_assoc, append-nil)

pub figures_text_lem : {n largest desks : ℕ} (f : Figures) → n ≡ desks → largest ≡ f.largest →
    (ascii "desks " ++ long_decimal n) ++ (ascii " pages " ++ long_decimal f.pages) ++ (ascii " mean " ++ fraction_text f.mean)
    ++ (ascii " borrowed " ++ fraction_text f.borrowed)
    ++ (ascii " largest " ++ long_decimal largest)
    ++ ascii "\n"
    ≡ figures_text desks f
unfolding figures_text
figures_text_lem {n} {largest} f same same' =
    ap₂ text same same'
    ∙ parts (ascii "desks ") (long_decimal _) (ascii " pages ") (long_decimal f.pages) (ascii " mean ") (fraction_text f.mean)
    (ascii " borrowed ") (fraction_text f.borrowed) (ascii " largest ") (long_decimal f.largest) (ascii "\n")
  where
    text : ℕ → ℕ → List ℕ
    text k l =
        (ascii "desks " ++ long_decimal k) ++ (ascii " pages " ++ long_decimal f.pages) ++ (ascii " mean " ++ fraction_text f.mean)
        ++ (ascii " borrowed " ++ fraction_text f.borrowed)
        ++ (ascii " largest " ++ long_decimal l)
        ++ ascii "\n"

-- ---- by the room that there is

module _ (n : ℕ) (r : Result Figures Refusal) (out : List ℕ) where
  pub nothing_laid : length out < longest → Laid out 0 (laid_reckoning n r (length out)) out 0
  nothing_laid short =
      laid_as (sym (ap (λ b. cond b [] (reckoning_text n r)) (lt-ltb (length out) longest short)))
      (record { buffer = sym (laid_nothing out 0); end = refl })

  pub all_laid : longest ≤ length out → {after : List ℕ} {k : ℕ} → Laid out 0 (reckoning_text n r) after k →
      Laid out 0 (laid_reckoning n r (length out)) after k
  all_laid room laid = laid_as (sym (ap (λ b. cond b [] (reckoning_text n r)) (le-ltb (length out) longest room))) laid

-- the line of a refusal
pub refusal_laid : {s t : Sheet} → HasRoom s longest → {number : ℕ} (k : Refusal) → number ≡ number_of k → SameBuffer s t →
    t.at ≡ laid_place (Line.Refused number) [] [] s.out.now s.at → t.out.now ≡ laid_text (Line.Refused number) [] [] s.out.now s.at →
    Lays s (text_of (Line.Refused (number_of k)) [] []) t
refusal_laid {s} room {number} k is same ends lies =
    let laid = laid_with_room (Line.Refused number) [] [] s.out.now s.at (omega arith) room in
    lays_as (ap (λ j. text_of (Line.Refused j) [] []) is)
    (record { buffer = same; laid = record { buffer = lies ∙ laid.1; end = ends ∙ laid.0 } })

-- ---- computed

pub lines :
    (reckoning_text 2 (Ok (record {
      pages = 5;
      mean = record { numerator = 32; denominator = 5 };
      borrowed = record { numerator = 2; denominator = 5 };
      largest = 8;
    })) ≡ ascii "desks 2 pages 5 mean 32/5 borrowed 2/5 largest 8\n")
    × (reckoning_text 9 (Err CountRange) ≡ ascii "refused 1\n")
    × (reckoning_text 2 (Err NoPage) ≡ ascii "refused 14\n")
    × (reckoning_text 2 (Err TooMany) ≡ ascii "refused 15\n")
unfolding reckoning_text figures_text long_decimal text_of body_of decimal
lines = (refl, refl, refl, refl)
