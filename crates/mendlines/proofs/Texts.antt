-- The parts of a line, as they are laid, are its text; and a line, computed.
use Prim.Native.Nat.{ℕ}
use mathlib.Core.Path.{◌≡◌, refl}
use mathlib.Core.List.{List, [], ◌∷◌, ◌++◌, append_assoc, append-nil}
use Rattle.texts.specs.Ascii.{ascii}
use Rattle.texts.specs.Decimal.{long_decimal}
use Rattle.mending.specs.Mending.{Drop}
use Rattle.mendlines.specs.DropText.{drop_text, drops_text}

parts : (t n t₁ m t₂ k end : List ℕ) → ((t ++ n) ++ (t₁ ++ m)) ++ (t₂ ++ k) ++ end ≡ (t ++ (n ++ (t₁ ++ (m ++ (t₂ ++ (k ++ [])))))) ++ end
parts t n t₁ m t₂ k end = simp (append_assoc, append-nil)

pub drop_text_lem : (d : Drop) →
    ((ascii "dropped " ++ long_decimal d.count) ++ (ascii " at " ++ long_decimal d.first))
    ++ (ascii " refused " ++ long_decimal d.number)
    ++ ascii "\n"
    ≡ drop_text d
unfolding drop_text
drop_text_lem d =
    parts (ascii "dropped ") (long_decimal d.count) (ascii " at ") (long_decimal d.first) (ascii " refused ")
    (long_decimal d.number) (ascii "\n")

pub line : drops_text (record { first = 12; count = 6; number = 9 } ∷ record { first = 18; count = 1; number = 7 } ∷ [])
    ≡ ascii "dropped 6 at 12 refused 9\ndropped 1 at 18 refused 7\n"
unfolding drop_text long_decimal
line = refl
