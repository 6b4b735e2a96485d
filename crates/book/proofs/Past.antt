-- The notes once a record is found, or none was.
use Prim.Native.Nat.{ℕ, ◌+◌}
use mathlib.Core.Path.{◌≡◌, refl, sym, ap, ap₂, ◌∙◌}
use mathlib.Core.Bool.{true, false}
use mathlib.Core.List.{List}
use Rattle.snapshot.specs.declared.Request.{Request}
use Rattle.snapshot.specs.declared.Outcome.{Outcome}
use Rattle.dayfile.specs.declared.Reading.{Reading}
use Rattle.dayfile.specs.declared.Reading.TheVariants.{Found, End, Refused as Broken}
use Rattle.places.specs.Answers.{words_after, count_after, book_after}
use Rattle.book.specs.declared.notes.Notes.{Notes}
use Rattle.book.specs.Passes.{notes_past, book_past}

-- where a record was found
pub past_found : (s : Notes) (x : Reading) (o : Outcome) (shown : List ℕ) (book : List (List ℕ)) (r : Request) (next : ℕ) → x ≡ Found r next →
    (count : ℕ) → count ≡ count_after s.count o.answer → (words : List ℕ) → words ≡ words_after s.words r o.answer →
    (after : List (List ℕ)) → after ≡ book_after s.words s.count r o.day.event shown book o.answer →
    (◌≡◌ {A = Notes} (record { day = o.day; at = s.at + next; end = s.end; ended = false; count = count; words = words }) (notes_past s x o))
    × (after ≡ book_past s x o shown book)
unfolding notes_past book_past
past_found s x o shown book r next q count k words w after b = (
  ap₂ {C = Notes} (λ k w. record { day = o.day; at = s.at + next; end = s.end; ended = false; count = k; words = w }) k w
      ∙ sym (ap (λ y. notes_past s y o) q),
  b ∙ sym (ap (λ y. book_past s y o shown book) q),
)

-- where none was
pub past_ended : (s : Notes) (x : Reading) (o : Outcome) (shown : List ℕ) (book : List (List ℕ)) →
    ((r : Request) (next : ℕ) → x ≡ Found r next → ⊥) →
    (◌≡◌ {A = Notes} (record { day = o.day; at = s.at; end = s.end; ended = true; count = s.count; words = s.words }) (notes_past s x o))
    × (book ≡ book_past s x o shown book)
unfolding notes_past book_past
past_ended s (Found r next) o shown book q = absurd (q r next refl)
past_ended s End o shown book q = (refl, refl)
past_ended s (Broken k) o shown book q = (refl, refl)
