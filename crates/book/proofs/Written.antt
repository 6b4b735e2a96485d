-- What passes come to: one that is lent no place counts, and one that is lent room enough writes the book.
use Prim.Native.Nat.{ℕ}
use native.Mathlib.Omega.{arith}
use mathlib.Core.Path.{◌≡◌, refl, sym, ap, ap₂, ◌∙◌}
use mathlib.Core.Bool.{true, false, cond}
use mathlib.Core.List.{List, [], ◌∷◌, ◌++◌, map}
use lib.ListN.{length, drop, replicate}
use lib.Dec.{leb}
use borrow.Author.Tests.{leb-true, leb-false, lt-ltb, le-ltb}
use Rattle.snapshot.specs.declared.Refusal.TheVariants.{RoomShort}
use Rattle.days.specs.Happenings.{day_of}
use Rattle.std.specs.Prelude.{Result, Ok, Err}
use Rattle.snapshot.specs.declared.Refusal.{Refusal}
use Rattle.book.specs.declared.Booked.{Booked}
use Rattle.book.specs.declared.notes.Notes.{Notes}
use Rattle.book.specs.DayBooks.{processes_in, book_in}
use Rattle.book.specs.Places.{place_of, booking_of, book_with}
use Rattle.book.specs.Passes.{Passed}
use Rattle.book.proofs.Noted.{noted_count, noted_book}

-- nothing was lent
pub none_lent : (l book : List (List ℕ)) → length l ≡ 0 → l ++ book ≡ book
none_lent [] book q = refl
none_lent (x ∷ l) book q = absurd (omega (arith, q))

-- where there is no room
pub refuses : (bs : List ℕ) (book : List (List ℕ)) → leb (length (book_in bs)) (length book) ≡ false →
    (Err RoomShort ≡ booking_of (book_in bs) (processes_in bs) (length book)) × (book ≡ book_with (book_in bs) book)
refuses bs book q =
    let short = lt-ltb (length book) (length (book_in bs)) (leb-false (length (book_in bs)) (length book) q) in (
      sym (ap (λ b. cond b (Err RoomShort) (Ok (record { places = length (book_in bs); processes = processes_in bs }))) short),
      sym (ap (λ b. cond b book (map place_of (book_in bs) ++ drop (length (book_in bs)) book)) short),
    )

module _ (bs : List ℕ) (s : Notes) (before after : List (List ℕ)) (p : Passed s bs (replicate 16 0) before after) where
  pub counted : s.count ≡ length (book_in bs)
  unfolding day_of
  counted = p.count ∙ noted_count bs before

  pub writes : leb (length (book_in bs)) (length before) ≡ true →
      (Ok (record { places = s.count; processes = s.day.count }) ≡ booking_of (book_in bs) (processes_in bs) (length before)) × (after ≡ book_with (book_in bs) before)
  unfolding day_of
  writes q =
      let fits = leb-true (length (book_in bs)) (length before) q in
      let room = le-ltb (length before) (length (book_in bs)) fits in (
        ap₂ {C = Result Booked Refusal} (λ k n. Ok (record { places = k; processes = n })) counted (ap (λ d. d.count) p.day)
            ∙ sym (ap (λ b. cond b (Err RoomShort) (Ok (record { places = length (book_in bs); processes = processes_in bs }))) room),
        p.book ∙ noted_book bs before fits ∙ sym (ap (λ b. cond b before (map place_of (book_in bs) ++ drop (length (book_in bs)) before)) room),
      )
