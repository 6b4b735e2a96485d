-- What is laid of an input: the text of its book, where its places were written.
use Prim.Native.Nat.{ℕ, ◌≤◌}
use native.Mathlib.Omega.{arith}
use mathlib.Core.Path.{◌≡◌, refl, ap, ap₂, ◌∙◌}
use mathlib.Core.Bool.{Bool, true, false, cond}
use mathlib.Core.List.{List, [], ◌++◌, map}
use lib.Dec.{ltb}
use lib.ListN.{length, drop}
use borrow.Author.Tests.{ltb-false}
use Rattle.snapshot.specs.Book.{Operation}
use Rattle.snapshot.specs.declared.Refusal.{Refusal}
use Rattle.snapshot.specs.declared.Refusal.TheVariants.{RoomShort}
use Rattle.std.specs.Prelude.{Result, Ok, Err}
use Rattle.book.specs.declared.Booked.{Booked}
use Rattle.book.specs.DayBooks.{processes_in, book_in}
use Rattle.book.specs.Places.{place_of, booking_of, book_with}
use Rattle.book.proofs.DayFollows.{processes_few}
use Rattle.book.proofs.BookWords.{book_words}
use Rattle.booklines.specs.BookText.{book_text}
use Rattle.booklines.specs.PlaceText.{laid_book}
use Rattle.booklines.proofs.Operations.{laid_book_text}
use Rattle.streams.specs.Input.{Incoming}
use Rattle.day_book.specs.Runs.{LinesFit, book_of, written_of}

-- the book of a day file, as its places are lent
module _ (file : List ℕ) (places : List (List ℕ)) where
  abbrev os : List Operation
  os = book_in file

  abbrev booking : Result Booked Refusal
  booking = booking_of os (processes_in file) (length places)

  -- where it has more of them, nothing is written
  pub refused_unlaid : (k : Refusal) → booking ≡ Err k → book_of (length places) file ≡ []
  refused_unlaid k = go (ltb (length places) (length os))
    where
      go : (b : Bool) → cond {A = Result Booked Refusal} b (Err RoomShort) (Ok (record { places = length os; processes = processes_in file })) ≡ Err k →
          cond b [] (book_text os) ≡ []
      go true q = refl
      go false q = let z : ◌≡◌ {A = ℕ} 0 1 = cc in absurd (omega arith)

  -- where they were written, the text of the book is laid
  module _ (room : ℕ) (ready : LinesFit (length places) room) where
    pub written_laid : (b : Booked) → booking ≡ Ok b → (after : List (List ℕ)) → after ≡ book_with os places →
        laid_book after b.places b.processes room ≡ book_of (length places) file
    written_laid w is after lies = ap (λ ps. laid_book ps w.places w.processes room) lies ∙ go (ltb (length places) (length os)) refl is
      where
        go : (b : Bool) → ltb (length places) (length os) ≡ b →
            cond {A = Result Booked Refusal} b (Err RoomShort) (Ok (record { places = length os; processes = processes_in file })) ≡ Ok w →
            laid_book (cond b places (map place_of os ++ drop (length os) places)) w.places w.processes room ≡ cond b [] (book_text os)
        go true e q = let z : ◌≡◌ {A = ℕ} 0 1 = cc in absurd (omega arith)
        go false e q =
            let same : w ≡ record { places = length os; processes = processes_in file } = cc in
            let later = drop (length os) places in
            let few : length os ≤ length places = ltb-false _ _ e in
            let most = ready.few in
            let wide = ready.wide in
            let k : w.places ≡ length os = ap (λ r. r.places) same in
            let m : w.processes ≡ processes_in file = ap (λ r. r.processes) same in
            ap₂ (λ k m. laid_book (map place_of os ++ later) k m room) k m
            ∙ laid_book_text (processes_in file) (processes_few file) os later (book_words file) (omega arith) room (omega arith)

-- what is written of an input, by how its reads ended
module _ (places : ℕ) (i : Incoming) where
  pub unread_unwritten : i.failed ≡ true → written_of places i ≡ []
  unfolding written_of
  unread_unwritten failed = ap (λ b. cond b [] (cond i.last (book_of places i.left) [])) failed

  module _ (good : i.failed ≡ false) where
    by_last : written_of places i ≡ cond i.last (book_of places i.left) []
    unfolding written_of
    by_last = ap (λ b. cond b [] (cond i.last (book_of places i.left) [])) good

    pub cut_unwritten : i.last ≡ false → written_of places i ≡ []
    cut_unwritten cut = by_last ∙ ap (λ b. cond b (book_of places i.left) []) cut

    pub whole_written : i.last ≡ true → written_of places i ≡ book_of places i.left
    whole_written all = by_last ∙ ap (λ b. cond b (book_of places i.left) []) all

-- ---- the sizes of the buffers

pub room_enough : (places : List (List ℕ)) (out : List ℕ) → length places ≡ 21845 → length out ≡ 2643517 →
    LinesFit (length places) (length out)
room_enough places out few wide = record { few = omega arith; wide = omega arith }
