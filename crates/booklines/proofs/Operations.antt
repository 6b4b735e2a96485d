-- The text of the places of a book is that of its operations.
use Prim.Native.Nat.{ℕ, zero, suc, ◌+◌, ◌*◌, ◌≤◌}
use native.Mathlib.Omega.{arith}
use native.Mathlib.Nat.{not-suc-le-zero}
use mathlib.Core.Path.{◌≡◌, refl, sym, ap, ap₂, ◌∙◌}
use mathlib.Core.List.{List, [], ◌∷◌, ◌++◌, map}
use lib.ListN.{length, get_or, take, length-map, length-append}
use lib.Seq.{take_at}
use Rattle.snapshot.specs.Lists.{All, each_from}
use Rattle.snapshot.specs.Tally.{Job, scan, update}
use Rattle.snapshot.specs.Book.{Operation}
use Rattle.snapshot.proofs.Lists.{list_is_each}
use Rattle.places.specs.Places.{eight}
use Rattle.book.specs.Places.{kind_of, words_of, place_of}
use Rattle.book.proofs.BookWords.{ShowsWords}
use Rattle.daytext.specs.declared.Line.TheVariants.{BookPage, End}
use Rattle.daytext.specs.Lines.{body_of, text_of}
use Rattle.daytext.specs.Buffer.{longest}
use Rattle.booklines.specs.BookText.{job_line, operation_line, operation_lines, book_text}
use Rattle.booklines.specs.PlaceText.{place_line, place_text, places_text, longest_place, most_places, laid_book}
use Rattle.booklines.proofs.Laying.{true_room, book_laid}

-- the first n of k
take_each : (f : ℕ → ℕ) (n k j : ℕ) → n ≤ k → take n (each_from f k j) ≡ each_from f n j
take_each f zero k j l = refl
take_each f (suc n) zero j l = absurd (not-suc-le-zero l)
take_each f (suc n) (suc k) j l = ap (λ ws. f j ∷ ws) (take_each f n k (suc j) (omega arith))

module _ (n : ℕ) (few : n ≤ 8) where
  -- the first n of eight words
  words_shown : (ws : List ℕ) → length ws ≡ n → take n (eight ws) ≡ ws
  words_shown ws long = take_each (λ i. get_or ws i 0) n 8 0 few ∙ sym (list_is_each n 0 ws long)

  place_text_lem : (o : Operation) → ShowsWords n o.words o.job → place_text n (place_of o) ≡ text_of (operation_line o) o.words []
  unfolding place_line text_of body_of
  place_text_lem o = go o.job
    where
      go : (j : Job) → ShowsWords n o.words j →
          place_text n (o.number ∷ kind_of j ∷ o.process ∷ eight (words_of o.words j))
          ≡ text_of (job_line o.number o.process j) o.words []
      go scan long = ap (λ ws. text_of (BookPage o.number o.process) ws []) (words_shown o.words long)
      go (update k w) _ = refl

  places_text_lem : (os : List Operation) → All (λ o. ShowsWords n o.words o.job) os →
      places_text n (map place_of os) ≡ operation_lines os
  places_text_lem [] show = refl
  places_text_lem (o ∷ os) show = ap₂ (λ s t. s ++ t) (place_text_lem o show.0) (places_text_lem os show.1)

  -- what is laid of the places of operations whose scans show n words
  pub laid_book_text : (os : List Operation) (later : List (List ℕ)) → All (λ o. ShowsWords n o.words o.job) os →
      length os ≤ most_places → (room : ℕ) → longest_place * length os + longest ≤ room →
      laid_book (map place_of os ++ later) (length os) n room ≡ book_text os
  unfolding book_text
  laid_book_text os later show most room wide =
      let places = map place_of os in
      let long = length-map os place_of in
      let all = length-append places later in
      let wider = true_room (length os) n (length (places ++ later)) room (omega (arith, long, all)) most few wide in
      book_laid (places ++ later) (length os) n room wider
      ∙ ap (λ ps. places_text n ps ++ text_of (End (length os)) [] []) (take_at places later (length os) long)
      ∙ ap (λ t. t ++ text_of (End (length os)) [] []) (places_text_lem os show)
