-- K1's claims of a day file, with the records before its opening: its book holds its finished operations, each once and in order,
-- every page in it shows the last words written above it, and with its calls and answers it is a run of the canonical automaton,
-- from zeros and nobody waiting (`day_booked`), in which every address is its own process (`day_single_writer`).
use Prim.Native.Nat.{ℕ}
use mathlib.Core.Path.{◌≡◌, refl, sym, subst}
use mathlib.Core.List.{List, [], ◌∷◌, map}
use mathlib.Core.Option.{none}
use lib.ListN.{replicate}
use Rattle.snapshot.specs.Values.{zero_value, stored}
use Rattle.snapshot.specs.Lists.{All}
use Rattle.snapshot.specs.Canonical.{OwnAddress}
use Rattle.snapshot.specs.Book.{book, memory_of, IsBooked}
use Rattle.snapshot.proofs.Booked.{follows_booked, started_memory}
use Rattle.snapshot.proofs.SingleWriter.{OwnSeen, OwnHeld, sees_own, run_own, said_own}
use Rattle.requests.specs.Requests.{item_of}
use Rattle.unbounded.specs.Days.{most_turns}
use Rattle.days.specs.Asking.{request_of}
use Rattle.days.specs.Happenings.{Happening, day_of, records_in}
use Rattle.book.specs.DayBooks.{heard_of, heard_in, processes_in, start_of, finished_in, said_in, end_of, book_in}
use Rattle.book.proofs.DayFollows.{day_follows}

pub day_booked : (bs : List ℕ) → IsBooked (processes_in bs) (λ v. v.word) (start_of bs) (end_of bs) (finished_in bs) (said_in bs)
day_booked bs =
    let n = processes_in bs in
    follows_booked n n zero_value (λ v. v.word) (most_turns n) stored (λ e w. refl) (heard_in bs) (day_follows bs)

-- that book is the one that is written
pub day_book : (bs : List ℕ) → book_in bs ≡ book (finished_in bs)
unfolding book_in
day_book bs = refl

-- it begins with zeros, and nobody waiting
pub day_begins : (bs : List ℕ) → memory_of (λ v. v.word) (start_of bs) ≡ record { Mem = replicate (processes_in bs) 0; H = λ i. none }
day_begins bs = started_memory (processes_in bs) (processes_in bs) zero_value (λ v. v.word)

own_seen : (hs : List Happening) → All (λ h. OwnSeen h.seen) (map heard_of hs)
own_seen [] = tt
own_seen (h ∷ hs) = (sees_own (item_of h.words (request_of h.reading)), own_seen hs)

pub day_single_writer : (bs : List ℕ) → All (λ a. OwnAddress a.1) (day_booked bs).serial.actions
day_single_writer bs =
    let run = (day_booked bs).serial in
    run_own run.actions (memory_of (λ v. v.word) (start_of bs)) (memory_of (λ v. v.word) (end_of bs)) run.run
    (subst (λ s. (j : ℕ) → OwnHeld (s.H j)) (sym (day_begins bs)) (λ j. tt))
    (subst (All (λ a. OwnAddress a.1)) (sym run.outside)
    (said_own stored (λ v. v.word) (start_of bs) (heard_in bs) (own_seen (records_in (day_of bs)))))
