-- Reading a whole file ends, for every list of bytes: `readings` is what stands first and then the rest, and nothing else is.
use Prim.Native.Nat.{ℕ, ◌<◌}
use native.Mathlib.Omega.{arith}
use mathlib.Core.Path.{◌≡◌, refl, ap}
use mathlib.Core.List.{List, [], ◌∷◌}
use lib.ListN.{length, drop, length-drop}
use Rattle.dayfile.specs.declared.Reading.{Reading}
use Rattle.dayfile.specs.declared.Reading.TheVariants.{Found, End, Refused}
use Rattle.dayfile.specs.Reader.{reading}
use Rattle.dayfile.specs.Files.{read_on, readings_up_to, readings}
use Rattle.dayfile.proofs.Reader.{found_consumes}
use Rattle.dayfile.proofs.Counted.{counted_unfold, counted_only}

abbrev next_readings : (List ℕ → List Reading) → List ℕ → List Reading
next_readings rest bs = read_on rest bs (reading bs)

-- what is read on depends only on how shorter lists are read
shorter_rest : (f g : List ℕ → List Reading) (bs : List ℕ) → ((after : List ℕ) → length after < length bs → f after ≡ g after) →
    next_readings f bs ≡ next_readings g bs
shorter_rest f g bs h = go (reading bs) refl
  where
    go : (x : Reading) → reading bs ≡ x → read_on f bs x ≡ read_on g bs x
    go (Found r next) q =
        let c = found_consumes bs r next q in
        ap (λ xs. Found r next ∷ xs) (h (drop next bs) (simp length-drop (omega arith)))
    go End q = refl
    go (Refused k) q = refl

nothing_read : (f : List ℕ → List Reading) → next_readings f [] ≡ []
unfolding reading
nothing_read f = refl

-- a file is what stands first, and then what stands in the rest
pub readings_unfold : (bs : List ℕ) → readings bs ≡ read_on readings bs (reading bs)
unfolding readings_up_to readings
readings_unfold = counted_unfold next_readings shorter_rest nothing_read readings_up_to (λ bs. refl) (λ most bs. refl)

-- `readings` alone reads a file so
pub readings_only : (f : List ℕ → List Reading) → ((bs : List ℕ) → f bs ≡ read_on f bs (reading bs)) →
    (bs : List ℕ) → f bs ≡ readings bs
unfolding readings_up_to readings
readings_only = counted_only next_readings shorter_rest nothing_read readings_up_to (λ bs. refl) (λ most bs. refl)
