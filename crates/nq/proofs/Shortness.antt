-- A record that the reader finds takes ten bytes at most.
use Prim.Native.Nat.{ℕ}
use mathlib.Core.Path.{◌≡◌, refl}
use mathlib.Core.List.{List}
use Rattle.dayfile.specs.declared.Reading.{Reading}
use Rattle.dayfile.specs.declared.Reading.TheVariants.{Found, End, Refused}
use Rattle.dayfile.specs.Reader.{reading}
use Rattle.dayfile.proofs.Reader.{found_short}
use Rattle.numbers.specs.Replies.{Short}

pub reading_short : (bs : List ℕ) → Short (reading bs)
reading_short bs = go (reading bs) refl
  where
    go : (x : Reading) → reading bs ≡ x → Short x
    go (Found r next) q = found_short bs r next q
    go End q = tt
    go (Refused k) q = tt
