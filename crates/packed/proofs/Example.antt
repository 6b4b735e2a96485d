-- Where each word of a record lies, by an example against which other languages can be held: its numbers are their own places, but for
-- the kind of its task and the marks (`each_in_its_place`).
use Prim.Native.Nat.{ℕ, ◌+◌, ◌*◌}
use mathlib.Core.Path.{◌≡◌, refl}
use mathlib.Core.Bool.{true, false}
use mathlib.Core.List.{List, [], ◌∷◌, ◌++◌}
use Rattle.snapshot.specs.Lists.{each}
use Rattle.snapshot.specs.declared.Value.{Value}
use Rattle.unbounded.specs.declared.Register.{Register}
use Rattle.unbounded.specs.declared.Process.{Process}
use Rattle.unbounded.specs.declared.Task.TheVariants.{Ready}
use Rattle.packed.specs.Packing.{pack_record}

-- parts whose first word lies at place a
abbrev placed_view : ℕ → List Value
placed_view a = each 8 (λ i. record { word = a + 2 * i; last = a + 2 * i + 1 })

abbrev placed_register : ℕ → Register
placed_register a = record { value = record { word = a; last = a + 1 }; seq = a + 2; view = placed_view (a + 3); at = a + 19 }

abbrev placed_record : Process
placed_record =
    record {
      register = placed_register 0;
      task = Ready 21 22 23;
      first = each 8 (λ i. placed_register (24 + 20 * i));
      second = each 8 (λ i. placed_register (184 + 20 * i));
      first_end = 344;
      view = placed_view 345;
      moved = true ∷ false ∷ true ∷ true ∷ false ∷ false ∷ false ∷ true ∷ [];
    }

pub each_in_its_place : pack_record placed_record
    ≡ each 20 (λ i. i) ++ (3 ∷ each 340 (λ i. 21 + i)) ++ (1 ∷ 0 ∷ 1 ∷ 1 ∷ 0 ∷ 0 ∷ 0 ∷ 1 ∷ [])
unfolding pack_record
each_in_its_place = refl
