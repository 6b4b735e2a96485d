-- What a test says of its parts, as std says it, and a case for each of the two values of a boolean.
use mathlib.Core.Path.{◌≡◌, refl}
use mathlib.Core.Bool.{Bool, true, false}
pub use Rattle.std.proofs.lemmas.Bool.{or_parts as or_neither, and_parts as and_both}

pub bool_cases : {C : Type 0} (b : Bool) → (b ≡ true → C) → (b ≡ false → C) → C
bool_cases true f g = f refl
bool_cases false f g = g refl
