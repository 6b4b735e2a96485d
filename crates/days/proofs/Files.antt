-- What happens in a file ends, for every list of bytes and every box: it is what happens first, and then what happens in the rest
-- (`file_unfold`), and nothing else is (`file_only`).
use Prim.Native.Nat.{ℕ, zero, suc, ◌<◌}
use native.Mathlib.Omega.{arith}
use native.Mathlib.Nat.{not-suc-le-zero, le_refl}
use mathlib.Core.Path.{◌≡◌, refl, sym, ap, ◌∙◌}
use mathlib.Core.List.{List, [], ◌∷◌}
use lib.ListN.{length, drop, length-drop}
use Rattle.dayfile.specs.Reader.{reading}
use Rattle.dayfile.specs.Files.{read_on, readings}
use Rattle.dayfile.specs.declared.Reading.{Reading}
use Rattle.dayfile.specs.declared.Reading.TheVariants.{Found, End, Refused}
use Rattle.dayfile.proofs.Reader.{found_consumes}
use Rattle.dayfile.proofs.Files.{readings_unfold}
use Rattle.days.specs.Happenings.{Box, box_after, Happening, happening_in, happenings, file_on}

-- what happens where x stands first, and `rest` says what happens behind a record
abbrev pub happen_on : (rest : Box → List ℕ → List Happening) → Box → List ℕ → Reading → List Happening
happen_on rest b bs (Found r next) = happening_in b (Found r next) ∷ rest (box_after b (Found r next)) (drop next bs)
happen_on rest b bs End = []
happen_on rest b bs (Refused k) = happening_in b (Refused k) ∷ []

pub file_unfold : (b : Box) (bs : List ℕ) → file_on b bs ≡ happen_on file_on b bs (reading bs)
file_unfold b bs = ap (happenings b) (readings_unfold bs) ∙ go (reading bs)
  where
    go : (x : Reading) → happenings b (read_on readings bs x) ≡ happen_on file_on b bs x
    go (Found r next) = refl
    go End = refl
    go (Refused k) = refl

pub file_only : (f : Box → List ℕ → List Happening) → ((b : Box) (bs : List ℕ) → f b bs ≡ happen_on f b bs (reading bs)) →
    (b : Box) (bs : List ℕ) → f b bs ≡ file_on b bs
file_only f h b bs = go (suc (length bs)) b bs (le_refl (suc (length bs)))
  where
    first : (b : Box) (bs : List ℕ) → ((c : Box) (after : List ℕ) → length after < length bs → f c after ≡ file_on c after) →
        (x : Reading) → reading bs ≡ x → happen_on f b bs x ≡ happen_on file_on b bs x
    first b bs same (Found r next) q =
        let c = found_consumes bs r next q in
        ap (λ hs. happening_in b (Found r next) ∷ hs) (same (box_after b (Found r next)) (drop next bs) (simp length-drop (omega arith)))
    first b bs same End q = refl
    first b bs same (Refused k) q = refl

    go : (most : ℕ) (b : Box) (bs : List ℕ) → length bs < most → f b bs ≡ file_on b bs
    go zero b bs l = absurd (not-suc-le-zero l)
    go (suc most) b bs l =
        h b bs ∙ first b bs (λ c after s. go most c after (omega (arith, s, l))) (reading bs) refl ∙ sym (file_unfold b bs)
