-- An array made place by place by a function of the place (`made`), or of another's elements (`mapped`), and parts of so many words
-- each that were unpacked so (`made_unpacked`).
use Prim.Native.Nat.{ℕ, zero, suc, ◌+◌, ◌*◌}
use native.Mathlib.Numerals.{add-one}
use native.Mathlib.Omega.{arith}
use mathlib.Core.Path.{◌≡◌, refl, sym, ap, ap₂, subst, ◌∙◌}
use mathlib.Core.List.{List, ◌∷◌, map}
use lib.ListN.{length, drop}
use lib.Seq.{drop-drop, drop-length, drop-cons}
use denote.Param.Members.{Mut}
use Rattle.std.specs.Array.{IsFromFnResult, IsFromFnResultFrom, MapsFrom, IsMapOf}
use Rattle.std.specs.Iterator.{ActsAs}
use Rattle.snapshot.specs.Lists.{each_from, each}
use Rattle.packed.specs.Packing.{unpack_each}

module _ {F A : Type 0} (g : Mut F (ℕ × Unit {0}) A) (part : ℕ → A) (parts : List A) where
  made_from : (f : F) → ActsAs g f part → (i n : ℕ) → i + n ≡ length parts → IsFromFnResultFrom g f parts i n →
      drop i parts ≡ each_from part n i
  made_from f acts i zero e h = ap (λ k. drop k parts) (omega (arith, e)) ∙ drop-length parts
  made_from f acts i (suc n) e h =
      let called = acts i h.1 h.0 h.3 in
      let rest = subst (λ k. IsFromFnResultFrom g h.0 parts k n) (add-one i) h.4 in
      drop-cons parts i h.1 (omega (arith, e))
      ∙ ap₂ (λ x r. x ∷ r) (h.2.1 h.1 ∙ called.1)
      (made_from f acts (suc i) n (omega (arith, e)) (subst (λ q. IsFromFnResultFrom g q parts (suc i) n) called.0 rest))

module _ {F A : Type 0} {g : Mut F (ℕ × Unit {0}) A} {f : F} {parts : List A} {n : ℕ} where
  pub made : IsFromFnResult g f parts n → (part : ℕ → A) → ActsAs g f part → parts ≡ each n part
  made h part acts = made_from g part parts f acts 0 n (omega (arith, h.long)) h.each

-- each of them from one of a list
module _ {F A B : Type 0} (g : Mut F (A × Unit {0}) B) (h : A → B) (xs : List A) (ys : List B) where
  mapped_from : (f : F) → ActsAs g f h → (i n : ℕ) → i + n ≡ length xs → i + n ≡ length ys → MapsFrom g f xs ys i n →
      drop i ys ≡ map h (drop i xs)
  mapped_from f acts i zero e d m =
      ap (λ k. drop k ys) (omega (arith, d)) ∙ drop-length ys
      ∙ sym (ap (map h) (ap (λ k. drop k xs) (omega (arith, e)) ∙ drop-length xs))
  mapped_from f acts i (suc n) e d m =
      let called = acts m.1 m.2 m.0 m.5 in
      let rest = subst (λ k. MapsFrom g m.0 xs ys k n) (add-one i) m.6 in
      drop-cons ys i m.2 (omega (arith, d))
      ∙ ap₂ (λ y r. y ∷ r) (m.4.1 m.2 ∙ called.1)
      (mapped_from f acts (suc i) n (omega (arith, e)) (omega (arith, d))
      (subst (λ q. MapsFrom g q xs ys (suc i) n) called.0 rest))
      ∙ ap (λ x. h x ∷ map h (drop (suc i) xs)) (sym (m.3.1 m.1))
      ∙ sym (ap (map h) (drop-cons xs i m.1 (omega (arith, e))))

pub mapped : {F A B : Type 0} {g : Mut F (A × Unit {0}) B} {f : F} {xs : List A} {ys : List B} {n : ℕ} →
    IsMapOf g f xs ys n → length xs ≡ n → (h : A → B) → ActsAs g f h → ys ≡ map h xs
mapped {F} {A} {B} {g} {f} {xs} {ys} m long h acts = mapped_from g h xs ys f acts 0 _ (omega (arith, long)) (omega (arith, m.long)) m.each

parts_from : {A : Type 0} (unpack : List ℕ → A) (m i k a : ℕ) (ws : List ℕ) →
    each_from (λ i. unpack (drop (a + m * i) ws)) k i ≡ unpack_each unpack m k (drop (a + m * i) ws)
parts_from unpack m i zero a ws = refl
parts_from unpack m i (suc k) a ws =
    let e : a + m * suc i ≡ a + m * i + m = omega arith in
    ap (λ l. unpack (drop (a + m * i) ws) ∷ l)
    (parts_from unpack m (suc i) k a ws
    ∙ ap (unpack_each unpack m k) (ap (λ j. drop j ws) e ∙ sym (drop-drop m (a + m * i) ws)))

module _ {F A : Type 0} {g : Mut F (ℕ × Unit {0}) A} {f : F} {parts : List A} {k : ℕ} where
  -- k parts from word a on
  pub made_unpacked : IsFromFnResult g f parts k → (unpack : List ℕ → A) (m a : ℕ) (ws : List ℕ) →
      ActsAs g f (λ i. unpack (drop (a + m * i) ws)) → parts ≡ unpack_each unpack m k (drop a ws)
  made_unpacked h unpack m a ws acts =
      let e : a + m * 0 ≡ a = omega arith in
      made h (λ i. unpack (drop (a + m * i) ws)) acts
      ∙ parts_from unpack m 0 k a ws ∙ ap (λ j. unpack_each unpack m k (drop j ws)) e
