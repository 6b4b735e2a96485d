-- Laws of laying text into a buffer.
use Prim.Native.Nat.{ℕ, zero, suc, ◌+◌, ◌≤◌, ◌<◌}
use native.Mathlib.Nat.{add-zero, not-suc-le-zero}
use native.Mathlib.Numerals.{add-one}
use native.Mathlib.Omega.{arith}
use mathlib.Core.Path.{◌≡◌, refl, sym, ap, ap₂, ◌∙◌}
use mathlib.Core.List.{List, [], ◌∷◌, ◌++◌, append_assoc, append-nil}
use lib.ListN.{length, get_or, take, drop, set, length-append, take-append-drop}
use lib.Seq.{length-take-le, take_at, drop_at, drop-drop, set_split, take-set-le}
use Rattle.texts.specs.declared.Sheet.{Sheet}
use Rattle.texts.specs.Laying.{with_text, Laid, HasRoom, SameBuffer, Lays, each_text}

module _ (out : List ℕ) (at : ℕ) where
  length_front : (s : List ℕ) → at ≤ length out → length (take at out ++ s) ≡ at + length s
  length_front s h = simp (length-append, length-take-le at out h)

  -- what stands before the place after the text
  pub take_laid : (s : List ℕ) → at ≤ length out → take (at + length s) (with_text out at s) ≡ take at out ++ s
  unfolding with_text
  take_laid s h = take_at (take at out ++ s) (drop (at + length s) out) (at + length s) (length_front s h)

  -- and what stands after it
  pub drop_laid : (s : List ℕ) → at ≤ length out → drop (at + length s) (with_text out at s) ≡ drop (at + length s) out
  unfolding with_text
  drop_laid s h = drop_at (take at out ++ s) (drop (at + length s) out) (at + length s) (length_front s h)

  pub laid_nothing : with_text out at [] ≡ out
  unfolding with_text
  laid_nothing = simp (append-nil, add-zero, take-append-drop)

  -- one text, and another where it ends
  laid_then : (s t : List ℕ) → at ≤ length out → with_text (with_text out at s) (at + length s) t ≡ with_text out at (s ++ t)
  unfolding with_text
  laid_then s t h =
      let end : at + length s + length t ≡ at + length (s ++ t) = simp length-append (omega arith) in
      let rest : drop (at + length s + length t) (with_text out at s) ≡ drop (at + length (s ++ t)) out
      = sym (drop-drop (length t) (at + length s) (with_text out at s))
      ∙ ap (drop (length t)) (drop_laid s h)
      ∙ drop-drop (length t) (at + length s) out
      ∙ ap (λ k. drop k out) end in
      ap₂ (λ a r. a ++ t ++ r) (take_laid s h) rest ∙ simp append_assoc

  pub laid_byte : (b : ℕ) → at < length out → set out at b ≡ with_text out at (b ∷ [])
  unfolding with_text
  laid_byte b h =
      let end : suc at ≡ at + 1 = omega arith in
      set_split out at b h ∙ ap (λ k. take at out ++ b ∷ drop k out) end ∙ simp append_assoc

  -- the last byte of a text, and then what is before it
  pub laid_last : (s : List ℕ) (b : ℕ) → at + length s < length out
      → with_text (set out (at + length s) b) at s ≡ with_text out at (s ++ (b ∷ []))
  unfolding with_text
  laid_last s b h =
      let seam = at + length s in
      let end : suc (at + length s) ≡ at + length (s ++ (b ∷ [])) = simp length-append (omega arith) in
      let rest : drop (at + length s) (set out (at + length s) b) ≡ b ∷ drop (at + length (s ++ (b ∷ []))) out
      = ap (drop seam) (set_split out seam b h)
      ∙ drop_at (take seam out) (b ∷ drop (suc seam) out) seam (length-take-le seam out (omega arith))
      ∙ ap (λ k. b ∷ drop k out) end in
      ap₂ (λ a r. a ++ s ++ r) (take-set-le at out seam b (omega arith)) rest ∙ simp append_assoc

-- two texts laid one after the other are both laid as one
pub in_turn : {out : List ℕ} {at : ℕ} {s mid : List ℕ} {a : ℕ} {t after : List ℕ} {r : ℕ}
    → at ≤ length out → Laid out at s mid a → Laid mid a t after r → Laid out at (s ++ t) after r
in_turn {out} {at} {s} {t = t} h one two =
    record {
      buffer = two.buffer ∙ ap₂ (λ m k. with_text m k t) one.buffer one.end ∙ laid_then out at s t h;
      end = two.end ∙ ap (λ k. k + length t) one.end ∙ simp length-append (omega arith);
    }

pub laid_as : {out : List ℕ} {at : ℕ} {s t after : List ℕ} {r : ℕ} → s ≡ t → Laid out at s after r → Laid out at t after r
laid_as e l = rw e at l

-- what lies at the start of a buffer once it is laid there
pub laid_start : {out text after : List ℕ} {r : ℕ} → Laid out 0 text after r → (take r after ≡ text) × (r ≤ length after)
unfolding with_text
laid_start {out} {text} l =
    let long = ap length l.buffer ∙ length-append text (drop (0 + length text) out) in
    let end = l.end in
    (ap₂ take l.end l.buffer ∙ take_laid out 0 text (omega arith), omega (arith, long, end))

-- where there is nothing to lay, the buffer stays as it is
pub none_laid : (out : List ℕ) {text : List ℕ} → text ≡ [] → Laid out 0 text out 0
none_laid out e = laid_as (sym e) (record { buffer = sym (laid_nothing out 0); end = refl })

-- ---- on a sheet

pub same_then : {a b c : Sheet} → SameBuffer a b → SameBuffer b c → SameBuffer a c
same_then one two = record { same_name = two.same_name ∙ one.same_name; same_length = two.same_length ∙ one.same_length }

-- two texts laid one after the other are both laid as one
pub lays_then : {a b c : Sheet} {s t : List ℕ} → HasRoom a 0 → Lays a s b → Lays b t c → Lays a (s ++ t) c
lays_then room one two =
    record {
      buffer = same_then one.buffer two.buffer;
      laid = in_turn (omega (arith, room)) one.laid two.laid;
    }

pub lays_nothing : (a : Sheet) → Lays a [] a
lays_nothing a =
    record {
      buffer = record { same_name = refl; same_length = refl };
      laid = record { buffer = sym (laid_nothing a.out.now a.at); end = sym (add-zero a.at) };
    }

pub lays_as : {a b : Sheet} {s t : List ℕ} → s ≡ t → Lays a s b → Lays a t b
lays_as e l = rw e at l

-- ---- texts one after the other

module _ {A : Type 0} (f : A → List ℕ) where
  -- one more
  pub each_more : (xs : List A) (i : ℕ) (z : A) → i < length xs → each_text f (take i xs) ++ f (get_or xs i z) ≡ each_text f (take (suc i) xs)
  each_more [] i z l = absurd (not-suc-le-zero l)
  each_more (x ∷ xs) zero z l = sym (append-nil (f x))
  each_more (x ∷ xs) (suc i) z l =
      append_assoc (f x) (each_text f (take i xs)) (f (get_or xs i z)) ∙ ap (λ t. f x ++ t) (each_more xs i z (omega arith))

  pub each_append : (xs ys : List A) → each_text f (xs ++ ys) ≡ each_text f xs ++ each_text f ys
  each_append [] ys = refl
  each_append (x ∷ xs) ys = ap (λ t. f x ++ t) (each_append xs ys) ∙ sym (append_assoc (f x) (each_text f xs) (each_text f ys))

  -- and laid
  pub lays_more : {a b c : Sheet} (xs : List A) (i : ℕ) (z : A) → i < length xs → HasRoom a 0
      → Lays a (each_text f (take i xs)) b → Lays b (f (get_or xs i z)) c → Lays a (each_text f (take (i + 1) xs)) c
  lays_more xs i z l room before next =
      lays_as (each_more xs i z l ∙ ap (λ k. each_text f (take k xs)) (sym (add-one i))) (lays_then room before next)
