-- A page in a page list is read back as its values, and can be laid there value by value.
use Prim.Native.Nat.{ℕ, ◌+◌, ◌-◌, ◌≤◌, ◌<◌}
use native.Mathlib.Omega.{arith}
use native.Mathlib.Decide.{ℕ_discrete, dec_lt, dec_le}
use mathlib.Core.Path.{◌≡◌, refl, sym, ap, ap₂, ◌∙◌}
use mathlib.Core.Logic.{by_cases}
use mathlib.Core.List.{List, [], ◌∷◌, ◌++◌, map, append-nil}
use lib.ListN.{length, get_or, set, take, drop, drop_of_length-le, length-append, length-map, length-set, get_or-append, get_or-map}
use lib.Seq.{take-nil, take_at, drop_at, take_all, take-add, take-take, get_or-append-add, get_or-set_same, get_or-set_other, get_or-take, length-take-le, ext_get_or}
use Rattle.snapshot.specs.Lists.{over}
use Rattle.snapshot.specs.declared.Value.{Value}
use Rattle.snapshot.specs.Values.{zero_value, stored, page_places, listed, words_in, lasts_in, paired, values_in}
use Rattle.snapshot.proofs.Lists.{take_over_all, length_over, get_d_over, get_d_over_past}

module _ (vs : List Value) where
  pub length_listed : length (listed vs) ≡ page_places (length vs)
  unfolding listed
  length_listed = simp (length-append, length-map) (omega arith)

  listed_word : (j : ℕ) → j < length vs → get_or (listed vs) j 0 ≡ (get_or vs j zero_value).word
  unfolding listed
  listed_word j l =
      get_or-append (map (λ v. v.word) vs) (map (λ v. v.last) vs) 0 j
      (let q = length-map vs (λ v. v.word) in omega arith)
      ∙ get_or-map (λ v. v.word) vs j zero_value

  listed_last : (j : ℕ) → get_or (listed vs) (length vs + j) 0 ≡ (get_or vs j zero_value).last
  unfolding listed
  listed_last j =
      ap (λ k. get_or (listed vs) (k + j) 0) (sym (length-map vs (λ v. v.word)))
      ∙ get_or-append-add (map (λ v. v.word) vs) (map (λ v. v.last) vs) j 0
      ∙ get_or-map (λ v. v.last) vs j zero_value

paired_parts : (vs : List Value) → paired (map (λ v. v.word) vs) (map (λ v. v.last) vs) ≡ vs
paired_parts [] = refl
paired_parts (v ∷ vs) = ap {B = List Value} (λ us. v ∷ us) (paired_parts vs)

values_listed : (n : ℕ) (vs : List Value) → length vs ≡ n → values_in n (listed vs) ≡ vs
unfolding values_in listed
values_listed n vs l =
    let ws = map (λ v. v.word) vs in
    let es = map (λ v. v.last) vs in
    let long : length ws ≡ n = length-map vs (λ v. v.word) ∙ l in
    let numbers : length es ≡ n = length-map vs (λ v. v.last) ∙ l in
    ap₂ paired (take_at ws es n long) (ap (take n) (drop_at ws es n long) ∙ take_all n es (omega arith)) ∙ paired_parts vs

-- laid over a page list, they are what its places show
pub values_laid : (n : ℕ) (vs : List Value) (page : List ℕ) → length vs ≡ n →
    values_in n (take (page_places n) (over (page_places n) (listed vs) page)) ≡ vs
values_laid n vs page l =
    ap (values_in n) (take_over_all (page_places n) (listed vs) page (length_listed vs ∙ ap page_places l)) ∙ values_listed n vs l

-- "The page list takes them after the words"
pub after_the_words : (listed (stored 4 7 ∷ stored 5 9 ∷ []) ≡ 7 ∷ 9 ∷ 4 ∷ 5 ∷ [])
    × (words_in 2 (7 ∷ 9 ∷ 4 ∷ 5 ∷ 1 ∷ []) ≡ 7 ∷ 9 ∷ [])
    × (lasts_in 2 (7 ∷ 9 ∷ 4 ∷ 5 ∷ 1 ∷ []) ≡ 4 ∷ 5 ∷ [])
unfolding listed
after_the_words = (refl, refl, refl)

-- ---- value by value

-- the first j of n values have been laid into a page list that was page₀
pub record LaidTo (n j : ℕ) (vs : List Value) (page₀ page : List ℕ) : Type 0 where
  pub long : length page ≡ length page₀
  pub words : (i : ℕ) → i < j → get_or page i 0 ≡ (get_or vs i zero_value).word
  pub lasts : (i : ℕ) → i < j → get_or page (n + i) 0 ≡ (get_or vs i zero_value).last
  pub rest : (i : ℕ) → page_places n ≤ i → get_or page i 0 ≡ get_or page₀ i 0

module _ (n : ℕ) (vs : List Value) (page₀ : List ℕ) (room : page_places n ≤ length page₀) where
  pub laid_none : LaidTo n 0 vs page₀ page₀
  laid_none = record { long = refl; words = λ i l. absurd (omega arith); lasts = λ i l. absurd (omega arith); rest = λ i l. refl }

  pub laid_one : (j : ℕ) (page : List ℕ) → j < n → LaidTo n j vs page₀ page → let v = get_or vs j zero_value in
      LaidTo n (j + 1) vs page₀ (set (set page j v.word) (n + j) v.last)
  laid_one j page b h =
      let v = get_or vs j zero_value in
      let once = set page j v.word in
      let l = h.long in
      let m = length-set page j v.word in
      record {
        long = length-set once (n + j) v.last ∙ m ∙ l;
        words = λ i k.
            get_or-set_other once (n + j) i v.last 0 (λ q. omega arith)
            ∙ by_cases (ℕ_discrete i j)
            (λ q. ap (λ x. get_or once x 0) q ∙ get_or-set_same page j v.word 0 (omega arith) ∙ ap (λ x. (get_or vs x zero_value).word) (sym q))
            (λ q. get_or-set_other page j i v.word 0 q ∙ h.words i (omega arith));
        lasts = λ i k.
            by_cases (ℕ_discrete i j)
            (λ q.
            ap (λ x. get_or (set once (n + j) v.last) (n + x) 0) q ∙ get_or-set_same once (n + j) v.last 0 (omega arith)
            ∙ ap (λ x. (get_or vs x zero_value).last) (sym q))
            (λ q.
            get_or-set_other once (n + j) (n + i) v.last 0 (λ e. q (omega arith))
            ∙ get_or-set_other page j (n + i) v.word 0 (λ e. omega arith) ∙ h.lasts i (omega arith));
        rest = λ i k.
            get_or-set_other once (n + j) i v.last 0 (λ e. omega arith) ∙ get_or-set_other page j i v.word 0 (λ e. omega arith)
            ∙ h.rest i k;
      }

  pub laid_all : (page : List ℕ) → n ≤ length vs → LaidTo n n vs page₀ page → page ≡ over (page_places n) (listed (take n vs)) page₀
  laid_all page full h =
      let shown = listed (take n vs) in
      let t : length (take n vs) ≡ n = length-take-le n vs full in
      let s : length shown ≡ page_places n = length_listed (take n vs) ∙ ap page_places t in
      let long : length (take (page_places n) shown) ≡ page_places n = length-take-le (page_places n) shown (omega arith) in
      let whole = length_over (page_places n) shown page₀ long room in
      let l = h.long in
      ext_get_or 0 page (over (page_places n) shown page₀) (l ∙ sym whole)
      (λ i b.
      by_cases (dec_lt i n)
      (λ k.
      h.words i k
      ∙ sym (get_d_over (page_places n) shown page₀ i 0 long (omega arith) ∙ listed_word (take n vs) i (omega arith)
      ∙ ap (λ v. v.word) (get_or-take n vs i zero_value k)))
      (λ k.
      by_cases (dec_lt i (page_places n))
      (λ m.
      let past : i ≡ length (take n vs) + (i - n) = omega arith in
      ap (λ x. get_or page x 0) (let q : i ≡ n + (i - n) = omega arith in q) ∙ h.lasts (i - n) (omega arith)
      ∙ sym (get_d_over (page_places n) shown page₀ i 0 long m ∙ ap (λ x. get_or shown x 0) past ∙ listed_last (take n vs) (i - n)
      ∙ ap (λ v. v.last) (get_or-take n vs (i - n) zero_value (omega arith))))
      (λ m. h.rest i (omega arith) ∙ sym (get_d_over_past (page_places n) shown page₀ i 0 (omega arith) (omega arith)))))

-- ---- the words and the numbers that are shown

pub words_paired : (ws es : List ℕ) → map (λ v. v.word) (paired ws es) ≡ ws
words_paired [] es = refl
words_paired (w ∷ ws) [] = ap {B = List ℕ} (λ us. w ∷ us) (words_paired ws [])
words_paired (w ∷ ws) (e ∷ es) = ap {B = List ℕ} (λ us. w ∷ us) (words_paired ws es)

-- the numbers behind the words, by the places of both
drop_front : (n : ℕ) (l : List ℕ) → take n (drop n (take (n + n) l)) ≡ take n (drop n l)
drop_front n l =
    ap (λ r. take n (drop n r)) (take-add n n l)
    ∙ by_cases (dec_le n (length l))
    (λ k. ap (take n) (drop_at (take n l) (take n (drop n l)) n (length-take-le n l k)) ∙ take-take n n (drop n l) (omega arith))
    (λ k.
    let short : length l ≤ n = omega (arith, k) in
    let none = drop_of_length-le l {i = n} short in
    ap₂ (λ a b. take n (drop n (a ++ take n b))) (take_all n l short) none
    ∙ ap (λ r. take n (drop n r)) (ap (λ r. l ++ r) (take-nil n) ∙ append-nil l) ∙ refl)

-- what a page list shows is in its first places
pub values_in_front : (n : ℕ) (page : List ℕ) → values_in n (take (page_places n) page) ≡ paired (words_in n page) (lasts_in n page)
unfolding values_in
values_in_front n page =
    let twice : page_places n ≡ n + n = omega arith in
    ap₂ paired (take-take n (page_places n) page (omega arith))
    (ap (λ k. take n (drop n (take k page))) twice ∙ drop_front n page)
