-- What stored parts come to: a register with all values of its view is packed there (`stored_whole`), and the parts of a record, one
-- after the other, the record (`sets_record`). A register stored over another is laid over it (`stored_here`), and so in its place of
-- a collect (`stored_place`).
use Prim.Native.Nat.{ℕ, zero, suc, ◌+◌, ◌*◌, ◌<◌, ◌≤◌}
use native.Mathlib.Nat.{zero-add, not-suc-le-zero}
use native.Mathlib.Omega.{arith}
use mathlib.Core.Path.{◌≡◌, refl, sym, ap, ◌∙◌}
use mathlib.Core.List.{List, [], ◌∷◌, ◌++◌, map, append_assoc, append-nil}
use lib.ListN.{length, get_or, take, drop, set, take-append-drop}
use lib.Seq.{sets, sets-eq, take_all, drop_at, drop-drop, length-take-le}
use borrow.Rule.Slice.PartMut.{put_mid}
use Rattle.snapshot.specs.Lists.{over}
use Rattle.snapshot.proofs.Lists.{length_over}
use Rattle.snapshot.specs.declared.Value.{Value}
use Rattle.unbounded.specs.declared.Register.{Register}
use Rattle.unbounded.specs.declared.Process.{Process}
use Rattle.unbounded.specs.Registers.{laid, read_into}
use Rattle.packed.specs.Packing.{chained, pack_value, pack_view, pack_register, stored_at, pack_task, pack_collect, pack_mark, pack_record}
use Rattle.packed.proofs.Words.{sets_cons, sets_next}
use Rattle.packed.proofs.Packing.{Views, view_long, eight_long, register_long, task_long}

-- ---- parts stored as they are packed

-- a register stored with all eight values of its view
pub stored_whole : (ws : List ℕ) (r : Register) (a : ℕ) → length r.view ≡ 8 → stored_at 8 r a ws ≡ sets ws a (pack_register r)
unfolding stored_at
stored_whole ws r a e =
    let head : List Value → List ℕ = λ v. pack_value r.value ++ (r.seq ∷ pack_view v) in
    let long = eight_long r.view e in
    ap (λ v. sets (sets ws a (head v)) (a + 19) (r.at ∷ [])) (take_all 8 r.view (omega (arith, e)))
    ∙ sym (sets_next ws a (head r.view) (r.at ∷ []) (a + 19) (omega (arith, long)))

-- words copied over as many that are there
pub copied_over : (ws us vs : List ℕ) (a k : ℕ) → us ≡ vs → length vs ≡ k → a + k ≤ length ws → put_mid a k ws us ≡ sets ws a vs
copied_over ws us vs a k c e h =
    (λ i. take a ws ++ (c i ++ (drop-drop k a ws ∙ ap (λ j. drop (a + j) ws) (sym e)) i))
    ∙ sym (append_assoc (take a ws) vs (drop (a + length vs) ws))
    ∙ sym (sets-eq vs ws a (omega (arith, e, h)))

-- one part more, of parts that are packed one after the other
pub chained_more : {A : Type 0} (pack : A → List ℕ) (none : A) (xs : List A) (i : ℕ) → i < length xs →
    chained (map pack (take i xs)) ++ pack (get_or xs i none) ≡ chained (map pack (take (suc i) xs))
chained_more pack none [] i h = absurd (omega (arith, h))
chained_more pack none (x ∷ xs) zero h = sym (append-nil (pack x))
chained_more pack none (x ∷ xs) (suc i) h =
    append_assoc (pack x) (chained (map pack (take i xs))) (pack (get_or xs i none))
    ∙ ap (λ l. pack x ++ l) (chained_more pack none xs i (omega (arith, h)))

-- a record, stored part by part
pub sets_record : (ws : List ℕ) (p : Process) → length (pack_register p.register) ≡ 20 → length (pack_collect p.first) ≡ 160 →
    length (pack_collect p.second) ≡ 160 → length p.view ≡ 8 →
    let after = sets (sets (sets (sets ws 0 (pack_register p.register)) 20 (pack_task p.task)) 24 (pack_collect p.first))
    184 (pack_collect p.second) in
    sets (sets (set after 344 p.first_end) 345 (pack_view p.view)) 361 (map pack_mark p.moved) ≡ sets ws 0 (pack_record p)
unfolding pack_record
sets_record ws p a c d f =
    let G = map pack_mark p.moved in
    let F = pack_view p.view in
    let E = p.first_end ∷ (F ++ (G ++ [])) in
    let D = pack_collect p.second ++ E in
    let C = pack_collect p.first ++ D in
    let w₁ = sets ws 0 (pack_register p.register) in
    let w₂ = sets w₁ 20 (pack_task p.task) in
    let w₃ = sets w₂ 24 (pack_collect p.first) in
    let w₄ = sets w₃ 184 (pack_collect p.second) in
    sym
    (sets_next ws 0 (pack_register p.register) (pack_task p.task ++ C) 20 (zero-add (length (pack_register
    p.register)) ∙ a)
    ∙ sets_next w₁ 20 (pack_task p.task) C 24 (ap (λ k. 20 + k) (task_long p.task))
    ∙ sets_next w₂ 24 (pack_collect p.first) D 184 (ap (λ k. 24 + k) c)
    ∙ sets_next w₃ 184 (pack_collect p.second) E 344 (ap (λ k. 184 + k) d)
    ∙ sets_next (set w₄ 344 p.first_end) 345 F (G ++ []) 361 (ap (λ k. 345 + k) (eight_long p.view f))
    ∙ ap (sets (sets (set w₄ 344 p.first_end) 345 F) 361) (append-nil G))

-- ---- stores in lists that are joined

sets_past : (xs ys : List ℕ) (j : ℕ) (vs : List ℕ) → sets (xs ++ ys) (length xs + j) vs ≡ xs ++ sets ys j vs
sets_past [] ys j vs = ap (λ k. sets ys k vs) (zero-add j)
sets_past (x ∷ xs) ys j vs =
    let e : suc (length xs) + j ≡ suc (length xs + j) = omega arith in
    ap (λ k. sets (x ∷ (xs ++ ys)) k vs) e ∙ sets_cons x (xs ++ ys) (length xs + j) vs ∙ ap (λ l. x ∷ l) (sets_past xs ys j vs)

-- past the first list, which has k elements
pub past : (xs ys vs : List ℕ) {zs : List ℕ} (k m j : ℕ) → length xs ≡ k → k + m ≡ j → sets ys m vs ≡ zs →
    sets (xs ++ ys) j vs ≡ xs ++ zs
past xs ys vs k m j e q h =
    ap (λ i. sets (xs ++ ys) i vs) (sym q ∙ ap (λ i. i + m) (sym e)) ∙ sets_past xs ys m vs ∙ ap (λ l. xs ++ l) h

-- at its front
pub front : (us xs vs : List ℕ) (k : ℕ) → length vs ≡ k → k ≤ length us → sets (us ++ xs) 0 vs ≡ (vs ++ drop k us) ++ xs
front us xs vs k e h = stores us vs (omega arith) ∙ ap (λ i. (vs ++ drop i us) ++ xs) e
  where
    stores : (us vs : List ℕ) → length vs ≤ length us → sets (us ++ xs) 0 vs ≡ (vs ++ drop (length vs) us) ++ xs
    stores us [] h = refl
    stores [] (v ∷ vs) h = absurd (not-suc-le-zero h)
    stores (u ∷ us) (v ∷ vs) h = sets_cons v (us ++ xs) 0 vs ∙ ap (λ l. v ∷ l) (stores us vs (omega arith))

-- all of it
pub here : (us xs vs : List ℕ) → length us ≡ length vs → sets (us ++ xs) 0 vs ≡ vs ++ xs
here [] xs [] e = refl
here [] xs (v ∷ vs) e = absurd (omega arith)
here (u ∷ us) xs [] e = absurd (omega arith)
here (u ∷ us) xs (v ∷ vs) e = sets_cons v (us ++ xs) 0 vs ∙ ap (λ l. v ∷ l) (here us xs vs (omega arith))

-- ---- values laid over a view

packed_append : (us vs : List Value) → pack_view (us ++ vs) ≡ pack_view us ++ pack_view vs
packed_append [] vs = refl
packed_append (u ∷ us) vs = ap (λ l. pack_value u ++ l) (packed_append us vs)

-- the words of the first n
pub shown_long : (n : ℕ) (vs : List Value) → n ≤ length vs → length (pack_view (take n vs)) ≡ 2 * n
shown_long n vs h = view_long (take n vs) ∙ ap (λ k. 2 * k) (length-take-le n vs h)

-- n values laid over others, as words
pub packed_over_lem : (n : ℕ) (us vs : List Value) → n ≤ length vs →
    pack_view (over n us vs) ≡ pack_view (take n us) ++ drop (2 * n) (pack_view vs)
packed_over_lem n us vs h =
    packed_append (take n us) (drop n vs)
    ∙ ap (λ l. pack_view (take n us) ++ l)
    (sym
    (ap (drop (2 * n)) (ap pack_view (sym (take-append-drop n vs)) ∙ packed_append (take n vs) (drop n vs))
    ∙ drop_at (pack_view (take n vs)) (pack_view (drop n vs)) (2 * n) (shown_long n vs h)))

-- ---- a register stored in a collect

module _ (n : ℕ) (r : Register) where
  pub stored_past : (xs ys : List ℕ) {zs : List ℕ} (k m j : ℕ) → length xs ≡ k → k + m ≡ j → stored_at n r m ys ≡ zs →
      stored_at n r j (xs ++ ys) ≡ xs ++ zs
  unfolding stored_at
  stored_past xs ys k m j e q h =
      let head = pack_value r.value ++ (r.seq ∷ pack_view (take n r.view)) in
      ap (λ l. sets l (j + 19) (r.at ∷ [])) (past xs ys head k m j e q refl)
      ∙ past xs (sets ys m head) (r.at ∷ []) k (m + 19) (j + 19) e (omega arith) h

  -- over another register
  pub stored_here : (old : Register) (rest : List ℕ) → n ≤ 8 → length r.view ≡ 8 → length old.view ≡ 8 →
      stored_at n r 0 (pack_register old ++ rest) ≡ pack_register (laid n r old) ++ rest
  unfolding stored_at laid
  stored_here old rest b e l =
      let own = pack_value r.value ++ (r.seq ∷ []) in
      let vs = pack_view (take n r.view) in
      let olds = eight_long old.view l in
      let shown = length-take-le n r.view (omega arith) in
      let view = over n r.view old.view in
      let same = eight_long view (length_over n r.view old.view shown (omega arith) ∙ l) in
      ap (λ ws. sets (sets (own ++ ws) 3 vs) 19 (r.at ∷ [])) (append_assoc (pack_view old.view) (old.at ∷ []) rest)
      ∙ ap (λ ws. sets ws 19 (r.at ∷ []))
      (past own _ vs 3 0 3 refl refl
      (front (pack_view old.view) (old.at ∷ rest) vs (2 * n) (shown_long n r.view (omega arith)) (omega arith)
      ∙ ap (λ ws. ws ++ (old.at ∷ rest)) (sym (packed_over_lem n r.view old.view (omega arith)))))
      ∙ past own (pack_view view ++ (old.at ∷ rest)) (r.at ∷ []) 3 16 19 refl refl
      (past (pack_view view) (old.at ∷ rest) (r.at ∷ []) 16 0 16 same refl refl)
      ∙ ap (λ ws. own ++ ws) (sym (append_assoc (pack_view view) (r.at ∷ []) rest))

  -- in place i of a collect
  pub stored_place : (rs : List Register) (rest : List ℕ) (i : ℕ) → n ≤ 8 → length r.view ≡ 8 → Views rs → i < length rs →
      stored_at n r (20 * i) (pack_collect rs ++ rest) ≡ pack_collect (read_into n r i rs) ++ rest
  unfolding read_into
  stored_place [] rest i b e h l = absurd (not-suc-le-zero l)
  stored_place (s ∷ rs) rest zero b e h l =
      ap (stored_at n r 0) (append_assoc (pack_register s) (pack_collect rs) rest)
      ∙ stored_here s (pack_collect rs ++ rest) b e h.0
      ∙ sym (append_assoc (pack_register (laid n r s)) (pack_collect rs) rest)
  stored_place (s ∷ rs) rest (suc i) b e h l =
      ap (stored_at n r (20 * suc i)) (append_assoc (pack_register s) (pack_collect rs) rest)
      ∙ stored_past (pack_register s) (pack_collect rs ++ rest) 20 (20 * i) (20 * suc i) (register_long s h.0) (omega arith)
      (stored_place rs rest i b e h.1 (omega arith))
      ∙ sym (append_assoc (pack_register s) (pack_collect (read_into n r i rs)) rest)
