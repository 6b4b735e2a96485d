-- The parts of a record are packed as they were unpacked (`by_parts`), and so are words that are as packing writes them
-- (`pack_unpacked`).
use Prim.Native.Nat.{ℕ, zero, suc, ◌+◌, ◌*◌}
use native.Mathlib.Nat.{mul-zero}
use native.Mathlib.Omega.{arith}
use mathlib.Core.Path.{◌≡◌, refl, sym, ap, ap₂, ◌∙◌}
use mathlib.Core.List.{List, [], ◌∷◌, ◌++◌, map, append-nil}
use lib.ListN.{length, drop}
use lib.Seq.{take_all, drop-drop}
use Rattle.unbounded.specs.declared.Process.{Process}
use Rattle.packed.specs.Packing.{chained, pack_value, pack_view, pack_register, pack_task, pack_collect, pack_mark, pack_record}
use Rattle.packed.specs.Packing.{word_at, words, unpack_each, unpack_value, unpack_view, unpack_register, unpack_task, unpack_collect}
use Rattle.packed.specs.Packing.{unpack_mark, unpack_record}
use Rattle.packed.proofs.Words.{words_take, words_append, word_here}
use Rattle.packed.proofs.Packing.{Eights, packed_task, packed_marks, unpack_packed}

-- the words of the task and of the marks are as packing writes them: a kind that is one, no word, at or turns that its kind has
-- not, and marks of 0 or 1
pub record Canonical (ws : List ℕ) : Type 0 where
  pub task : pack_task (unpack_task (drop 20 ws)) ≡ words 4 (drop 20 ws)
  pub marks : map pack_mark (map unpack_mark (words 8 (drop 361 ws))) ≡ words 8 (drop 361 ws)

-- ---- each part is packed as it was unpacked, from any words

-- the word at place a alone
one : (ws : List ℕ) (a : ℕ) → word_at ws a ∷ [] ≡ words 1 (drop a ws)
one ws a = ap (λ w. w ∷ []) (word_here ws a)

-- m words from place a on, and k that follow them
join : (ws : List ℕ) (a m k : ℕ) {xs ys : List ℕ} → xs ≡ words m (drop a ws) → ys ≡ words k (drop (a + m) ws) →
    xs ++ ys ≡ words (m + k) (drop a ws)
join ws a m k p q = ap₂ (λ x y. x ++ y) p (q ∙ ap (words k) (sym (drop-drop m a ws))) ∙ words_append m k (drop a ws)

-- so many parts of m words each
pack_each : {A : Type 0} (pack : A → List ℕ) (unpack : List ℕ → A) (m : ℕ) → ((ws : List ℕ) → pack (unpack ws) ≡ words m ws) →
    (k : ℕ) (ws : List ℕ) → chained (map pack (unpack_each unpack m k ws)) ≡ words (m * k) ws
pack_each pack unpack m h zero ws = ap (λ i. words i ws) (sym (mul-zero m))
pack_each pack unpack m h (suc k) ws =
    let e : m + m * k ≡ m * suc k = omega arith in
    ap₂ (λ a b. a ++ b) (h ws) (pack_each pack unpack m h k (drop m ws))
    ∙ words_append m (m * k) ws ∙ ap (λ i. words i ws) e

pub pack_view_lem : (k : ℕ) (ws : List ℕ) → pack_view (unpack_view k ws) ≡ words (2 * k) ws
pack_view_lem k ws = pack_each pack_value unpack_value 2 (λ ws. join ws 0 1 1 refl (one ws 1)) k ws

pub pack_register_lem : (ws : List ℕ) → pack_register (unpack_register ws) ≡ words 20 ws
pack_register_lem ws =
    join ws 0 1 19 refl
    (join ws 1 1 18 (one ws 1)
    (join ws 2 1 17 (one ws 2)
    (join ws 3 16 1 (pack_view_lem 8 (drop 3 ws)) (one ws 19))))

pub pack_collect_lem : (k : ℕ) (ws : List ℕ) → pack_collect (unpack_collect k ws) ≡ words (20 * k) ws
pack_collect_lem k ws = pack_each pack_register unpack_register 20 pack_register_lem k ws

-- ---- a record

module _ (ws : List ℕ) where
  -- any words by the parts of a record: those of its task and of its marks as they stand, any other part as it is packed
  pub by_parts :
      chained
      (pack_register (unpack_register ws)
      ∷ words 4 (drop 20 ws)
      ∷ pack_collect (unpack_collect 8 (drop 24 ws))
      ∷ pack_collect (unpack_collect 8 (drop 184 ws))
      ∷ (word_at ws 344 ∷ [])
      ∷ pack_view (unpack_view 8 (drop 345 ws))
      ∷ words 8 (drop 361 ws)
      ∷ []) ≡ words 369 ws
  by_parts =
      join ws 0 20 349 (pack_register_lem ws)
      (join ws 20 4 345 refl
      (join ws 24 160 185 (pack_collect_lem 8 (drop 24 ws))
      (join ws 184 160 25 (pack_collect_lem 8 (drop 184 ws))
      (join ws 344 1 24 (one ws 344)
      (join ws 345 16 8 (pack_view_lem 8 (drop 345 ws)) (append-nil (words 8 (drop 361 ws))))))))

  -- 369 words as packing writes them are packed as they were unpacked
  pub pack_unpacked : length ws ≡ 369 → Canonical ws → pack_record (unpack_record ws) ≡ ws
  unfolding pack_record unpack_record
  pack_unpacked long c =
      let p = unpack_record ws in
      (λ i.
      chained
      (pack_register p.register ∷ c.task i ∷ pack_collect p.first ∷ pack_collect p.second
      ∷ (p.first_end ∷ []) ∷ pack_view p.view ∷ c.marks i ∷ []))
      ∙ by_parts
      ∙ words_take 369 ws (omega (arith, long)) ∙ take_all 369 ws (omega (arith, long))

-- what packing writes is such
pub packed_canonical : (p : Process) → Eights p → Canonical (pack_record p)
unfolding unpack_record
packed_canonical p e =
    record {
      task = ap (λ q. pack_task q.task) (unpack_packed p e) ∙ sym (packed_task p e);
      marks = ap (λ q. map pack_mark q.moved) (unpack_packed p e) ∙ sym (packed_marks p e);
    }
