-- A part stored in the words of a packed record gives those of the record with that part; and a task and marks stored in any words
-- give those of a packed record (`tidied`).
use Prim.Native.Nat.{ℕ, ◌+◌, ◌*◌, ◌<◌, ◌≤◌}
use native.Mathlib.Nat.{zero-add}
use native.Mathlib.Omega.{arith}
use mathlib.Core.Path.{◌≡◌, refl, sym, ap, ◌∙◌}
use mathlib.Core.Bool.{Bool}
use mathlib.Core.List.{List, [], ◌∷◌, ◌++◌, map}
use lib.ListN.{length, take, drop, set, length-map}
use lib.Seq.{sets, length-sets}
use Rattle.snapshot.specs.Lists.{over}
use Rattle.snapshot.specs.declared.Value.{Value}
use Rattle.unbounded.specs.declared.Register.{Register}
use Rattle.unbounded.specs.declared.Process.{Process}
use Rattle.unbounded.specs.declared.Task.{Task}
use Rattle.unbounded.specs.Registers.{read_into}
use Rattle.unbounded.proofs.Whole.{whole_read}
use Rattle.unbounded_turns.specs.Steps.{with_task}
use Rattle.unbounded_turns.proofs.Parts.{with_register, with_collected}
use Rattle.packed.specs.Packing.{pack_value, pack_view, pack_register, stored_at, pack_task, pack_collect, pack_mark, pack_record, packed_over}
use Rattle.packed.specs.Packing.{words, unpack_record}
use Rattle.packed.proofs.Words.{sets_same, sets_over, sets_within}
use Rattle.packed.proofs.Packing.{Eights, register_long, task_long, collect_views, own_long, first_long, second_long}
use Rattle.packed.proofs.Packing.{kept_long, packed_long, unpack_whole}
use Rattle.packed.proofs.Kept.{by_parts}
use Rattle.packed_stores.proofs.Stored.{past, front, here, shown_long, packed_over_lem, stored_past, stored_place}

-- ---- a part stored in the words of a packed record

module _ (q : Process) (e : Eights q) where
  abbrev A : List ℕ
  A = pack_register q.register

  abbrev B : List ℕ
  B = pack_task q.task

  abbrev C : List ℕ
  C = pack_collect q.first

  abbrev D : List ℕ
  D = pack_collect q.second

  first_stored : (n : ℕ) (r : Register) (i : ℕ) → n ≤ 8 → length r.view ≡ 8 → i < 8 →
      stored_at n r (24 + 20 * i) (pack_record q)
      ≡ pack_record (with_collected (read_into n r i q.first) q.second q.first_end q.view q.moved q)
  unfolding pack_record
  first_stored n r i b v l =
      let places = e.0.first.places in
      stored_past n r A _ 20 (4 + 20 * i) (24 + 20 * i) (own_long q e) (omega arith)
      (stored_past n r B _ 4 (20 * i) (4 + 20 * i) (task_long q.task) refl
      (stored_place n r q.first _ i b v (collect_views q.first e.0.first) (omega arith)))

  second_stored : (n : ℕ) (r : Register) (i : ℕ) → n ≤ 8 → length r.view ≡ 8 → i < 8 →
      stored_at n r (184 + 20 * i) (pack_record q)
      ≡ pack_record (with_collected q.first (read_into n r i q.second) q.first_end q.view q.moved q)
  unfolding pack_record
  second_stored n r i b v l =
      let places = e.0.second.places in
      stored_past n r A _ 20 (164 + 20 * i) (184 + 20 * i) (own_long q e) (omega arith)
      (stored_past n r B _ 4 (160 + 20 * i) (164 + 20 * i) (task_long q.task) (omega arith)
      (stored_past n r C _ 160 (20 * i) (160 + 20 * i) (first_long q e) refl
      (stored_place n r q.second _ i b v (collect_views q.second e.0.second) (omega arith))))

  -- past both collects
  past_second : (xs vs : List ℕ) {zs : List ℕ} (j : ℕ) → sets xs j vs ≡ zs →
      sets (A ++ (B ++ (C ++ (D ++ xs)))) (344 + j) vs ≡ A ++ (B ++ (C ++ (D ++ zs)))
  past_second xs vs j h =
      past A _ vs 20 (324 + j) (344 + j) (own_long q e) (omega arith)
      (past B _ vs 4 (320 + j) (324 + j) (task_long q.task) (omega arith)
      (past C _ vs 160 (160 + j) (320 + j) (first_long q e) (omega arith)
      (past D _ vs 160 j (160 + j) (second_long q e) refl h)))

  end_stored : (end : ℕ) → set (pack_record q) 344 end ≡ pack_record (with_collected q.first q.second end q.view q.moved q)
  unfolding pack_record
  end_stored end = past_second _ (end ∷ []) 0 refl

  view_stored : (n : ℕ) (v : List Value) → n ≤ 8 → length v ≡ 8 → sets (pack_record q) 345 (pack_view (take n v))
      ≡ pack_record (with_collected q.first q.second q.first_end (over n v q.view) q.moved q)
  unfolding pack_record
  view_stored n v b l =
      let vs = pack_view (take n v) in
      let values = e.0.view in
      let words = kept_long q e in
      let rest = map pack_mark q.moved ++ [] in
      past_second _ vs 1 (past (q.first_end ∷ []) _ vs 1 0 1 refl refl
      (front (pack_view q.view) rest vs (2 * n) (shown_long n v (omega arith)) (omega arith)
      ∙ ap (λ ws. ws ++ rest) (sym (packed_over_lem n v q.view (omega arith)))))

-- ---- a part stored in a record that is packed over any words

pub own_laid : (ws : List ℕ) (q : Process) (r : Register) → length q.register.view ≡ 8 → length r.view ≡ 8 →
    sets (packed_over ws q) 0 (pack_register r) ≡ packed_over ws (with_register r q)
unfolding pack_record
own_laid ws q r e l =
    sets_over ws 0 [] (pack_register q.register) (pack_register r) _ 0 refl
    (register_long q.register e ∙ sym (register_long r l))

pub task_laid : (ws : List ℕ) (q : Process) (k : Task) → length q.register.view ≡ 8 →
    sets (packed_over ws q) 20 (pack_task k) ≡ packed_over ws (with_task k q)
unfolding pack_record
task_laid ws q k e =
    sets_over ws 0 (pack_register q.register) (pack_task q.task) (pack_task k) _ 20
    (zero-add (length (pack_register q.register)) ∙ register_long q.register e) (task_long q.task ∙ sym (task_long k))

stored_within : (ws vs : List ℕ) (n : ℕ) (r : Register) (a : ℕ) → n ≤ 8 → length r.view ≡ 8 → a + 20 ≤ length vs →
    stored_at n r a (sets ws 0 vs) ≡ sets ws 0 (stored_at n r a vs)
unfolding stored_at
stored_within ws vs n r a b e h =
    let head = pack_value r.value ++ (r.seq ∷ pack_view (take n r.view)) in
    let long = shown_long n r.view (omega arith) in
    let same = length-sets vs a head in
    ap (λ l. sets l (a + 19) (r.at ∷ [])) (sets_within ws vs head a (omega arith))
    ∙ sets_within ws (sets vs a head) (r.at ∷ []) (a + 19) (omega arith)

module _ (ws : List ℕ) (q : Process) (e : Eights q) where
  abbrev row : List ℕ
  row = pack_record q

  long_row : length row ≡ 369
  long_row = packed_long q e

  pub end_laid : (end : ℕ) → set (packed_over ws q) 344 end
      ≡ packed_over ws (with_collected q.first q.second end q.view q.moved q)
  end_laid end =
      let h = long_row in
      sets_within ws row (end ∷ []) 344 (omega arith) ∙ ap (sets ws 0) (end_stored q e end)

  pub view_laid : (n : ℕ) (v : List Value) → n ≤ 8 → length v ≡ 8 → sets (packed_over ws q) 345 (pack_view (take n v))
      ≡ packed_over ws (with_collected q.first q.second q.first_end (over n v q.view) q.moved q)
  view_laid n v b l =
      let h = long_row in
      let k = shown_long n v (omega arith) in
      sets_within ws row (pack_view (take n v)) 345 (omega arith) ∙ ap (sets ws 0) (view_stored q e n v b l)

  -- a register read into a place of the collects
  module _ (n : ℕ) (r : Register) (i : ℕ) (b : n ≤ 8) (v : length r.view ≡ 8) (l : i < 8) where
    abbrev pub first_read : Process
    first_read = with_collected (read_into n r i q.first) q.second q.first_end q.view q.moved q

    abbrev pub second_read : Process
    second_read = with_collected q.first (read_into n r i q.second) q.first_end q.view q.moved q

    pub first_laid : stored_at n r (24 + 20 * i) (packed_over ws q) ≡ packed_over ws first_read
    first_laid =
        let h = long_row in
        stored_within ws row n r (24 + 20 * i) b v (omega arith) ∙ ap (sets ws 0) (first_stored q e n r i b v l)

    pub second_laid : stored_at n r (24 + 20 * (8 + i)) (packed_over ws q) ≡ packed_over ws second_read
    second_laid =
        let h = long_row in
        let place : 24 + 20 * (8 + i) ≡ 184 + 20 * i = omega arith in
        ap (λ a. stored_at n r a (packed_over ws q)) place
        ∙ stored_within ws row n r (184 + 20 * i) b v (omega arith) ∙ ap (sets ws 0) (second_stored q e n r i b v l)

    pub first_eights : Eights first_read
    first_eights =
        let w = e.0 in
        let first = whole_read n b q.first w.first r (omega arith) i in
        (record { register = w.register; view = w.view; first = first; second = w.second }, e.1)

    pub second_eights : Eights second_read
    second_eights =
        let w = e.0 in
        let second = whole_read n b q.second w.second r (omega arith) i in
        (record { register = w.register; view = w.view; first = w.first; second = second }, e.1)

-- another task, end, view or marks
pub eights_with : (q : Process) → Eights q → (k : Task) (end : ℕ) (v : List Value) (ms : List Bool) → length v ≡ 8 → length ms ≡ 8 →
    Eights (with_collected q.first q.second end v ms (with_task k q))
eights_with q e k end v ms words marks =
    let w = e.0 in
    (record { register = w.register; view = words; first = w.first; second = w.second }, marks)

-- ---- a task and marks stored in any words

pub tidied : (ws : List ℕ) (k : Task) (ms : List Bool) → length ms ≡ 8 → let p = unpack_record ws in
    sets (sets ws 20 (pack_task k)) 361 (map pack_mark ms)
    ≡ packed_over ws (with_collected p.first p.second p.first_end p.view ms (with_task k p))
unfolding pack_record unpack_record
tidied ws k ms l =
    let p = unpack_record ws in
    let e = unpack_whole ws in
    let q = with_task k p in
    let marks = map pack_mark ms in
    let same = length-map ms pack_mark in
    let four = task_long k in
    let vs = words 369 ws in
    let stored = length-sets vs 20 (pack_task k) in
    ap (λ l. sets (sets l 20 (pack_task k)) 361 marks) (sym (sets_same 369 ws))
    ∙ ap (λ l. sets l 361 marks) (sets_within ws vs (pack_task k) 20 (omega arith))
    ∙ sets_within ws (sets vs 20 (pack_task k)) marks 361 (omega arith)
    ∙ ap (sets ws 0)
    (ap (λ l. sets (sets l 20 (pack_task k)) 361 marks) (sym (by_parts ws))
    ∙ ap (λ l. sets l 361 marks)
    (past (pack_register p.register) _ (pack_task k) 20 0 20 refl refl
    (here (words 4 (drop 20 ws)) _ (pack_task k) (sym (task_long k))))
    ∙ past_second q (eights_with p e k p.first_end p.view p.moved refl refl) _ marks 17
    (past (p.first_end ∷ []) _ marks 1 16 17 refl refl
    (past (pack_view p.view) _ marks 16 0 16 refl refl
    (here (words 8 (drop 361 ws)) _ marks (sym (length-map ms pack_mark ∙ l))))))
