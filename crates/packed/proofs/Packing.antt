-- A record whose arrays have their eight places is unpacked as it was packed (`unpack_packed`).
use Prim.Native.Nat.{ℕ, zero, suc, ◌+◌, ◌*◌, ◌<◌}
use native.Mathlib.Nat.{mul-zero, not-suc-le-zero}
use native.Mathlib.Omega.{arith}
use mathlib.Core.Path.{◌≡◌, refl, sym, ap, ap₂, subst, ◌∙◌}
use mathlib.Core.Bool.{Bool, true, false}
use mathlib.Core.List.{List, [], ◌∷◌, ◌++◌, map, append_assoc}
use lib.ListN.{length, get_or, drop, length-append, length-map}
use lib.Seq.{take_at, drop_at, drop-drop, get_or-drop, get_or-append-add}
use Rattle.snapshot.specs.declared.Value.{Value}
use Rattle.unbounded.specs.declared.Register.{Register}
use Rattle.unbounded.specs.declared.Process.{Process}
use Rattle.unbounded.specs.declared.Task.{Task}
use Rattle.unbounded.specs.declared.Task.TheVariants.{Idle, Scan, Update, Ready}
use Rattle.unbounded.specs.Registers.{no_register}
use Rattle.unbounded.proofs.Whole.{Whole, WholeCollect}
use Rattle.packed.specs.Packing.{chained, pack_value, pack_view, pack_register, pack_task, pack_collect, pack_mark, pack_record}
use Rattle.packed.specs.Packing.{word_at, words, unpack_each, unpack_value, unpack_view, unpack_register, unpack_task, unpack_collect}
use Rattle.packed.specs.Packing.{unpack_mark, unpack_record}
use Rattle.packed.proofs.Words.{words_take}

-- ---- the words past a part

skip : (xs ys : List ℕ) (k m : ℕ) → length xs ≡ k → drop (k + m) (xs ++ ys) ≡ drop m ys
skip xs ys k m e = sym (drop-drop m k (xs ++ ys)) ∙ ap (drop m) (drop_at xs ys k e)

word_past : (xs ys : List ℕ) (k m : ℕ) → length xs ≡ k → word_at (xs ++ ys) (k + m) ≡ word_at ys m
word_past xs ys k m e = ap (λ i. word_at (xs ++ ys) (i + m)) (sym e) ∙ get_or-append-add xs ys m 0

words_at : (xs ys : List ℕ) (k : ℕ) → length xs ≡ k → words k (xs ++ ys) ≡ xs
words_at xs ys k e = words_take k (xs ++ ys) (simp length-append (omega (arith, e))) ∙ take_at xs ys k e

-- ---- parts of m words each

-- every element has P
abbrev pub Each : {A : Type 0} → (A → Type 0) → List A → Type 0
Each P [] = Unit {0}
Each P (x ∷ xs) = P x × Each P xs

each : {A : Type 0} (P : A → Type 0) → ((x : A) → P x) → (xs : List A) → Each P xs
each P h [] = tt
each P h (x ∷ xs) = (h x, each P h xs)

module _ {A : Type 0} (P : A → Type 0) (m : ℕ) (pack : A → List ℕ) (long : (x : A) → P x → length (pack x) ≡ m) where
  each_long : (xs : List A) → Each P xs → length (chained (map pack xs)) ≡ m * length xs
  each_long [] h = sym (mul-zero m)
  each_long (x ∷ xs) h =
      length-append (pack x) (chained (map pack xs))
      ∙ ap₂ (λ a b. a + b) (long x h.0) (each_long xs h.1) ∙ omega arith

  -- they are unpacked as they were packed, whatever follows, where each of them is
  module _ (unpack : List ℕ → A) (back : (x : A) (rest : List ℕ) → P x → unpack (pack x ++ rest) ≡ x) where
    unpack_each_lem : (xs : List A) (rest : List ℕ) → Each P xs → unpack_each unpack m (length xs) (chained (map pack xs) ++ rest) ≡ xs
    unpack_each_lem [] rest h = refl
    unpack_each_lem (x ∷ xs) rest h =
        let packed = chained (map pack xs) in
        let past = append_assoc (pack x) packed rest in
        ap₂ (λ a l. a ∷ l)
        (ap unpack past ∙ back x (packed ++ rest) h.0)
        (ap (λ l. unpack_each unpack m (length xs) (drop m l)) past
        ∙ ap (unpack_each unpack m (length xs)) (drop_at (pack x) (packed ++ rest) m (long x h.0))
        ∙ unpack_each_lem xs rest h.1)

-- ---- how many words each part takes

pub view_long : (vs : List Value) → length (pack_view vs) ≡ 2 * length vs
view_long vs = each_long (λ v. Unit {0}) 2 pack_value (λ v h. refl) vs (each (λ v. Unit {0}) (λ v. tt) vs)

-- eight values
pub eight_long : (vs : List Value) → length vs ≡ 8 → length (pack_view vs) ≡ 16
eight_long vs e = view_long vs ∙ ap (λ k. 2 * k) e

pub register_long : (r : Register) → length r.view ≡ 8 → length (pack_register r) ≡ 20
register_long r e = simp (length-append, eight_long r.view e)

pub task_long : (k : Task) → length (pack_task k) ≡ 4
task_long Idle = refl
task_long (Scan t) = refl
task_long (Update w t) = refl
task_long (Ready w at t) = refl

-- registers whose views have eight values
abbrev pub Views : List Register → Type 0
Views rs = Each (λ r. length r.view ≡ 8) rs

collect_long : (rs : List Register) → Views rs → length (pack_collect rs) ≡ 20 * length rs
collect_long rs h = each_long (λ r. length r.view ≡ 8) 20 pack_register register_long rs h

-- ---- each part is unpacked as it was packed, whatever follows

unpack_view_lem : (vs : List Value) (rest : List ℕ) → unpack_view (length vs) (pack_view vs ++ rest) ≡ vs
unpack_view_lem vs rest =
    unpack_each_lem (λ v. Unit {0}) 2 pack_value (λ v h. refl) unpack_value (λ v rest h. refl) vs rest
    (each (λ v. Unit {0}) (λ v. tt) vs)

-- eight values
unpack_eight : (vs : List Value) (rest : List ℕ) → length vs ≡ 8 → unpack_view 8 (pack_view vs ++ rest) ≡ vs
unpack_eight vs rest e = ap (λ k. unpack_view k (pack_view vs ++ rest)) (sym e) ∙ unpack_view_lem vs rest

unpack_register_lem : (r : Register) (rest : List ℕ) → length r.view ≡ 8 → unpack_register (pack_register r ++ rest) ≡ r
unpack_register_lem r rest e =
    let past = append_assoc (pack_view r.view) (r.at ∷ []) rest in
    ap₂ (λ v a. record { value = r.value; seq = r.seq; view = v; at = a })
    (ap (unpack_view 8) past ∙ unpack_eight r.view (r.at ∷ rest) e)
    (ap (λ l. word_at l 16) past ∙ word_past (pack_view r.view) (r.at ∷ rest) 16 0 (eight_long r.view e))

unpack_task_lem : (k : Task) (rest : List ℕ) → unpack_task (pack_task k ++ rest) ≡ k
unpack_task_lem Idle rest = refl
unpack_task_lem (Scan t) rest = refl
unpack_task_lem (Update w t) rest = refl
unpack_task_lem (Ready w at t) rest = refl

unpack_collect_lem : (rs : List Register) (rest : List ℕ) → Views rs → unpack_collect (length rs) (pack_collect rs ++ rest) ≡ rs
unpack_collect_lem rs rest h =
    unpack_each_lem (λ r. length r.view ≡ 8) 20 pack_register register_long unpack_register unpack_register_lem rs rest h

unpack_marks : (ms : List Bool) → map unpack_mark (map pack_mark ms) ≡ ms
unpack_marks [] = refl
unpack_marks (true ∷ ms) = ap (λ l. true ∷ l) (unpack_marks ms)
unpack_marks (false ∷ ms) = ap (λ l. false ∷ l) (unpack_marks ms)

-- ---- a record

-- every array of a record has its eight places, the marks too, as in every record that code can lend
abbrev pub Eights : Process → Type 0
Eights p = Whole p × (length p.moved ≡ 8)

views_all : (rs : List Register) → ((i : ℕ) → i < length rs → length (get_or rs i no_register).view ≡ 8) → Views rs
views_all [] h = tt
views_all (r ∷ rs) h = (h 0 (omega arith), views_all rs (λ i l. h (suc i) (omega arith)))

pub collect_views : (rs : List Register) → WholeCollect rs → Views rs
collect_views rs c = views_all rs (λ i l. c.views i (subst (λ k. i < k) c.places l))

module _ (p : Process) (e : Eights p) where
  abbrev A : List ℕ
  A = pack_register p.register

  abbrev B : List ℕ
  B = pack_task p.task

  abbrev C : List ℕ
  C = pack_collect p.first

  abbrev D : List ℕ
  D = pack_collect p.second

  abbrev F : List ℕ
  F = pack_view p.view

  abbrev G : List ℕ
  G = map pack_mark p.moved

  pub first_long : length C ≡ 160
  first_long = collect_long p.first (collect_views p.first e.0.first) ∙ ap (λ k. 20 * k) e.0.first.places

  pub second_long : length D ≡ 160
  second_long = collect_long p.second (collect_views p.second e.0.second) ∙ ap (λ k. 20 * k) e.0.second.places

  pub own_long : length A ≡ 20
  own_long = register_long p.register e.0.register

  pub kept_long : length F ≡ 16
  kept_long = eight_long p.view e.0.view

  -- the end of the first collect and what follows, and so on back to the task
  abbrev from_end : List ℕ
  from_end = (p.first_end ∷ []) ++ (F ++ (G ++ []))

  abbrev from_second : List ℕ
  from_second = D ++ from_end

  abbrev from_first : List ℕ
  from_first = C ++ from_second

  abbrev from_task : List ℕ
  from_task = B ++ from_first

  pub packed_long : length (pack_record p) ≡ 369
  unfolding pack_record
  packed_long =
      let a : length (pack_view p.register.view) ≡ 16 = eight_long p.register.view e.0.register in
      let b = task_long p.task in
      let c = first_long in
      let d = second_long in
      let f = kept_long in
      let g : length G ≡ 8 = length-map p.moved pack_mark ∙ e.1 in
      simp (length-append, a, b, c, d, f, g)

  -- what stands from each part on
  past_own : (m : ℕ) → drop (20 + m) (pack_record p) ≡ drop m from_task
  unfolding pack_record
  past_own m = skip A from_task 20 m own_long

  past_task : (m : ℕ) → drop (24 + m) (pack_record p) ≡ drop m from_first
  past_task m =
      let q : 24 + m ≡ 20 + (4 + m) = omega arith in
      ap (λ k. drop k (pack_record p)) q ∙ past_own (4 + m) ∙ skip B from_first 4 m (task_long p.task)

  past_first : (m : ℕ) → drop (184 + m) (pack_record p) ≡ drop m from_second
  past_first m =
      let q : 184 + m ≡ 24 + (160 + m) = omega arith in
      ap (λ k. drop k (pack_record p)) q ∙ past_task (160 + m) ∙ skip C from_second 160 m first_long

  past_second : (m : ℕ) → drop (344 + m) (pack_record p) ≡ drop m from_end
  past_second m =
      let q : 344 + m ≡ 184 + (160 + m) = omega arith in
      ap (λ k. drop k (pack_record p)) q ∙ past_first (160 + m) ∙ skip D from_end 160 m second_long

  unpack_first : unpack_collect 8 from_first ≡ p.first
  unpack_first =
      ap (λ k. unpack_collect k from_first) (sym e.0.first.places)
      ∙ unpack_collect_lem p.first from_second (collect_views p.first e.0.first)

  unpack_second : unpack_collect 8 from_second ≡ p.second
  unpack_second =
      ap (λ k. unpack_collect k from_second) (sym e.0.second.places)
      ∙ unpack_collect_lem p.second from_end (collect_views p.second e.0.second)

  -- the words of the task, and of the marks
  pub packed_task : words 4 (drop 20 (pack_record p)) ≡ pack_task p.task
  packed_task = ap (words 4) (past_own 0) ∙ words_at B from_first 4 (task_long p.task)

  pub packed_marks : words 8 (drop 361 (pack_record p)) ≡ map pack_mark p.moved
  packed_marks =
      let g : length G ≡ 8 = length-map p.moved pack_mark ∙ e.1 in
      ap (words 8) (past_second 17 ∙ drop_at F (G ++ []) 16 kept_long) ∙ words_at G [] 8 g

  unpack_moved : map unpack_mark (words 8 (drop 361 (pack_record p))) ≡ p.moved
  unpack_moved = ap (map unpack_mark) packed_marks ∙ unpack_marks p.moved

  unpack_own : unpack_register (pack_record p) ≡ p.register
  unfolding pack_record
  unpack_own = unpack_register_lem p.register from_task e.0.register

  pub unpack_packed : unpack_record (pack_record p) ≡ p
  unfolding unpack_record
  unpack_packed =
      let task = ap unpack_task (past_own 0) ∙ unpack_task_lem p.task from_first in
      let first = ap (unpack_collect 8) (past_task 0) ∙ unpack_first in
      let second = ap (unpack_collect 8) (past_first 0) ∙ unpack_second in
      let end : word_at (pack_record p) 344 ≡ p.first_end =
      sym (get_or-drop 344 (pack_record p) 0 0) ∙ ap (λ l. word_at l 0) (past_second 0) in
      let view = ap (unpack_view 8) (past_second 1) ∙ unpack_eight p.view (G ++ []) e.0.view in
      λ i. record {
        register = unpack_own i;
        task = task i;
        first = first i;
        second = second i;
        first_end = end i;
        view = view i;
        moved = unpack_moved i;
      }

-- ---- any words

views_unpacked : (k : ℕ) (ws : List ℕ) (i : ℕ) → i < k → length (get_or (unpack_collect k ws) i no_register).view ≡ 8
views_unpacked zero ws i l = absurd (not-suc-le-zero l)
views_unpacked (suc k) ws zero l = refl
views_unpacked (suc k) ws (suc i) l = views_unpacked k (drop 20 ws) i (omega arith)

collect_whole : (ws : List ℕ) → WholeCollect (unpack_collect 8 ws)
collect_whole ws = record { places = refl; views = views_unpacked 8 ws }

-- a record unpacked from any words has its eight places everywhere
pub unpack_whole : (ws : List ℕ) → Eights (unpack_record ws)
unfolding unpack_record
unpack_whole ws =
    (record { register = refl; view = refl; first = collect_whole (drop 24 ws); second = collect_whole (drop 184 ws) }, refl)
