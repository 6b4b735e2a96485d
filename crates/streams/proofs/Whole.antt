-- Reading a whole input: what one more read behind what has come leaves, and that a file which fits in the buffer with a byte to
-- spare lies in it whole (`whole_file`), where a longer one fills it (`whole_full`).
use Prim.Native.Nat.{ℕ, suc, ◌+◌, ◌-◌, ◌^◌, ◌≤◌, ◌<◌}
use native.Mathlib.Decide.{dec_lt}
use native.Mathlib.Omega.{arith}
use mathlib.Core.Path.{◌≡◌, refl, sym, ap, subst, ◌∙◌}
use mathlib.Core.Bool.{true, false, true≢false}
use mathlib.Core.Logic.{by_cases}
use mathlib.Core.List.{List, [], ◌∷◌, ◌++◌, append_assoc, append-nil}
use lib.ListN.{length, take, drop, length-append}
use Rattle.streams.specs.declared.input.Input.{Input}
use Rattle.std.specs.Prelude.{Result, Ok, Err}
use Rattle.streams.specs.declared.system.Stop.{Stop}
use Rattle.streams.specs.declared.system.Stop.TheVariants.{Interrupted, Failed}
use Rattle.streams.specs.System.{AtMost}
use Rattle.streams.specs.Input.{Incoming, expecting, complete, Gave, came, interrupted, fault, filled, ReadsTo}
use Rattle.streams.specs.Input.{ReadsFile, interruption, interruptions}
use Rattle.streams.specs.Input.{Within, input_left, incoming, input_by, IsWhole}
use Rattle.streams.proofs.Transfers.{at_most_le}
use Rattle.streams.proofs.Refilling.{left_long, refill_is}

-- ---- the loop

-- what lies in a buffer from its front on
pub front_left : (i : Input) (bytes : List ℕ) → i.at ≡ 0 → input_left i bytes ≡ take i.end bytes
front_left i bytes front =
    let all : i.end - i.at ≡ i.end = omega (arith, front) in
    ap (λ k. take k (drop i.at bytes)) all ∙ ap (λ a. take i.end (drop a bytes)) front

-- the input so far lies at the front of a buffer, by so many reads
pub record Coming (i : Input) (bytes : List ℕ) (made : ℕ) : Type 0 where
  pub within : Within i (length bytes)
  pub front : i.at ≡ 0
  pub gave : List Gave
  pub reads : ReadsTo (length bytes) (expecting []) gave (incoming i bytes)
  pub counted : length gave ≡ made

-- before the first read
pub none_came : (bytes : List ℕ) → Coming (record { at = 0; end = 0; last = false; failed = false }) bytes 0
none_came bytes = record {
  within = record { start = omega arith; stop = omega arith };
  front = refl;
  gave = [];
  reads = refl;
  counted = refl;
}

-- another read at the end
reads_more : (n : ℕ) (gs : List Gave) (i j k : Incoming) → ReadsTo n i gs j → j.last ≡ false → length j.left < n →
    (g : Gave) → k ≡ filled j g → ReadsTo n i (gs ++ (g ∷ [])) k
reads_more n [] i j k e more room g new =
    subst (λ z. ReadsTo n z (g ∷ []) k) (sym e) (more, (room, sym new))
reads_more n (h ∷ gs) i j k p more room g new = (p.0, (p.1.0, reads_more n gs (filled i h) j k p.1.1 more room g new))

-- what came lies at the front again
by_front : (kept : ℕ) (t : Result ℕ Stop) → (input_by kept t).at ≡ 0
unfolding input_by
by_front kept (Ok n) = refl
by_front kept (Err Interrupted) = refl
by_front kept (Err Failed) = refl

-- a read behind what has come
module _ (i : Input) (b : List ℕ) (made : ℕ) (so_far : Coming i b made) (room : i.end < length b) (more : i.last ≡ false) where
  pub one_more : (after : List ℕ) → length after ≡ length b → take i.end after ≡ take i.end b →
      (t : Result ℕ Stop) → AtMost (length b - i.end) t → (j : Input) → j ≡ input_by i.end t → Coming j after (made + 1)
  one_more after long kept t few j e =
      let front = so_far.front in
      let counted = so_far.counted in
      let here = left_long i b so_far.within in
      let all : i.end ≡ i.end - i.at = omega (arith, front) in
      let stays = ap (λ k. take k after) (sym all) ∙ kept ∙ sym (front_left i b front) in
      let fewer : AtMost (length b - (i.end - i.at)) t = at_most_le _ _ (omega (arith, all)) t few in
      let is = refill_is i b after so_far.within long stays t fewer j (e ∙ ap (λ k. input_by k t) all) in
      let g = is.1.0 in
      let one = length-append so_far.gave (g ∷ []) in
      record {
        within = is.0;
        front = ap (λ (k : Input). k.at) e ∙ by_front i.end t;
        gave = so_far.gave ++ (g ∷ []);
        reads = subst (λ n. ReadsTo n (expecting []) (so_far.gave ++ (g ∷ [])) (incoming j after)) (sym long)
            (reads_more (length b) so_far.gave _ _ _ so_far.reads more (omega (arith, here, room)) g is.1.1);
        counted = omega (arith, one, counted);
      }

-- the loop has stopped
pub whole_is : (i : Input) (bytes : List ℕ) (made : ℕ) → Coming i bytes made →
    (i.last ≡ false → i.end < length bytes → made ≡ 2 ^ 64 - 1) → IsWhole i bytes
whole_is i bytes made so_far stopped = record {
  within = so_far.within;
  front = so_far.front;
  gave = so_far.gave;
  reads = so_far.reads;
  all = λ more room. so_far.counted ∙ stopped more room;
}

-- ---- a file

-- reads that give a file, once l came, have given all of it, or leave `rest` of it
data Comes (n : ℕ) (l : List ℕ) (gs : List Gave) (file rest : List ℕ) (j : Incoming) : Type 0 where
  ends : length (l ++ file) < n → j ≡ complete (l ++ file) → Comes n l gs file rest j
  rests : (m : List ℕ) → j ≡ expecting m → l ++ file ≡ m ++ rest → length gs + length rest ≤ length file + interruptions gs →
      Comes n l gs file rest j

-- a read, and then those of which it is known what they come to
then_comes : {n : ℕ} (g : Gave) (gs : List Gave) (l m file after rest : List ℕ) {j : Incoming} → m ++ after ≡ l ++ file →
    suc (length after) ≤ length file + interruption g → Comes n m gs after rest j → Comes n l (g ∷ gs) file rest j
then_comes {n} g gs l m file after rest e fewer (ends short is) =
    ends (subst (λ bs. length bs < n) e short) (is ∙ ap complete e)
then_comes g gs l m file after rest e fewer (rests k is cut less) = rests k is (sym e ∙ cut) (omega (arith, fewer, less))

-- no read is made after the end
no_more : (n : ℕ) (gs : List Gave) (i j : Incoming) → i.last ≡ true → ReadsTo n i gs j → j ≡ i
no_more n [] i j e p = sym p
no_more n (g ∷ gs) i j e p = absurd (true≢false (sym e ∙ p.0))

comes : (n : ℕ) (gs : List Gave) (l : List ℕ) (j : Incoming) → ReadsTo n (expecting l) gs j →
    (file rest : List ℕ) → ReadsFile gs file rest → Comes n l gs file rest j
comes n [] l j p file rest r = rests l (sym p) (ap (λ bs. l ++ bs) r) (let e = ap length r in omega (arith, e))
comes n (came [] ∷ gs) l j p file rest r =
    let none : file ≡ [] = r.1.0.0 ∙ r.1.0.1 refl in
    let all = ap (λ bs. l ++ bs) (sym none) in
    ends (subst (λ bs. length bs < n) (sym (append-nil l) ∙ all) p.1.0)
    (no_more n gs _ j refl p.1.1 ∙ ap complete all)
comes n (came (x ∷ c) ∷ gs) l j p file rest r =
    let cut = r.1.0.0 in
    let long = ap length cut ∙ length-append (x ∷ c) r.0 in
    then_comes (came (x ∷ c)) gs l (l ++ (x ∷ c)) file r.0 rest (append_assoc l (x ∷ c) r.0 ∙ ap (λ bs. l ++ bs) (sym cut))
    (omega (arith, long)) (comes n gs (l ++ (x ∷ c)) j p.1.1 r.0 rest r.1.1)
comes n (interrupted ∷ gs) l j p file rest r =
    let long = ap length r.1.0 in
    then_comes interrupted gs l l file r.0 rest (ap (λ bs. l ++ bs) (sym r.1.0))
    (omega (arith, long)) (comes n gs l j p.1.1 r.0 rest r.1.1)
comes n (fault ∷ gs) l j p file rest r = absurd r.1.0

-- ---- the theorems

module _ {i : Input} {bytes : List ℕ} (w : IsWhole i bytes) (file rest : List ℕ) (reads : ReadsFile w.gave file rest)
    (enough : length file + interruptions w.gave < 2 ^ 64 - 1) where
  -- where the file is not at its end, the buffer is full
  full : (m : List ℕ) → incoming i bytes ≡ expecting m →
      length w.gave + length rest ≤ length file + interruptions w.gave → i.end ≡ length bytes
  full m is less =
      by_cases (dec_lt i.end (length bytes))
      (λ l. let n = w.all (ap (λ z. z.last) is) l in absurd (omega (arith, n, less, enough)))
      (λ l. let stop = w.within.stop in omega (arith, stop))

  -- however the reads cut a file that fits in the buffer with a byte to spare, it lies there whole
  pub whole_file : length file < length bytes → incoming i bytes ≡ complete file
  whole_file fits = go (comes (length bytes) w.gave [] (incoming i bytes) w.reads file rest reads)
    where
      go : Comes (length bytes) [] w.gave file rest (incoming i bytes) → incoming i bytes ≡ complete file
      go (ends short is) = is
      go (rests m is cut less) =
          let here = left_long i bytes w.within in
          let front = w.front in
          let came = ap (λ z. length z.left) is in
          let parts = ap length cut ∙ length-append m rest in
          let end = full m is less in
          absurd (omega (arith, fits, here, front, came, parts, end))

  -- a longer one fills the buffer
  pub whole_full : length bytes ≤ length file → (i.end ≡ length bytes) × (i.last ≡ false) × (i.failed ≡ false)
  whole_full over = go (comes (length bytes) w.gave [] (incoming i bytes) w.reads file rest reads)
    where
      go : Comes (length bytes) [] w.gave file rest (incoming i bytes) →
          (i.end ≡ length bytes) × (i.last ≡ false) × (i.failed ≡ false)
      go (ends short is) = absurd (omega (arith, short, over))
      go (rests m is cut less) = (full m is less, ap (λ z. z.last) is, ap (λ z. z.failed) is)
