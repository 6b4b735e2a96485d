-- The loop of a run, for every method: where it has come to turn i, what is done lies in front of both tables, and the turns that
-- are left come to the whole run.
use Prim.Native.Nat.{ℕ, suc, ◌+◌, ◌*◌, ◌≤◌, ◌<◌}
use native.Mathlib.Nat.{zero-mul, mul-le-mul_right}
use native.Mathlib.Omega.{arith}
use mathlib.Core.Path.{◌≡◌, sym, ap, ◌∙◌}
use mathlib.Core.List.{List, [], ◌∷◌, ◌++◌, append_assoc}
use mathlib.Core.Option.{none}
use lib.ListN.{length, get_or, set, take, drop, length-append, length-drop, take-append-drop, drop_of_length-le}
use lib.Seq.{length-take-le, take-length, take-suc-set, drop-cons, take_at, drop_at, drop-drop, drop-set-lt}
use Rattle.snapshot.specs.Demand.{Result}
use Rattle.snapshot.specs.Runs.{RunResult, turns_from}
use Rattle.snapshot.proofs.Runs.{turns_taken}
use Rattle.runs.specs.Plans.{laid_from}

-- ---- a table that is filled from the front

module _ {A : Type 0} (a m : ℕ) (xs ys : List A) (l : a + m ≤ length xs) (k : length (laid_from a m ys xs) ≡ length xs) where
  -- what is laid ends at a + m
  laid_end : length (take a xs ++ ys) ≡ a + m
  laid_end =
      let front = length-take-le a xs (omega (arith, l)) in
      let done = length-append (take a xs) ys in
      let whole = length-append (take a xs) (ys ++ drop m (drop a xs)) in
      let part = length-append ys (drop m (drop a xs)) in
      let left = length-drop m (drop a xs) in
      let left' = length-drop a xs in
      omega (arith, l, k, front, done, whole, part, left, left')

  laid_done : take (a + m) (laid_from a m ys xs) ≡ take a xs ++ ys
  laid_done =
      ap (take (a + m)) (sym (append_assoc (take a xs) ys (drop m (drop a xs))))
      ∙ take_at (take a xs ++ ys) (drop m (drop a xs)) (a + m) laid_end

  laid_left : drop (a + m) (laid_from a m ys xs) ≡ drop m (drop a xs)
  laid_left =
      ap (drop (a + m)) (sym (append_assoc (take a xs) ys (drop m (drop a xs))))
      ∙ drop_at (take a xs ++ ys) (drop m (drop a xs)) (a + m) laid_end

-- ---- the run

module _ {S A : Type 0} (give : S → ℕ → List ℕ → Result S) (told : Result S → A) (page : ℕ) where
  -- the turns of ds from turn i on: the places before them stay
  abbrev pub onward : (ds : List ℕ) → (i : ℕ) → S → List A → List ℕ → RunResult S A
  onward ds i s answers pages =
      let rest = turns_from give told page s (drop i ds) (drop i answers) (drop (i * page) pages) in
      record {
        state = rest.state;
        refusal = none;
        answers = take i answers ++ rest.answers;
        pages = take (i * page) pages ++ rest.pages;
      }

  -- from the first turn on, with j for the words before it
  abbrev from_word : List ℕ → S → List A → (pages : List ℕ) → ℕ → RunResult S A
  from_word ds s answers pages j =
      let rest = turns_from give told page s ds answers (drop j pages) in
      record { state = rest.state; refusal = none; answers = rest.answers; pages = take j pages ++ rest.pages }

  -- a run gives the turns of its list
  pub run_planned : (s : S) (ds : List ℕ) (answers : List A) (pages : List ℕ) →
      turns_from give told page s ds answers pages ≡ onward (take (length ds) ds) 0 s answers pages
  unfolding turns_from
  run_planned s ds answers pages =
      ap (λ es. turns_from give told page s es answers pages) (sym (take-length ds))
      ∙ (let t = turns_from give told page s (take (length ds) ds) answers pages in
      λ z. record {
        state = t.state;
        refusal = turns_taken give told page s (take (length ds) ds) answers pages z;
        answers = t.answers;
        pages = t.pages;
      })
      ∙ ap (from_word (take (length ds) ds) s answers pages) (sym (zero-mul page))

  -- the next turn
  pub onward_next : (ds : List ℕ) (i : ℕ) (s : S) (answers : List A) (pages : List ℕ) → i < length ds →
      length ds ≤ length answers → length ds * page ≤ length pages →
      let r = give s (get_or ds i 0) (take page (drop (i * page) pages)) in
      length (laid_from (i * page) page r.page pages) ≡ length pages →
      onward ds i s answers pages
      ≡ onward ds (i + 1) r.state (set answers i (told r)) (laid_from (i * page) page r.page pages)
  unfolding turns_from
  onward_next ds i s answers pages l a p k =
      let j = i * page in
      let d = get_or ds i 0 in
      let r = give s d (take page (drop j pages)) in
      let next : i * page + page ≡ (i + 1) * page = omega arith in
      let few : (i + 1) * page ≤ length ds * page = mul-le-mul_right page (omega (arith, l)) in
      let inside : i * page + page ≤ length pages = omega (arith, few, p) in
      let laid = laid_from j page r.page pages in
      let end : take ((i + 1) * page) laid ≡ take j pages ++ r.page =
      ap (λ z. take z laid) (sym next) ∙ laid_done j page pages r.page inside k in
      let left : drop ((i + 1) * page) laid ≡ drop page (drop j pages) =
      ap (λ z. drop z laid) (sym next) ∙ laid_left j page pages r.page inside k in
      let set' = set answers i (told r) in
      let one : suc i ≡ i + 1 = omega arith in
      let places : take (i + 1) set' ≡ take i answers ++ told r ∷ [] =
      ap (λ z. take z set') (sym one) ∙ take-suc-set answers i (told r) (omega (arith, l, a)) in
      let places' : drop (i + 1) set' ≡ drop 1 (drop i answers) =
      drop-set-lt (i + 1) answers i (told r) (omega arith) ∙ sym (drop-drop 1 i answers) in
      let x = turns_from give told page r.state (drop (i + 1) ds) (drop 1 (drop i answers)) (drop page (drop j pages)) in
      ap (λ es. let rest = turns_from give told page s es (drop i answers) (drop j pages) in
      record {
        state = rest.state;
        refusal = none;
        answers = take i answers ++ rest.answers;
        pages = take j pages ++ rest.pages;
      })
      (drop-cons ds i 0 l ∙ ap (λ z. d ∷ drop z ds) one)
      ∙ (λ z. record {
        state = x.state;
        refusal = none;
        answers = sym (append_assoc (take i answers) (told r ∷ []) x.answers) z;
        pages = sym (append_assoc (take j pages) r.page x.pages) z;
      })
      ∙ (λ z. let rest = turns_from give told page r.state (drop (i + 1) ds) (sym places' z) (sym left z) in
      record { state = rest.state; refusal = none; answers = sym places z ++ rest.answers; pages = sym end z ++ rest.pages })

  -- no turn is left
  pub onward_last : (ds : List ℕ) (i : ℕ) (s : S) (answers : List A) (pages : List ℕ) → length ds ≤ i →
      onward ds i s answers pages ≡ record { state = s; refusal = none; answers = answers; pages = pages }
  unfolding turns_from
  onward_last ds i s answers pages l =
      ap (λ es. let rest = turns_from give told page s es (drop i answers) (drop (i * page) pages) in
      record {
        state = rest.state;
        refusal = none;
        answers = take i answers ++ rest.answers;
        pages = take (i * page) pages ++ rest.pages;
      })
      (drop_of_length-le ds l)
      ∙ (λ z. record {
        state = s;
        refusal = none;
        answers = take-append-drop i answers z;
        pages = take-append-drop (i * page) pages z;
      })
