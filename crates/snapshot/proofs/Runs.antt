-- "Everything equals giving the turns one by one" (document 02, K4), for every machine: a list in which runs stand is heard as
-- the list of its single turns, and leaves the same state. Whatever holds of every list of items then holds of lists in which
-- runs stand.
use Prim.Native.Nat.{ℕ, suc, ◌+◌, ◌*◌, ◌≤◌, ◌<◌}
use native.Mathlib.Nat.{zero-mul}
use native.Mathlib.Omega.{arith}
use mathlib.Core.Path.{◌≡◌, refl, sym, ap, ◌∙◌, subst}
use mathlib.Core.Bool.{true}
use mathlib.Core.List.{List, [], ◌∷◌, ◌++◌, map, append_assoc}
use mathlib.Core.Option.{Option, none, some, some-ne-none}
use lib.ListN.{length, take, drop, length-drop, take-append-drop}
use lib.Seq.{length-take-le, take_all, take_at, drop_at, drop-drop}
use borrow.Author.Tests.{eq-eqb, ne_eqb, le-ltb, ltb-false}
use Rattle.snapshot.specs.declared.Refusal.{Refusal}
use Rattle.snapshot.specs.declared.Refusal.TheVariants.{CannotArise, TableShort}
use Rattle.snapshot.specs.declared.Answer.{Answer}
use Rattle.snapshot.specs.declared.Answer.TheVariants.{Refused}
use Rattle.snapshot.specs.Refusals.{first_cause}
use Rattle.snapshot.specs.Tally.{turn}
use Rattle.snapshot.specs.Demand.{Method, Result, step}
use Rattle.snapshot.specs.Days.{Machine, State, Item, turn_of, sees, cannot_arise, table_owes, some_unsound, refusal, method}
use Rattle.snapshot.specs.Days.{stepped}
use Rattle.snapshot.specs.Closing.{state_after}
use Rattle.snapshot.specs.Book.{heard}
use Rattle.snapshot.specs.Runs.{is_cramped, RunResult, run_causes, turns_from, run_unless, give_turn, run_refusal, ran}
use Rattle.snapshot.specs.Runs.{Asked, one, run}
use Rattle.snapshot.specs.Runs.{expected_run, unless_refused, turns_of, stepped_one_by_one, answered, heard_turns, RunFits, SameOneByOne}
use Rattle.snapshot.proofs.Booleans.{or_neither}
use Rattle.snapshot.proofs.Causes.{accepted_passes}
use Rattle.snapshot.proofs.Stepped.{stepped_is_step, refusal_changes_nothing}
use Rattle.snapshot.proofs.Keeping.{stepped_size, stepped_count}

-- ---- a run of any turns

module _ {S A : Type 0} (give : S → ℕ → List ℕ → Result S) (told : Result S → A) (page : ℕ) where
  pub turns_taken : (s : S) (ds : List ℕ) (answers : List A) (pages : List ℕ) →
      (turns_from give told page s ds answers pages).refusal ≡ none
  unfolding turns_from
  turns_taken s [] answers pages = refl
  turns_taken s (d ∷ ds) answers pages = refl

  -- the results of the single turns, each on what the one before left: the tables are these laid out, whatever is told of them
  abbrev pub results_of : S → List ℕ → (pages : List ℕ) → List (Result S)
  results_of s [] pages = []
  results_of s (d ∷ ds) pages = let r = give s d (take page pages) in r ∷ results_of r.state ds (drop page pages)

  abbrev pub last_state : S → List (Result S) → S
  last_state s [] = s
  last_state s (r ∷ rs) = last_state r.state rs

  abbrev pub pages_of : List (Result S) → List ℕ
  pages_of [] = []
  pages_of (r ∷ rs) = r.page ++ pages_of rs

  abbrev laid_out : S → List (Result S) → List A → List ℕ → RunResult S A
  laid_out s rs answers pages =
      record { state = last_state s rs; refusal = none; answers = map told rs ++ answers; pages = pages_of rs ++ pages }

  pub turns_laid_out : (ds : List ℕ) (s : S) (answers : List A) (pages : List ℕ) →
      turns_from give told page s ds answers pages
      ≡ laid_out s (results_of s ds pages) (drop (length ds) answers) (drop (length ds * page) pages)
  unfolding turns_from
  turns_laid_out [] s answers pages = ap (λ k. laid_out s [] answers (drop k pages)) (sym (zero-mul page))
  turns_laid_out (d ∷ ds) s answers pages =
      let r = give s d (take page pages) in
      let rs = results_of r.state ds (drop page pages) in
      let next : 1 + length ds ≡ suc (length ds) = omega arith in
      let more : page + length ds * page ≡ suc (length ds) * page = omega arith in
      ap (λ q. record { state = q.state; refusal = none; answers = told r ∷ q.answers; pages = r.page ++ q.pages })
      (turns_laid_out ds r.state (drop 1 answers) (drop page pages))
      ∙ (λ i. record {
        state = last_state r.state rs;
        refusal = none;
        answers = told r ∷ (map told rs ++ (drop-drop (length ds) 1 answers ∙ ap (λ k. drop k answers) next) i);
        pages = (ap (λ us. r.page ++ (pages_of rs ++ us)) (drop-drop (length ds * page) page pages ∙ ap (λ k. drop k pages) more)
            ∙ sym (append_assoc r.page (pages_of rs) (drop (suc (length ds) * page) pages))) i;
      })

-- ---- a run that is refused, and a day that cannot have arisen

module _ (M : Machine) {A : Type 0} (told : Result (State M.Process) → A) (s : State M.Process) (ds : List ℕ)
    (answers : List A) (pages : List ℕ) where
  pub refused_run_changes_nothing : (k : Refusal) → run_refusal M s (length ds) (length answers) (length pages) ≡ some k →
      ran M told s ds answers pages ≡ record { state = s; refusal = some k; answers = answers; pages = pages }
  unfolding ran
  refused_run_changes_nothing k q =
      ap (λ o. run_unless (give_turn M) told (M.page_length s.day.count) o s ds answers pages) q

-- each turn of a day that cannot have arisen, as one with a count above 8, gets 11, and nothing changes
module _ (M : Machine) (s : State M.Process) (z : 0 < s.day.count) (size : length s.table ≡ s.day.count)
    (damaged : cannot_arise s.day.count (s.day.event + table_owes M s) (some_unsound M s) ≡ true) where
  abbrev words : ℕ
  words = M.page_length s.day.count

  turn_damaged : (d : ℕ) (page : List ℕ) → words ≤ length page →
      give_turn M s d page ≡ record { state = s; answer = Refused CannotArise; page = page }
  unfolding refusal
  turn_damaged d page l =
      refusal_changes_nothing M s (turn_of d page) CannotArise
      (simp (
        ne_eqb s.day.count 0 (λ q. omega (arith, q, z)),
        eq-eqb (length s.table) s.day.count size,
        le-ltb (length page) words l,
        damaged,
      ))

  pub turns_damaged : (ds : List ℕ) (answers : List Answer) (pages : List ℕ) → length ds * words ≤ length pages →
      turns_from (give_turn M) (λ r. r.answer) words s ds answers pages
      ≡ record {
        state = s;
        refusal = none;
        answers = map (λ d. Refused CannotArise) ds ++ drop (length ds) answers;
        pages = pages;
      }
  unfolding turns_from
  turns_damaged [] answers pages l = refl
  turns_damaged (d ∷ ds) answers pages l =
      let size = length-drop words pages in
      let front : length (take words pages) ≡ words = length-take-le words pages (omega (arith, l)) in
      let next : 1 + length ds ≡ suc (length ds) = omega arith in
      let rest : (r : Result (State M.Process)) → RunResult (State M.Process) Answer = λ r.
      turns_from (give_turn M) (λ r. r.answer) words r.state ds (drop 1 answers) (drop words pages) in
      ap (λ r. record {
        state = (rest r).state;
        refusal = none;
        answers = r.answer ∷ (rest r).answers;
        pages = r.page ++ (rest r).pages;
      }) (turn_damaged d (take words pages) (omega (arith, front)))
      ∙ ap (λ q. record {
        state = q.state;
        refusal = none;
        answers = Refused CannotArise ∷ q.answers;
        pages = take words pages ++ q.pages;
      }) (turns_damaged ds (drop 1 answers) (drop words pages) (omega (arith, l, size)))
      ∙ (λ i. record {
        state = s;
        refusal = none;
        answers = Refused CannotArise ∷ (map (λ d. Refused CannotArise) ds
            ++ (drop-drop (length ds) 1 answers ∙ ap (λ k. drop k answers) next) i);
        pages = take-append-drop words pages i;
      })

-- ---- lists one after the other

module _ (M : Method) where
  pub state_append : (xs ys : List M.Item) (s : M.State) → state_after M s (xs ++ ys) ≡ state_after M (state_after M s xs) ys
  state_append [] ys s = refl
  state_append (x ∷ xs) ys s = state_append xs ys (step M s x).state

  heard_append : (xs ys : List M.Item) (s : M.State) → heard M s (xs ++ ys) ≡ heard M s xs ++ heard M (state_after M s xs) ys
  heard_append [] ys s = refl
  heard_append (x ∷ xs) ys s =
      let r = step M s x in
      ap (λ l. record { seen = M.sees x; answer = r.answer; shown = M.shown r.page } ∷ l) (heard_append xs ys r.state)

-- Good: what steps keep of a state, and by which a turn leaves a page list as long as it was lent
module _ (M : Machine) (n : ℕ) (z : 0 < n) (Good : State M.Process → Type 0)
    (keeps : (s : State M.Process) (x : Item) → s.day.count ≡ n → Good s → Good (stepped M s x).state)
    (long : (s : State M.Process) (d : ℕ) (page : List ℕ) → s.day.count ≡ n → Good s → length page ≡ M.page_length n →
    length (give_turn M s d page).page ≡ M.page_length n) where
  abbrev told : Result (State M.Process) → Answer
  told r = r.answer

  abbrev w : ℕ
  w = M.page_length n

  -- what a run of turns is, from s on
  record Same (s : State M.Process) (ds : List ℕ) (answers : List Answer) (pages : List ℕ)
      (r : RunResult (State M.Process) Answer) : Type 0 where
    good : Good r.state
    count : r.state.day.count ≡ n
    size : length r.state.table ≡ length s.table
    state : r.state ≡ state_after (method M n) s (turns_of w ds pages)
    told_same : heard_turns M n ds r.answers r.pages ≡ heard (method M n) s (turns_of w ds pages)
    answers_remain_lem : drop (length ds) r.answers ≡ drop (length ds) answers
    pages_remain_lem : drop (length ds * w) r.pages ≡ drop (length ds * w) pages

  count_kept : (s : State M.Process) (x : Item) → s.day.count ≡ n → (stepped M s x).state.day.count ≡ n
  count_kept s x q = stepped_count M s x (omega arith) ∙ q

  turns_same : (ds : List ℕ) (s : State M.Process) (answers : List Answer) (pages : List ℕ) → s.day.count ≡ n → Good s →
      length ds * w ≤ length pages → Same s ds answers pages (turns_from (give_turn M) told w s ds answers pages)
  unfolding turns_from
  turns_same [] s answers pages q g l =
      record { good = g; count = q; size = refl; state = refl; told_same = refl; answers_remain_lem = refl; pages_remain_lem = refl }
  turns_same (d ∷ ds) s answers pages q g l =
      let x = turn_of d (take w pages) in
      let r = give_turn M s d (take w pages) in
      let size = length-drop w pages in
      let front : length (take w pages) ≡ w = length-take-le w pages (omega (arith, l)) in
      let full : length r.page ≡ w = long s d (take w pages) q g front in
      let rest = turns_same ds r.state (drop 1 answers) (drop w pages) (count_kept s x q) (keeps s x q g)
      (omega (arith, l, size)) in
      let pages' = (turns_from (give_turn M) told w r.state ds (drop 1 answers) (drop w pages)).pages in
      let answers' = (turns_from (give_turn M) told w r.state ds (drop 1 answers) (drop w pages)).answers in
      let same = stepped_is_step M s x n in
      let words : take w (r.page ++ pages') ≡ take w r.page =
      take_at r.page pages' w full ∙ sym (take_all w r.page (omega (arith, full))) in
      let left : drop w (r.page ++ pages') ≡ pages' = drop_at r.page pages' w full in
      let next : 1 + length ds ≡ suc (length ds) = omega arith in
      let more : w + length ds * w ≡ suc (length ds) * w = omega arith in
      let past : (us : List ℕ) → drop (suc (length ds) * w) us ≡ drop (length ds * w) (drop w us) =
      λ us. ap (λ k. drop k us) (sym more) ∙ sym (drop-drop (length ds * w) w us) in
      record {
        good = rest.good;
        count = rest.count;
        size = rest.size ∙ stepped_size M s x;
        state = rest.state ∙ ap (λ y. state_after (method M n) y.state (turns_of w ds (drop w pages))) same;
        told_same =
            (λ i. record { seen = turn d; answer = r.answer; shown = M.shown n (words i) }
            ∷ heard_turns M n ds answers' (left i))
            ∙ ap (λ l. record { seen = turn d; answer = r.answer; shown = M.shown n (take w r.page) } ∷ l) rest.told_same
            ∙ ap (λ y. record { seen = turn d; answer = y.answer; shown = M.shown n (take w y.page) }
            ∷ heard (method M n) y.state (turns_of w ds (drop w pages))) same;
        answers_remain_lem = rest.answers_remain_lem ∙ drop-drop (length ds) 1 answers ∙ ap (λ k. drop k answers) next;
        pages_remain_lem = past (r.page ++ pages') ∙ ap (drop (length ds * w)) left ∙ rest.pages_remain_lem ∙ sym (past pages);
      }

  -- a run on a day for n processes, with m for its count and k for the length of its table
  abbrev ran_here : (m k : ℕ) → State M.Process → List ℕ → List Answer → List ℕ → RunResult (State M.Process) Answer
  ran_here m k s ds answers pages =
      run_unless (give_turn M) told (M.page_length m)
      (first_cause (run_causes m k (M.page_length m) (length ds) (length answers) (length pages))) s ds answers pages

  ran_here_lem : (s : State M.Process) (ds : List ℕ) (answers : List Answer) (pages : List ℕ) → s.day.count ≡ n →
      length s.table ≡ n → ran_here n n s ds answers pages ≡ answered M s ds answers pages
  unfolding ran
  ran_here_lem s ds answers pages q size = λ i. ran_here (sym q i) (sym size i) s ds answers pages

  -- neither 10 nor 6 refuses it
  expected_here : (ds : List ℕ) (answers : List Answer) (pages : List ℕ) →
      first_cause (run_causes n n w (length ds) (length answers) (length pages)) ≡ expected_run w ds answers pages
  expected_here ds answers pages =
      simp (ne_eqb n 0 (λ q. omega (arith, q)), eq-eqb n n refl)

  -- the turns of a run that is not refused, or nothing
  record SameRun (s : State M.Process) (ds : List ℕ) (answers : List Answer) (pages : List ℕ)
      (r : RunResult (State M.Process) Answer) : Type 0 where
    good : Good r.state
    count : r.state.day.count ≡ n
    size : length r.state.table ≡ n
    state : r.state ≡ state_after (method M n) s (unless_refused (expected_run w ds answers pages) (turns_of w ds pages))
    told_same : unless_refused r.refusal (heard_turns M n ds r.answers r.pages)
        ≡ heard (method M n) s (unless_refused (expected_run w ds answers pages) (turns_of w ds pages))
    fits : RunFits M n ds answers pages r

  run_same : (s : State M.Process) (ds : List ℕ) (answers : List Answer) (pages : List ℕ) → s.day.count ≡ n →
      length s.table ≡ n → Good s → SameRun s ds answers pages (answered M s ds answers pages)
  run_same s ds answers pages q size g =
      subst (SameRun s ds answers pages) (ran_here_lem s ds answers pages q size)
      (subst (λ k. SameRun s ds answers pages (run_unless (give_turn M) told w k s ds answers pages))
      (sym (expected_here ds answers pages)) (go (expected_run w ds answers pages) refl))
    where
      room_suffices : length ds ≤ length answers → length ds * w ≤ length pages → expected_run w ds answers pages ≡ none
      room_suffices a p = simp (le-ltb (length answers) (length ds) a, le-ltb (length pages) (length ds * w) p)

      go : (k : Option Refusal) → expected_run w ds answers pages ≡ k →
          SameRun s ds answers pages (run_unless (give_turn M) told w k s ds answers pages)
      go (some k) e =
          record {
            good = g;
            count = q;
            size = size;
            state = ap (λ j. state_after (method M n) s (unless_refused j (turns_of w ds pages))) (sym e);
            told_same = ap (λ j. heard (method M n) s (unless_refused j (turns_of w ds pages))) (sym e);
            fits = record {
              refused = sym e;
              given = λ a p. sym e ∙ room_suffices a p;
              fits = λ j. absurd (some-ne-none k j);
              answers_remain = refl;
              pages_remain = refl;
            };
          }
      go none e =
          let room = or_neither _ _
          (accepted_passes ((is_cramped w (length ds) (length answers) (length pages), TableShort) ∷ []) e).0 in
          let enough = ltb-false (length pages) (length ds * w) room.1 in
          let t = turns_same ds s answers pages q g enough in
          let r = turns_from (give_turn M) told w s ds answers pages in
          let taken = turns_taken (give_turn M) told w s ds answers pages in
          record {
            good = t.good;
            count = t.count;
            size = t.size ∙ size;
            state = t.state ∙ ap (λ j. state_after (method M n) s (unless_refused j (turns_of w ds pages))) (sym e);
            told_same = ap (λ j. unless_refused j (heard_turns M n ds r.answers r.pages)) taken
                ∙ t.told_same ∙ ap (λ j. heard (method M n) s (unless_refused j (turns_of w ds pages))) (sym e);
            fits = record {
              refused = taken ∙ sym e;
              given = λ a p. taken;
              fits = λ j. (ltb-false (length answers) (length ds) room.0, enough);
              answers_remain = subst (λ j. let turns = length (unless_refused j ds) in drop turns r.answers ≡ drop turns answers)
                  (sym taken) t.answers_remain_lem;
              pages_remain = subst (λ j. let words = length (unless_refused j ds) * w in drop words r.pages ≡ drop words pages)
                  (sym taken) t.pages_remain_lem;
            };
          }

  pub runs_one_by_one : (qs : List Asked) (s : State M.Process) → s.day.count ≡ n → length s.table ≡ n → Good s →
      SameOneByOne M n s qs
  runs_one_by_one [] s q size g = record { heard_same = refl; state_same = refl; runs_fit = tt }
  runs_one_by_one (one x ∷ qs) s q size g =
      let r = stepped M s x in
      let rest = runs_one_by_one qs r.state (count_kept s x q) (stepped_size M s x ∙ size) (keeps s x q g) in
      let same = stepped_is_step M s x n in
      record {
        heard_same =
            ap (λ l. record { seen = sees x; answer = r.answer; shown = M.shown n (take w r.page) } ∷ l) rest.heard_same
            ∙ ap (λ y. record { seen = sees x; answer = y.answer; shown = M.shown n (take w y.page) }
            ∷ heard (method M n) y.state (stepped_one_by_one w qs)) same;
        state_same = rest.state_same ∙ ap (λ y. state_after (method M n) y.state (stepped_one_by_one w qs)) same;
        runs_fit = rest.runs_fit;
      }
  runs_one_by_one (run ds answers pages ∷ qs) s q size g =
      let r = answered M s ds answers pages in
      let t = run_same s ds answers pages q size g in
      let rest = runs_one_by_one qs r.state t.count t.size t.good in
      let xs = unless_refused (expected_run w ds answers pages) (turns_of w ds pages) in
      let ys = stepped_one_by_one w qs in
      record {
        heard_same =
            (λ i. t.told_same i ++ rest.heard_same i)
            ∙ ap (λ u. heard (method M n) s xs ++ heard (method M n) u ys) t.state
            ∙ sym (heard_append (method M n) xs ys s);
        state_same =
            rest.state_same
            ∙ ap (λ u. state_after (method M n) u ys) t.state
            ∙ sym (state_append (method M n) xs ys s);
        runs_fit = (t.fits, rest.runs_fit);
      }
