-- What a look at every record of a table finds, for every machine: the event that all work ends by, added up one record after the
-- other and not past 65,535, is that of the day's definitions wherever a refusal asks for it.
use Prim.Native.Nat.{ℕ, ◌+◌, ◌-◌, ◌≤◌, ◌<◌}
use native.Mathlib.Omega.{arith}
use native.Mathlib.Decide.{dec_lt}
use mathlib.Core.Path.{◌≡◌, refl, sym, ap, ◌∙◌}
use mathlib.Core.Logic.{by_cases}
use mathlib.Core.Bool.{Bool, true, false, cond, ◌||◌, or-true, or-false, or_assoc, true≢false}
use mathlib.Core.List.{List, [], ◌∷◌, foldl}
use lib.Dec.{leb}
use borrow.Author.Tests.{lt-ltb, le-ltb}
use Rattle.snapshot.specs.Lists.{some_of, sum_of}
use Rattle.snapshot.specs.Refusals.{is_past}
use Rattle.snapshot.specs.Tally.{scan, update}
use Rattle.snapshot.specs.Days.{Machine, State, process_owes, some_unsound}
use Rattle.snapshot.proofs.Booleans.{or_neither}
use Rattle.table_surveys.specs.Surveys.{end_with, survey_with, waits_by}
use Rattle.table_surveys.specs.declared.Survey.{Survey}

-- ---- what is owed, added to an event number

module _ {A : Type 0} (f : A → ℕ) where
  abbrev pub end_of : ℕ → List A → ℕ
  end_of e l = foldl (λ k a. end_with k (f a)) e l

  past_stays : (e : ℕ) (l : List A) → 65535 < e → end_of e l ≡ e
  unfolding is_past
  past_stays e [] h = refl
  past_stays e (x ∷ l) h = rw (lt-ltb 65535 e h) (past_stays e l h)

  -- it is the sum, where the sum is not past; and it is past where the sum is
  pub end_same : (e : ℕ) (l : List A) → e + sum_of f l ≤ 65535 → end_of e l ≡ e + sum_of f l
  unfolding is_past
  end_same e [] h = omega arith
  end_same e (x ∷ l) h =
      rw (le-ltb 65535 e (omega arith)) (let q = end_same (e + f x) l (omega arith) in omega arith)

  pub end_past : (e : ℕ) (l : List A) → is_past (end_of e l) ≡ is_past (e + sum_of f l)
  unfolding is_past
  end_past e [] = let sum : e ≡ e + 0 = omega arith in ap is_past sum
  end_past e (x ∷ l) =
      let sum : e + f x + sum_of f l ≡ e + sum_of f (x ∷ l) = omega arith in
      by_cases (dec_lt 65535 e)
      (λ h. ap is_past (past_stays e (x ∷ l) h) ∙ lt-ltb 65535 e h ∙ sym (lt-ltb 65535 (e + sum_of f (x ∷ l)) (omega arith)))
      (λ h. rw (le-ltb 65535 e (omega arith)) (end_past (e + f x) l ∙ ap is_past sum))

-- ---- a table

-- what a survey tells of a table: the most turns of each job, whether some record is bad, and if none is the event that all work
-- ends by
pub record Surveyed (M : Machine) (s : State M.Process) (v : Survey) : Type 0 where
  pub scans : v.scan_most ≡ M.most s.day.count scan
  pub updates : (d w : ℕ) → v.scan_most + v.update_more ≡ M.most s.day.count (update d w)
  pub sound : v.bad ≡ some_unsound M s
  pub ends : some_unsound M s ≡ false → v.end ≡ end_of (process_owes M s.day.count) s.day.event s.table

-- what a look leaves of the survey v, with end e, and bad or not, by a record that is bad or owes so much; one that is bad may owe
-- anything
pub record Looked (v : Survey) (e : ℕ) (before bad : Bool) (owes : ℕ) (after : Survey) : Type 0 where
  pub end : ℕ
  pub left : after ≡ survey_with v end (before || bad)
  pub exact : bad ≡ false → end ≡ end_with e owes

-- what a record that is not bad owes, said otherwise
pub owing : {v after : Survey} {e k o : ℕ} {before bad : Bool} → (bad ≡ false → k ≡ o) → Looked v e before bad k after →
    Looked v e before bad o after
owing {e = e} same l = record { end = l.end; left = l.left; exact = λ q. l.exact q ∙ ap (end_with e) (same q) }

-- looks at all records of a list, one after the other
module _ {P : Type 0} (look : Survey → P → Survey) (v : Survey) (owes : P → ℕ) (bad : P → Bool)
    (looks : (e : ℕ) (b : Bool) (p : P) → Looked v e b (bad p) (owes p) (look (survey_with v e b) p)) where
  pub record LookedAll (e : ℕ) (b : Bool) (ps : List P) : Type 0 where
    pub end : ℕ
    pub left : foldl look (survey_with v e b) ps ≡ survey_with v end (b || some_of bad ps)
    pub exact : some_of bad ps ≡ false → end ≡ end_of owes e ps

  pub looked_all : (e : ℕ) (b : Bool) (ps : List P) → LookedAll e b ps
  looked_all e b [] = record { end = e; left = ap (survey_with v e) (sym (or-false b)); exact = λ q. refl }
  looked_all e b (p ∷ ps) =
      let one = looks e b p in
      let all = looked_all one.end (b || bad p) ps in
      record {
        end = all.end;
        left = ap (λ s. foldl look s ps) one.left ∙ all.left ∙ ap (survey_with v all.end) (or_assoc b (bad p) (some_of bad ps));
        exact = λ q.
            let none = or_neither (bad p) (some_of bad ps) q in
            all.exact none.1 ∙ ap (λ k. end_of owes k ps) (one.exact none.0);
      }

-- ---- a task

-- one that cannot have had most turns, and owes these and more
pub waiting_looked : (v : Survey) (e : ℕ) (b : Bool) (most more turns : ℕ) →
    Looked v e b (leb most turns) (most - turns + more) (waits_by (survey_with v e b) most more turns)
waiting_looked v e b most more turns = go (leb most turns)
  where
    go : (late : Bool) → Looked v e b late (most - turns + more)
        (cond late (survey_with v e true) (survey_with v (end_with e (most - turns + more)) b))
    go true = record { end = e; left = ap (survey_with v e) (sym (or-true b)); exact = λ q. absurd (true≢false q) }
    go false =
        record {
          end = end_with e (most - turns + more);
          left = ap (survey_with v (end_with e (most - turns + more))) (sym (or-false b));
          exact = λ q. refl;
        }

-- one that owes nothing
pub resting_looked : (v : Survey) (e : ℕ) (b : Bool) → Looked v e b false 0 (survey_with v e b)
resting_looked v e b = record { end = e; left = ap (survey_with v e) (sym (or-false b)); exact = λ q. sym (go (is_past e)) }
  where
    go : (past : Bool) → cond past e (e + 0) ≡ e
    go true = refl
    go false = omega arith
