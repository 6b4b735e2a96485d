-- What is gathered of days that are read one after the other.
use Prim.Native.Nat.{ℕ, ◌+◌, ◌≤◌}
use native.Mathlib.Omega.{arith}
use mathlib.Core.Path.{◌≡◌, refl, sym, ap, ◌∙◌, subst}
use mathlib.Core.Bool.{Bool, true, false, ◌&&◌, true≢false}
use mathlib.Core.List.{List, [], ◌∷◌, ◌++◌, map, append_assoc, append-nil}
use lib.ListN.{length, length-append}
use Rattle.std.specs.Prelude.{Option, Some, None, is_some, IfSome}
use Rattle.std.specs.Option.{unwrap_or, option_and}
use Rattle.snapshot.proofs.Booleans.{and_both}
use Rattle.days.specs.Happenings.{day_of}
use Rattle.gathering.specs.Answers.{answers_in, quarter_of}
use Rattle.gathering.specs.Gathered.{sums_with_all}
use Rattle.gathering.specs.Laps.{gathered}
use Rattle.gathering.proofs.Passing.{with_both}
use Rattle.streams.specs.declared.input.Input.{Input}
use Rattle.streams.specs.Input.{Incoming, IsWhole}
use Rattle.quarters.specs.Days.{IsOpened, IsTried, AllDays, is_whole, all_whole, answers_of, IsAdded, IsDayAdded, AreRead}

-- ---- one file

-- what was read lies at the front of the buffer
pub tried_within : {i : Input} {bytes : List ℕ} → IsTried i bytes → (i.at ≡ 0) × (i.end ≤ length bytes)
tried_within {i} {bytes} t = go t.opening t.opened
  where
    go : (z : Bool) → IsOpened z i bytes → (i.at ≡ 0) × (i.end ≤ length bytes)
    go true whole = (whole.front, whole.within.stop)
    go false none = (ap (λ j. j.at) none, subst (λ k. k ≤ length bytes) (sym (ap (λ j. j.end) none)) (omega arith))

-- and where nothing failed it was read whole
pub tried_whole : {i : Input} {bytes : List ℕ} → IsTried i bytes → i.failed ≡ false → IsWhole i bytes
tried_whole {i} {bytes} t good = go t.opening t.opened
  where
    go : (z : Bool) → IsOpened z i bytes → IsWhole i bytes
    go true whole = whole
    go false none = absurd (true≢false (sym (ap (λ j. j.failed) none) ∙ good))

-- ---- one day

module _ (d : Incoming) (q : Option ℕ) (rows : List (List ℕ)) where
  -- one that did not come whole
  pub day_lost : is_whole d ≡ false → IsAdded d q rows None rows
  day_lost lost = record { whole = sym (ap (λ b. b && is_some q) lost); held = go q }
    where
      go : (q : Option ℕ) → IfSome q (λ k. Unit {0})
      go None = tt
      go (Some k) = tt

  -- one that did
  pub day_gathered : is_whole d ≡ true → (rows' : List (List ℕ)) (n : ℕ) →
      gathered rows' n ≡ sums_with_all (gathered rows (unwrap_or q 0)) (answers_in (day_of d.left)) →
      IsAdded d q rows (option_and q (Some n)) rows'
  day_gathered whole rows' n is = record { whole = both q ∙ sym (ap (λ b. b && is_some q) whole); held = go q is }
    where
      both : (q : Option ℕ) → is_some (option_and q (Some n)) ≡ is_some q
      both None = refl
      both (Some k) = refl

      go : (q : Option ℕ) → gathered rows' n ≡ sums_with_all (gathered rows (unwrap_or q 0)) (answers_in (day_of d.left)) →
          IfSome q (λ k. IfSome (option_and q (Some n)) (λ n. gathered rows' n ≡ sums_with_all (gathered rows k) (answers_in (day_of d.left))))
      go None is = tt
      go (Some k) is = is

-- ---- one day more

quarter_more : (fs : List (List ℕ)) (f : List ℕ) → quarter_of (fs ++ (f ∷ [])) ≡ quarter_of fs ++ answers_in (day_of f)
quarter_more [] f = append-nil (answers_in (day_of f))
quarter_more (g ∷ fs) f =
    ap (λ xs. answers_in (day_of g) ++ xs) (quarter_more fs f)
    ∙ sym (append_assoc (answers_in (day_of g)) (quarter_of fs) (answers_in (day_of f)))

files_more : (ds : List Incoming) (d : Incoming) → map (λ d. d.left) (ds ++ (d ∷ [])) ≡ map (λ d. d.left) ds ++ (d.left ∷ [])
files_more [] d = refl
files_more (e ∷ ds) d = ap {B = List (List ℕ)} (λ fs. e.left ∷ fs) (files_more ds d)

answers_more : (ds : List Incoming) (d : Incoming) → answers_of (ds ++ (d ∷ [])) ≡ answers_of ds ++ answers_in (day_of d.left)
answers_more ds d = ap quarter_of (files_more ds d) ∙ quarter_more (map (λ d. d.left) ds) d.left

whole_more : (ds : List Incoming) (d : Incoming) → all_whole (ds ++ (d ∷ [])) ≡ is_whole d && all_whole ds
whole_more [] d = refl
whole_more (e ∷ ds) d = ap (λ b. is_whole e && b) (whole_more ds d) ∙ exchanged (is_whole e) (is_whole d) (all_whole ds)
  where
    exchanged : (a b c : Bool) → (a && (b && c)) ≡ (b && (a && c))
    exchanged true b c = refl
    exchanged false true c = refl
    exchanged false false c = refl

tried_more : (size : ℕ) (ds : List Incoming) (d : Incoming) → AllDays size ds → AllDays size (d ∷ []) →
    AllDays size (ds ++ (d ∷ []))
tried_more size [] d all more = more
tried_more size (e ∷ ds) d all more = (all.0, tried_more size ds d all.1 more)

-- no day
pub none_read : (size : ℕ) (rows : List (List ℕ)) → AreRead 0 size rows rows (Some 0)
none_read size rows =
    record { days = []; each = refl; tried = tt; quarter = record { whole = refl; held = refl } }

pub one_more : (files size : ℕ) (before rows : List (List ℕ)) (q : Option ℕ) (rows' : List (List ℕ)) (q' : Option ℕ) →
    AreRead files size before rows q → IsDayAdded size q rows q' rows' → AreRead (files + 1) size before rows' q'
one_more files size before rows q rows' q' are more =
    record {
      days = ds';
      each = length-append ds (d ∷ []) ∙ ap (λ k. k + 1) are.each;
      tried = tried_more size ds d are.tried (more.tried, tt);
      quarter = record { whole = whole; held = held };
    }
  where
    ds : List Incoming
    ds = are.days

    d : Incoming
    d = more.day

    ds' : List Incoming
    ds' = ds ++ (d ∷ [])

    whole : is_some q' ≡ all_whole ds'
    whole = more.added.whole ∙ ap (λ b. is_whole d && b) are.quarter.whole ∙ sym (whole_more ds d)

    held : IfSome q' (λ n. gathered rows' n ≡ sums_with_all (gathered before 0) (answers_of ds'))
    held = go q q' more.added.whole are.quarter.held more.added.held
      where
        go : (q q' : Option ℕ) → is_some q' ≡ is_whole d && is_some q →
            IfSome q (λ k. gathered rows k ≡ sums_with_all (gathered before 0) (answers_of ds)) →
            IfSome q (λ k. IfSome q' (λ n. gathered rows' n ≡ sums_with_all (gathered rows k) (answers_in (day_of d.left)))) →
            IfSome q' (λ n. gathered rows' n ≡ sums_with_all (gathered before 0) (answers_of ds'))
        go q None whole before_it it = tt
        go None (Some n) whole before_it it = absurd (true≢false (sym (and_both (is_whole d) false (sym whole)).1))
        go (Some k) (Some n) whole before_it it =
            it
            ∙ ap (λ g. sums_with_all g (answers_in (day_of d.left))) before_it
            ∙ sym (with_both (gathered before 0) (answers_of ds) (answers_in (day_of d.left)))
            ∙ ap (sums_with_all (gathered before 0)) (sym (answers_more ds d))
