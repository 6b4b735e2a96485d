-- What asking a record keeps: at most eight records are lent, and the page list does not grow.
use Prim.Native.Nat.{ℕ, zero, suc, ◌+◌, ◌≤◌}
use native.Mathlib.Omega.{arith}
use native.Mathlib.Nat.{le_refl}
use mathlib.Core.Path.{◌≡◌, refl, subst}
use mathlib.Core.Logic.{◌≢◌}
use mathlib.Core.Bool.{Bool, true, false, cond}
use mathlib.Core.List.{List, [], ◌∷◌}
use mathlib.Core.Option.{Option, none, some}
use lib.ListN.{length, take, drop, length-drop, length-append}
use lib.Dec.{ltb}
use borrow.Author.Tests.{ltb-true}
use Rattle.snapshot.specs.Lists.{over}
use Rattle.snapshot.specs.declared.Value.{Value}
use Rattle.snapshot.specs.Values.{page_places, listed, words_in, lasts_in}
use Rattle.snapshot.specs.declared.Day.{Day}
use Rattle.snapshot.specs.declared.Refusal.{Refusal}
use Rattle.snapshot.specs.declared.Request.{Request}
use Rattle.snapshot.specs.declared.Request.TheVariants.{Open, Update, Scan, Turn}
use Rattle.dayfile.specs.declared.Reading.{Reading}
use Rattle.dayfile.specs.declared.Reading.TheVariants.{Found, End, Refused}
use Rattle.unbounded.specs.declared.Register.{Register}
use Rattle.unbounded.specs.declared.Process.{Process}
use Rattle.unbounded.specs.declared.Task.{Task}
use Rattle.unbounded.specs.declared.Task.TheVariants.{Idle, Scan as Scanning, Update as Updating, Ready}
use Rattle.unbounded.specs.Registers.{Order, ascending}
use Rattle.snapshot.specs.Marks.{Found as Page}
use Rattle.unbounded.specs.Turns.{found_by, scan_turn, update_turn, turned, turned_with, position, reads}
use Rattle.snapshot.specs.Days.{State, turn_of, process_of, read_from, turn_by, accept}
use Rattle.unbounded.specs.Days.{figure3, stepped}
use Rattle.memory.specs.Tables.{state_of, refusal_in}
use Rattle.memory.proofs.Accepted.{stepped_refused, stepped_accepted, page_long}
use Rattle.days.specs.Asking.{wanted, lent_to, request_of, asked_page}
use Rattle.days.specs.Happenings.{Box, box_after, happening_in, lent_in}

-- ---- how many records are lent, and at most eight

-- only an opening says how many it wants
pub wanted_by_day : (d : Day) (x : Request) → ((k : ℕ) → x ≢ Open k) → d.count ≡ wanted d x
wanted_by_day d (Open k) q = absurd (q k refl)
wanted_by_day d (Update p w) q = refl
wanted_by_day d (Scan p) q = refl
wanted_by_day d (Turn p) q = refl

pub nothing_wanted : (d : Day) (x : Reading) → ((r : Request) (k : ℕ) → x ≢ Found r k) → d.count ≡ wanted d (request_of x)
nothing_wanted d (Found r k) q = absurd (q r k refl)
nothing_wanted d End q = refl
nothing_wanted d (Refused k) q = refl

at_most_eight : (n : ℕ) (b : Bool) → ltb n 8 ≡ b → cond b n 8 ≤ 8
at_most_eight n true e = let l = ltb-true n 8 e in omega (arith, l)
at_most_eight n false e = le_refl 8

pub lent_to_le : (d : Day) (x : Request) → lent_to d x ≤ 8
unfolding lent_to
lent_to_le d x = at_most_eight (wanted d x) (ltb (wanted d x) 8) refl

-- ---- the page list does not grow

take_short : (n : ℕ) (ws : List ℕ) → length (take n ws) ≤ n
take_short zero ws = omega arith
take_short (suc n) [] = omega arith
take_short (suc n) (w ∷ ws) = let l = take_short n ws in omega arith

take_less : (n : ℕ) (ws : List ℕ) → length (take n ws) ≤ length ws
take_less zero ws = omega arith
take_less (suc n) [] = omega arith
take_less (suc n) (w ∷ ws) = let l = take_less n ws in omega arith

parts_less : (n : ℕ) (ws : List ℕ) → length (words_in n ws) + length (lasts_in n ws) ≤ length ws
parts_less n ws =
    let a = take_less n (drop n ws) in
    let b = length-drop n ws in
    let c = take_short n ws in
    let d = take_less n ws in
    omega (arith, a, b, c, d)

over_short : (n : ℕ) (ws page : List ℕ) → n ≤ length page → length (over n ws page) ≤ length page
over_short n ws page l =
    let a = length-append (take n ws) (drop n page) in
    let b = length-drop n page in
    let c = take_short n ws in
    omega (arith, a, b, c, l)

module _ (o : Order) (n now : ℕ) (r : Register) (page : List ℕ) (p : Process) (l : page_places n ≤ length page) where
  turned_page : (k : Task) → length (turned_with o n now r page p k).page ≤ length page
  turned_page Idle = le_refl (length page)
  turned_page (Scanning t) = go (found_by o n now (position n t) r p)
    where
      go : (f : Option (Page Value)) → length (scan_turn o n now r page p t f).page ≤ length page
      go none = le_refl (length page)
      go (some f) = over_short (page_places n) (listed f.words) page l
  turned_page (Updating w t) = go (found_by o n now (position n t) r p)
    where
      go : (f : Option (Page Value)) → length (update_turn o n now r page p w t f).page ≤ length page
      go none = le_refl (length page)
      go (some f) = le_refl (length page)
  turned_page (Ready w at t) = le_refl (length page)

turn_page : (s : State Process) (d : ℕ) (page : List ℕ) → length (stepped s (turn_of d page)).page ≤ length page
unfolding accept turn_by turned
turn_page s d page = go (refusal_in s (turn_of d page)) refl
  where
    go : (c : Option Refusal) → refusal_in s (turn_of d page) ≡ c → length (stepped s (turn_of d page)).page ≤ length page
    go none q =
        let n = s.day.count in
        let p = process_of (figure3 ascending) s d in
        let read = (read_from (figure3 ascending) s.table (reads ascending n p.task)).register in
        subst (λ r. length r.page ≤ length page) (stepped_accepted s (turn_of d page) q)
        (turned_page ascending n (s.day.event + 1) read page p (page_long s.day s.table page (Turn d) tt tt q) p.task)
    go (some k) q =
        subst (λ ws. length ws ≤ length page) (stepped_refused s (turn_of d page) k q).2 (le_refl (length page))

asked_page_lem : (d : Day) (ps : List Process) (page : List ℕ) (x : Reading) → length (asked_page d ps page x) ≤ length page
asked_page_lem d ps page (Found (Open k) next) = le_refl (length page)
asked_page_lem d ps page (Found (Update p w) next) = le_refl (length page)
asked_page_lem d ps page (Found (Scan p) next) = le_refl (length page)
asked_page_lem d ps page (Found (Turn p) next) = turn_page (state_of d ps) p page
asked_page_lem d ps page End = le_refl (length page)
asked_page_lem d ps page (Refused k) = le_refl (length page)

module _ (b : Box) (x : Reading) where
  pub page_kept : length (box_after b x).page ≤ length b.page
  page_kept = asked_page_lem b.day (take (lent_in b x) b.table) b.page x

  -- nor do the words and numbers that are shown
  pub few_shown : length (happening_in b x).words + length (happening_in b x).lasts ≤ length b.page
  few_shown =
      let n = (box_after b x).day.count in
      let page = (box_after b x).page in
      let l = parts_less n page in
      let m = page_kept in
      omega (arith, l, m)
