-- What one turn of a process does (document 01, What one turn does; Figure 3), given the one register that it reads.
use Rattle.std.specs.Prelude.{ℕ, ◌+◌, ◌-◌, ◌*◌, ◌%◌, Bool, cond, List, eqb, ltb}
use Rattle.std.proofs.Math.Option.{Option, none, some}
use Rattle.snapshot.specs.Lists.{over}
use Rattle.snapshot.specs.declared.Value.{Value}
use Rattle.snapshot.specs.Values.{stored, page_places, listed}
use Rattle.snapshot.specs.Verdict.{Verdict, clean, lent, again, verdict}
use Rattle.snapshot.specs.Marks.{lends, mark_from, passed, Found}
use Rattle.snapshot.specs.Demand.{Result}
use Rattle.snapshot.specs.declared.Answer.TheVariants.{Read, Page, Written}
use Rattle.unbounded.specs.declared.Register.{Register}
use Rattle.unbounded.specs.declared.Process.{Process}
use Rattle.unbounded.specs.declared.Task.{Task}
use Rattle.unbounded.specs.declared.Task.TheVariants.{Idle, Scan, Update, Ready}
use Rattle.unbounded.specs.Registers.{Order, collected_at, viewed, laid, read_into, page_of, differs}
use Rattle.unbounded.specs.Processes.{emptied, begin}

-- ---- the read of a turn

-- where reading turn t (from 0) stands in its double collect: below n in the first collect, from n on in the second (1)
unfoldable pub position : ℕ → ℕ → ℕ
position n t = t % (2 * n)

-- the place, in its collect, of the read at position p (1)
unfoldable pub place_at : ℕ → ℕ → ℕ
place_at n p = cond (ltb p n) p (p - n)

-- the register that the next turn of a task reads, from 0, if it reads one
abbrev pub reads : Order → ℕ → Task → Option ℕ
reads o n Idle = none
reads o n (Scan t) = some (o.register (place_at n (position n t)))
reads o n (Update w t) = some (o.register (place_at n (position n t)))
reads o n (Ready w at t) = none

-- ---- the collects after register r is read at position p by the turn numbered now

unfoldable pub first_after : ℕ → ℕ → Register → List Register → List Register
first_after n p r a = cond (ltb p n) (read_into n r (place_at n p) a) a

unfoldable pub second_after : ℕ → ℕ → Register → List Register → List Register
second_after n p r b = cond (ltb p n) b (read_into n r (place_at n p) b)

-- "the number of the turn that ended the first collect"
unfoldable pub end_after : ℕ → ℕ → ℕ → ℕ → ℕ
end_after n p now end = cond (eqb (p + 1) n) now end

-- ---- the decision, which is part of the same turn

-- after the last read of a double collect, its verdict; before that, none (2 to 4)
unfoldable pub decision : Order → ℕ → ℕ → List Register → List Register → List Bool → Option Verdict
decision o n p a b ms = cond (eqb (p + 1) (2 * n)) (some (verdict n (differs o a b) (lends (differs o a b) ms))) none

-- the marks after a decision
unfoldable pub marks_after : Order → ℕ → List Register → List Register → List Bool → Option Verdict → List Bool
marks_after o n a b ms v = mark_from (differs o a b) (passed n v) 0 ms

-- the page that a decision finds, from the second collect and the end of the first: the values "of the second collect", at
-- "the number of the turn that ended the first collect"; or "the view, and the at" of the lender's row in the second collect
abbrev pub found : Order → ℕ → List Register → ℕ → Option Verdict → Option (Found Value)
found o n b end none = none
found o n b end (some clean) = some (record { words = page_of o n b; instant = end; lender = 0 })
found o n b end (some (lent j)) =
    some (record { words = viewed n (collected_at o b j); instant = (collected_at o b j).at; lender = j + 1 })
found o n b end (some again) = none

-- ---- the record after a reading turn

-- p with task k and view v, once register r is read at position pos by the turn numbered now
unfoldable pub after_read : Order → ℕ → ℕ → ℕ → Register → Process → Task → List Value → Process
after_read o n now pos r p k v =
    let a = first_after n pos r p.first in
    let b = second_after n pos r p.second in
    record {
      register = p.register;
      task = k;
      first = a;
      second = b;
      first_end = end_after n pos now p.first_end;
      view = v;
      moved = marks_after o n a b p.moved (decision o n pos a b p.moved);
    }

-- the page that the read at position pos finds, if it finds one
unfoldable pub found_by : Order → ℕ → ℕ → ℕ → Register → Process → Option (Found Value)
found_by o n now pos r p =
    let a = first_after n pos r p.first in
    let b = second_after n pos r p.second in
    found o n b (end_after n pos now p.first_end) (decision o n pos a b p.moved)

-- a scan's reading turn: it answers the page that it finds, and lays it over the first places of the page list
abbrev pub scan_turn : Order → ℕ → ℕ → Register → List ℕ → Process → ℕ → Option (Found Value) → Result Process
scan_turn o n now r page p t none =
    record { state = after_read o n now (position n t) r p (Scan (t + 1)) p.view; answer = Read; page = page }
scan_turn o n now r page p t (some f) =
    record {
      state = begin n Idle p;
      answer = Page f.lender f.instant (t + 1);
      page = over (page_places n) (listed f.words) page;
    }

-- an update's reading turn: it keeps the page that it finds, for its writing turn (5)
abbrev pub update_turn : Order → ℕ → ℕ → Register → List ℕ → Process → ℕ → ℕ → Option (Found Value) → Result Process
update_turn o n now r page p w t none =
    record { state = after_read o n now (position n t) r p (Update w (t + 1)) p.view; answer = Read; page = page }
update_turn o n now r page p w t (some f) =
    record {
      state = after_read o n now (position n t) r p (Ready w f.instant (t + 1)) (over n f.words p.view);
      answer = Read;
      page = page;
    }

-- "word, seq plus 1, that page as view, that page's at" (5; Figure 3, update, line 2); the number of the word's writing is that of
-- this turn (K6)
unfoldable pub written : (n now w at : ℕ) → Process → Register
written n now w at p = laid n (record { value = stored now w; seq = p.register.seq + 1; view = p.view; at = at }) p.register

-- the turn numbered now of a process p whose task is k, with the page list lent; an idle one is refused before it comes here
abbrev pub turned_with : Order → ℕ → ℕ → Register → List ℕ → Process → Task → Result Process
turned_with o n now r page p Idle = record { state = p; answer = Read; page = page }
turned_with o n now r page p (Scan t) = scan_turn o n now r page p t (found_by o n now (position n t) r p)
turned_with o n now r page p (Update w t) = update_turn o n now r page p w t (found_by o n now (position n t) r p)
turned_with o n now r page p (Ready w at t) =
    record { state = emptied n (written n now w at p) Idle p; answer = Written (t + 1); page = page }

unfoldable pub turned : Order → ℕ → ℕ → Register → List ℕ → Process → Result Process
turned o n now r page p = turned_with o n now r page p p.task
