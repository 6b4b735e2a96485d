-- What a turn finds, as the code holds it, and what it lays into the page list.
use Rattle.std.specs.Prelude.{ℕ, ◌+◌, List, take, replicate, None, Some}
use Rattle.std.proofs.Math.Option.{Option, none, some}
use Rattle.snapshot.specs.Lists.{over}
use Rattle.snapshot.specs.Values.{zero_value, page_places, listed}
use Rattle.snapshot.specs.Verdict.{Verdict, clean, lent, again}
use Rattle.unbounded.specs.declared.Register.{Register}
use Rattle.unbounded.specs.declared.Process.{Process}
use Rattle.unbounded.specs.declared.Task.{Task}
use Rattle.unbounded.specs.declared.Task.TheVariants.{Idle, Scan, Update, Ready}
use Rattle.unbounded.specs.Registers.{ascending, collected_at, page_of}
use Rattle.unbounded.specs.Turns.{first_after, second_after, end_after, decision}
use Rattle.unbounded_accesses.specs.declared.Access.{Access}
use Rattle.unbounded_tasks.specs.declared.Found.{Found}
use Rattle.unbounded_tasks.specs.declared.Find.{Find}

-- nothing found, after a search for a lender that passed k processes
abbrev pub nothing_found : ℕ → Find
nothing_found k = record { page = None; passed = k }

-- a page found, after a search that passed k processes
abbrev pub page_found : ℕ → Found → Find
page_found k f = record { page = Some f; passed = k }

-- what a decision finds, as the code holds it, from the second collect and the end of the first: eight values, of which n count
abbrev pub decision_find : ℕ → ℕ → List Register → Option Verdict → Find
decision_find n end b none = nothing_found 0
decision_find n end b (some clean) =
    page_found 0 (record { view = over n (page_of ascending n b) (replicate 8 zero_value); at = end; lender = 0 })
decision_find n end b (some (lent j)) =
    let r = collected_at ascending b j in page_found j (record { view = r.view; at = r.at; lender = j + 1 })
decision_find n end b (some again) = nothing_found n

-- what the read of r finds, by the turn of a record p
unfoldable pub find_of : Access → Register → Process → Find
find_of a r p =
    let first = first_after a.n a.pos r p.first in
    let second = second_after a.n a.pos r p.second in
    decision_find a.n (end_after a.n a.pos a.now p.first_end) second
    (decision ascending a.n a.pos first second p.moved)

-- the page list after it: "its first n are written by a page answer; later words, and all words on any other turn, remain", by
-- K6 its first 2n
abbrev pub page_by : Access → Find → Task → List ℕ → List ℕ
page_by a f Idle page = page
page_by a f (Scan t) page =
    elim f.page [ None ↦ page | Some found ↦ over (page_places a.n) (listed (take a.n found.view)) page ]
page_by a f (Update w t) page = page
page_by a f (Ready w at t) page = page
