-- What a request leaves of packed records is what it leaves of records kept in that form.
use Prim.Native.Nat.{ℕ, ◌-◌, ◌<◌}
use mathlib.Core.Path.{◌≡◌, refl, ap, ◌∙◌}
use mathlib.Core.Bool.{cond, not}
use mathlib.Core.List.{List}
use lib.Dec.{T}
use lib.ListN.{length, set}
use Rattle.snapshot.specs.Requests.{number_in}
use Rattle.snapshot.specs.Demand.{Result}
use Rattle.snapshot.specs.Days.{State}
use Rattle.snapshot.specs.declared.Request.{Request}
use Rattle.snapshot.specs.declared.Request.TheVariants.{Open, Update, Scan, Turn}
use Rattle.requests.specs.Requests.{is_opening}
use Rattle.unbounded.specs.declared.Process.{Process}
use Rattle.process_records.specs.Forms.{packed, left_by}
use Rattle.process_records.proofs.Kept.{stored_left}
use Rattle.memory.specs.Left.{is_refused, table_left}
use Rattle.packed_rows.specs.Rows.{unpacked_all, packed_at, packed_by}
use Rattle.packed_table.specs.Tables.{table_after}

pub by_form : (t : List (List ℕ)) (x : Request) (ps : List Process) → left_by packed t x ps ≡ packed_by t x ps
by_form t (Open k) ps = refl
by_form t (Update d w) ps = refl
by_form t (Scan d) ps = refl
by_form t (Turn d) ps = refl

pub packed_left : (t : List (List ℕ)) (x : Request) (r : Result (State Process)) → table_left packed t x r ≡ table_after t x r
packed_left t x r = ap (cond (is_refused r.answer) t) (by_form t x r.state.table)

-- record q stored for the process of a call or a turn
pub stored_packed : (t : List (List ℕ)) (x : Request) (q : Process) (ps : List Process) → T (not (is_opening x)) →
    let i = number_in x - 1 in i < length t → set (unpacked_all t) i q ≡ ps → packed_at t i q ≡ packed_by t x ps
stored_packed t x q ps o l e = stored_left packed t x q ps o l e ∙ by_form t x ps
