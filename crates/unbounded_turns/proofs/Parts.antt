-- A record with one part other than it has.
use Prim.Native.Nat.{ℕ}
use mathlib.Core.Bool.{Bool}
use mathlib.Core.List.{List}
use Rattle.snapshot.specs.declared.Value.{Value}
use Rattle.unbounded.specs.declared.Register.{Register}
use Rattle.unbounded.specs.declared.Process.{Process}
pub use Rattle.unbounded_turns.specs.Steps.{with_collected}

-- p with another register
abbrev pub with_register : Register → Process → Process
with_register r p =
    record {
      register = r;
      task = p.task;
      first = p.first;
      second = p.second;
      first_end = p.first_end;
      view = p.view;
      moved = p.moved;
    }

-- with another first collect, second collect, end of the first, view, or marks
abbrev pub with_first : List Register → Process → Process
with_first rs p = with_collected rs p.second p.first_end p.view p.moved p

abbrev pub with_second : List Register → Process → Process
with_second rs p = with_collected p.first rs p.first_end p.view p.moved p

abbrev pub with_end : ℕ → Process → Process
with_end end p = with_collected p.first p.second end p.view p.moved p

abbrev pub with_view : List Value → Process → Process
with_view v p = with_collected p.first p.second p.first_end v p.moved p

abbrev pub with_marks : List Bool → Process → Process
with_marks ms p = with_collected p.first p.second p.first_end p.view ms p
