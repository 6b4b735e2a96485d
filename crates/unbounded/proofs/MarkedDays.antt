-- The marked days follow from the definitions.
use Prim.Native.Nat.{ℕ, ◌≤◌, ◌<◌}
use mathlib.Core.Path.{◌≡◌, refl, sym, ap₂, ◌∙◌}
use mathlib.Core.List.{List, [], ◌∷◌, ◌++◌, map, map-append}
use Rattle.snapshot.specs.declared.Value.{Value}
use Rattle.snapshot.specs.Values.{listed, values_in}
use Rattle.snapshot.specs.Demand.{step}
use Rattle.snapshot.specs.Refusals.{is_past}
use Rattle.snapshot.specs.Days.{refusal, opened_by, advance, called_by, turn_by, accept}
use Rattle.snapshot.specs.Replies.{Reply}
use Rattle.snapshot.specs.Verdict.{verdict}
use Rattle.snapshot.specs.Marks.{is_moved, with_moved, lends}
use Rattle.unbounded.specs.Registers.{laid, read_into, cleared, page_of, differs}
use Rattle.unbounded.specs.Processes.{begin}
use Rattle.unbounded.specs.Turns.{position, place_at, first_after, second_after, end_after, decision, marks_after, after_read}
use Rattle.unbounded.specs.Turns.{found_by, written, turned}
use Rattle.unbounded.specs.Days.{most_reads, unsound}
use Rattle.unbounded.specs.MarkedDays.{MarkedDay, played, day_g, day_h, fixed_days, marked_days}
use Rattle.unbounded.proofs.MarkedCounts.{day_g_follows, day_h_follows}

abbrev expected : MarkedDay → List (Reply Value)
expected d = d.expected

fixed_days_follow : map played fixed_days ≡ map expected fixed_days
unfolding fixed_days step is_past refusal opened_by advance called_by turn_by accept verdict is_moved with_moved lends laid read_into
    cleared page_of differs begin position place_at first_after second_after end_after decision marks_after after_read found_by written
    turned most_reads unsound listed values_in
fixed_days_follow = refl

pub marked_days_follow : (n : ℕ) → 0 < n → n ≤ 8 → map played (marked_days n) ≡ map expected (marked_days n)
unfolding marked_days
marked_days_follow n z eight =
    map-append played fixed_days (day_g n ∷ day_h n ∷ [])
    ∙ ap₂ {C = List (List (Reply Value))} ◌++◌ fixed_days_follow
    (ap₂ {C = List (List (Reply Value))} (λ g h. g ∷ h ∷ []) (day_g_follows n z eight) (day_h_follows n z eight))
    ∙ sym (map-append expected fixed_days (day_g n ∷ day_h n ∷ []))
