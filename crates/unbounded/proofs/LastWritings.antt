-- Every page of Figure 3's method shows of each register its last writing at or before the page's instant, with its number
-- (`items_show_last`): every n from 1 to 8, every list of items on a day just opened.
use Prim.Native.Nat.{ℕ, ◌≤◌, ◌<◌}
use mathlib.Core.List.{List, []}
use Rattle.snapshot.specs.Values.{zero_value}
use Rattle.snapshot.specs.Tally.{started}
use Rattle.snapshot.specs.Days.{Item}
use Rattle.snapshot.specs.Book.{heard}
use Rattle.snapshot.specs.LastWritings.{AllShowLast}
use Rattle.snapshot.proofs.Follows.{holds_follows}
use Rattle.snapshot.proofs.LastWritings.{pages_show_last}
use Rattle.unbounded.specs.Registers.{ascending}
use Rattle.unbounded.specs.Days.{method, opened_for}
use Rattle.unbounded.proofs.Demand3.{demand3}

pub items_show_last : (n : ℕ) → 0 < n → n ≤ 8 → (items : List Item) →
    AllShowLast n [] (started n n zero_value) (heard (method ascending n) (opened_for n) items)
items_show_last n z eight items =
    let M = method ascending n in
    pages_show_last n n M.most (heard M (opened_for n) items)
    (holds_follows M (opened_for n) (started n n zero_value) items (demand3 n z eight items))
