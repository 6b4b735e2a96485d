-- A request beside which a page list is lent, and the item of the day (snapshot/specs/Days) that it is.
use Rattle.std.specs.Prelude.{ℕ, Bool, true, false, List}
use Rattle.snapshot.specs.Demand.{Result}
use Rattle.snapshot.specs.Days.{State, Item, open_for, update_call, scan_call, turn_of}
use Rattle.snapshot.specs.declared.Request.{Request}
use Rattle.snapshot.specs.declared.Request.TheVariants.{Open, Update, Scan, Turn}

-- the item that a request is: only a turn lends its page list
abbrev pub item_of : List ℕ → Request → Item
item_of page (Open k) = open_for k
item_of page (Update d w) = update_call d w
item_of page (Scan d) = scan_call d
item_of page (Turn d) = turn_of d page

-- the page list after a request with result r: "all words on any other turn, remain", and on any other request
abbrev pub page_after : {Process : Type 0} → List ℕ → Result (State Process) → Request → List ℕ
page_after page r (Open k) = page
page_after page r (Update d w) = page
page_after page r (Scan d) = page
page_after page r (Turn d) = r.page

-- which requests open a day, and which are calls
abbrev pub is_opening : Request → Bool
is_opening (Open k) = true
is_opening (Update d w) = false
is_opening (Scan d) = false
is_opening (Turn d) = false

abbrev pub is_call : Request → Bool
is_call (Open k) = false
is_call (Update d w) = true
is_call (Scan d) = true
is_call (Turn d) = false
