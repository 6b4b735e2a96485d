-- The marked days of document 01, "Days to check by hand", as one list: what is asked of a blank day, and the replies.
use Rattle.std.specs.Prelude.{ℕ, ◌+◌, ◌-◌, ◌*◌, List, [], ◌∷◌, ◌++◌, replicate}
use Rattle.snapshot.specs.Requests.{blank_day}
use Rattle.snapshot.specs.declared.Value.{Value}
use Rattle.snapshot.specs.Days.{State, Item, open_for, update_call, scan_call, turn_of}
use Rattle.snapshot.specs.Replies.{Reply, refused, opened, called, read, page, written, replies}
use Rattle.unbounded.specs.declared.Process.{Process}
use Rattle.unbounded.specs.Registers.{ascending}
use Rattle.unbounded.specs.Processes.{zero_process}
use Rattle.unbounded.specs.Days.{method}

-- a day for n processes: a blank day with a table of n records is asked these items, and replies so
pub record MarkedDay : Type 0 where
  pub count : ℕ
  pub items : List Item
  pub expected : List (Reply Value)

abbrev pub blank : ℕ → State Process
blank n = record { day = blank_day; table = replicate n zero_process }

-- what the definitions reply on a day
abbrev pub played : MarkedDay → List (Reply Value)
played d = replies (method ascending d.count) (blank d.count) d.items

-- k turns of process d, each with a page list of so many places; and of the 2n that a page of n takes (K6)
abbrev turns_with : (places k d : ℕ) → List Item
turns_with places k d = replicate k (turn_of d (replicate places 9))

abbrev turns : (n k d : ℕ) → List Item
turns n k d = turns_with (2 * n) k d

-- what a page shows of a row: its word, and the event number of its last writing (K6)
abbrev row : (word last : ℕ) → Value
row w e = record { word = w; last = e }

abbrev many_reads : ℕ → List (Reply Value)
many_reads k = replicate k read

-- case A
abbrev day_a : MarkedDay
day_a =
    record {
      count = 1;
      items = open_for 1 ∷ update_call 1 7 ∷ turns 1 3 1 ++ scan_call 1 ∷ turns 1 3 1;
      expected = opened ∷ called ∷ many_reads 2 ++ written 3 ∷ called ∷ read ∷ page 0 6 2 (row 7 4 ∷ []) ∷ refused 4 ∷ [];
    }

-- B and C to event 11: process 2 writes w between the two collects of process 1
abbrev two_moved : ℕ → List Item
two_moved w = open_for 2 ∷ scan_call 1 ∷ turns 2 2 1 ++ update_call 2 w ∷ turns 2 5 2 ++ turns 2 2 1

abbrev two_moved_replies : List (Reply Value)
two_moved_replies = opened ∷ called ∷ many_reads 2 ++ called ∷ many_reads 4 ++ written 5 ∷ many_reads 2

-- case B: row 2 holds 9, of event 19, by event 21, whose page is borrowed from process 2
abbrev day_b : MarkedDay
day_b =
    record {
      count = 2;
      items = two_moved 7 ++ turns 2 2 1 ++ update_call 2 9 ∷ turns 2 5 2 ++ turns 2 2 1;
      expected = two_moved_replies ++ many_reads 2 ++ called ∷ many_reads 4 ++ written 5 ∷ read ∷ page 2 16 8 (row 0 0 ∷ row 7 9 ∷ []) ∷ [];
    }

-- case C: the word never changed; the seq did
abbrev day_c : MarkedDay
day_c =
    record {
      count = 2;
      items = two_moved 0 ++ turns 2 4 1;
      expected = two_moved_replies ++ many_reads 3 ++ page 0 13 8 (row 0 0 ∷ row 0 9 ∷ []) ∷ [];
    }

-- case D
abbrev day_d : MarkedDay
day_d =
    record {
      count = 3;
      items = open_for 3 ∷ scan_call 3 ∷ turns 3 1 3 ++ update_call 1 5 ∷ turns 3 7 1 ++ update_call 2 6 ∷ turns 3 7 2 ++ turns 3 11 3;
      expected =
          opened ∷ called ∷ read ∷ called ∷ many_reads 6 ++ written 7 ∷ called ∷ many_reads 6 ++ written 7 ∷ many_reads 10
          ++ page 0 26 12 (row 5 10 ∷ row 6 18 ∷ row 0 0 ∷ []) ∷ [];
    }

-- case E
abbrev day_e : MarkedDay
day_e = record { count = 8; items = open_for 8 ∷ []; expected = opened ∷ [] }

-- case F, for a count asked for
abbrev day_f : ℕ → MarkedDay
day_f k = record { count = k; items = open_for k ∷ []; expected = refused 1 ∷ [] }

-- case G, for n processes
abbrev pub day_g : ℕ → MarkedDay
day_g n = record { count = n; items = open_for n ∷ turns n 1 0 ++ turns n 1 (n + 1); expected = opened ∷ refused 2 ∷ refused 2 ∷ [] }

-- case H, for n processes; a page list of 2n places is accepted (K6)
abbrev pub day_h : ℕ → MarkedDay
day_h n =
    record {
      count = n;
      items = open_for n ∷ scan_call 1 ∷ turns n 1 1 ++ turns_with (2 * n - 1) 1 1;
      expected = opened ∷ called ∷ read ∷ refused 6 ∷ [];
    }

-- case J: the task underway ends as if the second call had not come
abbrev day_j : MarkedDay
day_j =
    record {
      count = 1;
      items = open_for 1 ∷ scan_call 1 ∷ turns 1 1 1 ++ scan_call 1 ∷ update_call 1 5 ∷ turns 1 1 1;
      expected = opened ∷ called ∷ read ∷ refused 3 ∷ refused 3 ∷ page 0 2 2 (row 0 0 ∷ []) ∷ [];
    }

-- the days of which document 01 gives every number
unfoldable pub fixed_days : List MarkedDay
fixed_days = day_a ∷ day_b ∷ day_c ∷ day_d ∷ day_e ∷ day_f 9 ∷ day_f 0 ∷ day_j ∷ []

-- these, and G and H for n processes
unfoldable pub marked_days : ℕ → List MarkedDay
marked_days n = fixed_days ++ day_g n ∷ day_h n ∷ []
