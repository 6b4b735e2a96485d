-- Registers (document 01: rows) and collects, and what a page shows of them.
use Rattle.std.specs.Prelude.{ℕ, Bool, not, List, [], map, get_or, set, take, replicate, eqb}
use Rattle.snapshot.specs.Lists.{over, each}
use Rattle.snapshot.specs.declared.Value.{Value}
use Rattle.snapshot.specs.Values.{zero_value}
use Rattle.unbounded.specs.declared.Register.{Register}

-- no register: what a place that a list does not have is taken for
abbrev pub no_register : Register
no_register = record { value = zero_value; seq = 0; view = []; at = 0 }

-- a register in which every number is 0 (document 01, "Opening sets .. every number in the records to 0")
abbrev pub zero_register : Register
zero_register = record { value = zero_value; seq = 0; view = replicate 8 zero_value; at = 0 }

-- ---- what a value is

-- what a page shows of a register (Figure 3, line 5: data)
abbrev pub value : Register → Value
value r = r.value

-- what a register's view shows, as a page of n values (Figure 3, line 9: view)
abbrev pub viewed : ℕ → Register → List Value
viewed n r = take n r.view

-- a register with the first n values of its view
abbrev pub trimmed : ℕ → Register → Register
trimmed n r = record { value = r.value; seq = r.seq; view = viewed n r; at = r.at }

-- ---- places

-- register r laid where old stood: "those past n are touched only by an opening", so the values past n of old's view stay
unfoldable pub laid : ℕ → Register → Register → Register
laid n r old = record { value = r.value; seq = r.seq; view = over n r.view old.view; at = r.at }

-- "A read replaces only its own place"
unfoldable pub read_into : ℕ → Register → ℕ → List Register → List Register
read_into n r i rs = set rs i (laid n r (get_or rs i no_register))

-- the first n places of a collect set to 0
unfoldable pub cleared : ℕ → List Register → List Register
cleared n rs = over n (map (laid n zero_register) rs) rs

-- ---- the order of reading

-- place p of a collect holds register `register p`, and register j is read into place `place j`; both count from 0
pub record Order : Type 0 where
  pub register : ℕ → ℕ
  pub place : ℕ → ℕ

-- "rows 1 to n, then rows 1 to n again"
abbrev pub ascending : Order
ascending = record { register = λ p. p; place = λ j. j }

-- register j as a collect has it
abbrev pub collected_at : Order → List Register → ℕ → Register
collected_at o rs j = get_or rs (o.place j) no_register

-- the page that a collect shows, in the order of the processes
unfoldable pub page_of : Order → ℕ → List Register → List Value
page_of o n rs = each n (λ j. value (collected_at o rs j))

-- process j's seq differs between the two collects (Figure 3, line 7)
unfoldable pub differs : Order → List Register → List Register → ℕ → Bool
differs o a b j = not (eqb (collected_at o a j).seq (collected_at o b j).seq)
