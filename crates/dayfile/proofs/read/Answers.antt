-- `dayfile::read` meets its contract: at each return the tests that led there say which cause is the first that holds, if any.
use native.Mathlib.Omega.{arith}
use borrow.Author.Tests.{lt-ltb, le-ltb, eq-eqb, ne_eqb}
use mathlib.Core.Logic.{◌≢◌}
use Rattle.dayfile.specs.Layout.{length_of}
use Rattle.dayfile.specs.Reader.{reading}
use Rattle.dayfile.proofs.read.Goals as goal
use Rattle.dayfile.proofs.read.Goals.{then-length-lt4-via-then-length-lt4, then-length-lt4-via-else-length-lt4+then-length-gt8}

-- a test's value from what its branch knows
ruleset tests = (ne_eqb, eq-eqb, lt-ltb, le-ltb)

pub returns-then-left-eq0 : goal.returns-then-left-eq0
unfolding reading
returns-then-left-eq0 c = search tests

pub returns-then-left-eq1 : goal.returns-then-left-eq1
unfolding reading
returns-then-left-eq1 c = search tests

pub returns-then-length-lt4 : goal.returns-then-length-lt4
unfolding reading
returns-then-length-lt4 c =
    elim c.then-length-lt4.branch [
      | then-length-lt4-via-then-length-lt4 w ↦ search (tests, ← c.field.ensures, ← c.from-length.ensures)
      | then-length-lt4-via-else-length-lt4+then-length-gt8 w ↦ search (tests, ← c.field.ensures, ← c.from-length.ensures)
    ]

pub returns-then-left-length : goal.returns-then-left-length
unfolding reading
returns-then-left-length c = search (tests, ← c.field.ensures, ← c.from-length.ensures)

pub returns-in_default : goal.returns-in_default
unfolding reading
returns-in_default c =
    let unknown = c.in_default.ensures {u = tt} in
    search (tests, ← c.field.ensures, ← c.from-length.ensures, ← c.field-kind.ensures, unknown)

pub returns-then-length-due : goal.returns-then-length-due
unfolding reading
returns-then-length-due c =
    let due = c.in-Some.ensures {u = tt} in
    let known : length_of c.field-kind.result ≢ 0 = omega arith in
    search (tests, ← c.field.ensures, ← c.from-length.ensures, ← c.field-kind.ensures, ← due.0)

pub returns : goal.returns
unfolding reading
returns c =
    let due = c.in-Some.ensures {u = tt} in
    let known : length_of c.field-kind.result ≢ 0 = omega arith in
    search (tests, ← c.field.ensures, ← c.from-length.ensures, ← c.field-kind.ensures, ← due.0, ← c.record_of.ensures)
