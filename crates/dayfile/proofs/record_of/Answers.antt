-- `dayfile::record_of` meets its contract: in each arm the kind is known, and the fields are those of the house layout.
use Prim.Native.Nat.{ℕ, ◌+◌, ◌≤◌}
use mathlib.Core.Path.{◌≡◌, ap, ap₂, ◌∙◌}
use native.Mathlib.Omega.{arith}
use borrow.Author.Tests.{ne_eqb}
use Rattle.snapshot.specs.declared.Request.TheVariants.{Open, Update, Scan, Turn}
use Rattle.dayfile.specs.Layout.{length_of}
use Rattle.dayfile.specs.Reader.{record_of}
use Rattle.dayfile.proofs.record_of.Goals as goal

-- an update call has its whole word
whole_word : (kind left : ℕ) → kind ≡ 2 → 2 + length_of kind ≤ left → 10 ≤ left
unfolding length_of
whole_word kind left e h = rw e at h

pub bounds-bytes-6 : goal.bounds-bytes-6
bounds-bytes-6 c = let w = whole_word _ _ c.in-2.is c.requires.1 in omega arith

pub bounds-bytes-7 : goal.bounds-bytes-7
bounds-bytes-7 c = let w = whole_word _ _ c.in-2.is c.requires.1 in omega arith

pub bounds-bytes-8 : goal.bounds-bytes-8
bounds-bytes-8 c = let w = whole_word _ _ c.in-2.is c.requires.1 in omega arith

pub bounds-bytes-9 : goal.bounds-bytes-9
bounds-bytes-9 c = let w = whole_word _ _ c.in-2.is c.requires.1 in omega arith

pub returns-in-1 : goal.returns-in-1
unfolding record_of
returns-in-1 c = rw c.in-1.is (ap Open (c.from-first.ensures ∙ c.field.ensures))

pub returns-in-2 : goal.returns-in-2
unfolding record_of
returns-in-2 c = rw c.in-2.is (ap₂ Update (c.from-first.ensures ∙ c.field.ensures) (omega arith))

pub returns-in-3 : goal.returns-in-3
unfolding record_of
returns-in-3 c = rw c.in-3.is (ap Scan (c.from-first.ensures ∙ c.field.ensures))

pub returns-in_default : goal.returns-in_default
unfolding record_of
returns-in_default c =
    let kind = c.args.kind in
    simp (ne_eqb kind 1 (omega arith), ne_eqb kind 2 (omega arith), ne_eqb kind 3 (omega arith))
    (ap Turn (c.from-first.ensures ∙ c.field.ensures))
