-- Refusals: their numbers, and the rule that the first cause in the papers' order is the one answered.
use Rattle.std.specs.Prelude.{ℕ, ◌+◌, Bool, cond, ◌||◌, List, [], ◌∷◌, ltb}
use Rattle.std.proofs.Math.Option.{Option, none, some}
use Rattle.snapshot.specs.declared.Refusal.{Refusal}
use Rattle.snapshot.specs.declared.Refusal.TheVariants.{CountRange, ProcessRange, Busy, Idle, DayFull, LentSize}
use Rattle.snapshot.specs.declared.Refusal.TheVariants.{CutShort, UnknownKind, WrongLength, OpenState, CannotArise, RoomShort}
use Rattle.snapshot.specs.declared.Refusal.TheVariants.{TableShort, NoPage, TooMany}

-- the number of a refusal (document 01, Reasons to refuse, column Number; document 02, 12 in K1 and K7, 13 in K4, 14 and 15 in K5)
abbrev pub number_of : Refusal → ℕ
number_of CountRange = 1
number_of ProcessRange = 2
number_of Busy = 3
number_of Idle = 4
number_of DayFull = 5
number_of LentSize = 6
number_of CutShort = 7
number_of UnknownKind = 8
number_of WrongLength = 9
number_of OpenState = 10
number_of CannotArise = 11
number_of RoomShort = 12
number_of TableShort = 13
number_of NoPage = 14
number_of TooMany = 15

-- a cause: whether it holds, and the refusal it leads to
abbrev pub Cause : Type 0
Cause = Bool × Refusal

-- the refusal of the first cause that holds, or none (document 01, Reasons to refuse, "Order for ..")
abbrev pub first_cause : List Cause → Option Refusal
first_cause [] = none
first_cause (c ∷ cs) = cond c.0 (some c.1) (first_cause cs)

-- ---- tests that a method's day and the tally share

-- n is outside low to high
abbrev pub outside : ℕ → ℕ → ℕ → Bool
outside low high n = ltb n low || ltb high n

-- "exceeds 65,535", the number of the last event that a day can have
unfoldable pub is_past : ℕ → Bool
is_past e = ltb 65535 e

-- 5 (document 02, K2): "the event number plus 1, plus all turns owed, plus the greatest number for the new task, exceeds 65,535"
abbrev pub is_full : (event owed most : ℕ) → Bool
is_full event owed most = is_past (event + 1 + owed + most)
