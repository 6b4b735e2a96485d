-- Damaged files, mended by computing: how much each refusal drops, and with which number.
use Prim.Native.Nat.{ℕ}
use mathlib.Core.Path.{◌≡◌, refl}
use mathlib.Core.List.{List, [], ◌∷◌, ◌++◌, map}
use lib.ListN.{drop, replicate}
use Rattle.snapshot.specs.Values.{listed}
use Rattle.snapshot.specs.Demand.{step}
use Rattle.snapshot.specs.Verdict.{verdict}
use Rattle.snapshot.specs.Marks.{is_moved, with_moved, lends}
use Rattle.snapshot.specs.Refusals.{is_past}
use Rattle.snapshot.specs.Days as Days
use Rattle.snapshot.specs.Days.{refusal, opened_by, advance, called_by, turn_by, accept}
use Rattle.snapshot.specs.declared.Request.TheVariants.{Open, Update, Scan, Turn}
use Rattle.unbounded.specs.Registers.{laid, read_into, cleared, page_of, differs}
use Rattle.unbounded.specs.Processes.{zero_process, begin}
use Rattle.unbounded.specs.Turns.{position, place_at, first_after, second_after, end_after, decision, marks_after, after_read, found_by}
use Rattle.unbounded.specs.Turns.{written, turned}
use Rattle.unbounded.specs.Days.{most_reads, unsound}
use Rattle.dayfile.specs.Layout.{length_of, layout}
use Rattle.dayfile.specs.Reader.{record_of, reading}
use Rattle.dayfile.specs.Pieces.{span_of, pieces_up_to, pieces}
use Rattle.days.specs.Asking.{lent_to}
use Rattle.days.specs.Happenings.{Box}
use Rattle.mending.specs.Mending.{Drop, judged, parts_of, kept_of, drops_of, mended, dropped}

-- a file, what is kept of it, and its drops
record Case : Type 0 where
  file : List ℕ
  kept : List ℕ
  drops : List Drop

abbrev mends : (file kept : List ℕ) → List Drop → Case
mends file kept drops = record { file = file; kept = kept; drops = drops }

abbrev lost : (count first number : ℕ) → Drop
lost count first number = record { first = first; count = count; number = number }

-- two records of six bytes: a day for one process, and its page call
abbrev begun : List ℕ
begun = layout (Open 1) ++ layout (Scan 1)

-- kind 9, with length 4; kind 2, with length 4
abbrev unknown : List ℕ
unknown = 4 ∷ 0 ∷ 9 ∷ 0 ∷ 1 ∷ 0 ∷ []

abbrev short : List ℕ
short = 4 ∷ 0 ∷ 2 ∷ 0 ∷ 1 ∷ 0 ∷ []

-- "on 8 or 9 drop the two length bytes and as many bytes as they say": of length 4 and 8, of either refusal; of length 0, twice, 1, 256, and
-- 12, which takes good records along
abbrev skipped : List Case
skipped =
    mends (begun ++ unknown ++ layout (Turn 1)) (begun ++ layout (Turn 1)) (lost 6 12 8 ∷ [])
    ∷ mends (begun ++ short ++ layout (Turn 1)) (begun ++ layout (Turn 1)) (lost 6 12 9 ∷ [])
    ∷ mends (begun ++ (8 ∷ 0 ∷ 9 ∷ 0 ∷ 1 ∷ 0 ∷ 7 ∷ 0 ∷ 0 ∷ 0 ∷ []) ++ layout (Turn 1)) (begun ++ layout (Turn 1)) (lost 10 12 8 ∷ [])
    ∷ mends (begun ++ (8 ∷ 0 ∷ 4 ∷ 0 ∷ 1 ∷ 0 ∷ 4 ∷ 0 ∷ 4 ∷ 0 ∷ []) ++ layout (Turn 1)) (begun ++ layout (Turn 1)) (lost 10 12 9 ∷ [])
    ∷ mends (begun ++ (0 ∷ 0 ∷ 0 ∷ 0 ∷ []) ++ layout (Turn 1)) (begun ++ layout (Turn 1)) (lost 2 12 9 ∷ lost 2 14 9 ∷ [])
    ∷ mends (begun ++ (1 ∷ 0 ∷ 7 ∷ []) ++ layout (Turn 1)) (begun ++ layout (Turn 1)) (lost 3 12 9 ∷ [])
    ∷ mends (begun ++ (0 ∷ 1 ∷ []) ++ replicate 256 4 ++ layout (Turn 1)) (begun ++ layout (Turn 1)) (lost 258 12 9 ∷ [])
    ∷ mends (layout (Open 1) ++ (12 ∷ 0 ∷ []) ++ layout (Scan 1) ++ layout (Turn 1) ++ layout (Turn 1)) (layout (Open 1))
    (lost 14 6 9 ∷ lost 6 20 4 ∷ [])
    ∷ []

-- "or all that is left if fewer": of length 12 and 11 where twelve are left, of 256, 300 and 65,535, and of a record that lost its first
-- byte, whose length is then 1,024
abbrev cut_off : List Case
cut_off =
    mends (begun ++ (12 ∷ 0 ∷ []) ++ layout (Turn 1) ++ layout (Turn 1)) begun (lost 14 12 9 ∷ [])
    ∷ mends (begun ++ (11 ∷ 0 ∷ []) ++ layout (Turn 1) ++ layout (Turn 1)) begun (lost 13 12 9 ∷ lost 1 25 7 ∷ [])
    ∷ mends (begun ++ (0 ∷ 1 ∷ []) ++ layout (Turn 1)) begun (lost 8 12 9 ∷ [])
    ∷ mends (begun ++ (44 ∷ 1 ∷ 7 ∷ [])) begun (lost 3 12 9 ∷ [])
    ∷ mends (begun ++ (255 ∷ 255 ∷ []) ++ layout (Turn 1)) begun (lost 8 12 9 ∷ [])
    ∷ mends (begun ++ drop 1 (layout (Turn 1)) ++ layout (Turn 1) ++ layout (Turn 1)) begun (lost 17 12 9 ∷ [])
    ∷ []

-- "on 7 drop the rest": a stray byte, a record that is cut short, of which the kind is not looked at, and one behind whose length a good
-- record stands
abbrev rests : List Case
rests =
    mends (begun ++ (4 ∷ [])) begun (lost 1 12 7 ∷ [])
    ∷ mends (begun ++ (8 ∷ 0 ∷ 9 ∷ 0 ∷ 1 ∷ [])) begun (lost 5 12 7 ∷ [])
    ∷ mends (begun ++ (8 ∷ 0 ∷ []) ++ layout (Turn 1)) begun (lost 8 12 7 ∷ [])
    ∷ []

-- "drop each one refused": records before any opening, a desk count of 9, a second opening, a desk that the day has not, a second call, a
-- turn of an idle desk; each is one entry, also beside another
abbrev refused : List Case
refused =
    mends (layout (Scan 1) ++ layout (Turn 1)) [] (lost 6 0 10 ∷ lost 6 6 10 ∷ [])
    ∷ mends (layout (Open 9) ++ begun) begun (lost 6 0 1 ∷ [])
    ∷ mends (begun ++ layout (Open 1) ++ layout (Turn 2)) begun (lost 6 12 10 ∷ lost 6 18 2 ∷ [])
    ∷ mends (begun ++ layout (Update 1 7) ++ layout (Turn 1)) (begun ++ layout (Turn 1)) (lost 10 12 3 ∷ [])
    ∷ mends (layout (Open 1) ++ layout (Turn 1)) (layout (Open 1)) (lost 6 6 4 ∷ [])
    ∷ []

-- nothing to mend
abbrev whole : List Case
whole = mends [] [] [] ∷ mends begun begun [] ∷ []

abbrev cases : List Case
cases = skipped ++ cut_off ++ rests ++ refused ++ whole

pub cases_follow :
    (map (λ c. mended c.file) cases ≡ map (λ c. c.kept) cases) × (map (λ c. dropped c.file) cases ≡ map (λ c. c.drops) cases)
unfolding parts_of pieces pieces_up_to span_of reading record_of length_of lent_to Days.stepped step verdict laid read_into cleared page_of differs is_moved with_moved lends begin position place_at first_after second_after end_after decision marks_after after_read found_by written turned most_reads is_past unsound refusal advance opened_by called_by turn_by accept listed
cases_follow = (refl, refl)

-- ---- the end of a day

-- a day for one process that is idle, after event e
abbrev late : ℕ → Box
late e = record { day = record { count = 1; event = e }; table = replicate 8 zero_process; page = replicate 16 0 }

abbrev call : List ℕ
call = layout (Scan 1) ++ layout (Turn 1)

-- the last page call that the day takes, and one too late, which is dropped with 5; its turn is then that of an idle process
pub full_day :
    (kept_of (judged (late 65532) (pieces call)) ≡ call)
    × (drops_of 0 (judged (late 65532) (pieces call)) ≡ [])
    × (kept_of (judged (late 65533) (pieces call)) ≡ [])
    × (drops_of 0 (judged (late 65533) (pieces call)) ≡ lost 6 0 5 ∷ lost 6 6 4 ∷ [])
unfolding pieces pieces_up_to span_of reading record_of length_of lent_to Days.stepped step verdict laid read_into cleared page_of differs is_moved with_moved lends begin position place_at first_after second_after end_after decision marks_after after_read found_by written turned most_reads is_past unsound refusal advance opened_by called_by turn_by accept listed
full_day = (refl, refl, refl, refl)
