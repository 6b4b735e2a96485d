-- The runner's laps on the bytes that came: in each, what stands next is read and asked, and its line is laid.
use Rattle.std.specs.Prelude.{ℕ, zero, suc, Bool, true, false, cond, not, ◌&&◌, ◌||◌, List, [], ◌++◌, length, drop, leb}
use Rattle.dayfile.specs.Reader.{reading}
use Rattle.dayfile.specs.declared.Reading.{Reading}
use Rattle.dayfile.specs.declared.Reading.TheVariants.{Found, End, Refused}
use Rattle.days.specs.Happenings.{Box, blank_box, box_after, happening_in}
use Rattle.daylines.specs.Printed.{line_in}
use Rattle.streams.specs.Input.{Incoming}

-- where a run stands: its box, its input, the lines that are laid, and whether all is done
pub record Stand : Type 0 where
  pub box : Box
  pub input : Incoming
  pub lines : List ℕ
  pub ended : Bool

-- the beginning
abbrev pub blank_stand : Stand
blank_stand = record { box = blank_box; input = record { left = []; last = false; failed = false }; lines = []; ended = false }

-- whether there is another lap, where n bytes are left: a whole record, the longest of which takes 10 bytes, or the end
abbrev pub has_to_go_on : (ended last : Bool) → ℕ → Bool
has_to_go_on ended last n = not ended && (last || leb 10 n)

abbrev pub goes : Stand → Bool
goes s = has_to_go_on s.ended s.input.last (length s.input.left)

-- the lines once that of x is laid
abbrev pub lines_with : Stand → Reading → List ℕ
lines_with s x = s.lines ++ line_in (happening_in s.box x)

-- a lap that found no record: nothing is left. After a fault there is no line for that, and all is done
abbrev pub closed : Stand → Reading → Bool → Stand
closed s x is_end =
    let failed = s.input.failed in
    record {
      box = box_after s.box x;
      input = record { left = []; last = true; failed = failed };
      lines = cond failed s.lines (lines_with s x);
      ended = failed || is_end;
    }

-- one lap, in which x is read: "Refusals 7, 8 and 9 end the file"
abbrev pub lap_on : Stand → Reading → Stand
lap_on s (Found r next) =
    let x = Found r next in
    record {
      box = box_after s.box x;
      input = record { left = drop next s.input.left; last = s.input.last; failed = s.input.failed };
      lines = lines_with s x;
      ended = false;
    }
lap_on s End = closed s End true
lap_on s (Refused k) = closed s (Refused k) false

unfoldable pub lap : Stand → Stand
lap s = lap_on s (reading s.input.left)

-- laps as long as there is another, at most that many
abbrev pub laps : ℕ → Stand → Stand
laps zero s = s
laps (suc k) s = cond (goes s) (laps k (lap s)) s

-- all laps on the bytes that came; the count is no limit (proofs/Laps, `ran_on`)
unfoldable pub ran : Stand → Stand
ran s = laps (suc (length s.input.left)) s
