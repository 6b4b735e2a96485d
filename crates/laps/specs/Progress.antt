-- What the code holds of a run: numbers that say where in its buffers it stands.
use Rattle.std.specs.Prelude.{ℕ, ◌+◌, ◌-◌, ◌*◌, ◌/◌, ◌≤◌, ◌<◌, ◌≡◌, Bool, true, false, cond, ◌&&◌, ◌||◌, List, take, leb}
use Rattle.snapshot.specs.Requests.{blank_day}
use Rattle.snapshot.specs.declared.Day.{Day}
use Rattle.snapshot.specs.declared.Refusal.{Refusal}
use Rattle.snapshot.specs.declared.Request.{Request}
use Rattle.dayfile.specs.Reader.{reading}
use Rattle.dayfile.specs.declared.Reading.{Reading}
use Rattle.dayfile.specs.declared.Reading.TheVariants.{Found, End, Refused}
use Rattle.daytext.specs.Buffer.{longest}
use Rattle.unbounded.specs.declared.Process.{Process}
use Rattle.streams.specs.declared.input.Input.{Input}
use Rattle.laps.specs.declared.records.Progress.{Progress}
use Rattle.laps.specs.declared.records.Running.{Running}
use Rattle.streams.specs.Input.{Within, input_left, incoming}
use Rattle.laps.specs.Laps.{Stand, has_to_go_on}

-- ---- the input

-- what stands next in the input
unfoldable pub next_in : Input → List ℕ → Reading
next_in i bytes = reading (input_left i bytes)

-- a record that was found takes six bytes or more, and no more than are left; a refusal has one at least
pub record Takes (x : Reading) (i : Input) : Type 0 where
  pub found : (r : Request) (k : ℕ) → x ≡ Found r k → (6 ≤ k) × (i.at + k ≤ i.end)
  pub refused : (k : Refusal) → x ≡ Refused k → i.at < i.end

-- ---- the run

-- where a run stands, by its progress, its table, its page list, and its input and output buffers
abbrev pub stand_at : Progress → List Process → (page bytes out : List ℕ) → Stand
stand_at p table page bytes out =
    record {
      box = record { day = p.day; table = table; page = page };
      input = incoming p.input bytes;
      lines = take p.written out;
      ended = p.ended;
    }

abbrev pub stand_of : Running → (page bytes out : List ℕ) → Stand
stand_of r page bytes out = stand_at r.progress r.table page bytes out

-- the beginning: "A blank day has both 0", and nothing is read or laid
abbrev pub blank_progress : Progress
blank_progress = record { day = blank_day; input = record { at = 0; end = 0; last = false; failed = false }; written = 0; ended = false }

-- once the input was filled up, and once the output was written, or could not be
abbrev pub refilled_progress : Progress → Input → Progress
refilled_progress p i = record { day = p.day; input = i; written = 0; ended = p.ended }

abbrev pub flushed_progress : Progress → Bool → Progress
flushed_progress p went = record { day = p.day; input = p.input; written = p.written; ended = cond went p.ended true }

-- whether there is another lap, with an output of that many bytes
unfoldable pub can_go : Progress → ℕ → Bool
can_go p room = leb (p.written + longest) room && has_to_go_on p.ended p.input.last (p.input.end - p.input.at)

-- after a lap that found no record, and after one in which x was read: its line is laid up to w
abbrev pub closed_progress : Progress → Day → ℕ → Bool → Progress
closed_progress p d w is_end =
    let i = p.input in
    record {
      day = d;
      input = record { at = i.end; end = i.end; last = true; failed = i.failed };
      written = cond i.failed p.written w;
      ended = i.failed || is_end;
    }

unfoldable pub progress_past : Progress → Day → ℕ → Reading → Progress
progress_past p d w (Found r next) =
    let i = p.input in
    record {
      day = d;
      input = record { at = i.at + next; end = i.end; last = i.last; failed = i.failed };
      written = w;
      ended = false;
    }
progress_past p d w End = closed_progress p d w true
progress_past p d w (Refused k) = closed_progress p d w false

-- ---- room

-- how many lines can still be laid: no record has fewer than 6 bytes, and the last line is that of the end
unfoldable pub lines_left : Progress → ℕ
lines_left p = cond p.ended 0 (1 + (p.input.end - p.input.at + 5) / 6)

-- a run that can lay them: buffers of `size` and `room` bytes, and a page list of that many words
pub record CanLay (p : Progress) (size room words : ℕ) : Type 0 where
  pub within : Within p.input size
  pub room_left : p.written + longest * lines_left p ≤ room
  pub few : words ≤ 16

-- a run between two passes: fewer than 10 bytes are left, and whatever the next read gives, there is room for its lines
pub record Rests (p : Progress) (size room words : ℕ) : Type 0 where
  pub within : Within p.input size
  pub short : p.input.end - p.input.at < 10
  pub size_of_input : 10 ≤ size
  pub size_of_output : longest * (1 + (size + 5) / 6) ≤ room
  pub few : words ≤ 16
