-- Answers as numbers: the paper's number of a refusal and the values of each case (`reply_of`, `reader_reply`), each in its place,
-- and 0 where a case has none. The numbers of answers, 0 to 6, are the library's own; the kinds of records are the day file's.
use Rattle.std.specs.Prelude.{ℕ, ◌≤◌, List, [], ◌∷◌}
use Rattle.std.proofs.Math.Option.{Option, none, some}
use Rattle.snapshot.specs.Refusals.{number_of}
use Rattle.snapshot.specs.Replies.{Reply, refused, opened, called, read, page, written}
use Rattle.snapshot.specs.declared.Day.{Day}
use Rattle.snapshot.specs.declared.Refusal.{Refusal}
use Rattle.snapshot.specs.declared.Request.{Request}
use Rattle.snapshot.specs.declared.Request.TheVariants.{Open, Update, Scan, Turn}
use Rattle.dayfile.specs.declared.Reading.{Reading}
use Rattle.dayfile.specs.declared.Reading.TheVariants.{Found, End, Refused}
use Rattle.dayfile.specs.Reader as Reader
use Rattle.dayfile.specs.Reader.{ReaderReply, found, ended}
use Rattle.numbers.specs.declared.ReplyNumbers.{ReplyNumbers}
use Rattle.numbers.specs.declared.RecordNumbers.{RecordNumbers}

-- the day that two numbers are
abbrev pub day_with : (count event : ℕ) → Day
day_with count event = record { count = count; event = event }

-- a reply, and the day after it
abbrev pub reply_with : Day → (answer refusal lender at turns : ℕ) → ReplyNumbers
reply_with d k refusal l at t =
    record { count = d.count; event = d.event; answer = k; refusal = refusal; lender = l; at = at; turns = t }

abbrev pub reply_numbers : Day → Reply ℕ → ReplyNumbers
reply_numbers d (refused k) = reply_with d 0 k 0 0 0
reply_numbers d opened = reply_with d 1 0 0 0 0
reply_numbers d called = reply_with d 2 0 0 0 0
reply_numbers d read = reply_with d 3 0 0 0 0
reply_numbers d (page lender at turns ws) = reply_with d 4 0 lender at turns
reply_numbers d (written turns) = reply_with d 5 0 0 0 turns

-- the reply to a run, by the refusal of the run itself, if any
abbrev pub run_numbers : Day → Option Refusal → ReplyNumbers
run_numbers d none = reply_with d 6 0 0 0 0
run_numbers d (some k) = reply_with d 0 (number_of k) 0 0 0

-- the numbers of a reply in their order, as they lie in a table of replies
abbrev pub reply_words : ReplyNumbers → List ℕ
reply_words r = r.count ∷ r.event ∷ r.answer ∷ r.refusal ∷ r.lender ∷ r.at ∷ r.turns ∷ []

-- a record of a day file, by its kind there, and how many bytes it takes
abbrev pub record_with : (refusal kind process word next : ℕ) → RecordNumbers
record_with refusal k d w next = record { refusal = refusal; kind = k; process = d; word = w; next = next }

abbrev pub request_numbers : Request → ℕ → RecordNumbers
request_numbers (Open count) next = record_with 0 1 count 0 next
request_numbers (Update d w) next = record_with 0 2 d w next
request_numbers (Scan d) next = record_with 0 3 d 0 next
request_numbers (Turn d) next = record_with 0 4 d 0 next

abbrev pub record_numbers : ReaderReply → RecordNumbers
record_numbers (found x bytes) = request_numbers x bytes
record_numbers ended = record_with 0 0 0 0 0
record_numbers (Reader.refused k) = record_with k 0 0 0 0

-- a record that takes ten bytes at most, as every record of a day file does
abbrev pub Short : Reading → Type 0
Short (Found x next) = next ≤ 10
Short End = Unit {0}
Short (Refused k) = Unit {0}
