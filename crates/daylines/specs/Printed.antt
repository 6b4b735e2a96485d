-- What the day runner prints of a day file (document 01, Day files and the day runner).
use Rattle.std.specs.Prelude.{ℕ, Bool, true, false, List, [], ◌∷◌, ◌++◌}
use Rattle.snapshot.specs.Requests.{blank_day, number_in}
use Rattle.snapshot.specs.declared.Day.{Day}
use Rattle.snapshot.specs.declared.Request.{Request}
use Rattle.snapshot.specs.declared.Request.TheVariants as Asked
use Rattle.snapshot.specs.declared.Answer.{Answer}
use Rattle.snapshot.specs.Replies.{Reply, refused, opened, called, read, page, written, reply_of}
use Rattle.dayfile.specs.Reader as Reader
use Rattle.dayfile.specs.Reader.{ReaderReply, found, ended, reader_reply}
use Rattle.dayfile.specs.declared.Reading.{Reading}
use Rattle.dayfile.specs.declared.Reading.TheVariants.{Found, End, Refused}
use Rattle.days.specs.Happenings.{Happening, day_of, day_after, records_in}
use Rattle.daytext.specs.Lines.{text_of}
use Rattle.daytext.specs.declared.Line.{Line}
use Rattle.daytext.specs.declared.Line.TheVariants as Printed
use Rattle.snapshot.specs.declared.Outcome.{Outcome}

-- the line of an accepted call, with its event number ("entry", "asked"); only a call has one
abbrev pub call_line : ℕ → Request → Line
call_line e (Asked.Open k) = Printed.Opened k
call_line e (Asked.Update d w) = Printed.Update e d w
call_line e (Asked.Scan d) = Printed.Scan e d
call_line e (Asked.Turn d) = Printed.Read e d

-- the line of a request by its reply, with the event number afterwards; the words and numbers of a page stand beside its line
abbrev pub reply_line : Request → ℕ → Reply ℕ → Line
reply_line x e (refused k) = Printed.Refused k
reply_line x e opened = Printed.Opened (number_in x)
reply_line x e called = call_line e x
reply_line x e read = Printed.Read e (number_in x)
reply_line x e (page lender at turns ws) = Printed.Page e (number_in x) lender at turns
reply_line x e (written turns) = Printed.Written e (number_in x) turns

abbrev pub answer_line : Request → ℕ → Answer → Line
answer_line x e a = reply_line x e (reply_of [] a)

-- the line of what was read, where asking it had outcome o: "Refusals 7, 8 and 9 end the file", "then `end` and the event number"
abbrev pub reader_line : Outcome → ReaderReply → Line
reader_line o (found x bytes) = answer_line x o.day.event o.answer
reader_line o ended = Printed.End o.day.event
reader_line o (Reader.refused k) = Printed.Refused k

abbrev pub line_of : Outcome → Reading → Line
line_of o x = reader_line o (reader_reply x)

abbrev pub is_end : Reading → Bool
is_end (Found x next) = false
is_end End = true
is_end (Refused k) = false

-- the text of the line of what happened, and that of all that did
abbrev pub line_in : Happening → List ℕ
line_in h = text_of (line_of h.outcome h.reading) h.words h.lasts

abbrev pub lines_of : List Happening → List ℕ
lines_of [] = []
lines_of (h ∷ hs) = line_in h ++ lines_of hs

-- "prints one line a record, then `end` and the event number", where the day was d before
unfoldable pub printout : Day → List Happening → List ℕ
printout d hs = lines_of hs ++ text_of (Printed.End (day_after d hs).event) [] []

-- what a day file prints
abbrev pub printed : List ℕ → List ℕ
printed bs = printout blank_day (day_of bs)

-- what is printed of bytes after which a read failed: the lines of the records that came whole, and no end
abbrev pub printed_until : List ℕ → List ℕ
printed_until bs = lines_of (records_in (day_of bs))
