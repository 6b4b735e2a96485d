-- What a request by numbers comes to on a table of packed records.
use Rattle.std.specs.Prelude.{ℕ, cond, List, []}
use Rattle.snapshot.specs.Refusals.{number_of}
use Rattle.snapshot.specs.Replies.{reply_of}
use Rattle.snapshot.specs.Demand.{Result}
use Rattle.snapshot.specs.Days.{State}
use Rattle.snapshot.specs.declared.Day.{Day}
use Rattle.snapshot.specs.declared.Refusal.TheVariants.{UnknownKind}
use Rattle.requests.specs.Requests.{page_after}
use Rattle.unbounded.specs.declared.Process.{Process}
use Rattle.packed_table.specs.Tables.{table_after, stepped_in}
use Rattle.numbers.specs.declared.ReplyNumbers.{ReplyNumbers}
use Rattle.numbers.specs.Replies.{reply_with, reply_numbers}
use Rattle.numbers.specs.Requests.{request_numbered, is_kind}

-- the reply to a request with result r, on a table of any records
abbrev pub reply_to : {P : Type 0} → Result (State P) → ReplyNumbers
reply_to r = reply_numbers r.state.day (reply_of [] r.answer)

-- a request of any kind on a day, a packed table and a page list: what is replied, and what is left of the two. A kind that is
-- none is refused with 8
module _ (d : Day) (t : List (List ℕ)) (kind process word : ℕ) (page : List ℕ) where
  abbrev pub result_of : Result (State Process)
  result_of = stepped_in d t (request_numbered kind process word) page

  abbrev pub reply_in : ReplyNumbers
  reply_in = cond (is_kind kind) (reply_to result_of) (reply_with d 0 (number_of UnknownKind) 0 0 0)

  abbrev pub table_in : List (List ℕ)
  table_in = cond (is_kind kind) (table_after t (request_numbered kind process word) result_of) t

  abbrev pub page_in : List ℕ
  page_in = cond (is_kind kind) (page_after page result_of (request_numbered kind process word)) page
