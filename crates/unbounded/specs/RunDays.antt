-- Runs of turns on chosen days (document 02, K4), as one list: refused turns among others, tables that are just long enough,
-- longer and one place short, the order of 10, 6 and 13, no turns at all, and a day of nine processes.
use Rattle.std.specs.Prelude.{ℕ, List, [], ◌∷◌, ◌++◌, map, replicate}
use Rattle.std.proofs.Math.Option.{Option, none, some}
use Rattle.snapshot.specs.declared.Day.{Day}
use Rattle.snapshot.specs.declared.Refusal.{Refusal}
use Rattle.snapshot.specs.declared.Value.{Value}
use Rattle.snapshot.specs.declared.Answer.TheVariants.{Opened}
use Rattle.snapshot.specs.Refusals.{number_of}
use Rattle.snapshot.specs.Lists.{each_from}
use Rattle.snapshot.specs.Days.{State, update_call, scan_call, turn_of}
use Rattle.snapshot.specs.Closing.{state_after}
use Rattle.snapshot.specs.Replies.{Reply, refused, opened, read, page, written, reply_of}
use Rattle.snapshot.specs.Runs.{ran}
use Rattle.unbounded.specs.declared.Process.{Process}
use Rattle.unbounded.specs.Registers.{ascending}
use Rattle.unbounded.specs.Processes.{zero_process}
use Rattle.unbounded.specs.Days.{figure3, method, opened_for}

-- what a run leaves but the table of records: its own refusal, if any, by its number, the day, the replies in the answer table, and
-- the page table
pub record Left : Type 0 where
  pub refusal : Option ℕ
  pub day : Day
  pub replies : List (Reply Value)
  pub pages : List ℕ

-- a run of these processes, with two tables of so many places; an answer that was there before is `Opened`, the words are 90, 91
-- and on
pub record RunDay : Type 0 where
  pub state : State Process
  pub processes : List ℕ
  pub places : ℕ
  pub words : ℕ
  pub expected : Left

abbrev numbered : Option Refusal → Option ℕ
numbered none = none
numbered (some k) = some (number_of k)

-- the words of a page table, from the first on
abbrev words_from : (first words : ℕ) → List ℕ
words_from first words = each_from (λ i. i) words first

abbrev pub left : RunDay → Left
left x =
    let r = ran (figure3 ascending) (λ y. y.answer) x.state x.processes (replicate x.places Opened)
    (words_from 90 x.words) in
    record {
      refusal = numbered r.refusal;
      day = r.state.day;
      replies = map (reply_of []) r.answers;
      pages = r.pages;
    }

-- ---- days

-- two processes: 1 has called for a scan, 2 for an update by 9; and then 2 has written it, as event 7
abbrev both_called : State Process
both_called = state_after (method ascending 2) (opened_for 2) (scan_call 1 ∷ update_call 2 9 ∷ [])

abbrev one_wrote : State Process
one_wrote = state_after (method ascending 2) both_called (replicate 5 (turn_of 2 (replicate 4 0)))

abbrev day_at : (count event : ℕ) → Day
day_at n e = record { count = n; event = e }

-- a day of n processes at event 0 with so many idle records
abbrev idle_day : (n records : ℕ) → State Process
idle_day n records = record { day = day_at n 0; table = replicate records zero_process }

-- ---- runs

abbrev run_of : State Process → List ℕ → (places words : ℕ) → Left → RunDay
run_of s ds places words l = record { state = s; processes = ds; places = places; words = words; expected = l }

-- a run that is refused with number k leaves all as it was
abbrev refused_run : State Process → List ℕ → (places words k : ℕ) → RunDay
refused_run s ds places words k =
    run_of s ds places words (record {
      refusal = some k;
      day = s.day;
      replies = replicate places opened;
      pages = words_from 90 words;
    })

-- the turns of both, with processes that there are not among them: 1 finds its page at its fourth turn, in words 20 to 23
abbrev mixed : List ℕ
mixed = 1 ∷ 3 ∷ 1 ∷ 2 ∷ 1 ∷ 1 ∷ 0 ∷ 1 ∷ []

abbrev mixed_replies : List (Reply Value)
mixed_replies = read ∷ refused 2 ∷ read ∷ read ∷ read ∷ page 0 4 4 [] ∷ refused 2 ∷ refused 4 ∷ []

abbrev mixed_run : (places words : ℕ) → (opened-left : List (Reply Value)) → (words_left : List ℕ) → RunDay
mixed_run places words answers ws =
    run_of both_called mixed places words (record {
      refusal = none;
      day = day_at 2 7;
      replies = mixed_replies ++ answers;
      pages = words_from 90 20 ++ 0 ∷ 0 ∷ 0 ∷ 0 ∷ words_from 114 8 ++ ws;
    })

unfoldable pub run_days : List RunDay
run_days =
    mixed_run 8 32 [] []
    ∷ mixed_run 10 35 (opened ∷ opened ∷ []) (words_from 122 3)
    ∷ refused_run both_called mixed 7 32 13
    ∷ refused_run both_called mixed 8 31 13
    -- 1 alone finds a page of the words 0 and 9, of which the second was written by event 7
    ∷ run_of one_wrote (replicate 4 1) 4 16 (record {
      refusal = none;
      day = day_at 2 11;
      replies = replicate 3 read ++ page 0 9 4 [] ∷ [];
      pages = words_from 90 12 ++ 0 ∷ 9 ∷ 0 ∷ 7 ∷ [];
    })
    -- 2 alone writes its register at its fifth turn; the next finds it idle
    ∷ run_of both_called (replicate 6 2) 6 24 (record {
      refusal = none;
      day = day_at 2 7;
      replies = replicate 4 read ++ written 5 ∷ refused 4 ∷ [];
      pages = words_from 90 24;
    })
    -- no turns
    ∷ run_of both_called [] 0 0 (record { refusal = none; day = day_at 2 2; replies = []; pages = [] })
    -- 10, then 6, then 13
    ∷ refused_run (idle_day 0 1) (1 ∷ []) 0 0 10
    ∷ refused_run (idle_day 2 1) (1 ∷ []) 0 0 6
    ∷ refused_run (idle_day 2 3) (1 ∷ []) 1 4 6
    ∷ refused_run (idle_day 2 2) (1 ∷ []) 0 0 13
    -- 10 and 6 also without turns, and 6 also on a day of nine
    ∷ refused_run (idle_day 0 0) [] 0 0 10
    ∷ refused_run (idle_day 2 1) [] 0 0 6
    ∷ refused_run (idle_day 9 8) (1 ∷ []) 1 18 6
    -- each turn of a day that cannot have arisen is refused by itself
    ∷ run_of (idle_day 9 9) (1 ∷ 0 ∷ []) 2 36 (record {
      refusal = none;
      day = day_at 9 0;
      replies = refused 11 ∷ refused 11 ∷ [];
      pages = words_from 90 36;
    })
    ∷ refused_run (idle_day 9 9) (1 ∷ 0 ∷ []) 2 35 13
    ∷ []
