-- Days G and H of document 01 follow from the definitions for every number of processes.
use Prim.Native.Nat.{ℕ, ◌+◌, ◌-◌, ◌*◌, ◌≤◌, ◌<◌}
use native.Mathlib.Nat.{zero-mod, mul-pos}
use native.Mathlib.Omega.{arith}
use native.Mathlib.Decide.{ℕ_discrete}
use mathlib.Core.Path.{◌≡◌, refl, ap, ◌∙◌}
use mathlib.Core.Logic.{by_cases}
use mathlib.Core.Bool.{true, false}
use mathlib.Core.List.{List, [], ◌∷◌}
use mathlib.Core.Option.{Option, none, some}
use lib.ListN.{length, get_or, set, replicate, length-set, length-replicate, get_or-replicate}
use lib.Seq.{get_or-set_same, get_or-set_other}
use borrow.Author.Tests.{eq-eqb, ne_eqb, lt-ltb, le-ltb, lt-leb}
use Rattle.snapshot.specs.declared.Value.{Value}
use Rattle.snapshot.specs.Lists.{some_of, sum_of}
use Rattle.snapshot.specs.Refusals.{outside, is_past}
use Rattle.snapshot.specs.Demand.{admit, step}
use Rattle.snapshot.specs.Days as Days
use Rattle.snapshot.specs.Days.{State, Item, open_for, scan_call, turn_of}
use Rattle.snapshot.specs.Days.{process_owes, refusal, advance, called_by, read_from, turn_by, accept}
use Rattle.snapshot.specs.Replies.{Reply, refused, opened, called, read, reply_of, replies}
use Rattle.snapshot.specs.declared.Answer.TheVariants.{Read}
use Rattle.snapshot.specs.declared.Refusal.{Refusal}
use Rattle.snapshot.specs.declared.Refusal.TheVariants.{ProcessRange, LentSize}
use Rattle.snapshot.proofs.Lists.{some_of_none, sum_replicate, sum_set}
use Rattle.unbounded.specs.declared.Register.{Register}
use Rattle.unbounded.specs.declared.Process.{Process}
use Rattle.unbounded.specs.declared.Task.TheVariants.{Scan}
use Rattle.unbounded.specs.Registers.{ascending}
use Rattle.unbounded.specs.Processes.{no_process, zero_process, begin}
use Rattle.unbounded.specs.Turns.{position, reads, found_by, scan_turn, turned}
use Rattle.unbounded.specs.Days.{most_reads, unsound, figure3, method, opened_for}
use Rattle.unbounded.specs.MarkedDays.{blank, played, day_g, day_h}
use Rattle.unbounded.proofs.Reading.{decision_waits}
use Rattle.unbounded.proofs.Limits.{few_reads}
use Rattle.unbounded.proofs.Demand3.{opening_opens}

-- a page list of k places
abbrev nines : ℕ → List ℕ
nines k = replicate k 9

-- the replies to a list, by the refusal of its first item
module _ (n : ℕ) (s : State Process) (x : Item) (xs : List Item) where
  abbrev replies_by : Option Refusal → List (Reply Value)
  replies_by k =
      let r = admit (method ascending n) s x k in
      reply_of ((method ascending n).shown r.page) r.answer ∷ replies (method ascending n) r.state xs

  replies_are : {k : Option Refusal} → refusal (figure3 ascending) s x ≡ k → replies (method ascending n) s (x ∷ xs) ≡ replies_by k
  unfolding step
  replies_are q = ap replies_by q

module _ (n : ℕ) (z : 0 < n) (eight : n ≤ 8) where
  abbrev zeros : List Process
  zeros = replicate n zero_process

  -- ---- the opening

  opening_accepted : refusal (figure3 ascending) (blank n) (open_for n) ≡ none
  unfolding refusal
  opening_accepted = rw (le-ltb n 1 z, le-ltb 8 n eight, eq-eqb (length zeros) n (length-replicate n zero_process))

  opening_replies : (xs : List Item) →
      replies (method ascending n) (blank n) (open_for n ∷ xs) ≡ opened ∷ replies (method ascending n) (opened_for n) xs
  unfolding accept
  opening_replies xs =
      replies_are n (blank n) (open_for n) xs opening_accepted
      ∙ ap {B = List (Reply Value)} (λ s. opened ∷ replies (method ascending n) s xs)
      (opening_opens ascending (blank n) n opening_accepted).0

  -- ---- day G

  sound_zeros : (e : ℕ) → some_of (λ p. unsound (most_reads n) e p) zeros ≡ false
  unfolding unsound
  sound_zeros e =
      some_of_none (λ p. unsound (most_reads n) e p) zeros no_process
      (λ i l.
      let b : i < n = omega (arith, length-replicate n zero_process) in
      ap (unsound (most_reads n) e) (get_or-replicate n i zero_process no_process b)
      ∙ rw (le-ltb e 0 (omega arith)))

  -- the turns that a table owes
  abbrev owed : List Process → ℕ
  owed ps = sum_of (process_owes (figure3 ascending) n) ps

  zeros_owe : owed zeros ≡ 0
  zeros_owe = sum_replicate (process_owes (figure3 ascending) n) n zero_process refl

  outside_refused : (d : ℕ) → outside 1 n d ≡ true →
      refusal (figure3 ascending) (opened_for n) (turn_of d (nines (2 * n))) ≡ some ProcessRange
  unfolding refusal Days.opened_for is_past
  outside_refused d h =
      rw (
        ne_eqb n 0 (λ q. omega arith),
        eq-eqb (length zeros) n (length-replicate n zero_process),
        le-ltb (length (nines (2 * n))) (2 * n) (omega (arith, length-replicate {A = ℕ} (2 * n) 9)),
        le-ltb 8 n eight,
        zeros_owe,
        sound_zeros 0,
        h,
      )

  pub day_g_follows : played (day_g n) ≡ (day_g n).expected
  day_g_follows =
      opening_replies (turn_of 0 (nines (2 * n)) ∷ turn_of (n + 1) (nines (2 * n)) ∷ [])
      ∙ ap {B = List (Reply Value)} (λ r. opened ∷ r)
      (replies_are n (opened_for n) (turn_of 0 (nines (2 * n))) (turn_of (n + 1) (nines (2 * n)) ∷ []) (outside_refused 0 refl)
      ∙ ap {B = List (Reply Value)} (λ r. refused 2 ∷ r)
      (replies_are n (opened_for n) (turn_of (n + 1) (nines (2 * n))) []
      (outside_refused (n + 1) (rw (le-ltb (n + 1) 1 (omega arith), lt-ltb n (n + 1) (omega arith))))))

  -- ---- day H

  -- the table once process 1 has the record p
  abbrev table_with : Process → List Process
  table_with p = set zeros 0 p

  length_with : (p : Process) → length (table_with p) ≡ n
  length_with p = length-set zeros 0 p ∙ length-replicate n zero_process

  first_with : (p : Process) → get_or (table_with p) 0 no_process ≡ p
  first_with p = get_or-set_same zeros 0 p no_process (omega (arith, length-replicate n zero_process))

  first_zero : get_or zeros 0 no_process ≡ zero_process
  first_zero = get_or-replicate n 0 zero_process no_process z

  call_accepted : refusal (figure3 ascending) (opened_for n) (scan_call 1) ≡ none
  unfolding refusal Days.opened_for is_past
  call_accepted =
      let few = few_reads n eight in
      rw (
        ne_eqb n 0 (λ q. omega arith),
        eq-eqb (length zeros) n (length-replicate n zero_process),
        le-ltb 8 n eight,
        zeros_owe,
        sound_zeros 0,
        le-ltb n 1 z,
        first_zero,
        le-ltb 65535 (1 + most_reads n) (omega arith),
      )

  -- the record of a process whose scan just began
  abbrev scanner : Process
  scanner = begin n (Scan 0) zero_process

  -- the day of n processes at event e
  abbrev day_with : ℕ → Process → State Process
  day_with e p = record { day = record { count = n; event = e }; table = table_with p }

  call_leaves : (accept (figure3 ascending) (opened_for n) (scan_call 1)).state ≡ day_with 1 scanner
  unfolding accept called_by advance Days.opened_for
  call_leaves = ap (λ p. day_with 1 (begin n (Scan 0) p)) first_zero

  sound_calls : some_of (λ p. unsound (most_reads n) 1 p) (table_with scanner) ≡ false
  unfolding unsound begin most_reads
  sound_calls =
      some_of_none (λ p. unsound (most_reads n) 1 p) (table_with scanner) no_process
      (λ i l. by_cases (ℕ_discrete i 0)
      (λ q.
      ap (λ j. unsound (most_reads n) 1 (get_or (table_with scanner) j no_process)) q ∙
      ap (unsound (most_reads n) 1) (first_with scanner)
      ∙ lt-leb (most_reads n) 0 (let m = mul-pos z z in omega arith))
      (λ q.
      let b : i < n = omega (arith, length_with scanner) in
      ap (unsound (most_reads n) 1) (get_or-set_other zeros 0 i scanner no_process q ∙ get_or-replicate n i zero_process no_process b)))

  -- its scan owes its most turns
  scanner_owes : owed (table_with scanner) ≤ 128
  unfolding begin
  scanner_owes =
      let few = few_reads n eight in
      let set-owes = sum_set (process_owes (figure3 ascending) n) zeros 0 scanner no_process (omega (arith, length-replicate n zero_process)) in
      omega (arith, zeros_owe)

  turn_accepted : refusal (figure3 ascending) (day_with 1 scanner) (turn_of 1 (nines (2 * n))) ≡ none
  unfolding refusal is_past begin
  turn_accepted =
      let few = scanner_owes in
      rw (
        ne_eqb n 0 (λ q. omega arith),
        eq-eqb (length (table_with scanner)) n (length_with scanner),
        le-ltb (length (nines (2 * n))) (2 * n) (omega (arith, length-replicate {A = ℕ} (2 * n) 9)),
        le-ltb 8 n eight,
        le-ltb 65535 (1 + owed (table_with scanner)) (omega arith),
        sound_calls,
        le-ltb n 1 z,
        first_with scanner,
      )

  -- the first turn of a scan ends no double collect
  finds_none : (now : ℕ) (r : Register) (p : Process) → found_by ascending n now (position n 0) r p ≡ none
  unfolding found_by position
  finds_none now r p = rw (zero-mod (2 * n), decision_waits n ascending 0 _ _ _ (λ q. omega arith))

  turn_reads : (turn_by (figure3 ascending) (day_with 1 scanner) 1 (nines (2 * n))).answer ≡ Read
  unfolding turn_by turned begin
  turn_reads =
      let r = (read_from (figure3 ascending) (table_with scanner) (reads ascending n (Scan 0))).register in
      ap
      (λ p.
      (turned ascending n 2 (read_from (figure3 ascending) (table_with scanner) (reads ascending n p.task)).register (nines (2 * n)) p
      ).answer)
      (first_with scanner)
      ∙ ap (λ f. (scan_turn ascending n 2 r (nines (2 * n)) scanner 0 f).answer) (finds_none 2 r scanner)

  short_refused : (e : ℕ) (ps : List Process) → length ps ≡ n →
      refusal (figure3 ascending) (record { day = record { count = n; event = e }; table = ps }) (turn_of 1 (nines (2 * n - 1)))
      ≡ some LentSize
  unfolding refusal
  short_refused e ps l =
      rw (
        ne_eqb n 0 (λ q. omega arith),
        eq-eqb (length ps) n l,
        lt-ltb (length (nines (2 * n - 1))) (2 * n) (omega (arith, length-replicate {A = ℕ} (2 * n - 1) 9)),
      )

  -- the second turn, with a page list of 2n - 1 places
  abbrev last : List Item
  last = turn_of 1 (nines (2 * n - 1)) ∷ []

  turn_replies : replies (method ascending n) (day_with 1 scanner) (turn_of 1 (nines (2 * n)) ∷ last) ≡ read ∷ refused 6 ∷ []
  unfolding accept advance
  turn_replies =
      let r = turn_by (figure3 ascending) (day_with 1 scanner) 1 (nines (2 * n)) in
      let ps = set (table_with scanner) 0 r.state in
      let left : State Process = record { day = record { count = n; event = 2 }; table = ps } in
      replies_are n (day_with 1 scanner) (turn_of 1 (nines (2 * n))) last turn_accepted
      ∙ ap (λ a. reply_of ((method ascending n).shown r.page) a ∷ replies (method ascending n) left last) turn_reads
      ∙ ap {B = List (Reply Value)} (λ xs. read ∷ xs)
      (replies_are n left (turn_of 1 (nines (2 * n - 1))) []
      (short_refused 2 ps (length-set (table_with scanner) 0 r.state ∙ length_with scanner)))

  pub day_h_follows : played (day_h n) ≡ (day_h n).expected
  unfolding accept
  day_h_follows =
      opening_replies (scan_call 1 ∷ turn_of 1 (nines (2 * n)) ∷ last)
      ∙ ap {B = List (Reply Value)} (λ r. opened ∷ r)
      (replies_are n (opened_for n) (scan_call 1) (turn_of 1 (nines (2 * n)) ∷ last) call_accepted
      ∙ ap {B = List (Reply Value)} (λ r. called ∷ r)
      (ap (λ s. replies (method ascending n) s (turn_of 1 (nines (2 * n)) ∷ last)) call_leaves ∙ turn_replies))
