-- The laps of a run, one at a time: while there is another, a run goes on with what it comes to (`ran_on`), and where there is
-- none, it stays as it is (`ran_over`). What a lap of the code comes to is a lap of the definitions (`lap_done`), and leaves
-- fewer to make.
use Prim.Native.Nat.{ℕ, zero, suc, ◌+◌, ◌-◌, ◌/◌, ◌≤◌, ◌<◌}
use native.Mathlib.Omega.{arith}
use native.Mathlib.Nat.{not-suc-le-zero, le_refl}
use mathlib.Core.Path.{◌≡◌, refl, sym, ap, ap₂, subst, ◌∙◌}
use mathlib.Core.Bool.{Bool, true, false, cond, not, ◌&&◌, ◌||◌, and-false, or-true, false≢true, true≢false}
use mathlib.Core.List.{List, [], ◌∷◌, ◌++◌, append_assoc}
use lib.ListN.{length, take, drop, length-drop}
use lib.Seq.{drop-drop, length-take-le, take-nil, take_at}
use lib.Dec.{leb}
use borrow.Author.Tests.{leb-true, leb-false, le-leb}
use Rattle.snapshot.specs.Values.{words_in, lasts_in}
use Rattle.snapshot.specs.declared.Day.{Day}
use Rattle.snapshot.specs.declared.Outcome.{Outcome}
use Rattle.dayfile.specs.Reader.{reading}
use Rattle.dayfile.specs.declared.Reading.{Reading}
use Rattle.dayfile.specs.declared.Reading.TheVariants.{Found, End, Refused}
use Rattle.dayfile.proofs.Reader.{found_consumes, refused_some}
use Rattle.unbounded.specs.declared.Process.{Process}
use Rattle.days.specs.Asking.{request_of, lent_to, asked_outcome, asked_table, asked_page}
use Rattle.days.specs.Happenings.{Happening, box_after, happening_in}
use Rattle.days.proofs.Kept.{few_shown}
use Rattle.daytext.specs.declared.Line.{Line}
use Rattle.daytext.specs.Lines.{text_of}
use Rattle.texts.specs.Laying.{with_text}
use Rattle.daytext.specs.Buffer.{longest, is_laid, laid_place, laid_text}
use Rattle.texts.proofs.Laying.{take_laid}
use Rattle.daytext.proofs.Room.{laid_with_room}
use Rattle.daytext.proofs.Lengths.{line_fits}
use Rattle.streams.specs.declared.input.Input.{Input}
use Rattle.laps.specs.declared.records.Progress.{Progress}
use Rattle.daylines.specs.Printed.{line_of, line_in}
use Rattle.streams.specs.Input.{Within, input_left}
use Rattle.streams.proofs.Refilling.{left_long}
use Rattle.laps.specs.Progress.{Takes, next_in, can_go, closed_progress, progress_past, lines_left, CanLay, stand_at}
use Rattle.laps.specs.Laps.{Stand, has_to_go_on, goes, closed, lap_on, lap, laps, ran}

-- ---- the count of laps is no limit

going_unended : (ended last : Bool) (n : ℕ) → has_to_go_on ended last n ≡ true → ended ≡ false
going_unended true last n e = absurd (false≢true e)
going_unended false last n e = refl

-- a lap takes a byte at least, or is the last
lap_shortens : (s : Stand) → goes (lap s) ≡ true → length (lap s).input.left < length s.input.left
unfolding lap
lap_shortens s = go (reading s.input.left) refl
  where
    go : (x : Reading) → reading s.input.left ≡ x → goes (lap_on s x) ≡ true →
        length (lap_on s x).input.left < length s.input.left
    go (Found r next) q e =
        let c = found_consumes s.input.left r next q in
        simp length-drop (omega arith)
    go End q e = absurd (ended s.input.failed e)
      where
        ended : (f : Bool) → not (f || true) && true ≡ true → ⊥
        ended true e = false≢true e
        ended false e = false≢true e
    go (Refused k) q e = refused_some s.input.left k q

module _ (s : Stand) where
  laps_on : (k : ℕ) → goes s ≡ true → laps (suc k) s ≡ laps k (lap s)
  laps_on k g = ap (λ b. cond b (laps k (lap s)) s) g

  pub laps_over : (k : ℕ) → goes s ≡ false → laps k s ≡ s
  laps_over zero g = refl
  laps_over (suc k) g = ap (λ b. cond b (laps k (lap s)) s) g

-- one more lap than bytes is enough
laps_enough : (j k : ℕ) (s : Stand) → length s.input.left < j → length s.input.left < k → laps j s ≡ laps k s
laps_enough zero k s l m = absurd (not-suc-le-zero l)
laps_enough (suc j) zero s l m = absurd (not-suc-le-zero m)
laps_enough (suc j) (suc k) s l m = go (goes (lap s)) refl (laps_enough j k (lap s))
  where
    n : ℕ
    n = length (lap s).input.left

    go : (b : Bool) → goes (lap s) ≡ b → (n < j → n < k → laps j (lap s) ≡ laps k (lap s)) → laps (suc j) s ≡ laps (suc k) s
    go true e later =
        let fewer = lap_shortens s e in
        ap (λ t. cond (goes s) t s) (later (omega (arith, fewer, l)) (omega (arith, fewer, m)))
    go false e later = ap (λ t. cond (goes s) t s) (laps_over (lap s) j e ∙ sym (laps_over (lap s) k e))

module _ (s : Stand) where
  pub ran_over : goes s ≡ false → ran s ≡ s
  unfolding ran
  ran_over g = laps_over s (suc (length s.input.left)) g

  pub ran_on : goes s ≡ true → ran s ≡ ran (lap s)
  unfolding ran
  ran_on g = laps_on s (length s.input.left) g ∙ go (goes (lap s)) refl
    where
      j : ℕ
      j = length s.input.left

      k : ℕ
      k = suc (length (lap s).input.left)

      go : (b : Bool) → goes (lap s) ≡ b → laps j (lap s) ≡ laps k (lap s)
      go true e = laps_enough j k (lap s) (lap_shortens s e) (le_refl k)
      go false e = laps_over (lap s) j e ∙ sym (laps_over (lap s) k e)

-- ---- all laps leave fewer than ten bytes

-- a run that has ended has nothing left, or less
abbrev EndsShort : Stand → Type 0
EndsShort s = s.ended ≡ true → length s.input.left < 10

lap_closes : (s : Stand) → EndsShort (lap s)
unfolding lap
lap_closes s = go (reading s.input.left)
  where
    go : (x : Reading) → EndsShort (lap_on s x)
    go (Found r next) e = absurd (false≢true e)
    go End e = omega arith
    go (Refused k) e = omega arith

stopped_short : (s : Stand) → EndsShort s → goes s ≡ false → length s.input.left < 10
stopped_short s h = go s.ended s.input.last refl
  where
    go : (ended last : Bool) → s.ended ≡ ended → has_to_go_on ended last (length s.input.left) ≡ false → length s.input.left < 10
    go true last q e = h q
    go false true q e = absurd (true≢false e)
    go false false q e = leb-false 10 (length s.input.left) e

laps_short : (k : ℕ) (s : Stand) → EndsShort s → length s.input.left < k → length (laps k s).input.left < 10
laps_short zero s h l = absurd (not-suc-le-zero l)
laps_short (suc k) s h l = go (goes s) refl (goes (lap s)) refl (laps_short k (lap s) (lap_closes s))
  where
    go : (b : Bool) → goes s ≡ b → (c : Bool) → goes (lap s) ≡ c →
        (length (lap s).input.left < k → length (laps k (lap s)).input.left < 10) →
        length (cond b (laps k (lap s)) s).input.left < 10
    go true e true f later = let fewer = lap_shortens s f in later (omega (arith, fewer, l))
    go true e false f later =
        subst (λ t. length t.input.left < 10) (sym (laps_over (lap s) k f)) (stopped_short (lap s) (lap_closes s) f)
    go false e c f later = stopped_short s h e

pub ran_short : (s : Stand) → s.ended ≡ false → length (ran s).input.left < 10
unfolding ran
ran_short s u =
    let k = suc (length s.input.left) in
    laps_short k s (λ e. absurd (true≢false (sym e ∙ u))) (le_refl k)

-- ---- the buffers

-- what lies in the input buffer
module _ (i : Input) (bytes : List ℕ) where
  left_past : (next : ℕ) → take (i.end - (i.at + next)) (drop (i.at + next) bytes) ≡ drop next (input_left i bytes)
  left_past next =
      let e : i.end - (i.at + next) ≡ i.end - i.at - next = omega arith in
      ap₂ take e (sym (drop-drop next i.at bytes)) ∙ sym (drop_take next (i.end - i.at) (drop i.at bytes))
    where
      drop_take : (m n : ℕ) (l : List ℕ) → drop m (take n l) ≡ take (n - m) (drop m l)
      drop_take zero n l = let e : n ≡ n - 0 = omega arith in ap (λ k. take k l) e
      drop_take (suc m) zero l = let e : 0 ≡ 0 - suc m = omega arith in ap (λ k. take k (drop (suc m) l)) e
      drop_take (suc m) (suc n) [] = sym (take-nil (suc n - suc m))
      drop_take (suc m) (suc n) (x ∷ l) =
          let e : n - m ≡ suc n - suc m = omega arith in
          drop_take m n l ∙ ap (λ k. take k (drop m l)) e

  left_none : take (i.end - i.end) (drop i.end bytes) ≡ []
  left_none = let e : i.end - i.end ≡ 0 = omega arith in ap (λ n. take n (drop i.end bytes)) e

-- a line ends no further than the bytes that are kept free for it
line_near : (line : Line) (ws es out : List ℕ) (at : ℕ) → laid_place line ws es out at ≤ at + longest
unfolding laid_place is_laid
line_near line ws es out at = go (leb few 16) refl (leb (at + longest) (length out))
  where
    few : ℕ
    few = length ws + length es

    go : (a : Bool) → leb few 16 ≡ a → (b : Bool) → cond (a && b) (at + length (text_of line ws es)) at ≤ at + longest
    go true e true = let l = line_fits line ws es (leb-true few 16 e) in omega (arith, l)
    go true e false = omega arith
    go false e b = omega arith

-- the text before a line stays
before_text : (out : List ℕ) (at : ℕ) (text : List ℕ) → at ≤ length out → take at (with_text out at text) ≡ take at out
unfolding with_text
before_text out at text l =
    ap (take at) (append_assoc (take at out) text (drop (at + length text) out))
    ∙ take_at (take at out) (text ++ drop (at + length text) out) at (length-take-le at out l)

-- ---- a lap of the code

-- how many lines are left, and that a lap leaves fewer
module _ (p : Progress) (unended : p.ended ≡ false) where
  lines_left_lem : lines_left p ≡ 1 + (p.input.end - p.input.at + 5) / 6
  unfolding lines_left
  lines_left_lem = ap (λ b. cond b 0 (1 + (p.input.end - p.input.at + 5) / 6)) unended

  lines_fewer : (d : Day) (w : ℕ) (x : Reading) → Takes x p.input → lines_left (progress_past p d w x) < lines_left p
  unfolding lines_left progress_past
  lines_fewer d w x t = subst (λ n. lines_left (progress_past p d w x) < n) (sym lines_left_lem) (go x t)
    where
      at_most_one : (b : Bool) → cond b 0 (1 + (p.input.end - p.input.end + 5) / 6) ≤ 1
      at_most_one true = omega arith
      at_most_one false = omega arith

      go : (x : Reading) → Takes x p.input → lines_left (progress_past p d w x) < 1 + (p.input.end - p.input.at + 5) / 6
      go (Found r k) t = let l = t.found r k refl in omega arith
      go End t =
          subst (λ b. cond b 0 (1 + (p.input.end - p.input.end + 5) / 6) < 1 + (p.input.end - p.input.at + 5) / 6)
          (sym (or-true p.input.failed)) (omega arith)
      go (Refused k) t = let l = t.refused k refl in let m = at_most_one (p.input.failed || false) in omega arith

module _ (p : Progress) (d : Day) (w : ℕ) where
  past_within : (n : ℕ) (x : Reading) → Takes x p.input → Within p.input n → Within (progress_past p d w x).input n
  unfolding progress_past
  past_within n (Found r k) t h = record { start = (t.found r k refl).1; stop = h.stop }
  past_within n End t h = record { start = le_refl p.input.end; stop = h.stop }
  past_within n (Refused k) t h = record { start = le_refl p.input.end; stop = h.stop }

  module _ (near : w ≤ p.written + longest) where
    closed_written : (failed : Bool) → cond failed p.written w ≤ p.written + longest
    closed_written true = omega arith
    closed_written false = near

    past_written : (x : Reading) → (progress_past p d w x).written ≤ p.written + longest
    unfolding progress_past
    past_written (Found r k) = near
    past_written End = closed_written p.input.failed
    past_written (Refused k) = closed_written p.input.failed

-- where there is room for all lines, the code makes a lap where there is one
module _ (p : Progress) (size room words : ℕ) (ready : CanLay p size room words) where
  room_for_one : p.ended ≡ false → p.written + longest ≤ room
  room_for_one u = let l = lines_left_lem p u in let r = ready.room_left in omega (arith, l, r)

  can_go_is : can_go p room ≡ has_to_go_on p.ended p.input.last (p.input.end - p.input.at)
  unfolding can_go
  can_go_is = go p.ended (λ u. le-leb (p.written + longest) room (room_for_one u))
    where
      go : (b : Bool) → (b ≡ false → leb (p.written + longest) room ≡ true) →
          let on = has_to_go_on b p.input.last (p.input.end - p.input.at) in leb (p.written + longest) room && on ≡ on
      go true h = and-false (leb (p.written + longest) room)
      go false h = rw (h refl)

-- what the code has at the start of a turn, and where it then stands
pub record Turn : Type 0 where
  pub progress : Progress
  pub table : List Process
  pub page : List ℕ
  pub out : List ℕ

abbrev pub stand_in : Turn → List ℕ → Stand
stand_in t bytes = stand_at t.progress t.table t.page bytes t.out

abbrev pub Ready : Turn → List ℕ → Type 0
Ready t bytes = CanLay t.progress (length bytes) (length t.out) (length t.page)

abbrev pub goes_in : Turn → Bool
goes_in t = can_go t.progress (length t.out)

-- what a turn comes to once y is read: how many records are lent, what asking comes to, and the next turn
module _ (t : Turn) (y : Reading) where
  abbrev pub lap_lent : ℕ
  lap_lent = lent_to t.progress.day (request_of y)

  abbrev pub lap_outcome : Outcome
  lap_outcome = asked_outcome t.progress.day (take lap_lent t.table) t.page y

  abbrev pub lap_records : List Process
  lap_records = asked_table t.progress.day (take lap_lent t.table) t.page y

  abbrev pub lap_page : List ℕ
  lap_page = asked_page t.progress.day (take lap_lent t.table) t.page y

  abbrev words : List ℕ
  words = words_in lap_outcome.day.count lap_page

  abbrev lasts : List ℕ
  lasts = lasts_in lap_outcome.day.count lap_page

  abbrev line_end : ℕ
  line_end = laid_place (line_of lap_outcome y) words lasts t.out t.progress.written

  abbrev pub next_turn : Turn
  next_turn =
      record {
        progress = progress_past t.progress lap_outcome.day line_end y;
        table = lap_records ++ drop lap_lent t.table;
        page = lap_page;
        out = laid_text (line_of lap_outcome y) words lasts t.out t.progress.written;
      }

  module _ {size room few : ℕ} (ready : CanLay t.progress size room few) (go : can_go t.progress room ≡ true)
      (takes : Takes y t.progress.input) where
    unended : t.progress.ended ≡ false
    unended =
        let i = t.progress.input in
        going_unended t.progress.ended i.last (i.end - i.at) (sym (can_go_is t.progress size room few ready) ∙ go)

    pub lap_fewer : lines_left next_turn.progress < lines_left t.progress
    lap_fewer = lines_fewer t.progress unended lap_outcome.day line_end y takes

    -- the input is within its buffer, and there is room for the lines that are left
    pub lap_ready : CanLay next_turn.progress size room few
    lap_ready =
        let fewer = lap_fewer in
        let near = past_written t.progress lap_outcome.day line_end
        (line_near (line_of lap_outcome y) words lasts t.out t.progress.written) y in
        let before = ready.room_left in
        record {
          within = past_within t.progress lap_outcome.day line_end size y takes ready.within;
          room_left = omega (arith, fewer, near, before);
          few = ready.few;
        }

-- a lap of the code is a lap of the definitions
module _ (p : Progress) (xs : List Process) (page bytes out : List ℕ)
    (ready : CanLay p (length bytes) (length out) (length page)) (go : can_go p (length out) ≡ true) where
  abbrev s : Stand
  s = stand_at p xs page bytes out

  goes_too : goes s ≡ true
  goes_too =
      ap (has_to_go_on p.ended p.input.last) (left_long p.input bytes ready.within)
      ∙ sym (can_go_is p (length bytes) (length out) (length page) ready) ∙ go

  room_here : p.written + longest ≤ length out
  room_here =
      room_for_one p (length bytes) (length out) (length page) ready
      (going_unended p.ended p.input.last (length s.input.left) goes_too)

  -- what is laid
  module _ (y : Reading) where
    abbrev h : Happening
    h = happening_in s.box y

    abbrev w : ℕ
    w = laid_place (line_of h.outcome y) h.words h.lasts out p.written

    abbrev o : List ℕ
    o = laid_text (line_of h.outcome y) h.words h.lasts out p.written

    laid_line : (w ≡ p.written + length (line_in h)) × (o ≡ with_text out p.written (line_in h))
    laid_line =
        let few = few_shown s.box y in
        let f = ready.few in
        laid_with_room (line_of h.outcome y) h.words h.lasts out p.written (omega (arith, few, f)) room_here

    lines_laid : take w o ≡ s.lines ++ line_in h
    lines_laid =
        let r = room_here in
        ap₂ take laid_line.0 laid_line.1 ∙ take_laid out p.written (line_in h) (omega (arith, r))

    lines_kept : take p.written o ≡ s.lines
    lines_kept =
        let r = room_here in
        ap (take p.written) laid_line.1 ∙ before_text out p.written (line_in h) (omega (arith, r))

    lines_by : (f : Bool) → take (cond f p.written w) o ≡ cond f s.lines (s.lines ++ line_in h)
    lines_by true = lines_kept
    lines_by false = lines_laid

  closed_on : (y : Reading) (e : Bool) → let b = box_after s.box y in
      stand_at (closed_progress p b.day (w y) e) b.table b.page bytes (o y) ≡ closed s y e
  closed_on y e =
      let f = p.input.failed in
      let b = box_after s.box y in
      ap₂ (λ l ls. record { box = b; input = record { left = l; last = true; failed = f }; lines = ls; ended = f || e })
      (left_none p.input bytes) (lines_by y f)

  lap_on_lem : (y : Reading) → let b = box_after s.box y in
      stand_at (progress_past p b.day (w y) y) b.table b.page bytes (o y) ≡ lap_on s y
  unfolding progress_past
  lap_on_lem (Found r k) =
      let b = box_after s.box (Found r k) in
      let i = p.input in
      ap₂ (λ l ls. record { box = b; input = record { left = l; last = i.last; failed = i.failed }; lines = ls; ended = false })
      (left_past i bytes k) (lines_laid (Found r k))
  lap_on_lem End = closed_on End true
  lap_on_lem (Refused k) = closed_on (Refused k) false

  lap_here : (y : Reading) → y ≡ next_in p.input bytes →
      ran s ≡ ran (stand_in (next_turn (record { progress = p; table = xs; page = page; out = out }) y) bytes)
  unfolding lap next_in
  lap_here y read = ran_on s goes_too ∙ ap ran (sym (ap (lap_on s) read) ∙ sym (lap_on_lem y))

module _ (t : Turn) (bytes : List ℕ) (ready : Ready t bytes) where
  -- the laps from here on are those from the next turn on
  pub lap_done : goes_in t ≡ true → (y : Reading) → y ≡ next_in t.progress.input bytes →
      ran (stand_in t bytes) ≡ ran (stand_in (next_turn t y) bytes)
  lap_done = lap_here t.progress t.table t.page bytes t.out ready

  -- where the code makes no lap there is none
  pub no_lap : goes_in t ≡ false → ran (stand_in t bytes) ≡ stand_in t bytes
  no_lap stop =
      let p = t.progress in
      ran_over (stand_in t bytes)
      (ap (has_to_go_on p.ended p.input.last) (left_long p.input bytes ready.within)
      ∙ sym (can_go_is p (length bytes) (length t.out) (length t.page) ready) ∙ stop)
