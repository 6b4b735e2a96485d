-- A day file's page shows as many values as the day has processes, for every instant of the tally has.
use Prim.Native.Nat.{ℕ, suc, ◌-◌, ◌≤◌}
use native.Mathlib.Omega.{arith}
use native.Mathlib.Decide.{ℕ_discrete}
use mathlib.Core.Path.{◌≡◌, refl, ap, ◌∙◌}
use mathlib.Core.Logic.{by_cases}
use mathlib.Core.List.{List, [], ◌∷◌}
use mathlib.Core.Option.{Option, none, some, map}
use lib.ListN.{length, length-append, length-replicate, length-set, get_or-append}
use lib.Seq.{get_or_at}
use Rattle.snapshot.specs.declared.Value.{Value}
use Rattle.snapshot.specs.Values.{zero_value, stored}
use Rattle.snapshot.specs.Lists.{All}
use Rattle.snapshot.specs.Tally.{Job, scan, update, Seen, opening, call, turn, by_seen, Call, Tally}
use Rattle.snapshot.specs.Tally.{started, call_of, instant, advanced, opens, gains, puts, puts_if, tallied}
use Rattle.snapshot.specs.Demand.{PageFits}
use Rattle.snapshot.specs.Book.{Heard}
use Rattle.snapshot.specs.declared.Answer.{Answer}
use Rattle.snapshot.specs.declared.Answer.TheVariants.{Refused, Opened, Called, Read, Page, Written}
use Rattle.snapshot.proofs.Follows.{Tells, Follows}
use Rattle.unbounded.specs.Days.{most_turns}
use Rattle.book.specs.DayBooks.{heard_in, processes_in}
use Rattle.book.proofs.DayFollows.{day_follows}

-- what an answer with its values says of their number
abbrev pub WordsOf : ℕ → List Value → Answer → Type 0
WordsOf n ws (Refused k) = Unit {0}
WordsOf n ws Opened = Unit {0}
WordsOf n ws Called = Unit {0}
WordsOf n ws Read = Unit {0}
WordsOf n ws (Page lender at turns) = length ws ≡ n
WordsOf n ws (Written turns) = Unit {0}

-- a tally of n values, at every instant
record Sized (n : ℕ) (t : Tally Value) : Type 0 where
  words : length t.words ≡ n
  instants : length t.instants ≡ suc t.event
  each : (e : ℕ) → e ≤ t.event → length (instant t e) ≡ n

module _ (n : ℕ) where
  started_sized : Sized n (started n n zero_value)
  started_sized =
      let t : Tally Value = started n n zero_value in
      record {
        words = length-replicate n zero_value;
        instants = refl;
        each = λ e l. let q : e ≡ 0 = omega arith in ap (λ k. length (instant t k)) q ∙ length-replicate n zero_value;
      }

  module _ (t : Tally Value) (z : Sized n t) where
    advanced_sized : (ws : List Value) (d : ℕ) (c : Option Call) → length ws ≡ n → Sized n (advanced t ws d c)
    advanced_sized ws d c l =
        let s = z.instants in
        record {
          words = l;
          instants = simp length-append (omega arith);
          each = λ e m. by_cases (ℕ_discrete e (suc t.event))
              (λ q. ap length (get_or_at t.instants ws [] [] e (omega arith)) ∙ l)
              (λ q. ap length (get_or-append t.instants (ws ∷ []) [] e (omega arith)) ∙ z.each e (omega arith));
        }

    -- what is written to a register keeps their number
    puts_sized : (c : Option Call) → length (puts_if (stored (suc t.event)) t.words c) ≡ n
    puts_sized none = z.words
    puts_sized (some c) = go c.job
      where
        go : (j : Job) → length (puts (stored (suc t.event)) t.words j) ≡ n
        go scan = z.words
        go (update k w) = length-set t.words (k - 1) (stored (suc t.event) w) ∙ z.words

    seen_sized : (c : ℕ → Job → Tally Value) (u : ℕ → Tally Value) → ((d : ℕ) (j : Job) → Sized n (c d j)) → ((d : ℕ) → Sized n (u d)) →
        (x : Seen) → Sized n (by_seen t c u x)
    seen_sized c u f g opening = z
    seen_sized c u f g (call d j) = f d j
    seen_sized c u f g (turn d) = g d

    tallied_sized : (x : Seen) (a : Answer) → Sized n (tallied stored t x a)
    tallied_sized x (Refused k) = z
    tallied_sized x Opened = z
    tallied_sized x Called =
        seen_sized (λ d j. advanced t t.words d (some (opens (suc t.event) j))) (λ d. t)
        (λ d j. advanced_sized t.words d (some (opens (suc t.event) j)) z.words) (λ d. z) x
    tallied_sized x Read =
        seen_sized (λ d j. t) (λ d. advanced t t.words d (map gains (call_of t d)))
        (λ d j. z) (λ d. advanced_sized t.words d (map gains (call_of t d)) z.words) x
    tallied_sized x (Page lender at turns) =
        seen_sized (λ d j. t) (λ d. advanced t t.words d none)
        (λ d j. z) (λ d. advanced_sized t.words d none z.words) x
    tallied_sized x (Written turns) =
        seen_sized (λ d j. t) (λ d. advanced t (puts_if (stored (suc t.event)) t.words (call_of t d)) d none)
        (λ d j. z) (λ d. advanced_sized (puts_if (stored (suc t.event)) t.words (call_of t d)) d none (puts_sized (call_of t d))) x

    -- a page holds the values of an instant
    page_sized : (at turns : ℕ) (ws : List Value) (c : Option Call) → PageFits (most_turns n) t at turns ws c → length ws ≡ n
    page_sized at turns ws none f = absurd f
    page_sized at turns ws (some c) f = let l = f.4 in ap length f.2 ∙ z.each at (omega arith)

    tells_sized : (x : Seen) (ws : List Value) (a : Answer) → Tells n (most_turns n) stored t x ws a → WordsOf n ws a
    tells_sized x ws (Refused k) f = tt
    tells_sized x ws Opened f = tt
    tells_sized x ws Called f = tt
    tells_sized x ws Read f = tt
    tells_sized x ws (Written turns) f = tt
    tells_sized opening ws (Page lender at turns) f = absurd f
    tells_sized (call d j) ws (Page lender at turns) f = absurd f
    tells_sized (turn d) ws (Page lender at turns) f = page_sized at turns ws (call_of t d) f.1

  follows_sized : (t : Tally Value) → Sized n t → (hs : List (Heard Value)) → Follows n (most_turns n) stored t hs →
      All (λ h. WordsOf n h.shown h.answer) hs
  follows_sized t z [] f = tt
  follows_sized t z (h ∷ hs) f = (
    tells_sized t z h.seen h.shown h.answer f.0,
    follows_sized (tallied stored t h.seen h.answer) (tallied_sized t z h.seen h.answer) hs f.1,
  )

-- every page of a day file shows a value for each process
pub page_words : (bs : List ℕ) → All (λ h. WordsOf (processes_in bs) h.shown h.answer) (heard_in bs)
page_words bs =
    let n = processes_in bs in
    follows_sized n (started n n zero_value) (started_sized n) (heard_in bs) (day_follows bs)
