-- Every page shows of each register its last writing at or before the page's instant, with its number (`pages_show_last`), for every
-- method, from demand 3 alone: the tally holds these at every instant (`Dated`), and a page shows the values of its instant.
use Prim.Native.Nat.{ℕ, suc, ◌-◌, ◌≤◌, ◌<◌}
use native.Mathlib.Omega.{arith}
use native.Mathlib.Decide.{ℕ_discrete}
use mathlib.Core.Path.{◌≡◌, refl, sym, ap, ap₂, ◌∙◌, subst}
use mathlib.Core.Logic.{by_cases}
use mathlib.Core.Bool.{cond, ◌&&◌}
use mathlib.Core.List.{List, [], ◌∷◌, ◌++◌, append-nil}
use mathlib.Core.Option.{Option, none, some, map}
use lib.Dec.{leb}
use lib.ListN.{length, get_or, set, length-append, length-replicate, length-set, get_or-replicate, get_or-append}
use lib.Seq.{get_or_at, get_or-set_same, get_or-set_other}
use borrow.Author.Tests.{eq-eqb, ne_eqb, le-leb, lt-leb}
use Rattle.snapshot.specs.declared.Answer.{Answer}
use Rattle.snapshot.specs.declared.Answer.TheVariants.{Refused, Opened, Called, Read, Page, Written}
use Rattle.snapshot.specs.declared.Value.{Value}
use Rattle.snapshot.specs.Lists.{All}
use Rattle.snapshot.specs.Values.{zero_value, stored}
use Rattle.snapshot.specs.Tally.{Job, scan, update, Seen, opening, call, turn, Call, Tally, started, call_of, instant}
use Rattle.snapshot.specs.Tally.{advanced, opens, gains, puts, puts_if, tallied}
use Rattle.snapshot.specs.Demand.{PageFits}
use Rattle.snapshot.specs.Book.{Heard}
use Rattle.snapshot.specs.LastWritings.{Writing, writing_of, writing_if, writings_by, last_of, ShowsLast, AllShowLast}
use Rattle.snapshot.proofs.LastOf.{last_append, Until, until_next, last_later}
use Rattle.snapshot.proofs.Placing.{all_append}
use Rattle.snapshot.proofs.Follows.{Tells, Follows}

-- ---- the tally

-- a tally of m registers after these writings
record Dated (m : ℕ) (t : Tally Value) (ws : List Writing) : Type 0 where
  wide : length t.words ≡ m
  long : length t.instants ≡ suc t.event
  past : Until t.event ws
  now : (j : ℕ) → j < m → get_or t.words j zero_value ≡ last_of j t.event zero_value ws
  each : (e j : ℕ) → e ≤ t.event → j < m → get_or (instant t e) j zero_value ≡ last_of j e zero_value ws

module _ (m : ℕ) (t : Tally Value) (ws : List Writing) (g : Dated m t ws) (d : ℕ) (c : Option Call) where
  -- an event after which the registers hold vs, and which made the writings us
  module _ (vs : List Value) (us : List Writing) (wide : length vs ≡ m) (late : All (λ w. w.number ≡ suc t.event) us)
      (before : (j e : ℕ) (v : Value) → e ≤ t.event → last_of j e v us ≡ v)
      (after : (j : ℕ) → j < m → get_or vs j zero_value ≡ last_of j (suc t.event) (get_or t.words j zero_value) us) where
    until_now : (us : List Writing) → All (λ w. w.number ≡ suc t.event) us → Until (suc t.event) us
    until_now [] a = tt
    until_now (u ∷ us) a = (let q = a.0 in omega arith, until_now us a.1)

    holds_now : (j : ℕ) → j < m → get_or vs j zero_value ≡ last_of j (suc t.event) zero_value (ws ++ us)
    holds_now j l =
        after j l
        ∙ ap (λ v. last_of j (suc t.event) v us) (g.now j l ∙ sym (last_later j t.event ws g.past zero_value))
        ∙ sym (last_append j (suc t.event) ws us zero_value)

    advanced_dated : Dated m (advanced t vs d c) (ws ++ us)
    advanced_dated =
        let s = g.long in
        record {
          wide = wide;
          long = simp length-append (omega arith);
          past = all_append (λ w. w.number ≤ suc t.event) ws us (until_next t.event ws g.past) (until_now us late);
          now = holds_now;
          each = λ e j k l. by_cases (ℕ_discrete e (suc t.event))
              (λ q.
              ap (λ x. get_or x j zero_value) (get_or_at t.instants vs [] [] e (omega arith)) ∙ holds_now j l
              ∙ ap (λ i. last_of j i zero_value (ws ++ us)) (sym q))
              (λ q.
              ap (λ x. get_or x j zero_value) (get_or-append t.instants (vs ∷ []) [] e (omega arith))
              ∙ g.each e j (omega arith) l ∙ sym (before j e (last_of j e zero_value ws) (omega arith))
              ∙ sym (last_append j e ws us zero_value));
        }

  -- one that writes nothing
  quiet_dated : Dated m (advanced t t.words d c) ws
  quiet_dated =
      subst (Dated m (advanced t t.words d c)) (append-nil ws)
      (advanced_dated t.words [] g.wide tt (λ j e v l. refl) (λ j l. refl))

  -- a writing
  write_dated : (register w : ℕ) →
      Dated m (advanced t (set t.words (register - 1) (stored (suc t.event) w)) d c)
      (ws ++ writing_of (suc t.event) (update register w))
  write_dated register w =
      let i = register - 1 in
      let e = suc t.event in
      let v = stored e w in
      let long = g.wide in
      advanced_dated (set t.words i v) (writing_of e (update register w)) (length-set t.words i v ∙ g.wide) (refl, tt)
      (λ j k u l. by_cases (ℕ_discrete i j)
      (λ q. ap₂ (λ a b. cond (a && b) v u) (eq-eqb i j q) (lt-leb e k (omega arith)))
      (λ q. ap (λ a. cond (a && leb e k) v u) (ne_eqb i j q)))
      (λ j l. by_cases (ℕ_discrete i j)
      (λ q.
      ap (λ k. get_or (set t.words i v) k zero_value) (sym q) ∙ get_or-set_same t.words i v zero_value (omega arith)
      ∙ sym (ap₂ (λ a b. cond (a && b) v (get_or t.words j zero_value)) (eq-eqb i j q) (le-leb e e (omega arith))))
      (λ q.
      get_or-set_other t.words i j v zero_value (λ p. q (sym p))
      ∙ sym (ap (λ a. cond (a && leb e e) v (get_or t.words j zero_value)) (ne_eqb i j q))))

  answer_dated : (o : Option Call) → Dated m (advanced t (puts_if (stored (suc t.event)) t.words o) d c)
      (ws ++ writing_if (suc t.event) o)
  answer_dated none = subst (Dated m (advanced t t.words d c)) (sym (append-nil ws)) quiet_dated
  answer_dated (some b) = go b.job
    where
      go : (j : Job) → Dated m (advanced t (puts (stored (suc t.event)) t.words j) d c) (ws ++ writing_of (suc t.event) j)
      go scan = subst (Dated m (advanced t t.words d c)) (sym (append-nil ws)) quiet_dated
      go (update register w) = write_dated register w

-- an item and its answer
module _ (m : ℕ) (t : Tally Value) (ws : List Writing) (g : Dated m t ws) where
  same : Dated m t (ws ++ [])
  same = subst (Dated m t) (sym (append-nil ws)) g

  quiet : (d : ℕ) (c : Option Call) → Dated m (advanced t t.words d c) (ws ++ [])
  quiet d c = subst (Dated m (advanced t t.words d c)) (sym (append-nil ws)) (quiet_dated m t ws g d c)

  tallied_dated : (x : Seen) (a : Answer) → Dated m (tallied stored t x a) (ws ++ writings_by t x a)
  tallied_dated x (Refused k) = same
  tallied_dated x Opened = same
  tallied_dated opening Called = same
  tallied_dated (call d j) Called = quiet d (some (opens (suc t.event) j))
  tallied_dated (turn d) Called = same
  tallied_dated opening Read = same
  tallied_dated (call d j) Read = same
  tallied_dated (turn d) Read = quiet d (map gains (call_of t d))
  tallied_dated opening (Page lender at turns) = same
  tallied_dated (call d j) (Page lender at turns) = same
  tallied_dated (turn d) (Page lender at turns) = quiet d none
  tallied_dated opening (Written turns) = same
  tallied_dated (call d j) (Written turns) = same
  tallied_dated (turn d) (Written turns) = answer_dated m t ws g d none (call_of t d)

-- ---- pages

-- a page shows its instant
page_shows : (m n : ℕ) (most : Job → ℕ) (t : Tally Value) (ws : List Writing) → Dated m t ws → (vs : List Value) (at turns : ℕ) →
    (c : Option Call) → PageFits most t at turns vs c → (j : ℕ) → j < m → get_or vs j zero_value ≡ last_of j at zero_value ws
page_shows m n most t ws g vs at turns none f j l = absurd f
page_shows m n most t ws g vs at turns (some c) f j l =
    let k = f.4 in ap (λ x. get_or x j zero_value) f.2 ∙ g.each at j (omega arith) l

answer_shows : (m n : ℕ) (most : Job → ℕ) (t : Tally Value) (ws : List Writing) → Dated m t ws → (x : Seen) (vs : List Value) →
    (a : Answer) → Tells n most stored t x vs a → ShowsLast m ws vs a
answer_shows m n most t ws g x vs (Refused k) f = tt
answer_shows m n most t ws g x vs Opened f = tt
answer_shows m n most t ws g x vs Called f = tt
answer_shows m n most t ws g x vs Read f = tt
answer_shows m n most t ws g opening vs (Page lender at turns) f = absurd f
answer_shows m n most t ws g (call d j) vs (Page lender at turns) f = absurd f
answer_shows m n most t ws g (turn d) vs (Page lender at turns) f = page_shows m n most t ws g vs at turns (call_of t d) f.1
answer_shows m n most t ws g x vs (Written turns) f = tt

all_show : (m n : ℕ) (most : Job → ℕ) (t : Tally Value) (ws : List Writing) → Dated m t ws → (hs : List (Heard Value)) →
    Follows n most stored t hs → AllShowLast m ws t hs
all_show m n most t ws g [] f = tt
all_show m n most t ws g (h ∷ hs) f = (
  answer_shows m n most t ws g h.seen h.shown h.answer f.0,
  all_show m n most (tallied stored t h.seen h.answer) (ws ++ writings_by t h.seen h.answer)
      (tallied_dated m t ws g h.seen h.answer) hs f.1,
)

-- of whatever is heard after an opening and follows the tally
pub pages_show_last : (n m : ℕ) (most : Job → ℕ) (hs : List (Heard Value)) → let t = started n m zero_value in
    Follows n most stored t hs → AllShowLast m [] t hs
pages_show_last n m most hs f = all_show m n most t [] first hs f
  where
    t : Tally Value
    t = started n m zero_value

    zeros : (j : ℕ) → j < m → get_or t.words j zero_value ≡ zero_value
    zeros j l = get_or-replicate m j zero_value zero_value l

    first : Dated m t []
    first =
        record {
          wide = length-replicate m zero_value;
          long = refl;
          past = tt;
          now = zeros;
          each = λ e j k l. let q : e ≡ 0 = omega arith in ap (λ i. get_or (instant t i) j zero_value) q ∙ zeros j l;
        }
