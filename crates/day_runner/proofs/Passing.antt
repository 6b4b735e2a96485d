-- One pass, from what the functions that it calls ensure.
use Prim.Native.Nat.{ℕ, ◌+◌, ◌-◌, ◌/◌, ◌≤◌}
use native.Mathlib.Omega.{arith}
use mathlib.Core.Path.{◌≡◌, sym, ap, ap₂, subst, ◌∙◌}
use mathlib.Core.Bool.{Bool, true, false, cond}
use mathlib.Core.List.{List, [], ◌∷◌, ◌++◌}
use lib.ListN.{length, take, replicate, length-append}
use Rattle.unbounded.specs.Processes.{zero_process}
use Rattle.streams.specs.declared.input.Input.{Input}
use Rattle.laps.specs.declared.records.Progress.{Progress}
use Rattle.laps.specs.declared.records.Running.{Running}
use Rattle.streams.specs.System.{IsSent}
use Rattle.streams.specs.Input.{Within, IsRefill}
use Rattle.laps.specs.Laps.{Stand, blank_stand, ran}
use Rattle.laps.specs.Progress.{blank_progress, refilled_progress, flushed_progress, lines_left, CanLay, Rests, stand_at, stand_of}
use Rattle.day_runner.specs.Passes.{given, Did, IsPass, LeadsTo}
use Rattle.streams.proofs.Refilling.{left_long}
use Rattle.laps.proofs.Laps.{ran_short}

-- whatever a read gave, there is room for its lines
module _ (p : Progress) (size room words : ℕ) (rests : Rests p size room words) (j : Input) (within : Within j size) where
  lines_at_most : (b : Bool) → cond b 0 (1 + (j.end - j.at + 5) / 6) ≤ 1 + (size + 5) / 6
  lines_at_most true = omega arith
  lines_at_most false = let w = within.stop in omega (arith, w)

  pub refilled_can_lay : (p' : Progress) → p' ≡ refilled_progress p j → CanLay p' size room words
  unfolding lines_left
  refilled_can_lay p' e =
      subst (λ z. CanLay z size room words) (sym e)
      (let l = lines_at_most p.ended in
      let r = rests.size_of_output in
      record { within = within; room_left = omega (arith, l, r); few = rests.few })

-- and in buffers of these lengths
pub lay_in : {p : Progress} {size room words : ℕ} → CanLay p size room words → (a b c : ℕ) → a ≡ size → b ≡ room → c ≡ words →
    CanLay p a b c
lay_in {p} {size} {room} ready a b c q r s =
    subst (λ n. CanLay p n b c) (sym q) (subst (λ n. CanLay p size n c) (sym r) (subst (CanLay p size room) (sym s) ready))

module _ (r ready x y : Running) (j : Input) (bytes after page out page' out' : List ℕ) (went : Bool) where
  pub pass_is : IsRefill r.progress.input bytes j after →
      ready.progress ≡ refilled_progress r.progress j → ready.table ≡ r.table →
      stand_of x page' after out' ≡ ran (stand_of ready page after out) →
      IsSent (take x.progress.written out') went →
      y.progress ≡ flushed_progress x.progress went → y.table ≡ x.table →
      IsPass (stand_of r page bytes out) (stand_of y page' after out')
  pass_is refill filled tabled runs sent flushed kept =
      let g = refill.0 in
      let s = stand_of r page bytes out in
      let before : stand_of ready page after out ≡ given s g
      = ap₂ (λ p t. stand_at p t page after out) filled tabled
      ∙ ap (λ i. record { box = s.box; input = i; lines = []; ended = s.ended }) refill.1 in
      let finish : Stand → Stand
      = λ t. record { box = t.box; input = t.input; lines = t.lines; ended = cond went t.ended true } in
      record {
        did = record { gave = g; went = went };
        stands = ap₂ (λ p t. stand_at p t page' after out') flushed kept ∙ ap finish (runs ∙ ap ran before);
        sent = subst (λ n. IsSent (take n out') went) (sym (ap (λ (p : Progress). p.written) flushed)) sent;
      }

  pub pass_rests : {size room words : ℕ} → Rests r.progress size room words → r.progress.ended ≡ false → length after ≡ size →
      ready.progress ≡ refilled_progress r.progress j →
      CanLay x.progress (length after) (length out') (length page') →
      stand_of x page' after out' ≡ ran (stand_of ready page after out) →
      y.progress ≡ flushed_progress x.progress went →
      Rests y.progress size room words
  pass_rests {size} {room} {words} rests unended long-in filled is runs flushed =
      let i = x.progress.input in
      let open-still : (stand_of ready page after out).ended ≡ false = ap (λ (p : Progress). p.ended) filled ∙ unended in
      let long = left_long i after is.within in
      let same = ap (λ t. length t.input.left) runs in
      let short = ran_short (stand_of ready page after out) open-still in
      subst (λ (p : Progress). Rests p size room words) (sym flushed)
      (record {
        within = subst (Within i) long-in is.within;
        short = omega (arith, long, same, short);
        size_of_input = rests.size_of_input;
        size_of_output = rests.size_of_output;
        few = rests.few;
      })

-- ---- several

-- another pass at the end
passes_more : (ps : List Did) (s t u : Stand) → LeadsTo s ps t → t.ended ≡ false → (p : IsPass t u) →
    LeadsTo s (ps ++ (p.did ∷ [])) u
passes_more [] s t u e unended p =
    subst (λ z. LeadsTo z (p.did ∷ []) u) (sym e)
    (unended, (subst (λ (z : Stand). IsSent z.lines p.did.went) p.stands p.sent, sym p.stands))
passes_more (q ∷ ps) s t u h unended p = (h.0, (h.1.0, passes_more ps _ t u h.1.1 unended p))

-- the passes of a run so far, which are so many
abbrev pub Made : ℕ → Stand → Type 0
Made made t = (ps : List Did) × ((length ps ≡ made) × LeadsTo blank_stand ps t)

pub made_more : (made : ℕ) (t u : Stand) → t.ended ≡ false → Made made t → IsPass t u → Made (made + 1) u
made_more made t u unended h p =
    let long = length-append h.0 (p.did ∷ []) in
    let n = h.1.0 in
    (h.0 ++ (p.did ∷ []), (omega (arith, long, n), passes_more h.0 blank_stand t u h.1.1 unended p))

-- ---- the beginning

pub start_rests : (r : Running) → r.progress ≡ blank_progress → Rests r.progress 6138 278528 16
start_rests r e =
    subst (λ (p : Progress). Rests p 6138 278528 16) (sym e)
    (record {
      within = record { start = omega arith; stop = omega arith };
      short = omega arith;
      size_of_input = omega arith;
      size_of_output = omega arith;
      few = omega arith;
    })

pub start_is_blank : (r : Running) (bytes out : List ℕ) → r.progress ≡ blank_progress → r.table ≡ replicate 8 zero_process →
    stand_of r (replicate 16 0) bytes out ≡ blank_stand
start_is_blank r bytes out e f = ap₂ (λ p t. stand_at p t (replicate 16 0) bytes out) e f
