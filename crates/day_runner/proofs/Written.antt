-- What a run writes: `printed` of its file, however the reads cut it (`day_printed`); where a read fails, the lines of the records
-- that came whole (`day_cut_off`); and at any time a beginning of it (`day_begun`).
use Prim.Native.Nat.{ℕ, suc, ◌+◌, ◌≤◌, ◌<◌}
use native.Mathlib.Omega.{arith}
use native.Mathlib.Nat.{le_refl}
use mathlib.Core.Path.{◌≡◌, refl, sym, ap, subst, ◌∙◌}
use mathlib.Core.Bool.{Bool, true, false, true≢false}
use mathlib.Core.List.{List, [], ◌∷◌, ◌++◌, append_assoc, append-nil}
use lib.ListN.{length, length-append}
use Rattle.days.specs.Happenings.{day_of}
use Rattle.daylines.specs.Printed.{printed, printed_until}
use Rattle.streams.specs.Input.{Gave, came, interrupted, fault, filled, Gives, ReadsFile, interruption, interruptions}
use Rattle.laps.specs.Laps.{Stand, blank_stand, ran}
use Rattle.day_runner.specs.Passes.{given, after_pass, Did, LeadsTo, output_of, IsRun, gave_in, Taken}
use Rattle.laps.proofs.Printing.{prints, Closes, lasting, lasting_prints, Pays, closes, waits, expecting, expecting_prints}

-- ---- the laps of a pass

lasting_ran : (s : Stand) (f : Bool) → let l = s.input.left in Closes f s.box l [] (ran (lasting s.box l f []))
unfolding ran
lasting_ran s f =
    let l = s.input.left in
    lasting_prints (suc (length l)) s.box l f [] (le_refl (suc (length l)))

expecting_ran : (s : Stand) (c : List ℕ) → let l = s.input.left ++ c in Pays s.box l [] (ran (expecting s.box l []))
unfolding ran
expecting_ran s c =
    let l = s.input.left ++ c in
    expecting_prints (suc (length l)) s.box l [] (le_refl (suc (length l)))

-- ---- one pass

-- a pass has written what a file prints, of which `after` is left; or what it has written and what is still to print are that
data PassPays (s : Stand) (g : Gave) (file after : List ℕ) (t : Stand) : Type 0 where
  ends : t.ended ≡ true → t.lines ≡ prints false s.box (s.input.left ++ file) → PassPays s g file after t
  rests : t.ended ≡ false →
      ((f : Bool) → t.lines ++ prints f t.box (t.input.left ++ after) ≡ prints f s.box (s.input.left ++ file)) →
      suc (length after) ≤ length file + interruption g →
      PassPays s g file after t

pays_pass : {s t : Stand} (g : Gave) (c file after : List ℕ) → Pays s.box (s.input.left ++ c) [] t → file ≡ c ++ after →
    suc (length after) ≤ length file + interruption g → PassPays s g file after t
pays_pass {s} g c file after (closes e p) cut fewer =
    ends e (p after ∙ ap (prints false s.box) (append_assoc s.input.left c after ∙ ap (λ bs. s.input.left ++ bs) (sym cut)))
pays_pass {s} g c file after (waits e short p) cut fewer =
    rests e
    (λ f. p f after ∙ ap (prints f s.box) (append_assoc s.input.left c after ∙ ap (λ bs. s.input.left ++ bs) (sym cut))) fewer

module _ (s : Stand) (unended : s.ended ≡ false) where
  abbrev l : List ℕ
  l = s.input.left

  -- the laps, by how the run stands before them
  ran_as : (g : Gave) → ran (given s g) ≡ ran (record { box = s.box; input = filled s.input g; lines = []; ended = false })
  ran_as g = ap (λ e. ran (record { box = s.box; input = filled s.input g; lines = []; ended = e })) unended

  pass_pays : (g : Gave) (file after : List ℕ) → Gives g file after → PassPays s g file after (after_pass s g true)
  pass_pays (came []) file after h =
      let none : file ≡ [] = h.0 ∙ h.1 refl in
      let e = ran_as (came []) ∙ ap (λ bs. ran (lasting s.box bs false [])) (append-nil l) in
      let c = lasting_ran s false in
      let all = ap (prints false s.box) (sym (append-nil l) ∙ ap (λ bs. l ++ bs) (sym none)) in
      ends (ap (λ t. t.ended) e ∙ c.ended) (ap (λ t. t.lines) e ∙ c.printed ∙ all)
  pass_pays (came (x ∷ c)) file after h =
      let long = ap length h.0 ∙ length-append (x ∷ c) after in
      let e = ran_as (came (x ∷ c)) in
      pays_pass {s = s} (came (x ∷ c)) (x ∷ c) file after
      (subst (Pays s.box (l ++ (x ∷ c)) []) (sym e) (expecting_ran s (x ∷ c))) h.0 (omega (arith, long))
  pass_pays interrupted file after h =
      let e = ran_as interrupted ∙ ap (λ bs. ran (expecting s.box bs [])) (sym (append-nil l)) in
      let long = ap length h in
      pays_pass {s = s} interrupted [] file after
      (subst (Pays s.box (l ++ []) []) (sym e) (expecting_ran s [])) h (omega (arith, long))
  pass_pays fault file after h = absurd h

  -- a read that fails: the records that came whole
  fault_pays : let t = after_pass s fault true in (t.ended ≡ true) × (t.lines ≡ prints true s.box l)
  fault_pays =
      let e = ran_as fault in
      let c = lasting_ran s true in
      (ap (λ t. t.ended) e ∙ c.ended, ap (λ t. t.lines) e ∙ c.printed)

-- ---- all passes

data RunPays (s : Stand) (ps : List Did) (file rest : List ℕ) (t : Stand) : Type 0 where
  ends : t.ended ≡ true → output_of s ps ≡ prints false s.box (s.input.left ++ file) → RunPays s ps file rest t
  rests : t.ended ≡ false →
      ((f : Bool) → output_of s ps ++ prints f t.box (t.input.left ++ rest) ≡ prints f s.box (s.input.left ++ file)) →
      length ps + length rest ≤ length file + interruptions (gave_in ps) →
      RunPays s ps file rest t

-- no pass is made once all is done
no_more : {s t : Stand} (ps : List Did) → s.ended ≡ true → LeadsTo s ps t → (ps ≡ []) × (s ≡ t)
no_more [] e p = (refl, p)
no_more (q ∷ ps) e p = absurd (true≢false (sym e ∙ p.0))

-- a pass, and then those of which it is known what they pay
module _ (q : Did) (ps : List Did) (s t : Stand) (file after rest : List ℕ) where
  abbrev m : Stand
  m = after_pass s q.gave q.went

  both_pay : ((f : Bool) → m.lines ++ prints f m.box (m.input.left ++ after) ≡ prints f s.box (s.input.left ++ file)) →
      suc (length after) ≤ length file + interruption q.gave → RunPays m ps after rest t → RunPays s (q ∷ ps) file rest t
  both_pay one fewer (ends e w) = ends e (ap (λ z. m.lines ++ z) w ∙ one false)
  both_pay one fewer (rests e w n) =
      rests e (λ f. append_assoc m.lines (output_of m ps) _ ∙ ap (λ z. m.lines ++ z) (w f) ∙ one f) (omega (arith, fewer, n))

  then_pays : PassPays s q.gave file after m → LeadsTo m ps t → (m.ended ≡ false → RunPays m ps after rest t) →
      RunPays s (q ∷ ps) file rest t
  then_pays (ends e w) p later =
      let n = no_more ps e p in
      ends (sym (ap (λ z. z.ended) n.1) ∙ e) (ap (λ z. m.lines ++ output_of m z) n.0 ∙ append-nil m.lines ∙ w)
  then_pays (rests e one fewer) p later = both_pay one fewer (later e)

run_pays : (ps : List Did) (s t : Stand) → s.ended ≡ false → LeadsTo s ps t → Taken ps →
    (file rest : List ℕ) → ReadsFile (gave_in ps) file rest → RunPays s ps file rest t
run_pays [] s t u p k file rest r =
    subst (RunPays s [] file rest) p
    (rests u (λ f. ap (λ bs. prints f s.box (s.input.left ++ bs)) (sym r)) (let e = ap length r in omega (arith, e)))
run_pays (q ∷ ps) s t u p k file rest r =
    let g = q.gave in
    then_pays q ps s t file r.0 rest
    (subst (λ w. PassPays s g file r.0 (after_pass s g w)) (sym k.0) (pass_pays s u g file r.0 r.1.0)) p.1.1
    (λ e. run_pays ps (after_pass s g q.went) t e p.1.1 k.1 r.0 rest r.1.1)

-- ---- the theorems

-- for every file, every way in which its reads cut it, and an output that takes what it is given, the run ends, and what it has
-- written is what the file prints
pub day_printed : {most : ℕ} {t : Stand} (r : IsRun most t) (file rest : List ℕ) →
    ReadsFile (gave_in r.did) file rest → Taken r.did → length file + interruptions (gave_in r.did) < most →
    (t.ended ≡ true) × (output_of blank_stand r.did ≡ printed file)
unfolding day_of
day_printed {most} {t} r file rest reads taken enough = go (run_pays r.did blank_stand t refl r.passes taken file rest reads)
  where
    go : RunPays blank_stand r.did file rest t → (t.ended ≡ true) × (output_of blank_stand r.did ≡ printed file)
    go (ends e w) = (e, w)
    go (rests e w n) = let m = r.all e in absurd (omega (arith, n, m, enough))

-- before that, what it has written begins it
pub day_begun : (ps : List Did) (t : Stand) → LeadsTo blank_stand ps t → Taken ps →
    (file rest : List ℕ) → ReadsFile (gave_in ps) file rest → (more : List ℕ) × (output_of blank_stand ps ++ more ≡ printed file)
unfolding day_of
day_begun ps t p taken file rest reads = go (run_pays ps blank_stand t refl p taken file rest reads)
  where
    go : RunPays blank_stand ps file rest t → (more : List ℕ) × (output_of blank_stand ps ++ more ≡ printed file)
    go (ends e w) = ([], append-nil (output_of blank_stand ps) ∙ w)
    go (rests e w n) = (prints false t.box (t.input.left ++ rest), w false)

-- a read that fails, once the bytes of `file` came, ends the run, which has written the lines of the records that came whole
pub day_cut_off : (ps : List Did) (t : Stand) → LeadsTo blank_stand ps t → t.ended ≡ false → Taken ps →
    (file : List ℕ) → ReadsFile (gave_in ps) file [] →
    let last : List Did = record { gave = fault; went = true } ∷ [] in
    ((after_pass t fault true).ended ≡ true) × (output_of blank_stand ps ++ output_of t last ≡ printed_until file)
unfolding day_of
day_cut_off ps t p unended taken file reads = go (run_pays ps blank_stand t refl p taken file [] reads)
  where
    go : RunPays blank_stand ps file [] t →
        let last : List Did = record { gave = fault; went = true } ∷ [] in
        ((after_pass t fault true).ended ≡ true) × (output_of blank_stand ps ++ output_of t last ≡ printed_until file)
    go (ends e w) = absurd (true≢false (sym e ∙ unended))
    go (rests e w n) =
        let f = fault_pays t unended in
        let all = ap (prints true t.box) (sym (append-nil t.input.left)) in
        (f.0, ap (λ z. output_of blank_stand ps ++ z) (append-nil _ ∙ f.1 ∙ all) ∙ w true)
