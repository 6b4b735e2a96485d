-- What the laps on a run's bytes lay: the lines of the file that they begin (`expecting_prints`), or, where no more will come, of all
-- that is left (`lasting_prints`).
use Prim.Native.Nat.{ℕ, zero, suc, ◌≤◌, ◌<◌}
use native.Mathlib.Omega.{arith}
use native.Mathlib.Nat.{not-suc-le-zero}
use mathlib.Core.Path.{◌≡◌, refl, sym, ap, ◌∙◌}
use mathlib.Core.Bool.{Bool, true, false, cond}
use mathlib.Core.List.{List, [], ◌∷◌, ◌++◌, append_assoc, append-nil}
use lib.ListN.{length, drop, length-drop}
use lib.Seq.{drop-append-le}
use lib.Dec.{leb}
use borrow.Author.Tests.{leb-true, leb-false}
use Rattle.snapshot.specs.declared.Refusal.{Refusal}
use Rattle.snapshot.specs.declared.Request.{Request}
use Rattle.dayfile.specs.Reader.{reading}
use Rattle.dayfile.specs.Files.{read_on, readings}
use Rattle.dayfile.specs.declared.Reading.{Reading}
use Rattle.dayfile.specs.declared.Reading.TheVariants.{Found, End, Refused}
use Rattle.dayfile.proofs.Reader.{found_consumes, refused_some}
use Rattle.dayfile.proofs.Files.{readings_unfold}
use Rattle.dayfile.proofs.Prefix.{reading_prefix}
use Rattle.days.specs.Happenings.{Box, box_after, happening_in, happenings, records_in}
use Rattle.daytext.specs.Lines.{text_of, body_of}
use Rattle.daylines.specs.Printed.{line_in, lines_of, printout}
use Rattle.laps.specs.Laps.{Stand, lap_on, lap, laps}
use Rattle.laps.proofs.Laps.{laps_over}

-- ---- what a file prints, the first line first

-- what is printed of what was read, where a read failed after it or not
abbrev prints_of : (failed : Bool) → Box → List Reading → List ℕ
prints_of false b xs = printout b.day (happenings b xs)
prints_of true b xs = lines_of (records_in (happenings b xs))

abbrev pub prints : (failed : Bool) → Box → List ℕ → List ℕ
prints f b bs = prints_of f b (readings bs)

module _ (f : Bool) (b : Box) (bs : List ℕ) where
  prints_by : (x : Reading) → reading bs ≡ x → prints f b bs ≡ prints_of f b (read_on readings bs x)
  prints_by x q = ap (prints_of f b) (readings_unfold bs ∙ ap (read_on readings bs) q)

  prints_found : (r : Request) (next : ℕ) → reading bs ≡ Found r next →
      let x = Found r next in prints f b bs ≡ line_in (happening_in b x) ++ prints f (box_after b x) (drop next bs)
  unfolding printout
  prints_found r next q = prints_by (Found r next) q ∙ go f
    where
      go : (f : Bool) → let x = Found r next in
          prints_of f b (x ∷ readings (drop next bs)) ≡ line_in (happening_in b x) ++ prints_of f (box_after b x) (readings (drop next bs))
      go false = append_assoc (line_in (happening_in b (Found r next))) _ _
      go true = refl

  prints_end : reading bs ≡ End → prints f b bs ≡ cond f [] (line_in (happening_in b End))
  unfolding printout text_of body_of
  prints_end q = prints_by End q ∙ go f
    where
      go : (f : Bool) → prints_of f b [] ≡ cond f [] (line_in (happening_in b End))
      go false = refl
      go true = refl

  prints_refused : (k : Refusal) → reading bs ≡ Refused k →
      let x = Refused k in prints f b bs ≡ cond f [] (line_in (happening_in b x) ++ prints false (box_after b x) [])
  unfolding printout reading
  prints_refused k q = prints_by (Refused k) q ∙ go f
    where
      nothing : prints false (box_after b (Refused k)) [] ≡ prints_of false (box_after b (Refused k)) []
      nothing = ap (prints_of false (box_after b (Refused k))) (readings_unfold [])

      go : (f : Bool) → let x = Refused k in
          prints_of f b (x ∷ []) ≡ cond f [] (line_in (happening_in b x) ++ prints false (box_after b x) [])
      go false =
          append_assoc (line_in (happening_in b (Refused k))) [] _
          ∙ ap (λ t. line_in (happening_in b (Refused k)) ++ t) (sym nothing)
      go true = refl

-- ---- laps where no more will come

abbrev pub lasting : Box → (left : List ℕ) (failed : Bool) (lines : List ℕ) → Stand
lasting b left f lines = record { box = b; input = record { left = left; last = true; failed = f }; lines = lines; ended = false }

pub record Closes (failed : Bool) (b : Box) (bs lines : List ℕ) (t : Stand) : Type 0 where
  pub ended : t.ended ≡ true
  pub printed : t.lines ≡ lines ++ prints failed b bs

pub lasting_prints : (k : ℕ) (b : Box) (left : List ℕ) (f : Bool) (lines : List ℕ) → length left < k →
    Closes f b left lines (laps k (lasting b left f lines))
unfolding lap
lasting_prints zero b left f lines l = absurd (not-suc-le-zero l)
lasting_prints (suc k) b left f lines l = go (reading left) refl f (lasting_prints k)
  where
    Later : Type 0
    Later =
        (b : Box) (left : List ℕ) (f : Bool) (lines : List ℕ) → length left < k →
        Closes f b left lines (laps k (lasting b left f lines))

    go : (x : Reading) → reading left ≡ x → (f : Bool) → Later → Closes f b left lines (laps k (lap_on (lasting b left f lines) x))
    go (Found r next) q f later =
        let x = Found r next in
        let line = line_in (happening_in b x) in
        let c = found_consumes left r next q in
        let rest = later (box_after b x) (drop next left) f (lines ++ line) (simp length-drop (omega arith)) in
        record {
          ended = rest.ended;
          printed = rest.printed ∙ append_assoc lines line _ ∙ ap (λ t. lines ++ t) (sym (prints_found f b left r next q));
        }
    go End q true later =
        let s = lap_on (lasting b left true lines) End in
        let stays = laps_over s k refl in
        record {
          ended = ap (λ t. t.ended) stays;
          printed = ap (λ t. t.lines) stays ∙ sym (append-nil lines) ∙ ap (λ t. lines ++ t) (sym (prints_end true b left q));
        }
    go End q false later =
        let s = lap_on (lasting b left false lines) End in
        let stays = laps_over s k refl in
        record {
          ended = ap (λ t. t.ended) stays;
          printed = ap (λ t. t.lines) stays ∙ ap (λ t. lines ++ t) (sym (prints_end false b left q));
        }
    go (Refused c) q true later =
        let s = lap_on (lasting b left true lines) (Refused c) in
        let stays = laps_over s k refl in
        record {
          ended = ap (λ t. t.ended) stays;
          printed = ap (λ t. t.lines) stays ∙ sym (append-nil lines) ∙ ap (λ t. lines ++ t) (sym (prints_refused true b left c q));
        }
    go (Refused c) q false later =
        let x = Refused c in
        let line = line_in (happening_in b x) in
        let some = refused_some left c q in
        let rest = later (box_after b x) [] false (lines ++ line) (omega (arith, some, l)) in
        record {
          ended = rest.ended;
          printed = rest.printed ∙ append_assoc lines line _ ∙ ap (λ t. lines ++ t) (sym (prints_refused false b left c q));
        }

-- ---- laps where more may come

abbrev pub expecting : Box → (left lines : List ℕ) → Stand
expecting b left lines = record { box = b; input = record { left = left; last = false; failed = false }; lines = lines; ended = false }

-- the laps have ended the file, whatever comes after it; or they wait for more, with the same still to print
pub data Pays (b : Box) (left lines : List ℕ) (t : Stand) : Type 0 where
  closes : t.ended ≡ true → ((rest : List ℕ) → t.lines ≡ lines ++ prints false b (left ++ rest)) → Pays b left lines t
  waits : t.ended ≡ false → length t.input.left < 10 →
      ((f : Bool) (rest : List ℕ) → t.lines ++ prints f t.box (t.input.left ++ rest) ≡ lines ++ prints f b (left ++ rest)) →
      Pays b left lines t

pub expecting_prints : (k : ℕ) (b : Box) (left lines : List ℕ) → length left < k → Pays b left lines (laps k (expecting b left lines))
unfolding lap
expecting_prints zero b left lines l = absurd (not-suc-le-zero l)
expecting_prints (suc k) b left lines l = test (leb 10 (length left)) refl (expecting_prints k)
  where
    Later : Type 0
    Later = (b : Box) (left lines : List ℕ) → length left < k → Pays b left lines (laps k (expecting b left lines))

    go : 10 ≤ length left → (x : Reading) → reading left ≡ x → Later → Pays b left lines (laps k (lap_on (expecting b left lines) x))
    go ten (Found r next) q later =
        let x = Found r next in
        let line = line_in (happening_in b x) in
        let c = found_consumes left r next q in
        found (laps k (lap_on (expecting b left lines) x))
        (later (box_after b x) (drop next left) (lines ++ line) (simp length-drop (omega arith)))
      where
        same : (f : Bool) (rest : List ℕ) → let x = Found r next in
            (lines ++ line_in (happening_in b x)) ++ prints f (box_after b x) (drop next left ++ rest)
            ≡ lines ++ prints f b (left ++ rest)
        same f rest =
            let x = Found r next in
            let c = found_consumes left r next q in
            append_assoc lines (line_in (happening_in b x)) _
            ∙ ap (λ bs. lines ++ (line_in (happening_in b x) ++ prints f (box_after b x) bs)) (sym (drop-append-le next left rest c.1))
            ∙ ap (λ t. lines ++ t) (sym (prints_found f b (left ++ rest) r next (reading_prefix left rest ten ∙ q)))

        found : (t : Stand) → let x = Found r next in
            Pays (box_after b x) (drop next left) (lines ++ line_in (happening_in b x)) t → Pays b left lines t
        found t (closes e p) = closes e (λ rest. p rest ∙ same false rest)
        found t (waits e short p) = waits e short (λ f rest. p f rest ∙ same f rest)
    go ten End q later =
        let s = lap_on (expecting b left lines) End in
        let stays = laps_over s k refl in
        closes (ap (λ t. t.ended) stays)
        (λ rest. ap (λ t. t.lines) stays
        ∙ ap (λ t. lines ++ t) (sym (prints_end false b (left ++ rest) (reading_prefix left rest ten ∙ q))))
    go ten (Refused c) q later =
        let x = Refused c in
        let line = line_in (happening_in b x) in
        let rest_of = lasting_prints k (box_after b x) [] false (lines ++ line) (omega (arith, ten, l)) in
        closes rest_of.ended
        (λ rest. rest_of.printed ∙ append_assoc lines line _
        ∙ ap (λ t. lines ++ t) (sym (prints_refused false b (left ++ rest) c (reading_prefix left rest ten ∙ q))))

    test : (c : Bool) → leb 10 (length left) ≡ c → Later →
        Pays b left lines (cond c (laps k (lap_on (expecting b left lines) (reading left))) (expecting b left lines))
    test true e later = go (leb-true 10 (length left) e) (reading left) refl later
    test false e later = waits refl (leb-false 10 (length left) e) (λ f rest. refl)
