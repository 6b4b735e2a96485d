-- What a run leaves in the buffer that it hands to the system: the line of the figures of its files, however the reads cut them
-- (`figures_printed`), and nothing where one of them could not be read or does not leave a byte of the buffer, which has 2,097,153
-- (`lost_unprinted`, with `failed_lost` and `long_lost`).
use Prim.Native.Nat.{ℕ, ◌+◌, ◌-◌, ◌^◌, ◌≤◌, ◌<◌}
use native.Mathlib.Omega.{arith}
use mathlib.Core.Path.{◌≡◌, refl, ap, ap₂, subst, ◌∙◌}
use mathlib.Core.Bool.{Bool, true, false, cond, not, ◌&&◌}
use mathlib.Core.List.{List, [], ◌∷◌, ◌++◌, map}
use lib.ListN.{length}
use Rattle.figures.specs.Figures.{reckoned}
use Rattle.gathering.specs.Answers.{quarter_of}
use Rattle.figurelines.specs.FigureText.{reckoning_text}
use Rattle.texts.specs.Laying.{Laid}
use Rattle.streams.specs.System.{IsSent}
use Rattle.streams.specs.Input.{Incoming, complete, IsWhole, ReadsFile, interruptions}
use Rattle.streams.proofs.Whole.{whole_file, whole_full}
use Rattle.quarters.proofs.Days.{tried_whole}
use Rattle.quarters.specs.Days.{IsDay, AllDays, is_whole, all_whole, answers_of}
use Rattle.day_figures.specs.Runs.{written_of, IsFiguresRun}

-- ---- one file

-- the file that d came of was opened, no read of it failed, and the reads gave `file`
pub record Gave {size : ℕ} {d : Incoming} (day : IsDay size d) (file : List ℕ) : Type 0 where
  pub good : day.input.failed ≡ false
  pub rest : List ℕ
  pub reads : ReadsFile (tried_whole day.tried good).gave file rest
  pub enough : length file + interruptions (tried_whole day.tried good).gave < 2 ^ 64 - 1

module _ {size : ℕ} {d : Incoming} (day : IsDay size d) (file : List ℕ) (gave : Gave day file) where
  abbrev whole : IsWhole day.input day.bytes
  whole = tried_whole day.tried gave.good

  -- one that leaves a byte of the buffer comes whole
  came : length file < size → d ≡ complete file
  came short =
      let long = day.long in
      day.is ∙ whole_file whole file gave.rest gave.reads gave.enough (omega (arith, short, long))

  -- a longer one does not
  pub long_lost : size ≤ length file → is_whole d ≡ false
  long_lost long =
      let size_is = day.long in
      let full = whole_full whole file gave.rest gave.reads gave.enough (omega (arith, long, size_is)) in
      ap is_whole day.is ∙ ap₂ (λ f l. not f && l) full.2 full.1

-- one that could not be opened, or of which a read failed, neither
pub failed_lost : (d : Incoming) → d.failed ≡ true → is_whole d ≡ false
failed_lost d failed = ap (λ f. not f && d.last) failed

-- ---- all of them

-- each of the days came of one of the files, in order, and each file leaves a byte of the buffer
abbrev pub GaveAll : (size : ℕ) → (ds : List Incoming) → AllDays size ds → (files : List (List ℕ)) → Type 0
GaveAll size [] days [] = Unit {0}
GaveAll size [] days (file ∷ files) = ⊥
GaveAll size (d ∷ ds) days [] = ⊥
GaveAll size (d ∷ ds) days (file ∷ files) = Gave days.0 file × (length file < size) × GaveAll size ds days.1 files

all_came : (size : ℕ) (ds : List Incoming) (days : AllDays size ds) (files : List (List ℕ)) → GaveAll size ds days files →
    ds ≡ map complete files
all_came size [] days [] gave = refl
all_came size [] days (file ∷ files) gave = absurd gave
all_came size (d ∷ ds) days [] gave = absurd gave
all_came size (d ∷ ds) days (file ∷ files) gave =
    ap₂ {C = List Incoming} (λ e es. e ∷ es) (came days.0 file gave.0 gave.1) (all_came size ds days.1 files gave.2)

complete_whole : (files : List (List ℕ)) → all_whole (map complete files) ≡ true
complete_whole [] = refl
complete_whole (file ∷ files) = complete_whole files

complete_files : (files : List (List ℕ)) → map (λ d. d.left) (map complete files) ≡ files
complete_files [] = refl
complete_files (file ∷ files) = ap {B = List (List ℕ)} (λ fs. file ∷ fs) (complete_files files)

one_lost : (ds : List Incoming) (d : Incoming) (es : List Incoming) → is_whole d ≡ false → all_whole (ds ++ d ∷ es) ≡ false
one_lost [] d es lost = ap (λ b. b && all_whole es) lost
one_lost (e ∷ ds) d es lost = ap (λ b. is_whole e && b) (one_lost ds d es lost) ∙ and_false (is_whole e)
  where
    and_false : (b : Bool) → (b && false) ≡ false
    and_false true = refl
    and_false false = refl

-- ---- the run

-- what a run leaves at the start of its buffer, and hands to the system
abbrev pub Prints : (text before out : List ℕ) (end : ℕ) (went : Bool) → Type 0
Prints text before out end went = Laid before 0 text out end × IsSent text went

module _ {desks names size : ℕ} {before out : List ℕ} {went : Bool} (r : IsFiguresRun desks names size before out went) where
  as_text : (text : List ℕ) → written_of desks r.days ≡ text → Prints text before out r.end went
  as_text text is = subst (λ t. Prints t before out r.end went) is (r.laid, r.sent)

  pub figures_printed : (files : List (List ℕ)) → GaveAll size r.days r.tried files →
      Prints (reckoning_text desks (reckoned desks (quarter_of files))) before out r.end went
  figures_printed files gave =
      as_text (reckoning_text desks (reckoned desks (quarter_of files)))
      (ap (written_of desks) (all_came size r.days r.tried files gave)
      ∙ ap₂ (λ b fs. cond b (reckoning_text desks (reckoned desks (quarter_of fs))) []) (complete_whole files) (complete_files files))

  -- where one day did not come whole, whichever it is, nothing is written
  pub lost_unprinted : (ds : List Incoming) (d : Incoming) (es : List Incoming) → r.days ≡ ds ++ d ∷ es → is_whole d ≡ false →
      Prints [] before out r.end went
  lost_unprinted ds d es is lost =
      let line = reckoning_text desks (reckoned desks (answers_of r.days)) in
      as_text [] (ap (λ b. cond b line []) (ap all_whole is ∙ one_lost ds d es lost))
