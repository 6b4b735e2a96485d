-- Runs of the canonical automaton: one action more at the end, and a Scan placed where it belongs (`scan_placed`), which the
-- actions of other processes behind it do not see.
use Prim.Native.Nat.{ℕ, ◌-◌, ◌≤◌, ◌<◌}
use native.Mathlib.Omega.{arith}
use native.Mathlib.Decide.{ℕ_discrete}
use mathlib.Core.Path.{◌≡◌, refl, sym, ap, ◌∙◌, subst, fun_ext}
use mathlib.Core.Logic.{◌≢◌, by_cases}
use mathlib.Core.Bool.{Bool, true, false, cond}
use mathlib.Core.List.{List, [], ◌∷◌, ◌++◌, map}
use mathlib.Core.Option.{Option, none, some, some-ne-none}
use lib.Dec.{eqb, leb}
use lib.ListN.{set}
use borrow.Author.Tests.{eqb-true, eq-eqb, ne_eqb, le-leb, lt-leb}
use Rattle.snapshot.specs.Lists.{All, Pairs, place}
use Rattle.snapshot.specs.Canonical.{Action, UpdateRequest, ScanRequest, Update, Scan, UpdateReturn, ScanReturn}
use Rattle.snapshot.specs.Canonical.{Memory, put, Precondition, effect, Run, actor_in}
use Rattle.snapshot.specs.Canonical.{waits_after, AsksOnce, WellFormed}
use Rattle.snapshot.specs.Book.{Timed, internals}
use Rattle.snapshot.proofs.Placing.{all_imp, all_both, place_cases}

-- ---- interface variables

module _ (H : ℕ → Option Action) (i : ℕ) (v : Option Action) where
  pub put_same : put H i v i ≡ v
  put_same = ap (λ b. cond b v (H i)) (eq-eqb i i refl)

  pub put_other : (j : ℕ) → j ≢ i → put H i v j ≡ H j
  put_other j q = ap (λ b. cond b v (H j)) (ne_eqb j i q)

  -- what stands there already
  pub put_self : H i ≡ v → put H i v ≡ H
  put_self q = fun_ext (λ j. by_cases (ℕ_discrete j i) (λ e. ap (put H i v) e ∙ put_same ∙ sym q ∙ ap H (sym e)) (put_other j))

  pub put_twice : (w : Option Action) → put (put H i w) i v ≡ put H i v
  put_twice w = fun_ext (λ j. go j (eqb j i))
    where
      go : (j : ℕ) (b : Bool) → cond b v (cond b w (H j)) ≡ cond b v (H j)
      go j true = refl
      go j false = refl

  pub put_apart : (k : ℕ) (w : Option Action) → i ≢ k → put (put H i v) k w ≡ put (put H k w) i v
  put_apart k w q = fun_ext (λ j. go j (eqb j i) (eqb j k) refl refl)
    where
      go : (j : ℕ) (a b : Bool) → eqb j i ≡ a → eqb j k ≡ b → cond b w (cond a v (H j)) ≡ cond a v (cond b w (H j))
      go j true true p r = absurd (q (sym (eqb-true j i p) ∙ eqb-true j k r))
      go j true false p r = refl
      go j false true p r = refl
      go j false false p r = refl

-- ---- what an action does, by its two parts

abbrev pub mem_after : List ℕ → Action → List ℕ
mem_after m (UpdateRequest i k d) = m
mem_after m (ScanRequest i) = m
mem_after m (Update i k d) = set m (k - 1) d
mem_after m (Scan i ds) = m
mem_after m (UpdateReturn i) = m
mem_after m (ScanReturn i ds) = m

abbrev leaves : Action → Option Action
leaves (UpdateRequest i k d) = some (UpdateRequest i k d)
leaves (ScanRequest i) = some (ScanRequest i)
leaves (Update i k d) = some (UpdateReturn i)
leaves (Scan i ds) = some (ScanReturn i ds)
leaves (UpdateReturn i) = none
leaves (ScanReturn i ds) = none

abbrev memory : List ℕ → (ℕ → Option Action) → Memory
memory m H = record { Mem = m; H = H }

pub effect_parts : (s : Memory) (a : Action) → effect s a ≡ memory (mem_after s.Mem a) (put s.H (actor_in a) (leaves a))
effect_parts s (UpdateRequest i k d) = refl
effect_parts s (ScanRequest i) = refl
effect_parts s (Update i k d) = refl
effect_parts s (Scan i ds) = refl
effect_parts s (UpdateReturn i) = refl
effect_parts s (ScanReturn i ds) = refl

-- ---- the internal actions of a run

-- a run of actions at their numbers
abbrev pub RunAt : Memory → List Timed → Memory → Type 0
RunAt s l u = Run s (map (λ a. a.1) l) u

-- each Scan shows Mem, which the Updates before it make
abbrev ScanShows : List ℕ → Action → Type 0
ScanShows rows (UpdateRequest i k d) = Unit {0}
ScanShows rows (ScanRequest i) = Unit {0}
ScanShows rows (Update i k d) = Unit {0}
ScanShows rows (Scan i ds) = rows ≡ ds
ScanShows rows (UpdateReturn i) = Unit {0}
ScanShows rows (ScanReturn i ds) = Unit {0}

abbrev pub AllShow : List ℕ → List Timed → Type 0
AllShow rows [] = Unit {0}
AllShow rows (a ∷ l) = ScanShows rows a.1 × AllShow (mem_after rows a.1) l

pub run_shows : (l : List Timed) (s u : Memory) → RunAt s l u → AllShow s.Mem (internals l)
run_shows [] s u r = tt
run_shows (a ∷ l) s u r = go a.0 a.1 r.0 (run_shows l (effect s a.1) u r.1)
  where
    go : (k : ℕ) (a : Action) → Precondition s a → AllShow (effect s a).Mem (internals l) → AllShow s.Mem (internals ((k, a) ∷ l))
    go k (UpdateRequest i j d) p h = h
    go k (ScanRequest i) p h = h
    go k (Update i j d) p h = (tt, h)
    go k (Scan i ds) p h = (p.1, h)
    go k (UpdateReturn i) p h = h
    go k (ScanReturn i ds) p h = h

-- ---- actions of other processes

module _ (d : ℕ) (v : Option Action) where
  -- the state with v for H_d
  abbrev pub with : Memory → Memory
  with s = memory s.Mem (put s.H d v)

  enabled_with : (s : Memory) (a : Action) → actor_in a ≢ d → Precondition s a → Precondition (with s) a
  enabled_with s (UpdateRequest i k w) q p = tt
  enabled_with s (ScanRequest i) q p = tt
  enabled_with s (Update i k w) q p = put_other s.H d v i q ∙ p
  enabled_with s (Scan i ds) q p = (put_other s.H d v i q ∙ p.0, p.1)
  enabled_with s (UpdateReturn i) q p = put_other s.H d v i q ∙ p
  enabled_with s (ScanReturn i ds) q p = put_other s.H d v i q ∙ p

  effect_with : (s : Memory) (a : Action) → actor_in a ≢ d → with (effect s a) ≡ effect (with s) a
  effect_with s a q =
      ap with (effect_parts s a)
      ∙ ap (memory (mem_after s.Mem a)) (put_apart s.H (actor_in a) (leaves a) d v q)
      ∙ sym (effect_parts (with s) a)

abbrev pub Others : ℕ → Timed → Type 0
Others d a = actor_in a.1 ≢ d

pub run_with : (d : ℕ) (v : Option Action) (l : List Timed) (s u : Memory) → All (Others d) l → RunAt s l u → RunAt (with d v s) l (with d v u)
run_with d v [] s u q r = ap (with d v) r
run_with d v (a ∷ l) s u q r = (
  enabled_with d v s a.1 q.0 r.0,
  subst (λ z. RunAt z l (with d v u)) (effect_with d v s a.1 q.0) (run_with d v l (effect s a.1) u q.1 r.1),
)

pub run_keeps : (d : ℕ) (l : List Timed) (s u : Memory) → All (Others d) l → RunAt s l u → s.H d ≡ u.H d
run_keeps d [] s u q r = ap (λ z. z.H d) r
run_keeps d (a ∷ l) s u q r =
    sym (ap (λ z. z.H d) (effect_parts s a.1) ∙ put_other s.H (actor_in a.1) (leaves a.1) d (λ e. q.0 (sym e)))
    ∙ run_keeps d l (effect s a.1) u q.1 r.1

-- ---- one action more at the end

pub run_last : (l : List Timed) (a : Timed) (s u : Memory) → RunAt s l u → Precondition u a.1 → RunAt s (l ++ (a ∷ [])) (effect u a.1)
run_last [] a s u r p = (subst (λ z. Precondition z a.1) (sym r) p, ap (λ z. effect z a.1) r)
run_last (b ∷ l) a s u r p = (r.0, run_last l a (effect s b.1) u r.1 p)

-- ---- Mem at an instant

-- once all that are numbered e or less happened
abbrev pub mem_at : ℕ → List ℕ → List Timed → List ℕ
mem_at e m [] = m
mem_at e m (a ∷ l) = cond (leb a.0 e) (mem_at e (mem_after m a.1) l) m

module _ (e : ℕ) where
  -- the first is numbered e or less, or it is not
  pub mem_past : (m : List ℕ) (a : Timed) (l : List Timed) → a.0 ≤ e → mem_at e m (a ∷ l) ≡ mem_at e (mem_after m a.1) l
  mem_past m a l q = ap (λ b. cond b (mem_at e (mem_after m a.1) l) m) (le-leb a.0 e q)

  pub mem_future : (m : List ℕ) (a : Timed) (l : List Timed) → e < a.0 → mem_at e m (a ∷ l) ≡ m
  mem_future m a l q = ap (λ b. cond b (mem_at e (mem_after m a.1) l) m) (lt-leb a.0 e q)

  pub mem_last : (m : List ℕ) (l : List Timed) (a : Timed) → e < a.0 → mem_at e m (l ++ (a ∷ [])) ≡ mem_at e m l
  mem_last m [] a q = mem_future m a [] q
  mem_last m (b ∷ l) a q = ap (λ k. cond (leb b.0 e) k m) (mem_last (mem_after m b.1) l a q)

  -- at the end of a run
  pub mem_end : (l : List Timed) (s u : Memory) → All (λ a. a.0 ≤ e) l → RunAt s l u → mem_at e s.Mem l ≡ u.Mem
  mem_end [] s u q r = ap (λ z. z.Mem) r
  mem_end (a ∷ l) s u q r =
      mem_past s.Mem a l q.0
      ∙ ap (λ m. mem_at e m l) (ap (λ z. z.Mem) (sym (effect_parts s a.1)))
      ∙ mem_end l (effect s a.1) u q.1 r.1

-- ---- a Scan in its place

module _ (k d : ℕ) (ds : List ℕ) where
  abbrev scan_at : Timed
  scan_at = (k, Scan d ds)

  abbrev pub scanned : List Timed → List Timed
  scanned l = place (λ a. a.0) scan_at l

  -- it changes no Mem
  pub mem_scanned : (e : ℕ) (m : List ℕ) (l : List Timed) → mem_at e m (scanned l) ≡ mem_at e m l
  mem_scanned e m [] = go (leb k e)
    where
      go : (b : Bool) → cond b m m ≡ m
      go true = refl
      go false = refl
  mem_scanned e m (a ∷ l) =
      place_cases (λ a. a.0) scan_at (λ z. mem_at e m z ≡ mem_at e m (a ∷ l)) a l
      (λ q. ap (λ z. cond (leb a.0 e) z m) (mem_scanned e (mem_after m a.1) l))
      (λ q. by_cases (ℕ_discrete 0 (k - e))
      (λ z. mem_past e m scan_at (a ∷ l) (omega (arith, z)))
      (λ z. mem_future e m scan_at (a ∷ l) (omega (arith, z)) ∙ sym (mem_future e m a l (omega (arith, q, z)))))

  -- process d asked before k and did nothing since; the words at k are ds
  pub scan_placed : (l : List Timed) (s u : Memory) → Pairs (λ a b. a.0 ≤ b.0) l → All (λ a. actor_in a.1 ≡ d → a.0 ≤ k) l →
      u.H d ≡ some (ScanRequest d) → mem_at k s.Mem l ≡ ds → RunAt s l u → RunAt s (scanned l) (with d (some (ScanReturn d ds)) u)
  scan_placed [] s u up still asks shows r =
      ((ap (λ z. z.H d) r ∙ asks, shows), ap (with d (some (ScanReturn d ds))) r)
  scan_placed (a ∷ l) s u up still asks shows r =
      place_cases (λ a. a.0) scan_at (λ z. RunAt s z (with d (some (ScanReturn d ds)) u)) a l
      (λ q. (
        r.0,
        scan_placed l (effect s a.1) u up.1 still.1 asks
            (ap (λ m. mem_at k m l) (ap (λ z. z.Mem) (effect_parts s a.1)) ∙ sym (mem_past k s.Mem a l q) ∙ shows) r.1,
      ))
      (λ q.
      let others : All (Others d) (a ∷ l) =
      all_both (λ b. k < b.0) (λ b. actor_in b.1 ≡ d → b.0 ≤ k) (Others d) (λ b p h e. let g = h e in omega (arith, p, g)) (a ∷ l)
      (q, all_imp (λ b. a.0 ≤ b.0) (λ b. k < b.0) (λ b p. omega (arith, p, q)) l up.0) still in (
        (run_keeps d (a ∷ l) s u others r ∙ asks, sym (mem_future k s.Mem a l q) ∙ shows),
        run_with d (some (ScanReturn d ds)) (a ∷ l) s u others r,
      ))

-- ---- well-formed

abbrev pub waits_end : (ℕ → Bool) → List Timed → ℕ → Bool
waits_end w [] = w
waits_end w (a ∷ l) = waits_end (waits_after w a.1) l

abbrev pub WellFormedAt : (ℕ → Bool) → List Timed → Type 0
WellFormedAt w l = WellFormed w (map (λ a. a.1) l)

pub well_formed_last : (w : ℕ → Bool) (l : List Timed) (a : Timed) → WellFormedAt w l → AsksOnce (waits_end w l) a.1 →
    WellFormedAt w (l ++ (a ∷ []))
well_formed_last w [] a h p = (p, tt)
well_formed_last w (b ∷ l) a h p = (h.0, well_formed_last (waits_after w b.1) l a h.1 p)

pub well_formed_scanned : (k d : ℕ) (ds : List ℕ) (w : ℕ → Bool) (l : List Timed) → WellFormedAt w l → WellFormedAt w (scanned k d ds l)
well_formed_scanned k d ds w [] h = (tt, tt)
well_formed_scanned k d ds w (a ∷ l) h =
    place_cases (λ a. a.0) (k, Scan d ds) (WellFormedAt w) a l
    (λ q. (h.0, well_formed_scanned k d ds (waits_after w a.1) l h.1)) (λ q. (tt, h))

-- whose H is ⊥ does not wait
abbrev pub Rests : Memory → (ℕ → Bool) → Type 0
Rests s w = (j : ℕ) → s.H j ≡ none → w j ≡ false

module _ (s : Memory) (w : ℕ → Bool) (h : Rests s w) where
  rests_asked : (i : ℕ) (a : Action) → (j : ℕ) → put s.H i (some a) j ≡ none → (b : Bool) → eqb j i ≡ b → cond b true (w j) ≡ false
  rests_asked i a j p true q = absurd (some-ne-none a (sym (ap (λ b. cond b (some a) (s.H j)) q) ∙ p))
  rests_asked i a j p false q = h j (sym (ap (λ b. cond b (some a) (s.H j)) q) ∙ p)

  rests_inside : (i : ℕ) (a : Action) → (j : ℕ) → put s.H i (some a) j ≡ none → (b : Bool) → eqb j i ≡ b → w j ≡ false
  rests_inside i a j p true q = absurd (some-ne-none a (sym (ap (λ b. cond b (some a) (s.H j)) q) ∙ p))
  rests_inside i a j p false q = h j (sym (ap (λ b. cond b (some a) (s.H j)) q) ∙ p)

  rests_answered : (i j : ℕ) → put s.H i none j ≡ none → (b : Bool) → eqb j i ≡ b → cond b false (w j) ≡ false
  rests_answered i j p true q = refl
  rests_answered i j p false q = h j (sym (ap (λ b. cond b none (s.H j)) q) ∙ p)

  rests_after : (a : Action) → Rests (effect s a) (waits_after w a)
  rests_after (UpdateRequest i k d) j p = rests_asked i (UpdateRequest i k d) j p (eqb j i) refl
  rests_after (ScanRequest i) j p = rests_asked i (ScanRequest i) j p (eqb j i) refl
  rests_after (Update i k d) j p = rests_inside i (UpdateReturn i) j p (eqb j i) refl
  rests_after (Scan i ds) j p = rests_inside i (ScanReturn i ds) j p (eqb j i) refl
  rests_after (UpdateReturn i) j p = rests_answered i j p (eqb j i) refl
  rests_after (ScanReturn i ds) j p = rests_answered i j p (eqb j i) refl

pub rests_end : (l : List Timed) (s u : Memory) (w : ℕ → Bool) → Rests s w → RunAt s l u → Rests u (waits_end w l)
rests_end [] s u w h r = subst (λ z. Rests z w) r h
rests_end (a ∷ l) s u w h r = rests_end l (effect s a.1) u (waits_after w a.1) (rests_after s w h a.1) r.1
