-- The runner's passes: in each, one read gives bytes, the laps run on them, and their lines are written. What a read gives and
-- whether a write is taken is the system's; a pass is a function of it.
use Rattle.std.specs.Prelude.{ℕ, ◌≡◌, Bool, true, false, cond, List, [], ◌∷◌, ◌++◌, length}
use Rattle.streams.specs.System.{IsSent}
use Rattle.streams.specs.Input.{Gave, filled}
use Rattle.laps.specs.Laps.{Stand, blank_stand, ran}

-- a run once a read gave g; the lines of the pass before it are gone
abbrev pub given : Stand → Gave → Stand
given s g = record { box = s.box; input = filled s.input g; lines = []; ended = s.ended }

-- a pass, whose read gave g, and whose lines were taken or not: then all is done
abbrev pub after_pass : Stand → Gave → Bool → Stand
after_pass s g went =
    let t = ran (given s g) in
    record { box = t.box; input = t.input; lines = t.lines; ended = cond went t.ended true }

-- what the system did in a pass
pub record Did : Type 0 where
  pub gave : Gave
  pub went : Bool

-- one pass of the code: the system did something, and its lines were written
pub record IsPass (s t : Stand) : Type 0 where
  pub did : Did
  pub stands : t ≡ after_pass s did.gave did.went
  pub sent : IsSent t.lines did.went

-- ---- a whole run

-- passes from s on to t, each of a run that has not ended, whose lines are written
abbrev pub LeadsTo : Stand → List Did → Stand → Type 0
LeadsTo s [] t = s ≡ t
LeadsTo s (p ∷ ps) t =
    let m = after_pass s p.gave p.went in
    (s.ended ≡ false) × (IsSent m.lines p.went × LeadsTo m ps t)

-- what they write, in order
abbrev pub output_of : Stand → List Did → List ℕ
output_of s [] = []
output_of s (p ∷ ps) = let t = after_pass s p.gave p.went in t.lines ++ output_of t ps

-- the run of the code, from the beginning to t: it makes passes until all is done, or as many as it counts
pub record IsRun (most : ℕ) (t : Stand) : Type 0 where
  pub did : List Did
  pub passes : LeadsTo blank_stand did t
  pub all : t.ended ≡ false → length did ≡ most

-- ---- what is assumed of the system

-- what the reads of these passes gave
abbrev pub gave_in : List Did → List Gave
gave_in [] = []
gave_in (p ∷ ps) = p.gave ∷ gave_in ps

-- their writes are taken
abbrev pub Taken : List Did → Type 0
Taken [] = Unit {0}
Taken (p ∷ ps) = (p.went ≡ true) × Taken ps
