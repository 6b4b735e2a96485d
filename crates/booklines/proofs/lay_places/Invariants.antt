-- What the loop of `booklines::lay_places` keeps: the lines of the places so far are laid.
use Prim.Native.Nat.{◌+◌, ◌*◌, ◌≤◌}
use lib.ListN.{take}
use Rattle.texts.specs.Laying.{Lays}
use Rattle.booklines.specs.PlaceText.{places_text, longest_place}
use Rattle.booklines.proofs.lay_places.Given as goal

abbrev pub invariant-loop-place : goal.invariant-loop-place
invariant-loop-place l = (l.sheet.at ≤ l.fn.sheet.at + longest_place * l.place-index) × Lays l.fn.sheet (places_text l.n (take l.place-index l.places)) l.sheet
