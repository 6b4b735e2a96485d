-- `booklines::has_room` meets its contract.
use borrow.Author.Tests.{le-leb, lt-leb}
use Rattle.booklines.specs.PlaceText.{has_room}
use Rattle.booklines.proofs.has_room.Goals as goal

pub returns-then-places-count : goal.returns-then-places-count
unfolding has_room
returns-then-places-count c = simp (lt-leb _ _ c.if-places-count.true)

pub returns-then-count-gt-MOST : goal.returns-then-count-gt-MOST
unfolding has_room
returns-then-count-gt-MOST c = simp (le-leb _ _ c.if-places-count.false, lt-leb _ _ c.if-count-gt-MOST.true)

pub returns-then-n-gt8 : goal.returns-then-n-gt8
unfolding has_room
returns-then-n-gt8 c = simp (le-leb _ _ c.if-places-count.false, le-leb _ _ c.if-count-gt-MOST.false, lt-leb _ _ c.if-n-gt8.true)

pub returns : goal.returns
unfolding has_room
returns c = simp (le-leb _ _ c.if-places-count.false, le-leb _ _ c.if-count-gt-MOST.false, le-leb _ _ c.if-n-gt8.false)
