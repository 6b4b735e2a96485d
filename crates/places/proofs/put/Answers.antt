-- `places::put` meets its contract: the place is looked for, room is made, and it is stored.
use Rattle.places.proofs.Spots.{put_nowhere, put_there}
use Rattle.places.proofs.put.Goals as goal

pub returns-then-book-count : goal.returns-then-book-count
returns-then-book-count c = put_nowhere _ _ _ c.if-book-count.true

pub returns : goal.returns
returns c =
    put_there _ _ _ c.spot-i.result c.copy_within.new.self c.if-book-count.false c.spot-i.ensures.value
    c.copy_within.ensures.after
