use native.Mathlib.Omega.{arith}
use Rattle.texts.proofs.Numerals.{decimal_places}
use Rattle.texts.proofs.places.Goals as goal

pub returns-then-n-lt100 : goal.returns-then-n-lt100
returns-then-n-lt100 c = decimal_places 1 _ (omega arith) (omega arith) (omega arith)

pub returns-then-n-lt1000 : goal.returns-then-n-lt1000
returns-then-n-lt1000 c = decimal_places 2 _ (omega arith) (omega arith) (omega arith)

pub returns-then-n-lt10000 : goal.returns-then-n-lt10000
returns-then-n-lt10000 c = decimal_places 3 _ (omega arith) (omega arith) (omega arith)

pub returns-then-n-lt100000 : goal.returns-then-n-lt100000
returns-then-n-lt100000 c = decimal_places 4 _ (omega arith) (omega arith) (omega arith)

pub returns-then-n-lt1000000 : goal.returns-then-n-lt1000000
returns-then-n-lt1000000 c = decimal_places 5 _ (omega arith) (omega arith) (omega arith)

pub returns-then-n-lt10000000 : goal.returns-then-n-lt10000000
returns-then-n-lt10000000 c = decimal_places 6 _ (omega arith) (omega arith) (omega arith)

pub returns-then-n-lt100000000 : goal.returns-then-n-lt100000000
returns-then-n-lt100000000 c = decimal_places 7 _ (omega arith) (omega arith) (omega arith)

pub returns-then-n-lt1000000000 : goal.returns-then-n-lt1000000000
returns-then-n-lt1000000000 c = decimal_places 8 _ (omega arith) (omega arith) (omega arith)

pub returns : goal.returns
returns c = decimal_places 9 _ (omega arith) (omega arith) (omega arith)
