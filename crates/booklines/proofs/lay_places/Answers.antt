-- `booklines::lay_places` meets its contract.
use native.Mathlib.Omega.{arith}
use mathlib.Core.List.{[]}
use Rattle.texts.proofs.Laying.{lays_nothing, lays_more}
use Rattle.booklines.specs.PlaceText.{place_text}
use Rattle.booklines.proofs.lay_places.Goals as goal

pub loop-place-init : goal.loop-place-init
loop-place-init c = (omega arith, lays_nothing _)

pub loop-place-preserved : goal.loop-place-preserved
loop-place-preserved c =
    let a = c.args in (
      omega arith,
      lays_more (place_text a.n) _ c.loop-place.place-index [] c.loop-place-test.true (omega arith) c.loop-place.invariant.1
          c.lay_place.ensures.laid,
    )
