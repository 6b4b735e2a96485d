-- `places::page` meets its contract.
use Prim.Native.Nat.{◌+◌, ◌-◌, min}
use native.Mathlib.Omega.{arith}
use mathlib.Core.Path.{◌≡◌, ap, ◌∙◌}
use mathlib.Core.List.{◌∷◌, ◌++◌}
use lib.ListN.{length, take, drop, replicate}
use Rattle.places.proofs.Spots.{eight_shown}
use Rattle.places.proofs.page.Goals as goal

pub returns : goal.returns
returns c =
    let x = c.args in
    let ws = x.words.now in
    let shown = c.min-shown.ensures ∙ ap (λ k. min k (length ws)) c.min.ensures in
    let part : 3 + c.min-shown.result - 3 ≡ c.min-shown.result = omega arith in
    ap (λ l. x.number ∷ 3 ∷ x.process ∷ l)
    ((λ i. c.copy_from_slice.ensures.after i ++ drop (part i) (replicate 8 0))
    ∙ ap (λ k. take k ws ++ drop k (replicate 8 0)) shown ∙ eight_shown x.n ws)
