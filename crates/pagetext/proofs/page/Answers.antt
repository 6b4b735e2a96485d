-- `pagetext::page` meets its contract: the parts, as they are laid, are the text of a page.
use Prim.Native.Nat.{ℕ}
use native.Mathlib.Omega.{arith}
use mathlib.Core.Path.{◌≡◌}
use mathlib.Core.List.{List, ◌++◌, map, append_assoc}
use Rattle.daytext.specs.declared.Line.TheVariants.{Page}
use Rattle.texts.specs.Ascii.{ascii}
use Rattle.texts.specs.Decimal.{decimal}
use Rattle.texts.specs.Laying.{spaced}
use Rattle.daytext.specs.Lines.{body_of}
use Rattle.texts.proofs.Laying.{lays_then, lays_as}
use Rattle.pagetext.proofs.page.Goals as goal

-- the parts, as they are laid
page-text : (e p l i t : ℕ) (ws es : List ℕ)
    → (decimal e ++ (ascii " page " ++ decimal p))
    ++ (ascii " from " ++ decimal l)
    ++ (ascii " at " ++ decimal i)
    ++ (ascii " turns " ++ decimal t)
    ++ (ascii " words" ++ spaced (map decimal ws))
    ++ (ascii " last" ++ spaced (map decimal es))
    ≡ body_of (Page e p l i t) ws es
unfolding body_of
page-text e p l i t ws es = simp append_assoc

pub returns-clause-laid : goal.returns-clause-laid
returns-clause-laid c =
    let lent = lays_then (omega arith) c.pair.ensures.laid c.field.ensures.laid in
    let instant = lays_then (omega arith) lent c.field-2.ensures.laid in
    let turns = lays_then (omega arith) instant c.field-3.ensures.laid in
    let words = lays_then (omega arith) turns c.list.ensures.laid in
    lays_as (page-text _ _ _ _ _ _ _) (lays_then (omega arith) words c.list-2.ensures.laid)
