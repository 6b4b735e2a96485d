-- `booklines::lay_place` meets its contract.
use Prim.Native.Nat.{◌+◌, ◌-◌, ◌≤◌}
use native.Mathlib.Omega.{arith}
use mathlib.Core.Path.{◌≡◌, ap₂, ◌∙◌}
use mathlib.Core.List.{[]}
use lib.ListN.{length, take, drop, length-take}
use Rattle.daytext.specs.Buffer.{laid_place, laid_text}
use Rattle.booklines.proofs.Laying.{place_book_line, line_laid}
use Rattle.booklines.proofs.lay_place.Goals as goal

pub returns : goal.returns
returns c =
    let a = c.args in
    let p = a.place.now in
    let s = a.sheet.now in
    let line = c.line_of.ensures in
    let shown : 3 + a.n - 3 ≡ a.n = omega arith in
    let few : length (take a.n (drop 3 p)) ≤ 8 = simp length-take (omega arith) in
    let both =
    line_laid (place_book_line p) (take a.n (drop 3 p)) few c.requires.1 c.lay.ensures.same_buffer
    (c.lay.ensures.value ∙ ap₂ (λ l k. laid_place l (take k (drop 3 p)) [] s.out.now s.at) line shown)
    (c.lay.ensures.out_after ∙ ap₂ (λ l k. laid_text l (take k (drop 3 p)) [] s.out.now s.at) line shown)
    in
    record { laid = both.0; upper_bound = both.1 }
