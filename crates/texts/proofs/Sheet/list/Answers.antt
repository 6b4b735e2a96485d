use Prim.Native.Nat.{ℕ, zero, suc, ◌+◌, ◌*◌, ◌≤◌, ◌<◌}
use native.Mathlib.Omega.{arith}
use native.Mathlib.Nat.{not-suc-le-zero}
use native.Mathlib.Numerals.{add-one}
use mathlib.Core.Path.{◌≡◌, sym, ap, ◌∙◌}
use mathlib.Core.List.{List, [], ◌∷◌, ◌++◌, map, append_assoc, append-nil}
use lib.ListN.{length, get_or, take}
use borrow.Author.Rules.{rules}
use Rattle.texts.specs.Laying.{spaced}
use Rattle.texts.proofs.Laying.{lays_then, lays_as}
use Rattle.texts.proofs.Sheet.list.Goals as goal

-- one number more
spaced-more : {A : Type 0} (f : A → List ℕ) (ns : List A) (i : ℕ) (z : A) → i < length ns
    → spaced (map f (take i ns)) ++ (32 ∷ f (get_or ns i z)) ≡ spaced (map f (take (suc i) ns))
spaced-more f [] i z h = absurd (not-suc-le-zero h)
spaced-more f (n ∷ ns) zero z h = ap (λ s. 32 ∷ s) (sym (append-nil (f n)))
spaced-more f (n ∷ ns) (suc i) z h =
    ap (λ s. 32 ∷ s)
    (append_assoc (f n) (spaced (map f (take i ns))) (32 ∷ f (get_or ns i z)) ∙ ap (λ s. f n ++ s) (spaced-more f ns i z (omega arith)))

pub loop-n-preserved : goal.loop-n-preserved
loop-n-preserved g c =
    let i = c.loop-n.n-index in
    let f = g.N.Number.numeral in
    let ns = c.args.ns.now in
    let n = c.n-item.result in
    let room : (g.N.Number.MOST + 1) * i + (g.N.Number.MOST + 1) ≤ (g.N.Number.MOST + 1) * length ns = search rules in
    let one = lays_then (omega arith) c.byte.ensures c.number.ensures.laid in
    let all = lays_then (omega arith) c.loop-n.invariant.1 one in
    let more : spaced (map f (take i ns)) ++ (32 ∷ f n) ≡ spaced (map f (take (i + 1) ns))
    = ap (λ x. spaced (map f (take i ns)) ++ (32 ∷ f x)) c.n-item.is
    ∙ spaced-more f ns i n c.loop-n-test.true
    ∙ ap (λ k. spaced (map f (take k ns))) (sym (add-one i)) in
    (search rules, lays_as (append_assoc c.args.text.now (spaced (map f (take i ns))) (32 ∷ f n) ∙ ap (λ t. c.args.text.now ++ t) more) all)
