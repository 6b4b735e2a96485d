-- What the last writing of a list leaves, of a list that goes on, and an instant later.
use Prim.Native.Nat.{ℕ, suc, ◌≤◌}
use native.Mathlib.Omega.{arith}
use mathlib.Core.Path.{◌≡◌, refl, sym, ap, ◌∙◌}
use mathlib.Core.Bool.{cond, ◌&&◌}
use mathlib.Core.List.{List, [], ◌∷◌, ◌++◌}
use lib.Dec.{eqb}
use borrow.Author.Tests.{le-leb}
use Rattle.snapshot.specs.declared.Value.{Value}
use Rattle.snapshot.specs.Lists.{All}
use Rattle.snapshot.specs.Values.{stored}
use Rattle.snapshot.specs.LastWritings.{Writing, last_of}

pub last_append : (j e : ℕ) (ws us : List Writing) (v : Value) → last_of j e v (ws ++ us) ≡ last_of j e (last_of j e v ws) us
last_append j e [] us v = refl
last_append j e (w ∷ ws) us v = last_append j e ws us _

-- writings numbered at most e
abbrev pub Until : ℕ → List Writing → Type 0
Until e ws = All (λ w. w.number ≤ e) ws

pub until_next : (e : ℕ) (ws : List Writing) → Until e ws → Until (suc e) ws
until_next e [] a = tt
until_next e (w ∷ ws) a = (let l = a.0 in omega arith, until_next e ws a.1)

-- an instant later they are the last ones still
pub last_later : (j e : ℕ) (ws : List Writing) → Until e ws → (v : Value) → last_of j (suc e) v ws ≡ last_of j e v ws
last_later j e [] a v = refl
last_later j e (w ∷ ws) a v =
    let l = a.0 in
    let seen = le-leb w.number (suc e) (omega arith) ∙ sym (le-leb w.number e l) in
    ap (λ b. last_of j (suc e) (cond (eqb w.place j && b) (stored w.number w.word) v) ws) seen
    ∙ last_later j e ws a.1 _
