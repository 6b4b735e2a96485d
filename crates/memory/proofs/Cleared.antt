-- Every record cleared, from the front.
use Prim.Native.Nat.{ℕ, ◌+◌, ◌<◌}
use native.Mathlib.Omega.{arith}
use mathlib.Core.Path.{◌≡◌, sym, ap, ◌∙◌}
use mathlib.Core.List.{List, map, ◌++◌, append-nil}
use lib.ListN.{length, set, length-map}
use lib.Seq.{take_all, drop-length}
use Rattle.snapshot.specs.Lists.{over}
use Rattle.snapshot.proofs.Lists.{over_more, get_d_map_below}

pub cleared_more : {A : Type 0} (w : A) (t₀ t : List A) (i : ℕ) → i < length t₀ → t ≡ over i (map (λ v. w) t₀) t₀ →
    set t i w ≡ over (i + 1) (map (λ v. w) t₀) t₀
cleared_more w t₀ t i l e =
    let long = length-map t₀ (λ v. w) in
    let last = sym (get_d_map_below (λ v. w) t₀ i w w l) in
    (λ k. set (e k) i (last k))
    ∙ over_more i (map (λ v. w) t₀) t₀ w (omega arith) l

pub cleared_all : {A : Type 0} (w : A) (t : List A) (i : ℕ) → i ≡ length t → over i (map (λ v. w) t) t ≡ map (λ v. w) t
cleared_all w t i e =
    let long = length-map t (λ v. w) in
    ap (λ (n : ℕ). over n (map (λ v. w) t) t) e
    ∙ (λ k. take_all (length t) (map (λ v. w) t) (omega arith) k ++ drop-length t k)
    ∙ append-nil (map (λ v. w) t)
