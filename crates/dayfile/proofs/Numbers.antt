-- Numbers as bytes: k bytes hold the numbers below 256 ^ k, wherever they stand.
use Prim.Native.Nat.{ℕ, zero, suc, ◌+◌, ◌/◌, ◌%◌, ◌^◌, ◌<◌}
use native.Mathlib.Omega.{arith}
use mathlib.Core.Path.{◌≡◌}
use mathlib.Core.List.{List, [], ◌∷◌, ◌++◌}
use lib.ListN.{length, get_or, length-append}
use lib.Seq.{append_snoc, get_or-append_seam}
use Rattle.dayfile.specs.Layout.{bytes_of, number_at}

-- whatever stands before and after them, the k bytes of a number are read as that number
pub number_read_back : (k x : ℕ) (before rest : List ℕ) → x < 256 ^ k → number_at k (before ++ (bytes_of k x ++ rest)) (length before) ≡ x
number_read_back zero x before rest h = omega arith
number_read_back (suc k) x before rest h =
    let low = x % 256 in
    let after = bytes_of k (x / 256) ++ rest in
    let first : get_or (before ++ (low ∷ after)) (length before) 0 ≡ low = get_or-append_seam before low after 0 in
    let back = number_read_back k (x / 256) (before ++ (low ∷ [])) rest (omega arith) in
    let others : number_at k (before ++ (low ∷ after)) (length before + 1) ≡ x / 256 = simp (append_snoc, length-append) at back in
    omega arith
