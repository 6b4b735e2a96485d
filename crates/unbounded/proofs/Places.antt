-- Laws of a register laid into a place: up to its first n values of view, the place then holds just that register.
use Prim.Native.Nat.{ℕ, ◌<◌}
use mathlib.Core.Path.{◌≡◌, sym, ap, ◌∙◌}
use mathlib.Core.Logic.{◌≢◌}
use mathlib.Core.List.{List}
use lib.ListN.{length, get_or, take, length-set}
use lib.Seq.{get_or-set_same, get_or-set_other}
use Rattle.snapshot.specs.Values.{zero_value}
use Rattle.snapshot.proofs.Lists.{take_over, length_each, get_d_each}
use Rattle.unbounded.specs.declared.Register.{Register}
use Rattle.unbounded.specs.Registers.{no_register, value, trimmed, Order, collected_at, page_of, laid, read_into}

pub trimmed_laid : (n : ℕ) (r old : Register) → length (take n r.view) ≡ n → trimmed n (laid n r old) ≡ trimmed n r
unfolding laid
trimmed_laid n r old l =
    ap (λ v. record { value = r.value; seq = r.seq; view = v; at = r.at }) (take_over n r.view old.view l)

module _ (n : ℕ) (r : Register) (i : ℕ) (rs : List Register) where
  pub length_read_into : length (read_into n r i rs) ≡ length rs
  unfolding read_into
  length_read_into = length-set rs i (laid n r (get_or rs i no_register))

  pub read_into_same : i < length rs → length (take n r.view) ≡ n →
      trimmed n (get_or (read_into n r i rs) i no_register) ≡ trimmed n r
  unfolding read_into
  read_into_same l m =
      ap (trimmed n) (get_or-set_same rs i (laid n r (get_or rs i no_register)) no_register l)
      ∙ trimmed_laid n r (get_or rs i no_register) m

  pub read_into_other : (k : ℕ) → k ≢ i → get_or (read_into n r i rs) k no_register ≡ get_or rs k no_register
  unfolding read_into
  read_into_other k h = get_or-set_other rs i k (laid n r (get_or rs i no_register)) no_register h

-- ---- the page that a collect shows

module _ (o : Order) (n : ℕ) (rs : List Register) where
  pub page_of_long : length (page_of o n rs) ≡ n
  unfolding page_of
  page_of_long = length_each n (λ j. value (collected_at o rs j))

  pub page_of_at : (j : ℕ) → j < n → value (collected_at o rs j) ≡ get_or (page_of o n rs) j zero_value
  unfolding page_of
  page_of_at j l = sym (get_d_each n (λ i. value (collected_at o rs i)) j zero_value l)
