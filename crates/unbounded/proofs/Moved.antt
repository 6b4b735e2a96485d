-- Laws of the test that finds who moved.
use Prim.Native.Nat.{ℕ}
use mathlib.Core.Path.{◌≡◌, sym, ap, ◌∙◌}
use mathlib.Core.Logic.{◌≢◌}
use mathlib.Core.Bool.{true, false, not, false≢true}
use mathlib.Core.List.{List}
use lib.Dec.{eqb}
use borrow.Author.Tests.{eqb-true, eq-eqb, ne_eqb, not-false}
use Rattle.unbounded.specs.declared.Register.{Register}
use Rattle.unbounded.specs.Registers.{Order, collected_at, differs}

module _ (o : Order) (a b : List Register) (j : ℕ) where
  pub differs_false : differs o a b j ≡ false → (collected_at o a j).seq ≡ (collected_at o b j).seq
  unfolding differs
  differs_false h =
      let x = (collected_at o a j).seq in
      let y = (collected_at o b j).seq in
      eqb-true x y (not-false (eqb x y) h)

  pub differs_true : differs o a b j ≡ true → (collected_at o a j).seq ≢ (collected_at o b j).seq
  unfolding differs
  differs_true h e = false≢true (sym (ap not (eq-eqb (collected_at o a j).seq (collected_at o b j).seq e)) ∙ h)

  pub same_seqs : (collected_at o a j).seq ≡ (collected_at o b j).seq → differs o a b j ≡ false
  unfolding differs
  same_seqs e = rw (eq-eqb (collected_at o a j).seq (collected_at o b j).seq e)

  pub other_seqs : (collected_at o a j).seq ≢ (collected_at o b j).seq → differs o a b j ≡ true
  unfolding differs
  other_seqs e = rw (ne_eqb (collected_at o a j).seq (collected_at o b j).seq e)
