use mathlib.Core.Path.{refl, sym, ap}
use Prim.Native.Nat.{◌+◌}
use borrow.Author.Rules.{rules}
use Rattle.texts.proofs.Numerals.{length_last_digits}
use Rattle.texts.proofs.Sheet.numeral.Goals as goal

pub returns : goal.returns
returns c =
    let a = c.args in
    record {
      buffer = record { same_name = refl; same_length = search rules };
      laid = record { buffer = c.digits.ensures; end = ap (λ k. a.self.now.at + k) (sym (length_last_digits a.k a.n)) };
    }
