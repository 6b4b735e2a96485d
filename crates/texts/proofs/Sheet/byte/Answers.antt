use mathlib.Core.Path.{refl}
use borrow.Author.Rules.{rules}
use Rattle.texts.proofs.Laying.{laid_byte}
use Rattle.texts.proofs.Sheet.byte.Goals as goal

pub returns : goal.returns
returns c =
    record {
      buffer = record { same_name = refl; same_length = search rules };
      laid = record { buffer = laid_byte _ _ _ (search rules); end = refl };
    }
