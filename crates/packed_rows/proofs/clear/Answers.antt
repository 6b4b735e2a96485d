-- A record of which every number is 0 has 369 words that are.
use mathlib.Core.Path.{sym}
use Rattle.packed_rows.proofs.Rows.{zero_words}
use Rattle.packed_rows.proofs.clear.Goals as goal

pub returns : goal.returns
returns c = sym zero_words
