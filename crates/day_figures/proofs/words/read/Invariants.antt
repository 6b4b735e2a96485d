-- What is read so far and the rest stay what the whole word is.
use Rattle.std.proofs.Common.{◌≡◌, ◌≤◌, drop}
use Rattle.day_figures.specs.Counts.{word_of}
use Rattle.day_figures.proofs.Digits.{word_from}
use Rattle.day_figures.proofs.words.read.Given as goal

abbrev pub invariant-loop-byte : goal.invariant-loop-byte
invariant-loop-byte l = record {
  small : l.value ≤ 9;
  same : word_from l.value (drop l.byte-index l.text) ≡ word_of l.text;
}
