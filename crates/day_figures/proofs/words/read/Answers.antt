-- A word of no byte is none, and one with a byte is read from 0 on.
use Rattle.std.proofs.Common.{suc, ◌∙◌, sym, ap, ap₂, arith, drop, slice_index_or, add-one, drop-cons, rules}
use Rattle.day_figures.proofs.Digits.{word_from, one_digit, no_bytes, some_bytes}
use Rattle.day_figures.proofs.words.read.Goals as goal

pub returns-then-is_empty : goal.returns-then-is_empty
returns-then-is_empty c = no_bytes c.args.text.now (search rules)

pub loop-byte-init : goal.loop-byte-init
loop-byte-init c = record { small = omega arith; same = some_bytes c.args.text.now (search rules) }

pub loop-byte-preserved : goal.loop-byte-preserved
loop-byte-preserved c =
    let l = c.loop-byte in
    let text = c.args.text.now in
    let i = l.byte-index in
    let said = c.with_digit-value.ensures in
    record {
      small = said.upper_bound;
      same = ap₂ (λ v j. word_from v (drop j text)) said.value (add-one i)
          ∙ one_digit l.value (slice_index_or text i 0) (drop (suc i) text) (search rules) (search rules)
          ∙ sym (ap (word_from l.value) (drop-cons text i 0 (omega arith)))
          ∙ l.invariant.same;
    }
