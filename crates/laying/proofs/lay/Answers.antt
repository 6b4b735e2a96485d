use native.Mathlib.Omega.{arith}
use mathlib.Core.Path.{refl, sym, ◌∙◌}
use Rattle.daytext.specs.Lines.{text_of}
use Rattle.texts.proofs.Laying.{lays_then}
use Rattle.daytext.proofs.Room.{laid_with_room, kept_with_more_words, kept_with_fewer_bytes}
use Rattle.laying.proofs.lay.Goals as goal

pub returns-then-words-gt16 : goal.returns-then-words-gt16
returns-then-words-gt16 c =
    let e = kept_with_more_words _ _ _ _ _ (omega arith) in
    record { same_buffer = record { same_name = refl; same_length = refl }; value = sym e.0; out_after = sym e.1 }

pub returns-then-words-lasts : goal.returns-then-words-lasts
returns-then-words-lasts c =
    let e = kept_with_more_words _ _ _ _ _ (omega arith) in
    record { same_buffer = record { same_name = refl; same_length = refl }; value = sym e.0; out_after = sym e.1 }

pub returns-then-sheet-lt-LONGEST : goal.returns-then-sheet-lt-LONGEST
returns-then-sheet-lt-LONGEST c =
    let e = kept_with_fewer_bytes _ _ _ _ _ (omega arith) (omega arith) in
    record { same_buffer = record { same_name = refl; same_length = refl }; value = sym e.0; out_after = sym e.1 }

pub returns-then-sheet : goal.returns-then-sheet
returns-then-sheet c =
    let e = kept_with_fewer_bytes _ _ _ _ _ (omega arith) (omega arith) in
    record { same_buffer = record { same_name = refl; same_length = refl }; value = sym e.0; out_after = sym e.1 }

pub returns : goal.returns
unfolding text_of
returns c =
    let args = c.args in
    let sheet = args.sheet.now in
    let line = lays_then (omega arith) c.body.ensures.laid c.byte.ensures in
    let goal = laid_with_room args.line args.words.now args.lasts.now sheet.out.now sheet.at (omega arith) (omega arith) in
    record {
      same_buffer = line.buffer;
      value = line.laid.end ∙ sym goal.0;
      out_after = line.laid.buffer ∙ sym goal.1;
    }
