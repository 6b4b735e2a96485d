-- `dayfile::span` meets its contract.
use borrow.Author.Rules.{rules}
use Rattle.dayfile.specs.Pieces.{span_of}
use Rattle.dayfile.proofs.span.Goals as goal

pub returns-in-Found : goal.returns-in-Found
unfolding span_of
returns-in-Found c = search rules

pub returns-in-End : goal.returns-in-End
unfolding span_of
returns-in-End c = search rules
