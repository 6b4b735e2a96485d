-- What is laid of an input, by how its reads ended.
use Rattle.std.proofs.Common.{sym, ap, length, ◌∙◌, rules}
use Rattle.texts.proofs.Laying.{laid_as, none_laid}
use Rattle.streams.specs.Input.{incoming}
use Rattle.streams.proofs.Whole.{front_left}
use Rattle.day_book.specs.Runs.{book_of}
use Rattle.day_book.proofs.Inputs.{unread_unwritten, cut_unwritten, whole_written}
use Rattle.day_book.proofs.lay_input.Goals as goal

pub returns-then-input : goal.returns-then-input
returns-then-input c =
    let a = c.args in none_laid a.out.now (unread_unwritten _ (incoming a.input a.bytes.now) c.if-input.true)

pub returns-then-not-input : goal.returns-then-not-input
returns-then-not-input c =
    let a = c.args in
    none_laid a.out.now (cut_unwritten _ (incoming a.input a.bytes.now) c.if-input.false (search rules))

pub returns : goal.returns
returns c =
    let a = c.args in
    let places = length a.places.now in
    let all = whole_written places (incoming a.input a.bytes.now) c.if-input.false (search rules) in
    laid_as (sym (all ∙ ap (book_of places) (front_left a.input a.bytes.now c.requires.0))) c.lay.ensures
