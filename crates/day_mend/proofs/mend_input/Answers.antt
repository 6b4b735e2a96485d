-- What is written of an input, by how its reads ended.
use Rattle.std.proofs.Common.{true, refl, sym, ap, ◌∙◌, subst, rules}
use Rattle.mending.specs.Mending.{parts_of}
use Rattle.streams.specs.Input.{incoming}
use Rattle.streams.proofs.Whole.{front_left}
use Rattle.day_mend.specs.Runs.{Writes, parts_written}
use Rattle.day_mend.proofs.Inputs.{unread_none, cut_none, whole_parts}
use Rattle.day_mend.proofs.Passed.{none_written}
use Rattle.day_mend.proofs.mend_input.Goals as goal

pub returns-then-input : goal.returns-then-input
returns-then-input c =
    let a = c.args in
    let i = incoming a.input a.bytes.now in
    none_written (parts_written i) _ _ (unread_none i c.if-input.true) refl refl

pub returns-then-not-input : goal.returns-then-not-input
returns-then-not-input c =
    let a = c.args in
    let i = incoming a.input a.bytes.now in
    none_written (parts_written i) _ _ (cut_none i c.if-input.false (search rules)) refl refl

pub returns : goal.returns
returns c =
    let a = c.args in
    let i = incoming a.input a.bytes.now in
    let w = c.mend.result in
    let parts = whole_parts i c.if-input.false (search rules) ∙ ap parts_of (front_left a.input a.bytes.now c.requires.0) in
    subst (λ ps. Writes 0 true ps w.went w.told) (sym parts) c.mend.ensures
