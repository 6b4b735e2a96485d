-- A register more is clear after each turn of the loop, and all of them after the last.
use native.Mathlib.Omega.{arith}
use mathlib.Core.Path.{ap, ◌∙◌}
use mathlib.Core.List.{◌++◌, map}
use lib.ListN.{get_or, set, length-map}
use Rattle.std.proofs.lemmas.List.{take_all, drop_all, append-nil}
use Rattle.unbounded.specs.Registers.{no_register, zero_register, laid}
use Rattle.unbounded_turns.proofs.Clearing.{clear_more}
use Rattle.unbounded_own.proofs.clear.Goals as goal

pub loop-r-preserved : goal.loop-r-preserved
loop-r-preserved c =
    let n = c.args.n in
    let rs = c.args.rs.now in
    let l = c.loop-r in
    let i = l.r-index in
    ap (set l.rs i) (c.lay.ensures ∙ (λ t. laid n (c.no_register-none.ensures t) (get_or l.rs i no_register)))
    ∙ ap (λ cs. set cs i (laid n zero_register (get_or cs i no_register))) l.invariant
    ∙ clear_more n i zero_register rs c.loop-r-test.true

pub returns : goal.returns
returns c =
    let rs = c.args.rs.now in
    let l = c.loop-r in
    let cleared = map (laid c.args.n zero_register) rs in
    let long = length-map rs (laid c.args.n zero_register) in
    l.invariant
    ∙ (λ t. take_all l.r-index cleared (omega arith) t ++ drop_all l.r-index rs (omega arith) t)
    ∙ append-nil cleared
