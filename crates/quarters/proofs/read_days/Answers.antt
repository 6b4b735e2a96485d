-- One file more.
use Rattle.std.proofs.Common.{ℕ, ◌≡◌, ◌+◌, ◌-◌, length, arith, sym, subst}
use Rattle.quarters.specs.Days.{AreRead}
use Rattle.quarters.proofs.Days.{one_more}
use Rattle.quarters.proofs.read_days.Goals as goal

pub loop-i-preserved : goal.loop-i-preserved
loop-i-preserved g c =
    let l = c.loop-i in
    let add = c.add_day-count in
    let here = l.auto.i in
    let more : l.i - 2 + 1 ≡ l.i + 1 - 2 = omega (arith, here) in
    let Read : ℕ → ℕ → Type 0 = λ files size. AreRead files size c.args.answers.now add.new.answers add.result in
    subst (λ size. Read (l.i + 1 - 2) size) (sym add.auto.bytes)
    (subst (λ files. Read files (length l.bytes)) more
    (one_more (l.i - 2) (length l.bytes) c.args.answers.now l.answers l.count add.new.answers add.result l.invariant add.ensures))
