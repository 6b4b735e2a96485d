-- `dayfile::length_of` meets its contract.
use Prim.Native.Nat.{ℕ, zero, suc}
use native.Mathlib.Omega.{arith}
use mathlib.Core.Path.{◌≡◌, refl, sym, ap}
use mathlib.Core.Logic.{◌≢◌}
use Rattle.dayfile.specs.Layout.{length_of}
use Rattle.dayfile.proofs.length_of.Goals as goal

-- any other kind has no length
unknown : (kind : ℕ) → kind ≢ 1 → kind ≢ 2 → kind ≢ 3 → kind ≢ 4 → length_of kind ≡ 0
unfolding length_of
unknown zero a b c d = refl
unknown (suc zero) a b c d = absurd (a refl)
unknown (suc (suc zero)) a b c d = absurd (b refl)
unknown (suc (suc (suc zero))) a b c d = absurd (c refl)
unknown (suc (suc (suc (suc zero)))) a b c d = absurd (d refl)
unknown (suc (suc (suc (suc (suc k))))) a b c d = refl

pub returns-in-1 : goal.returns-in-1
unfolding length_of
returns-in-1 c = (sym (ap length_of c.in-1.is), omega arith)

pub returns-in-2 : goal.returns-in-2
unfolding length_of
returns-in-2 c = (sym (ap length_of c.in-2.is), omega arith)

pub returns-in-3 : goal.returns-in-3
unfolding length_of
returns-in-3 c = (sym (ap length_of c.in-3.is), omega arith)

pub returns-in-4 : goal.returns-in-4
unfolding length_of
returns-in-4 c = (sym (ap length_of c.in-4.is), omega arith)

pub returns-in_default : goal.returns-in_default
returns-in_default c = unknown c.args.kind (omega arith) (omega arith) (omega arith) (omega arith)
