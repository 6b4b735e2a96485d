-- The seven words of a reply in a table are the fields of the struct that the reply to a single request is, in the order in which
-- they lie there.
use Prim.Native.Nat.{ℕ}
use mathlib.Core.Path.{◌≡◌, refl}
use lib.ListN.{get_or}
use mir.Syntax.{w32}
use mir.Val.{Val, Vals, vnil, vunit, vbool, vint, vfloat, vptr, vcode, vstruct}
use mir.Fields.{get_v}
use Rattle.numbers.specs.declared.ReplyNumbers.{ReplyNumbers}
use Rattle.numbers.specs.Replies.{reply_words}
use Rattle.numbers.proofs.ReplyNumbers.TheLaws as R

-- the machine values of a struct's fields, in the order in which they lie
abbrev fields_of : Val → Vals
fields_of vunit = vnil
fields_of (vbool b) = vnil
fields_of (vint w n) = vnil
fields_of (vfloat f x) = vnil
fields_of (vptr b o) = vnil
fields_of (vcode s) = vnil
fields_of (vstruct vs) = vs

pub reply_laid : (r : ReplyNumbers) →
    let Laid : ℕ → Type 0 = λ j. get_v (fields_of (R.lowers.lowered r)) j ≡ vint w32 (get_or (reply_words r) j 0) in
    Laid 0 × Laid 1 × Laid 2 × Laid 3 × Laid 4 × Laid 5 × Laid 6
reply_laid r = (refl, refl, refl, refl, refl, refl, refl)
