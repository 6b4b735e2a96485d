-- What a run hands to the system: all of the mended file, if every write of it is taken, and else a beginning (`out_begins`); and the lines
-- of all drops, or a beginning of these (`err_begins`). `day_mend_written`, `day_mend_told` and `day_mend_refused` say it of the program as
-- it is shipped, for every file and every way in which its reads cut it.
use Prim.Native.Nat.{ℕ, ◌+◌, ◌-◌, ◌^◌, ◌≤◌, ◌<◌}
use native.Mathlib.Omega.{arith}
use mathlib.Core.Path.{◌≡◌, refl, sym, ap, ap₂, ◌∙◌}
use mathlib.Core.Bool.{Bool, true, false, cond, true≢false}
use mathlib.Core.List.{List, [], ◌∷◌, ◌++◌, append_assoc}
use lib.ListN.{length}
use Rattle.texts.proofs.Laying.{each_append}
use Rattle.mending.specs.Mending.{Part, kept_of, drops_of, parts_of, mended, dropped}
use Rattle.mender.specs.Passes.{bytes_in}
use Rattle.mender.proofs.Passing.{kept_append, drops_append}
use Rattle.mendlines.specs.DropText.{drop_text, drops_text}
use Rattle.streams.specs.Input.{ReadsFile, interruptions, incoming}
use Rattle.streams.proofs.Whole.{whole_file, whole_full}
use Rattle.day_mend.proofs.Inputs.{unread_none, cut_none}
use Rattle.day_mend.specs.Runs.{Tells, Writes, over, stops, goes_on, handed_out, handed_err, parts_written, IsMendRun}

-- ---- standard output

out_all : {at : ℕ} {telling : Bool} {parts : List Part} {went told : Bool} (w : Writes at telling parts went told) → went ≡ true →
    handed_out w ≡ kept_of parts
out_all over q = refl
out_all (stops done left sent) q = absurd (true≢false (sym q))
out_all (goes_on done {left} sent tells later) q = ap (λ bs. kept_of done ++ bs) (out_all later q) ∙ sym (kept_append done left)

pub out_begins : {at : ℕ} {telling : Bool} {parts : List Part} {went told : Bool} (w : Writes at telling parts went told) →
    (rest : List ℕ) × (kept_of parts ≡ handed_out w ++ rest)
out_begins over = ([], refl)
out_begins (stops done left sent) = (kept_of left, kept_append done left)
out_begins (goes_on done {left} sent tells later) =
    let b = out_begins later in
    (b.0, kept_append done left ∙ ap (λ bs. kept_of done ++ bs) b.1 ∙ sym (append_assoc (kept_of done) (handed_out later) b.0))

-- ---- standard error

-- the lines of parts, and of those behind them
lines_append : (at : ℕ) (done left : List Part) →
    drops_text (drops_of at (done ++ left)) ≡ drops_text (drops_of at done) ++ drops_text (drops_of (at + bytes_in done) left)
lines_append at done left = ap drops_text (drops_append at done left) ∙ each_append drop_text (drops_of at done) _

-- once a drop could not be told, none is
silent : {at : ℕ} {telling : Bool} {parts : List Part} {went told : Bool} (w : Writes at telling parts went told) → telling ≡ false →
    (told ≡ false) × (handed_err w ≡ [])
silent over q = (q, refl)
silent (stops done left sent) q = (q, refl)
silent (goes_on {at} {telling} done {next = next} sent tells later) q =
    let none = silent later (go telling q tells) in
    (none.0, ap₂ (λ b ls. cond b (drops_text (drops_of at done)) [] ++ ls) q none.1)
  where
    go : (b : Bool) → b ≡ false → Tells b (drops_text (drops_of at done)) next → next ≡ false
    go true e t = absurd (true≢false e)
    go false e t = t

err_all : {at : ℕ} {telling : Bool} {parts : List Part} {went told : Bool} (w : Writes at telling parts went told) → went ≡ true →
    told ≡ true → handed_err w ≡ drops_text (drops_of at parts)
err_all over p q = refl
err_all (stops done left sent) p q = absurd (true≢false (sym p))
err_all (goes_on {at} {telling} done {left} {told = told} sent tells later) p q =
    go telling refl ∙ ap (λ ls. drops_text (drops_of at done) ++ ls) (err_all later p q) ∙ sym (lines_append at done left)
  where
    go : (b : Bool) → telling ≡ b → cond telling (drops_text (drops_of at done)) [] ++ handed_err later ≡ drops_text (drops_of at done) ++ handed_err later
    go true e = ap (λ c. cond c (drops_text (drops_of at done)) [] ++ handed_err later) e
    go false e = absurd (true≢false (sym q ∙ (silent (goes_on {telling = telling} done sent tells later) e).0))

pub err_begins : {at : ℕ} {telling : Bool} {parts : List Part} {went told : Bool} (w : Writes at telling parts went told) →
    (rest : List ℕ) × (drops_text (drops_of at parts) ≡ handed_err w ++ rest)
err_begins over = ([], refl)
err_begins {at} (stops done left sent) = (drops_text (drops_of at (done ++ left)), refl)
err_begins (goes_on {at} {telling} done {left} sent tells later) = go telling refl (err_begins later)
  where
    go : (b : Bool) → telling ≡ b → (rest : List ℕ) × (drops_text (drops_of (at + bytes_in done) left) ≡ handed_err later ++ rest) →
        (rest : List ℕ)
        × (drops_text (drops_of at (done ++ left)) ≡ (cond telling (drops_text (drops_of at done)) [] ++ handed_err later) ++ rest)
    go true e b =
        let lines = drops_text (drops_of at done) in (
          b.0,
          lines_append at done left ∙ ap (λ ls. lines ++ ls) b.1 ∙ sym (append_assoc lines (handed_err later) b.0)
              ∙ ap (λ c. (cond c lines [] ++ handed_err later) ++ b.0) (sym e),
        )
    go false e b = (
      drops_text (drops_of at (done ++ left)),
      ap (λ ls. ls ++ drops_text (drops_of at (done ++ left)))
          (sym (silent (goes_on {telling = telling} done sent tells later) e).1),
    )

-- ---- nothing

none_both : {A : Type 0} (xs ys : List A) → xs ++ ys ≡ [] → (xs ≡ []) × (ys ≡ [])
none_both [] ys q = (refl, q)
none_both (x ∷ xs) ys q = absurd (let e = ap length q in omega arith)

-- of no parts nothing is handed on: a beginning of nothing is nothing
nothing_handed : {at : ℕ} {telling : Bool} {parts : List Part} {went told : Bool} (w : Writes at telling parts went told) → parts ≡ [] →
    (handed_out w ≡ []) × (handed_err w ≡ [])
nothing_handed {at} w q =
    let out = out_begins w in
    let err = err_begins w in (
      (none_both (handed_out w) out.0 (sym out.1 ∙ ap kept_of q)).0,
      (none_both (handed_err w) err.0 (sym err.1 ∙ ap (λ ps. drops_text (drops_of at ps)) q)).0,
    )

-- ---- the program: a buffer of 6,291,457 bytes

module _ {bytes : List ℕ} {went told : Bool} (r : IsMendRun bytes went told) (size : length bytes ≡ 6291457) (file rest : List ℕ)
    (reads : ReadsFile r.whole.gave file rest) (enough : length file + interruptions r.whole.gave < 2 ^ 64 - 1) where
  module _ (short : length file ≤ 6291456) where
    parts_are : parts_written (incoming r.input bytes) ≡ parts_of file
    unfolding parts_written
    parts_are = ap parts_written (whole_file r.whole file rest reads enough (omega (arith, short, size)))

    -- a day file of at most 6,291,456 bytes is mended, if standard output takes it
    pub day_mend_written : went ≡ true → handed_out r.wrote ≡ mended file
    day_mend_written all = out_all r.wrote all ∙ ap kept_of parts_are

    -- and all its drops are told, if standard error takes them too
    pub day_mend_told : went ≡ true → told ≡ true → handed_err r.wrote ≡ drops_text (dropped file)
    day_mend_told all lines = err_all r.wrote all lines ∙ ap (λ ps. drops_text (drops_of 0 ps)) parts_are

  -- of a longer one nothing is written
  pub day_mend_refused : 6291456 < length file → (handed_out r.wrote ≡ []) × (handed_err r.wrote ≡ [])
  day_mend_refused long =
      let full = whole_full r.whole file rest reads enough (omega (arith, long, size)) in
      nothing_handed r.wrote (cut_none (incoming r.input bytes) full.2 full.1)

-- nor where a read fails
pub day_mend_unread : {bytes : List ℕ} {went told : Bool} (r : IsMendRun bytes went told) → r.input.failed ≡ true →
    (handed_out r.wrote ≡ []) × (handed_err r.wrote ≡ [])
day_mend_unread {bytes} r failed = nothing_handed r.wrote (unread_none (incoming r.input bytes) failed)
