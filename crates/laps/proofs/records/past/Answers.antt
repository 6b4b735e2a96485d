-- `laps::records::past` meets its contract: a record that was found ends within the input.
use Prim.Native.Nat.{ℕ}
use mathlib.Core.Path.{◌≡◌, refl, sym, ap, ap₂, ◌∙◌}
use Rattle.snapshot.specs.declared.Day.{Day}
use Rattle.snapshot.specs.declared.Request.{Request}
use Rattle.dayfile.specs.declared.Reading.{Reading}
use Rattle.dayfile.specs.declared.Reading.TheVariants.{Found, End, Refused}
use Rattle.snapshot.specs.Values.{words_in, lasts_in}
use Rattle.daytext.specs.Buffer.{laid_place}
use Rattle.laps.specs.declared.records.Progress.{Progress}
use Rattle.daylines.specs.Printed.{line_of, is_end}
use Rattle.laps.specs.Progress.{closed_progress, progress_past}
use Rattle.laps.proofs.records.past.Goals as goal

-- where no record was found
past-closed : (p : Progress) (d : Day) (w : ℕ) (x : Reading) → ((r : Request) (n : ℕ) → x ≡ Found r n → ⊥) →
    closed_progress p d w (is_end x) ≡ progress_past p d w x
unfolding progress_past
past-closed p d w (Found r n) k = absurd (k r n refl)
past-closed p d w End k = refl
past-closed p d w (Refused r) k = refl

pub returns-in_default : goal.returns-in_default
returns-in_default c =
    let a = c.args in
    let lay = c.lay-written.ensures in
    record {
      value = c.closed.ensures ∙ ap₂ (closed_progress a.at a.o.day) lay.value c.is_end.ensures
          ∙ past-closed a.at a.o.day _ a.x c.in_default.not-Found;
      out_after = lay.out_after;
    }

pub returns : goal.returns
unfolding progress_past
returns c =
    let a = c.args in
    let lay = c.lay-written.ensures in
    let k = c.in-Found in
    let n = a.o.day.count in
    let w = laid_place (line_of a.o a.x) (words_in n a.page.now) (lasts_in n a.page.now) a.out.now a.at.written in
    record {
      value = ap (λ v. progress_past a.at a.o.day v (Found k.record k.next)) lay.value
          ∙ sym (ap (progress_past a.at a.o.day w) k.is);
      out_after = lay.out_after;
    }
