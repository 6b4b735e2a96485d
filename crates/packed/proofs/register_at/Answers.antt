-- `packed::register_at` meets its contract.
use mathlib.Core.Path.{sym, ap, ◌∙◌}
use lib.Seq.{drop-drop, get_or-drop}
use Rattle.packed.specs.Packing.{unpack_view}
use Rattle.packed.proofs.register_at.Goals as goal

pub returns : goal.returns
returns c =
    let x = c.args in
    let ws = x.w.now in
    let view = c.view_at.ensures ∙ ap (unpack_view 8) (sym (drop-drop 3 x.a ws)) in
    λ i. record {
      value = c.value_at.ensures i;
      seq = sym (get_or-drop x.a ws 2 0) i;
      view = view i;
      at = sym (get_or-drop x.a ws 19 0) i;
    }
