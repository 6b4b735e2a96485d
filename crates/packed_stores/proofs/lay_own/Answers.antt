-- `packed_stores::lay_own` meets its contract.
use mathlib.Core.Path.{◌∙◌}
use Rattle.packed_stores.proofs.Stored.{stored_whole}
use Rattle.packed_stores.proofs.lay_own.Goals as goal

pub returns : goal.returns
returns c =
    let x = c.args in
    let stored = c.lay_register.ensures in
    record {
      w_after = stored.w_after ∙ stored_whole x.w.now x.r 0 stored.view_len;
      view_len = stored.view_len;
    }
