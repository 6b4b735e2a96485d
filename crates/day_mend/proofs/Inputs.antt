-- Which parts are written of an input.
use mathlib.Core.Path.{◌≡◌, ap, ◌∙◌}
use mathlib.Core.Bool.{true, false, cond}
use mathlib.Core.List.{[]}
use Rattle.mending.specs.Mending.{parts_of}
use Rattle.streams.specs.Input.{Incoming}
use Rattle.day_mend.specs.Runs.{parts_written}

module _ (i : Incoming) where
  pub unread_none : i.failed ≡ true → parts_written i ≡ []
  unfolding parts_written
  unread_none failed = ap (λ b. cond b [] (cond i.last (parts_of i.left) [])) failed

  module _ (read : i.failed ≡ false) where
    pub cut_none : i.last ≡ false → parts_written i ≡ []
    unfolding parts_written
    cut_none more =
        ap (λ b. cond b [] (cond i.last (parts_of i.left) [])) read ∙ ap (λ b. cond b (parts_of i.left) []) more

    pub whole_parts : i.last ≡ true → parts_written i ≡ parts_of i.left
    unfolding parts_written
    whole_parts last =
        ap (λ b. cond b [] (cond i.last (parts_of i.left) [])) read ∙ ap (λ b. cond b (parts_of i.left) []) last
