-- A table beside the records that it keeps: as many, each in its place; where they are kept as they are, they are the table.
use Prim.Native.Nat.{ℕ, ◌-◌, ◌<◌}
use native.Mathlib.Omega.{arith}
use mathlib.Core.Path.{◌≡◌, refl, sym, ap, subst, ◌∙◌}
use mathlib.Core.Bool.{not}
use mathlib.Core.List.{List, [], ◌∷◌}
use lib.Dec.{T}
use lib.ListN.{length, get_or, set, length-map}
use lib.Seq.{get_or-set_same}
use Rattle.std.proofs.lemmas.List.{get_or_default}
use Rattle.snapshot.specs.Requests.{number_in}
use Rattle.snapshot.specs.declared.Request.{Request}
use Rattle.snapshot.specs.declared.Request.TheVariants.{Open, Update, Scan, Turn}
use Rattle.snapshot.proofs.Lists.{get_d_map_below}
use Rattle.requests.specs.Requests.{is_opening}
use Rattle.unbounded.specs.declared.Process.{Process}
use Rattle.unbounded.specs.declared.Task.{Task}
use Rattle.unbounded.specs.Processes.{no_process}
use Rattle.process_records.specs.Forms.{Form, plain, kept, kept_at, stored_at, left_by}

module _ {R : Type 0} (form : Form R) (t : List R) where
  pub kept_long : length (kept form t) ≡ length t
  kept_long = length-map t form.read

  pub kept_is : (i : ℕ) → i < length t → get_or (kept form t) i no_process ≡ kept_at form t i
  kept_is i l = get_d_map_below form.read t i form.absent no_process l

  -- the task that was read of record n
  pub task_is : (n i : ℕ) (k : Task) (d : R) → n ≡ i → i < length t → k ≡ (form.read (get_or t n d)).task →
      k ≡ (get_or (kept form t) i no_process).task
  task_is n i k d e l q =
      q
      ∙ ap (λ z. (form.read z).task) (get_or_default t n d form.absent (subst (λ m. m < length t) (sym e) l))
      ∙ ap (λ m. (kept_at form t m).task) e
      ∙ ap (λ p. p.task) (sym (kept_is i l))

  pub item_left : (x : Request) (ps : List Process) → T (not (is_opening x)) →
      let i = number_in x - 1 in left_by form t x ps ≡ stored_at form t i (get_or ps i no_process)
  item_left (Open k) ps o = absurd o
  item_left (Update d w) ps o = refl
  item_left (Scan d) ps o = refl
  item_left (Turn d) ps o = refl

  -- record q stored for the process of a call or a turn
  pub stored_left : (x : Request) (q : Process) (ps : List Process) → T (not (is_opening x)) → let i = number_in x - 1 in
      i < length t → set (kept form t) i q ≡ ps → stored_at form t i q ≡ left_by form t x ps
  stored_left x q ps o l e =
      let i = number_in x - 1 in
      let long = kept_long in
      ap (stored_at form t i) (sym (get_or-set_same (kept form t) i q no_process (omega arith)))
      ∙ ap (λ qs. stored_at form t i (get_or qs i no_process)) e
      ∙ sym (item_left x ps o)

pub kept_plain : (ps : List Process) → kept plain ps ≡ ps
kept_plain [] = refl
kept_plain (p ∷ ps) = ap {B = List Process} (λ qs. p ∷ qs) (kept_plain ps)
