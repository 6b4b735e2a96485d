-- The ways in which a process record is kept, and what a table of records kept in one of them comes to.
use Rattle.std.specs.Prelude.{ℕ, ◌-◌, List, [], map, get_or, set}
use Rattle.snapshot.specs.declared.Request.{Request}
use Rattle.snapshot.specs.declared.Request.TheVariants.{Open, Update, Scan, Turn}
use Rattle.unbounded.specs.declared.Process.{Process}
use Rattle.unbounded.specs.Processes.{no_process}
use Rattle.packed.specs.Packing.{pack_record, packed_over, unpack_record}

-- how a record is kept as an R: what a place that a table does not have is taken for, the process that an R is, a process kept anew, and
-- one stored over what is kept
pub record Form (R : Type 0) : Type 0 where
  pub absent : R
  pub read : R → Process
  pub fresh : Process → R
  pub over : R → Process → R

-- as it is
abbrev pub plain : Form Process
plain = record { absent = no_process; read = λ p. p; fresh = λ p. p; over = λ q p. p }

-- as its 369 words
abbrev pub packed : Form (List ℕ)
packed = record { absent = []; read = unpack_record; fresh = pack_record; over = packed_over }

module _ {R : Type 0} (form : Form R) where
  -- the records that a table keeps
  abbrev pub kept : List R → List Process
  kept t = map form.read t

  abbrev pub kept_at : List R → ℕ → Process
  kept_at t i = form.read (get_or t i form.absent)

  -- the table once record i is p
  abbrev pub stored_at : List R → ℕ → Process → List R
  stored_at t i p = set t i (form.over (get_or t i form.absent) p)

  -- the table after an accepted request, which left the records ps: an opening stores all anew, a call or a turn that of its process
  abbrev pub left_by : List R → Request → List Process → List R
  left_by t (Open k) ps = map form.fresh ps
  left_by t (Update d w) ps = stored_at t (d - 1) (get_or ps (d - 1) no_process)
  left_by t (Scan d) ps = stored_at t (d - 1) (get_or ps (d - 1) no_process)
  left_by t (Turn d) ps = stored_at t (d - 1) (get_or ps (d - 1) no_process)
