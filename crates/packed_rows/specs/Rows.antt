-- A table of packed records, and what an accepted request leaves of it.
use Rattle.std.specs.Prelude.{ℕ, ◌-◌, ◌<◌, ◌≡◌, List, [], map, length, get_or, set}
use Rattle.snapshot.specs.declared.Request.{Request}
use Rattle.snapshot.specs.declared.Request.TheVariants.{Open, Update, Scan, Turn}
use Rattle.unbounded.specs.declared.Process.{Process}
use Rattle.unbounded.specs.Processes.{no_process}
use Rattle.packed.specs.Packing.{pack_record, packed_over, unpack_record}

-- the records that the words are
abbrev pub unpacked_all : List (List ℕ) → List Process
unpacked_all t = map unpack_record t

abbrev pub record_at : List (List ℕ) → ℕ → Process
record_at t i = unpack_record (get_or t i [])

-- every record has its 369 words, as it is where rows of that length are lent
abbrev pub LongRows : List (List ℕ) → Type 0
LongRows t = (i : ℕ) → i < length t → length (get_or t i []) ≡ 369

-- the words once record i is p
abbrev pub packed_at : List (List ℕ) → ℕ → Process → List (List ℕ)
packed_at t i p = set t i (packed_over (get_or t i []) p)

-- and once it is that of ps
abbrev pub changed : List (List ℕ) → ℕ → List Process → List (List ℕ)
changed t i ps = packed_at t i (get_or ps i no_process)

-- the words after an accepted request, which left the records ps: an opening packs all, a call or a turn that of its process
abbrev pub packed_by : List (List ℕ) → Request → List Process → List (List ℕ)
packed_by t (Open k) ps = map pack_record ps
packed_by t (Update d w) ps = changed t (d - 1) ps
packed_by t (Scan d) ps = changed t (d - 1) ps
packed_by t (Turn d) ps = changed t (d - 1) ps
