-- The records of a table of packed records, and one that is 0.
use Prim.Native.Nat.{ℕ, ◌<◌}
use mathlib.Core.Path.{◌≡◌, refl}
use mathlib.Core.List.{List, []}
use lib.ListN.{length, get_or, replicate, length-map}
use Rattle.snapshot.proofs.Lists.{get_d_map_below}
use Rattle.unbounded.specs.Processes.{no_process, zero_process}
use Rattle.packed.specs.Packing.{pack_record, unpack_record}
use Rattle.packed_rows.specs.Rows.{unpacked_all, record_at}

pub records_long : (t : List (List ℕ)) → length (unpacked_all t) ≡ length t
records_long t = length-map t unpack_record

pub record_is : (t : List (List ℕ)) (i : ℕ) → i < length t → get_or (unpacked_all t) i no_process ≡ record_at t i
record_is t i l = get_d_map_below unpack_record t i [] no_process l

pub zero_words : pack_record zero_process ≡ replicate 369 0
unfolding pack_record
zero_words = refl
