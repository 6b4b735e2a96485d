-- A process record as 369 words: its register, its task, its two collects, the end of the first, its view and its marks, one after
-- the other.
use Rattle.std.specs.Prelude.{ℕ, zero, suc, ◌+◌, Bool, cond, not, List, [], ◌∷◌, ◌++◌, map, get_or, take, drop, eqb}
use Rattle.std.proofs.lemmas.List.Edits.{sets}
use Rattle.snapshot.specs.declared.Value.{Value}
use Rattle.unbounded.specs.declared.Register.{Register}
use Rattle.unbounded.specs.declared.Process.{Process}
use Rattle.unbounded.specs.declared.Task.{Task}
use Rattle.unbounded.specs.declared.Task.TheVariants.{Idle, Scan, Update, Ready}

-- ---- packing

-- parts, one after the other
abbrev pub chained : List (List ℕ) → List ℕ
chained [] = []
chained (ws ∷ parts) = ws ++ chained parts

-- a value: its word, and the event number of its last writing
abbrev pub pack_value : Value → List ℕ
pack_value v = v.word ∷ v.last ∷ []

abbrev pub pack_view : List Value → List ℕ
pack_view vs = chained (map pack_value vs)

-- a register: its value, its seq, the eight values of its view, and its at
abbrev pub pack_register : Register → List ℕ
pack_register r = pack_value r.value ++ (r.seq ∷ (pack_view r.view ++ (r.at ∷ [])))

-- a register stored from word a on, with the first n values of its view: "those past n are touched only by an opening"
unfoldable pub stored_at : ℕ → Register → (a : ℕ) → List ℕ → List ℕ
stored_at n r a ws = sets (sets ws a (pack_value r.value ++ (r.seq ∷ pack_view (take n r.view)))) (a + 19) (r.at ∷ [])

-- a task: its kind, and its word, at and turns, 0 where it has none
abbrev pub pack_task : Task → List ℕ
pack_task Idle = 0 ∷ 0 ∷ 0 ∷ 0 ∷ []
pack_task (Scan t) = 1 ∷ 0 ∷ 0 ∷ t ∷ []
pack_task (Update w t) = 2 ∷ w ∷ 0 ∷ t ∷ []
pack_task (Ready w at t) = 3 ∷ w ∷ at ∷ t ∷ []

abbrev pub pack_collect : List Register → List ℕ
pack_collect rs = chained (map pack_register rs)

-- a mark: 1, and 0 where there is none
abbrev pub pack_mark : Bool → ℕ
pack_mark m = cond m 1 0

unfoldable pub pack_record : Process → List ℕ
pack_record p =
    chained
    (pack_register p.register
    ∷ pack_task p.task
    ∷ pack_collect p.first
    ∷ pack_collect p.second
    ∷ (p.first_end ∷ [])
    ∷ pack_view p.view
    ∷ map pack_mark p.moved
    ∷ [])

-- p packed over the words of a record; where its arrays have their eight places, it replaces all of a row of 369, as every lent one is
abbrev pub packed_over : List ℕ → Process → List ℕ
packed_over ws p = sets ws 0 (pack_record p)

-- ---- unpacking: what the words from the front on are

abbrev pub word_at : List ℕ → ℕ → ℕ
word_at ws i = get_or ws i 0

-- so many
abbrev pub words : ℕ → List ℕ → List ℕ
words zero ws = []
words (suc k) ws = word_at ws 0 ∷ words k (drop 1 ws)

-- so many parts of m words each
abbrev pub unpack_each : {A : Type 0} → (List ℕ → A) → (m : ℕ) → ℕ → List ℕ → List A
unpack_each part m zero ws = []
unpack_each part m (suc k) ws = part ws ∷ unpack_each part m k (drop m ws)

abbrev pub unpack_value : List ℕ → Value
unpack_value ws = record { word = word_at ws 0; last = word_at ws 1 }

-- so many values
abbrev pub unpack_view : ℕ → List ℕ → List Value
unpack_view k ws = unpack_each unpack_value 2 k ws

abbrev pub unpack_register : List ℕ → Register
unpack_register ws = record { value = unpack_value ws; seq = word_at ws 2; view = unpack_view 8 (drop 3 ws); at = word_at ws 19 }

-- a kind that is none is taken for a scan that has had more turns than any: its record cannot have arisen (11)
abbrev pub task_of_kind : (kind word at turns : ℕ) → Task
task_of_kind kind w at t =
    cond (eqb kind 0) Idle
    (cond (eqb kind 1) (Scan t)
    (cond (eqb kind 2) (Update w t)
    (cond (eqb kind 3) (Ready w at t)
    (Scan 4294967295))))

abbrev pub unpack_task : List ℕ → Task
unpack_task ws = task_of_kind (word_at ws 0) (word_at ws 1) (word_at ws 2) (word_at ws 3)

-- so many registers
abbrev pub unpack_collect : ℕ → List ℕ → List Register
unpack_collect k ws = unpack_each unpack_register 20 k ws

-- any number but 0 is a mark
abbrev pub unpack_mark : ℕ → Bool
unpack_mark w = not (eqb w 0)

unfoldable pub unpack_record : List ℕ → Process
unpack_record ws =
    record {
      register = unpack_register ws;
      task = unpack_task (drop 20 ws);
      first = unpack_collect 8 (drop 24 ws);
      second = unpack_collect 8 (drop 184 ws);
      first_end = word_at ws 344;
      view = unpack_view 8 (drop 345 ws);
      moved = map unpack_mark (words 8 (drop 361 ws));
    }
