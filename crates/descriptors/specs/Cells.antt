-- How a ring stores its records: the starts, and the cells, of which size, length, next, owner and EOF have a block each.
-- Nothing else in specs/ knows of cells: every rule speaks of the records that they show.
use Rattle.std.specs.Prelude.{ℕ, zero, suc, ◌+◌, ◌*◌, Bool, true, false, cond, ◌&&◌, leb, List, [], ◌∷◌, ◌++◌, map, length, get_or, set, ◌==◌, nat_lt, Some, None, Option}
use Rattle.descriptors.specs.Record.{limit}
use Rattle.descriptors.specs.declared.record.Owner.{Owner}
use Rattle.descriptors.specs.declared.record.Owner.TheVariants.{Cpu, Dma}
use Rattle.descriptors.specs.declared.record.DmaDescriptor.{DmaDescriptor}

abbrev pub blocks : ℕ
blocks = 5

abbrev pub cells : ℕ
cells = 320

-- how a cell is read: 0 is the CPU, and no EOF; 0 is no next, j + 1 is record j
abbrev pub owner_of : ℕ → Owner
owner_of zero = Cpu
owner_of (suc k) = Dma

abbrev pub eof_of : ℕ → Bool
eof_of zero = false
eof_of (suc k) = true

abbrev pub next_of : ℕ → Option ℕ
next_of zero = None
next_of (suc j) = Some j

-- and how it is written
abbrev pub owner_cell : Owner → ℕ
owner_cell Cpu = 0
owner_cell Dma = 1

abbrev pub eof_cell : Bool → ℕ
eof_cell true = 1
eof_cell false = 0

abbrev pub next_cell : Option ℕ → ℕ
next_cell None = 0
next_cell (Some j) = j + 1

-- a record number that a cell can hold: a store of another changes nothing
abbrev pub numbered : Option ℕ → Bool
numbered None = true
numbered (Some j) = nat_lt j 65535

-- cell i of block b
abbrev pub cell : ℕ → List ℕ → ℕ → ℕ
cell b ws i = cond (nat_lt b blocks && nat_lt i limit) (get_or ws (limit * b + i) 0) 0

abbrev pub start_at : List ℕ → ℕ → ℕ
start_at st i = get_or st i 0

-- record i, as the starts and the cells show it
abbrev pub record_at : List ℕ → List ℕ → ℕ → DmaDescriptor
record_at st ws i =
    record {
      buffer = start_at st i;
      size = cell 0 ws i;
      length = cell 1 ws i;
      suc_eof = eof_of (cell 4 ws i);
      owner = owner_of (cell 3 ws i);
      next = next_of (cell 2 ws i);
    }

-- every number below k passes the test
abbrev pub all_below : (ℕ → Bool) → ℕ → Bool
all_below p zero = true
all_below p (suc k) = all_below p k && p k

-- words that hold records: as many as there must be, and each mark 0 or 1
unfoldable pub are_cells : List ℕ → Bool
are_cells ws = length ws == cells && all_below (λ j. leb (get_or ws (limit * 3 + j) 0) 1) (2 * limit)

unfoldable pub are_records : List ℕ → List ℕ → Bool
are_records st ws = length st == limit && are_cells ws

abbrev pub tab {ℓ} : {A : Type ℓ} → (ℕ → A) → ℕ → ℕ → List A
tab f zero i = []
tab f (suc k) i = f i ∷ tab f k (suc i)

-- the records that the words show: none where they hold none
unfoldable pub records_of : List ℕ → List ℕ → List DmaDescriptor
records_of st ws = cond (are_records st ws) (tab (record_at st ws) limit 0) []

-- the words that show the records
abbrev pub starts_of : List DmaDescriptor → List ℕ
starts_of ds = map (λ (d : DmaDescriptor). d.buffer) ds

unfoldable pub cells_of : List DmaDescriptor → List ℕ
cells_of ds =
    map (λ (d : DmaDescriptor). d.size) ds
    ++ (map (λ (d : DmaDescriptor). d.length) ds
    ++ (map (λ (d : DmaDescriptor). next_cell d.next) ds
    ++ (map (λ (d : DmaDescriptor). owner_cell d.owner) ds ++ map (λ (d : DmaDescriptor). eof_cell d.suc_eof) ds)))

-- the words st and ws, once the records that they hold have become ds: words that hold none stay as they are
unfoldable pub starts_now : List ℕ → List ℕ → List DmaDescriptor → List ℕ
starts_now st ws ds = cond (are_records st ws) (starts_of ds) st

unfoldable pub cells_now : List ℕ → List ℕ → List DmaDescriptor → List ℕ
cells_now st ws ds = cond (are_records st ws) (cells_of ds) ws

-- ---- one store

unfoldable pub put : ℕ → List ℕ → ℕ → ℕ → List ℕ
put b ws i v = cond (length ws == cells && (nat_lt b blocks && nat_lt i limit)) (set ws (limit * b + i) v) ws

abbrev pub put_start : List ℕ → ℕ → ℕ → List ℕ
put_start st i v = set st i v

abbrev pub put_size : List ℕ → ℕ → ℕ → List ℕ
put_size ws i v = put 0 ws i v

abbrev pub put_length : List ℕ → ℕ → ℕ → List ℕ
put_length ws i v = put 1 ws i v

abbrev pub put_next : List ℕ → ℕ → Option ℕ → List ℕ
put_next ws i x = cond (numbered x) (put 2 ws i (next_cell x)) ws

abbrev pub put_owner : List ℕ → ℕ → Owner → List ℕ
put_owner ws i o = put 3 ws i (owner_cell o)

abbrev pub put_eof : List ℕ → ℕ → Bool → List ℕ
put_eof ws i e = put 4 ws i (eof_cell e)

-- all the cells of one record
abbrev pub put_record : List ℕ → ℕ → DmaDescriptor → List ℕ
put_record ws i d = put_next (put_owner (put_eof (put_length (put_size ws i d.size) i d.length) i d.suc_eof) i d.owner) i d.next
