-- The transitions of records, store by store, on the cells: in the order in which the Rust does them.
use Rattle.std.specs.Prelude.{ℕ, ◌/◌, true, false, cond, List, nat_le, Some, None}
use Rattle.descriptors.specs.Record.{limit, following, up_to}
use Rattle.descriptors.specs.Place.{before, turns}
use Rattle.descriptors.specs.Cells.{cell, put_start, put_size, put_owner, put_eof, put_length, put_next}
use Rattle.descriptors.specs.Split.{start_of, size_of}
use Rattle.descriptors.specs.declared.record.Owner.TheVariants.{Dma}
use Rattle.descriptors.specs.declared.record.TransferDirection.{TransferDirection}
use Rattle.descriptors.specs.declared.record.TransferDirection.TheVariants.{In, Out}

-- a record handed to the device
abbrev pub handed_cells : TransferDirection → ℕ → List ℕ → List ℕ
handed_cells In i ws = put_next (put_length (put_eof (put_owner ws i Dma) i false) i 0) i None
handed_cells Out i ws = put_next (put_eof (put_length (put_owner ws i Dma) i (cell 0 ws i)) i true) i None

-- "then the previous record's next is set to it"
unfoldable pub hand_cells : TransferDirection → ℕ → ℕ → List ℕ → List ℕ
hand_cells dir n i ws = put_next (handed_cells dir i ws) (before n i) (Some i)

-- a record linked by `prepare`
unfoldable pub link_cells : TransferDirection → ℕ → ℕ → List ℕ → List ℕ
link_cells In n i ws = put_length (put_eof (put_owner (put_next ws i (following n i)) i Dma) i false) i 0
link_cells Out n i ws = put_owner (put_next ws i (following n i)) i Dma

-- all the records that a call hands over or links; more than a ring can have are left alone
unfoldable pub hand_all : TransferDirection → ℕ → ℕ → ℕ → List ℕ → List ℕ
hand_all dir n g i ws = cond (nat_le g limit) (turns (hand_cells dir n) n g i ws) ws

unfoldable pub link_all : TransferDirection → ℕ → List ℕ → List ℕ
link_all dir n ws = cond (nat_le n limit) (up_to (link_cells dir n) n ws) ws

-- a record's part of the split
unfoldable pub lay_start : ℕ → ℕ → ℕ → List ℕ → List ℕ
lay_start n len i st = put_start st i (start_of n len i)

abbrev pub lay_size : TransferDirection → ℕ → ℕ → ℕ → List ℕ → List ℕ
lay_size In i size chunk ws = put_size ws i size
lay_size Out i size chunk ws = put_length (put_size ws i size) i chunk

unfoldable pub lay_cells : TransferDirection → ℕ → ℕ → ℕ → List ℕ → List ℕ
lay_cells dir n len i ws = lay_size dir i (size_of n len i) (len / n) ws
