-- How pop finds the bytes that it copies at one go. Nothing here is a rule of document 01: laws/ shows that the pieces, one after
-- another, are the bytes of the CPU-owned run.
use Rattle.std.specs.Prelude.{ℕ, zero, suc, ◌+◌, ◌-◌, cond, ◌||◌, nat_le, nat_lt}
use Rattle.descriptors.specs.Record.{is_cpu}
use Rattle.descriptors.specs.declared.record.DmaDescriptor.{DmaDescriptor}
use Rattle.rx_stream.specs.declared.piece.Piece.{Piece}

-- place i of a ring of n, or the first one past the last
abbrev pub wrapped : ℕ → ℕ → ℕ
wrapped n i = cond (nat_lt i n) i 0

abbrev pub nothing : Piece
nothing = record { bytes = 0; records = 0 }

-- a record more, in front
abbrev pub longer : ℕ → Piece → Piece
longer a p = record { bytes = a + p.bytes; records = 1 + p.records }

-- the piece from byte o of record i on, of the next k records: it ends with the record that fills it up to `want` bytes, with the first
-- short one, or before a DMA-owned one
unfoldable pub piece_of : (ℕ → DmaDescriptor) → ℕ → ℕ → ℕ → ℕ → Piece
piece_of f o want zero i = nothing
piece_of f o want (suc k) i =
    cond (is_cpu (f i).owner)
    (longer ((f i).length - o)
    (cond (nat_le want ((f i).length - o) || nat_lt (f i).length (f i).size) nothing (piece_of f 0 (want - ((f i).length - o)) k (i + 1))))
    nothing
